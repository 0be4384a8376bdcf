use Rattle.std.proofs.Common.{◌≡◌, ◌≤◌, ◌+◌, ◌++◌, length, drop, map}
use Rattle.wy_core.specs.CoreSeen.{seen_step}
use Rattle.wy_live.specs.Sets.{Variables}
use Rattle.wy_live.specs.Walks as lives
use Rattle.wy_code_spec.specs.compiled.Statements as spec
use Rattle.wy_gen.specs.Places as reads
use Rattle.wy_gen.proofs.updates.indices.Given as goal

-- what is behind has been gone through
abbrev pub invariant-loop-left : goal.invariant-loop-left
invariant-loop-left l = record {
  within : l.left ≤ length l.path;
  place : l.indexed.here + spec.index_count (map seen_step (drop l.left l.path)) ≡ l.end;
  live : l.indexed.made.live ≡ lives.before_steps (map seen_step (drop l.left l.path)) l.fn.behind.live;
  value : (s : Variables) → l.places ≡ reads.places (map seen_step l.path) s → l.indexed.made.steps ≡ spec.indices l.context (map seen_step (drop l.left l.path)) l.fn.behind.live s l.indexed.here ++ l.fn.behind.steps;
}

abbrev pub decreases-loop-left : goal.decreases-loop-left
decreases-loop-left l = l.left
