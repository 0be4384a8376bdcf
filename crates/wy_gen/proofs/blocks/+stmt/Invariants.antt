use Rattle.std.proofs.Common.{◌≡◌, ◌≤◌, ◌-◌, ◌++◌, length, drop}
use Rattle.wy_core.specs.CoreSeen.{seen_block}
use Rattle.wy_live.specs.Walks as lives
use Rattle.wy_code_spec.specs.compiled.Statements as spec
use Rattle.wy_gen.proofs.blocks.+stmt.Given as goal

-- what is behind has been gone through
abbrev pub invariant-block_code-loop-left : goal.invariant-block_code-loop-left
invariant-block_code-loop-left l = record {
  within : l.left ≤ length l.block;
  live : l.made.live ≡ lives.live_all (seen_block (drop l.left l.block)) l.fn.behind.live l.around.ends;
  value : l.made.steps ≡ spec.stmts_code l.context (seen_block (drop l.left l.block)) l.fn.behind.live l.around.ends l.free (length l.fn.behind.steps - l.around.exit) (length l.fn.behind.steps - l.around.again) ++ l.fn.behind.steps;
}

abbrev pub decreases-block_code-loop-left : goal.decreases-block_code-loop-left
decreases-block_code-loop-left l = l.left
