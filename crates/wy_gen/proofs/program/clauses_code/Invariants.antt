use Rattle.std.proofs.Common.{◌≡◌, ◌≤◌, ◌++◌, [], length, drop}
use Rattle.wy_core.specs.CoreSeen.{seen_exprs}
use Rattle.wy_live.specs.Sets as sets
use Rattle.wy_code_spec.specs.compiled.Programs as spec
use Rattle.wy_gen.proofs.program.clauses_code.Given as goal

abbrev pub invariant-loop-left : goal.invariant-loop-left
invariant-loop-left l = record {
  within : l.left ≤ length l.clauses;
  value : l.steps ≡ spec.clauses_steps l.context (seen_exprs (drop l.left l.clauses)) (sets.with [] l.variable) l.answer ++ l.fn.steps;
}

abbrev pub decreases-loop-left : goal.decreases-loop-left
decreases-loop-left l = l.left
