use Rattle.std.proofs.Common.{◌≡◌}
use Rattle.wy_value.specs.Seen.{seen}
use Rattle.wy_sem.specs.Operations as spec
use Rattle.wy_eval_exprs.specs.Operands.{items_of}
use Rattle.wy_eval_exprs.proofs.parts.copies.Given as goal

abbrev pub invariant-loop-turn : goal.invariant-loop-turn
invariant-loop-turn l = items_of l.made.items ≡ spec.copies l._turn (seen l.item)
