use Rattle.std.proofs.Common.{◌≡◌, drop}
use Rattle.wy_eval_exprs.specs.Operands.{parts_of}
use Rattle.wy_eval_exprs.specs.Parts.{place_in}
use Rattle.wy_eval_exprs.proofs.PartLemmas.{behind}
use Rattle.wy_eval_exprs.proofs.parts.place_of.Given as goal

abbrev pub invariant-loop-i : goal.invariant-loop-i
invariant-loop-i l = behind l.i (place_in (parts_of (drop l.i l.fields)) l.name) ≡ place_in (parts_of l.fields) l.name
