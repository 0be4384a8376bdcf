use Rattle.std.proofs.Common.{sym, ◌∙◌}
use Rattle.wy_eval.proofs.MarkLemmas.{marks_same}
use Rattle.wy_eval.proofs.constrained.same_marks.Goals as goal

pub returns : goal.returns
returns c = record { value = λ h. marks_same c.args.a.now c.args.b.now (sym c.eq.ensures ∙ h) }
