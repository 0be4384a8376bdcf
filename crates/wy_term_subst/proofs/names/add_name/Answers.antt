use Rattle.std.proofs.Common.{◌∙◌}
use Rattle.wy_term.proofs.wy_lemmas_proofs.Choices.{cond_or as one_or}
use Rattle.wy_term_subst.specs.View.{same_name}
use Rattle.wy_term_subst.proofs.names.add_name.Goals as goal

pub returns : goal.returns
returns c = λ w n. c.in_ok-insert.ensures.updates.0 (w, n) ∙ one_or (same_name (c.args.word, c.args.number) (w, n)) _
