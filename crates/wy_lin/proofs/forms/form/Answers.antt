use Rattle.wy_term.specs.Nodes.{tree_at}
use Rattle.wy_lin.specs.TermForm.{form_of_literal}
use Rattle.wy_lin.specs.Worth.{SaysAsMuch}
use Rattle.wy_lin.proofs.WorkLemmas.{seen_answer}
use Rattle.wy_lin.proofs.WorthLemmas.{says-form_of_literal}
use Rattle.wy_lin.proofs.forms.form.Goals as goal

pub returns-clause-worth : goal.returns-clause-worth
returns-clause-worth c =
    let t = tree_at c.args.terms.now c.args.literal in
    seen_answer (tree_at c.args.terms.now) c.sum_of_literal.result c.answered.result (form_of_literal t) (λ f. SaysAsMuch f t) c.sum_of_literal.ensures.gives c.answered.ensures.value (λ h e. says-form_of_literal t h e)
