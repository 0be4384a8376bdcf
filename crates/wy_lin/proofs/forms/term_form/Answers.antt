use Rattle.wy_term.specs.Nodes.{tree_at}
use Rattle.wy_lin.specs.TermForm.{form_of}
use Rattle.wy_lin.specs.Worth.{IsWorth}
use Rattle.wy_lin.proofs.WorkLemmas.{seen_answer}
use Rattle.wy_lin.proofs.WorthLemmas.{worth-form_of}
use Rattle.wy_lin.proofs.forms.term_form.Goals as goal

pub returns-clause-worth : goal.returns-clause-worth
returns-clause-worth c =
    let t = tree_at c.args.terms.now c.args.t in
    seen_answer (tree_at c.args.terms.now) c.sum_of_term.result c.answered.result (form_of t) (λ f. IsWorth f t) c.sum_of_term.ensures.gives c.answered.ensures.value (λ h e names. worth-form_of names t h e)
