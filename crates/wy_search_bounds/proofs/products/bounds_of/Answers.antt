use Rattle.std.proofs.Common.{Option, subst}
use Rattle.wy_search_bounds.proofs.products.bounds_of.Goals as goal
use Rattle.wy_search_bounds.specs.Bounds.{IsVarying}
use Rattle.wy_lin.specs.Seen.{seen_form}
use Rattle.wy_lin.specs.TermForm.{form_of}
use Rattle.wy_lin.specs.declared.linear.Form.{Form}
use Rattle.wy_term.specs.Nodes.{tree_at}
use Rattle.std.specs.Prelude.{option_map}

pub returns-in_ok-bounds_by-in-Some-clause-value : goal.returns-in_ok-bounds_by-in-Some-clause-value
returns-in_ok-bounds_by-in-Some-clause-value c =
    let at = tree_at c.args.terms.now in
    let is = subst (λ (o : Option Form). IsVarying (option_map (seen_form at) o) (form_of (at c.args.t))) c.in-Some.is c.in_ok-form.ensures.value in
    record { form = seen_form at c.in-Some.form; is = is.0; varies = is.1; tightest = c.in_ok-bounds_by-in-Some.ensures.value }

pub returns-in-None-clause-value : goal.returns-in-None-clause-value
returns-in-None-clause-value c =
    let at = tree_at c.args.terms.now in
    subst (λ (o : Option Form). IsVarying (option_map (seen_form at) o) (form_of (at c.args.t))) c.in-None.is c.in_ok-form.ensures.value
