use Rattle.std.proofs.Common.{refl, subst, sym}
use Rattle.wy_search_bounds.proofs.KnownLemmas.{form_here}
use Rattle.wy_search_bounds.proofs.known.place_of_form.Goals as goal
use Rattle.wy_search_bounds.specs.Known.{IsFormAt}
use Rattle.wy_term.specs.Nodes.{tree_at}

pub returns-in-Some-clause-value : goal.returns-in-Some-clause-value
returns-in-Some-clause-value c =
    let old = c.args.terms.now in
    let literal = c.nth_literal-literal.result in
    let known = c.in-Some.ensures old c.requires.known in
    subst (IsFormAt old c.args.known.now c.in-Some.place) (sym (form_here (tree_at old) c.args.branch.now.literals.keys c.args.i _ literal refl c.nth_literal-literal.ensures.value)) known
