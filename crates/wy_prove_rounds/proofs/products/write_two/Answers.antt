use Rattle.std.proofs.Common.{◌≡◌, Option, None, rules, subst}
use Rattle.wy_search.proofs.wy_search_bounds_proofs.ProductLemmas.{none_first, none_second}
use Rattle.wy_search.specs.wy_search_bounds.Bounds.{AreBounds}
use Rattle.wy_search.specs.wy_search_bounds.declared.tightest.Bound.{Bound}
use Rattle.wy_prove_drafts.specs.Draft.{seen_draft}
use Rattle.wy_prove_drafts.specs.wy_check_nodes.Seen.{seen_branch}
use Rattle.wy_term.specs.Nodes.{tree_at}
use Rattle.wy_prove_rounds.proofs.MovingLemmas.{moves_none}
use Rattle.wy_prove_rounds.proofs.products.write_two.Goals as goal

pub returns-in_default-clause-value : goal.returns-in_default-clause-value
returns-in_default-clause-value c = λ types fit s t f g a b v w factors one two x y.
    let at = tree_at c.args.terms.now in
    let base = seen_branch at c.args.branch.now in
    let none : c.args.x ≡ None = search rules in
    moves_none types base _ (seen_draft at c.args.draft.now) (none_first (at c.args.p) s t v w (subst (λ (o : Option Bound). AreBounds base.literals f a o v) none x))

pub returns-in_default-y-clause-value : goal.returns-in_default-y-clause-value
returns-in_default-y-clause-value c = λ types fit s t f g a b v w factors one two x y.
    let at = tree_at c.args.terms.now in
    let base = seen_branch at c.args.branch.now in
    let none : c.args.y ≡ None = search rules in
    moves_none types base _ (seen_draft at c.args.draft.now) (none_second (at c.args.p) s t v w (subst (λ (o : Option Bound). AreBounds base.literals g b o w) none y))

pub returns-clause-value : goal.returns-clause-value
returns-clause-value c = λ types fit s t f g a b v w factors one two x y.
    let base = seen_branch (tree_at c.args.terms.now) c.args.branch.now in
    c.write_bounds.ensures.value types fit s t f g a b v w factors one two (subst (λ (o : Option Bound). AreBounds base.literals f a o v) c.in-Some.is x) (subst (λ (o : Option Bound). AreBounds base.literals g b o w) c.in-Some-y.is y)
