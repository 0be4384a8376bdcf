use Rattle.std.proofs.Common.{◌≡◌, Option, None, rules, subst}
use Rattle.wy_search_bounds.proofs.AddingLemmas.{led_if, unmoved}
use Rattle.wy_search_bounds.proofs.ProductLemmas.{none_first, none_second, pushed}
use Rattle.wy_search_bounds.proofs.products.push_product.Goals as goal
use Rattle.wy_search_bounds.specs.Bounds.{AreBounds}
use Rattle.wy_search_bounds.specs.declared.tightest.Bound.{Bound}
use Rattle.wy_cong.specs.wy_check_nodes.Seen.{seen_branch}
use Rattle.wy_lemmas.proofs.Options.{on_ok}
use Rattle.wy_term.specs.Nodes.{tree_at}

pub returns-in_default-clause-value : goal.returns-in_default-clause-value
returns-in_default-clause-value c = λ s t f g b d v w factors one two x y.
    let ls = (seen_branch (tree_at c.args.terms.now) c.args.branch.now).literals in
    let none : c.args.x ≡ None = search rules in
    unmoved c.args.terms.now c.args.stated.now.items _ c.requires.stated
    (none_first (tree_at c.args.terms.now c.args.p) s t v w (subst (λ (o : Option Bound). AreBounds ls f b o v) none x))

pub returns-in_default-y-clause-value : goal.returns-in_default-y-clause-value
returns-in_default-y-clause-value c = λ s t f g b d v w factors one two x y.
    let ls = (seen_branch (tree_at c.args.terms.now) c.args.branch.now).literals in
    let none : c.args.y ≡ None = search rules in
    unmoved c.args.terms.now c.args.stated.now.items _ c.requires.stated
    (none_second (tree_at c.args.terms.now c.args.p) s t v w (subst (λ (o : Option Bound). AreBounds ls g d o w) none y))

pub returns-clause-value : goal.returns-clause-value
returns-clause-value c = λ s t f g b d v w factors one two x y.
    let ls = (seen_branch (tree_at c.args.terms.now) c.args.branch.now).literals in
    led_if c.push_stated.result c.args.terms.now c.args.stated.now.items c.push_stated.new.terms c.push_stated.new.stated.items _ _
    (pushed ls c.in-Some.a c.in-Some-y.b (tree_at c.args.terms.now c.args.p) s t f g b d v w factors one two
    (subst (λ (o : Option Bound). AreBounds ls f b o v) c.in-Some.is x) (subst (λ (o : Option Bound). AreBounds ls g d o w) c.in-Some-y.is y)) c.push_stated.ensures.value

pub returns-clause-below : goal.returns-clause-below
returns-clause-below c = on_ok c.push_stated.result _ _ (λ led. led.below) c.push_stated.ensures.value
