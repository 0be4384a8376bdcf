use Rattle.std.proofs.Common.{◌≡◌, ◌∙◌, Option, Some, None, Bool, true, false, ap, rules, sym}
use Rattle.wy_search_bounds.proofs.AddingLemmas.{led_if, unmoved}
use Rattle.wy_search_bounds.proofs.products.push_term.Goals as goal
use Rattle.wy_cong.specs.wy_check_spec.judge.Node.{Node}
use Rattle.wy_cong.specs.wy_check_nodes.Seen.{seen_branch, signed}
use Rattle.wy_cong.specs.wy_search_spec.Expansion.{with_products_of}
use Rattle.wy_term.specs.Nodes.{tree_at}
use Rattle.wy_term.specs.Term.{Term}
use Rattle.wy_cong.specs.wy_check_spec.valid.Products.{as_product}

pub returns-then-not-holds-clause-value : goal.returns-then-not-holds-clause-value
returns-then-not-holds-clause-value c =
    let at = tree_at c.args.terms.now in
    let node = seen_branch at c.args.branch.now in
    let un : c.args.holds ≡ false = search rules in
    unmoved c.args.terms.now c.args.stated.now.items _ c.requires.stated
    (λ (done : Node). ap (λ (b : Bool). with_products_of node (signed (at c.args.p) b) (as_product (signed (at c.args.p) b)) done) (sym un))

pub returns-in-Some-clause-value : goal.returns-in-Some-clause-value
returns-in-Some-clause-value c =
    let at = tree_at c.args.terms.now in
    let node = seen_branch at c.args.branch.now in
    let p = at c.args.p in
    let up : c.args.holds ≡ true = search rules in
    let is : as_product p ≡ Some (at c.in-Some.factors.0, at c.in-Some.factors.1) = sym c.in-Some.ensures.value in
    led_if c.push_products_of.result c.args.terms.now c.args.stated.now.items c.push_products_of.new.terms c.push_products_of.new.stated.items _ _
    (λ (done : Node). ap (λ (o : Option (Term × Term)). with_products_of node p o done) (sym is) ∙ ap (λ (b : Bool). with_products_of node (signed p b) (as_product (signed p b)) done) (sym up)) c.push_products_of.ensures.value

pub returns-in-None-clause-value : goal.returns-in-None-clause-value
returns-in-None-clause-value c =
    let at = tree_at c.args.terms.now in
    let node = seen_branch at c.args.branch.now in
    let p = at c.args.p in
    let up : c.args.holds ≡ true = search rules in
    let is : as_product p ≡ None = sym c.in-None.ensures.value in
    unmoved c.args.terms.now c.args.stated.now.items _ c.requires.stated
    (λ (done : Node). ap (λ (o : Option (Term × Term)). with_products_of node p o done) (sym is) ∙ ap (λ (b : Bool). with_products_of node (signed p b) (as_product (signed p b)) done) (sym up))
