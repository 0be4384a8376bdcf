use Rattle.std.proofs.Common.{rules, ◌∷◌}
use Rattle.wy_term_text.specs.wy_term.Nodes.{tree_at}
use Rattle.wy_term_text.specs.wy_term.Sorts.{int_sort}
use Rattle.wy_term_text.specs.spell.Made.{IsSpelled}
use Rattle.wy_cert.specs.Only.{IsTheOne}
use Rattle.wy_cert.specs.Numbers.{IsPlaceAt}
use Rattle.wy_cert.proofs.BodyLemmas.{product_here}
use Rattle.wy_cert.proofs.line.product.Goals as goal

pub returns-in-Some-3-clause-value : goal.returns-in-Some-3-clause-value
returns-in-Some-3-clause-value c =
    let first : IsPlaceAt c.args.text.now c.in-Some.i (32 ∷ c.in-Some.rest.now) = search rules in
    let second : IsPlaceAt c.in-Some.rest.now c.in-Some-2.j (32 ∷ c.in-Some-2.rest.now) = search rules in
    let term : IsTheOne (IsSpelled int_sort c.in-Some-2.rest.now) (tree_at c.int_term.new.terms c.in-Some-3.p) = search rules in
    product_here c.args.text.now c.in-Some.rest.now c.in-Some-2.rest.now c.in-Some.i c.in-Some-2.j (tree_at c.int_term.new.terms c.in-Some-3.p) first second term
