use Rattle.std.proofs.Common.{◌≡◌, map, ℤ, ◌*ℤ◌, ◌-ℤ◌, FitsSigned, rules, refl, sym, ap, ◌∙◌}
use Rattle.std.specs.Int.{w128}
use Rattle.std.proofs.lemmas.Int.{to_z-of_z}
use Rattle.wy_term.specs.Term.{Term}
use Rattle.wy_term.specs.Nodes.{tree_at}
use Rattle.wy_term.specs.Same.{same_term}
use Rattle.wy_lin.specs.Linear.{coefficient}
use Rattle.wy_lin.specs.Seen.{seen_form, seen_part}
use Rattle.wy_vc_laws.specs.wy_check_spec.valid.Products.{leading}
use Rattle.wy_check.specs.Seen.{number_of}
use Rattle.wy_check.proofs.AffineLemmas.{affine_there}
use Rattle.wy_check.proofs.affine.relation.Goals as goal

pub returns : goal.returns
returns c =
    let at = tree_at c.args.terms.now in
    let f = seen_form at c.args.f.now in
    let g = seen_form at c.args.g.now in
    let a = number_of c.in-Some-ratio.factor in
    let p : ℤ × Term = (c.in-Some.c, at c.in-Some.v) in
    let first : c.deref.result.now ≡ c.args.f.now.parts.items = search rules in
    let second : c.deref-2.result.now ≡ c.args.g.now.parts.items = search rules in
    let fits_c : FitsSigned w128 c.in-Some.c = search rules in
    let fits_d : FitsSigned w128 c.coefficient.result = search rules in
    let fits_f : FitsSigned w128 c.args.f.now.constant = search rules in
    let fits_g : FitsSigned w128 c.args.g.now.constant = search rules in
    let leads = c.in-Some.ensures.value at ∙ ap (λ ps. leading (map (seen_part at) ps)) first in
    let counts = c.coefficient.ensures ∙ ap (λ ps. coefficient same_term (map (seen_part at) ps) p.1) second in
    let gave = rw (to_z-of_z w128 c.in-Some.c fits_c, to_z-of_z w128 c.coefficient.result fits_d) at c.in-Some-ratio.ensures.value in
    let more = rw (to_z-of_z w128 c.args.f.now.constant fits_f, to_z-of_z w128 c.args.g.now.constant fits_g) at c.less_product.ensures in (
      record { factor = a; more = g.constant -ℤ a *ℤ f.constant },
      affine_there f g p c.coefficient.result a leads counts gave (sym c.if-not-branch.false ∙ c.in_ok-is_multiple.ensures),
      record { factor = refl; nonzero = c.in-Some-ratio.ensures.nonzero; more = more },
    )
