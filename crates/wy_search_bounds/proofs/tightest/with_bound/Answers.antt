use Rattle.std.proofs.Common.{◌≡◌, ◌∙◌, ◌<◌, ℤ, FitsSigned, to_z, of_z, Option, None, ap, rules, subst, sym}
use Rattle.std.proofs.lemmas.Int.{to_z-of_z}
use Rattle.std.specs.Int.{w128}
use Rattle.std.specs.Prelude.{IfSome}
use Rattle.wy_search_bounds.proofs.BoundLemmas.{apart_of, no_affine, other_bound, this_bound}
use Rattle.wy_search_bounds.proofs.tightest.with_bound.Goals as goal
use Rattle.wy_search_bounds.specs.declared.tightest.Bound.{Bound}
use Rattle.wy_check.specs.Seen.{AreAffine}
use Rattle.wy_check.specs.declared.affine.Affine.{Affine}
use Rattle.wy_lemmas.proofs.Choices.{bits_are}
use Rattle.wy_term.specs.Data.{quotient_down}
use Rattle.wy_cong.specs.wy_check_spec.valid.Products.{affine}

pub quotient-requires : goal.quotient-requires
quotient-requires c = subst (λ (o : Option Affine). IfSome o (λ (a : Affine). 0 < a.factor.size)) c.in-Some.is c.requires

pub returns-in_default : goal.returns-in_default
returns-in_default c = λ ls f h given here const are best.
    let none : c.args.x ≡ None = search rules in
    no_affine ls f h c.args.below c.args.best given (subst (λ (o : Option Affine). AreAffine o (affine f h)) none are) best

pub returns-then-a-below : goal.returns-then-a-below
returns-then-a-below c = λ ls f h given here const are best.
    other_bound ls f h c.args.below c.args.best given c.in-Some.a (subst (λ (o : Option Affine). AreAffine o (affine f h)) c.in-Some.is are) (bits_are c.in-Some.a.factor.negative c.args.below c.if-a-below.true) best

pub returns : goal.returns
returns c = λ ls f h given here const are best.
    let one : Bound = record { number = c.args.number; at = to_z w128 (of_z w128 c.quotient.result) } in
    let fits : FitsSigned w128 c.args.constant = search rules in
    let fit : FitsSigned w128 c.quotient.result = search rules in
    let stop = to_z-of_z w128 c.quotient.result fit ∙ (c.quotient.ensures ∙ ap (λ (z : ℤ). quotient_down z c.in-Some.a.factor.size) (to_z-of_z w128 c.args.constant fits ∙ sym const)) in
    this_bound ls f h c.args.below one c.tighter.result given c.in-Some.a here (subst (λ (o : Option Affine). AreAffine o (affine f h)) c.in-Some.is are) (apart_of c.in-Some.a.factor.negative c.args.below c.if-a-below.false) stop
    (λ y at is. c.tighter.ensures ls f c.args.below given y at best is)
