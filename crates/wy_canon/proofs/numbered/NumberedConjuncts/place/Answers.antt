use Rattle.std.proofs.Common.{◌≡◌, ℕ, List, true, false, None, refl, sym, subst, ◌∙◌, ◌<◌, length, arith, nat_eq}
use Rattle.std.specs.Map.{lookup}
use Rattle.wy_types.specs.declared.conjuncts.Conjunct.{Conjunct}
use Rattle.wy_types.specs.Conjuncts.{same_term}
use Rattle.wy_types.specs.Same as same
use Rattle.wy_canon.specs.Digests.{conjunct_digest}
use Rattle.wy_canon.proofs.NumberedLemmas.{none_noted, has_at}
use Rattle.wy_canon.proofs.numbered.NumberedConjuncts.place.Goals as goal

pub returns-in-None-clause-whether : goal.returns-in-None-clause-whether
returns-in-None-clause-whether c =
    let es = c.self.inside.places.entries in
    let k : lookup (nat_eq (conjunct_digest c.args.conjunct.now)) es ≡ None = subst (λ (d : ℕ). lookup (nat_eq d) es ≡ None) c.conjunct_digest.ensures.value (sym c.in-None.ensures.value) in
    let many : 16 < length c.self.inside.row = omega (arith, c.len.ensures, c.if-len-le-FEW.false) in
    sym (subst (λ (xs : List (Conjunct ℕ)). same.has_conjunct same_term xs c.args.conjunct.now ≡ false) c.self.view_is (none_noted es c.self.inside.row c.args.conjunct.now (c.self.invariant many) k))

pub returns-then-has_conjunct_at-clause-whether : goal.returns-then-has_conjunct_at-clause-whether
returns-then-has_conjunct_at-clause-whether c =
    sym (subst (λ (xs : List (Conjunct ℕ)). same.has_conjunct same_term xs c.args.conjunct.now ≡ true) (c.as_slice-2.ensures ∙ c.self.view_is) (has_at c.as_slice-2.result.now c.in-Some.near.now c.args.conjunct.now (c.if-has_conjunct_at.ensures refl)))
