-- The variables of a sum of forms are those of the forms.
use Rattle.std.proofs.Common.{◌≡◌, ◌<◌, ℕ, List, [], ◌∷◌, All, Bool, true, false, cond, eqb, ℤ, Some, subst}
use Rattle.wy_lemmas.proofs.Lists.{first_of, rest_of}
use Rattle.wy_lemmas.proofs.Options.{some_same as some_is}
use Rattle.wy_check_spec.specs.wy_lin.declared.arithmetic.Factor.{Factor}
use Rattle.wy_check_spec.specs.wy_lin.Linear.{◌>>=◌, more, Linear, coefficient, with_coefficient, plus_part, plus_parts, plus}
use Rattle.wy_check_spec.specs.wy_lin.Seen.{IsOver}
use Rattle.wy_check_spec.proofs.wy_lin_proofs.OptionLemmas.{bind_some}
use Rattle.wy_check_spec.proofs.wy_lin_proofs.SeenLemmas.{all_none, all_more}

abbrev AreOver : ℕ → List (ℤ × ℕ) → Type 0
AreOver n ps = All (λ (p : ℤ × ℕ). p.1 < n) ps

over_if : (n : ℕ) (b : Bool) (ps qs : List (ℤ × ℕ)) → AreOver n ps → AreOver n qs → AreOver n (cond b ps qs)
over_if n true ps qs here there = here
over_if n false ps qs here there = there

coefficient_put : (n : ℕ) (ps : List (ℤ × ℕ)) (v : ℕ) (d : ℤ) → AreOver n ps → v < n → AreOver n (with_coefficient eqb ps v d)
coefficient_put n [] v d all lt = all_more (λ (p : ℤ × ℕ). p.1 < n) (d, v) [] lt (all_none (λ (p : ℤ × ℕ). p.1 < n))
coefficient_put n (p ∷ ps) v d all lt =
    let here = first_of (λ (p : ℤ × ℕ). p.1 < n) p ps all in
    let behind = rest_of (λ (p : ℤ × ℕ). p.1 < n) p ps all in
    over_if n (eqb v p.1) ((d, p.1) ∷ ps) (p ∷ with_coefficient eqb ps v d) (all_more (λ (p : ℤ × ℕ). p.1 < n) (d, p.1) ps here behind) (all_more (λ (p : ℤ × ℕ). p.1 < n) p (with_coefficient eqb ps v d) here (coefficient_put n ps v d behind lt))

part_put : (n : ℕ) (ps : List (ℤ × ℕ)) (m : Factor) (c : ℤ) (v : ℕ) (qs : List (ℤ × ℕ)) → plus_part eqb ps m c v ≡ Some qs → AreOver n ps → v < n → AreOver n qs
part_put n ps m c v qs e all lt =
    let a = bind_some (more (coefficient eqb ps v) m c) (λ d. Some (with_coefficient eqb ps v d)) qs e in
    subst (AreOver n) (some_is (with_coefficient eqb ps v a.0) qs a.2) (coefficient_put n ps v a.0 all lt)

pub parts_put : (n : ℕ) (ps : List (ℤ × ℕ)) (m : Factor) (gs qs : List (ℤ × ℕ)) → plus_parts eqb ps m gs ≡ Some qs → AreOver n ps → AreOver n gs → AreOver n qs
parts_put n ps m [] qs e all others = subst (AreOver n) (some_is ps qs e) all
parts_put n ps m (g ∷ gs) qs e all others =
    let a = bind_some (plus_part eqb ps m g.0 g.1) (λ rs. plus_parts eqb rs m gs) qs e in
    parts_put n a.0 m gs qs a.2 (part_put n ps m g.0 g.1 a.0 a.1 all (first_of (λ (p : ℤ × ℕ). p.1 < n) g gs others)) (rest_of (λ (p : ℤ × ℕ). p.1 < n) g gs others)

pub plus_over : (n : ℕ) (f : Linear ℕ) (m : Factor) (g h : Linear ℕ) → plus eqb f m g ≡ Some h → IsOver n f → IsOver n g → IsOver n h
plus_over n f m g h e over_f over_g =
    let a = bind_some (plus_parts eqb f.parts m g.parts) (λ ps. more f.constant m g.constant >>= λ c. Some (record { parts = ps; constant = c })) h e in
    let b = bind_some (more f.constant m g.constant) (λ c. Some (record { parts = a.0; constant = c })) h a.2 in
    let made : Linear ℕ = record { parts = a.0; constant = b.0 } in
    subst (IsOver n) (some_is made h b.2) (parts_put n f.parts m g.parts a.0 a.1 over_f over_g)
