-- A part in the place of the first one of its variable, and one behind the others.
use Rattle.std.proofs.Common.{◌≡◌, ◌+◌, ℕ, suc, List, [], ◌∷◌, ◌++◌, length, take, drop, Bool, true, false, cond, ℤ, refl, sym, ap, subst, ◌∙◌, arith}
use Rattle.std.specs.Prelude.{nat_eq, slice_set}
use Rattle.std.proofs.lemmas.Bool.{eqb-true}
use Rattle.std.proofs.lemmas.List.{length-set}
use Rattle.wy_lemmas.proofs.Options.{no_place, some_place}
use Rattle.wy_lin.specs.Linear.{with_coefficient}
use Rattle.wy_lin_eliminate.specs.Adding.{part_from}

-- the first part of a variable stands so far behind a number, and what is put there
abbrev IsPut : List (ℤ × ℕ) → ℕ → ℤ → ℕ → ℕ → Type 0
IsPut ps v d k j = (i : ℕ) × (j ≡ k + i) × (slice_set ps i (d, v) ≡ with_coefficient nat_eq ps v d)

put_from : (ps : List (ℤ × ℕ)) (v : ℕ) (d : ℤ) (k j : ℕ) → part_from ps v k ≡ some_place j → IsPut ps v d k j
put_from [] v d k j e = absurd cc
put_from (p ∷ ps) v d k j e = by (nat_eq v p.1) refl (λ g. put_from ps v d (suc k) j g) e
  where
    by : (b : Bool) → nat_eq v p.1 ≡ b → (part_from ps v (suc k) ≡ some_place j → IsPut ps v d (suc k) j) → cond b (some_place k) (part_from ps v (suc k)) ≡ some_place j → IsPut (p ∷ ps) v d k j
    by true same rest g =
        let is : k ≡ j = cc in
        (0, omega (arith, is), ap (λ (w : ℕ). (d, w) ∷ ps) (eqb-true v p.1 same) ∙ sym (ap (λ (b : Bool). cond b ((d, p.1) ∷ ps) (p ∷ with_coefficient nat_eq ps v d)) same))
    by false other rest g =
        let known = rest g in
        (suc known.0, omega (arith, known.1), ap (λ (l : List (ℤ × ℕ)). p ∷ l) known.2 ∙ sym (ap (λ (b : Bool). cond b ((d, p.1) ∷ ps) (p ∷ with_coefficient nat_eq ps v d)) other))

put_found : (ps : List (ℤ × ℕ)) (v j : ℕ) (d : ℤ) → part_from ps v 0 ≡ some_place j → slice_set ps j (d, v) ≡ with_coefficient nat_eq ps v d
put_found ps v j d e =
    let known = put_from ps v d 0 j e in
    let is : known.0 ≡ j = omega (arith, known.1) in
    subst (λ (i : ℕ). slice_set ps i (d, v) ≡ with_coefficient nat_eq ps v d) is known.2

-- the elements written back, as many as there were
written_back : (ws xs : List (ℤ × ℕ)) → length ws ≡ length xs → take (length xs) (ws ++ drop (length ws) xs) ≡ ws
written_back [] [] e = refl
written_back [] (x ∷ xs) e = absurd (omega (arith, e))
written_back (w ∷ ws) [] e = absurd (omega (arith, e))
written_back (w ∷ ws) (x ∷ xs) e = ap (λ (l : List (ℤ × ℕ)). w ∷ l) (written_back ws xs (omega (arith, e)))

pub put_refilled : (ps ws : List (ℤ × ℕ)) (v j : ℕ) (d : ℤ) → part_from ps v 0 ≡ some_place j → ws ≡ slice_set ps j (d, v) → take (length ps) (ws ++ drop (length ws) ps) ≡ with_coefficient nat_eq ps v d
put_refilled ps ws v j d e new = written_back ws ps (ap length new ∙ length-set ps j (d, v)) ∙ new ∙ put_found ps v j d e

put_behind : (ps : List (ℤ × ℕ)) (v k : ℕ) (d : ℤ) → part_from ps v k ≡ no_place → ps ++ (d, v) ∷ [] ≡ with_coefficient nat_eq ps v d
put_behind [] v k d e = refl
put_behind (p ∷ ps) v k d e = by (nat_eq v p.1) (λ g. put_behind ps v (suc k) d g) e
  where
    by : (b : Bool) → (part_from ps v (suc k) ≡ no_place → ps ++ (d, v) ∷ [] ≡ with_coefficient nat_eq ps v d) → cond b (some_place k) (part_from ps v (suc k)) ≡ no_place → p ∷ (ps ++ (d, v) ∷ []) ≡ cond b ((d, p.1) ∷ ps) (p ∷ with_coefficient nat_eq ps v d)
    by true rest g = absurd cc
    by false rest g = ap (λ (l : List (ℤ × ℕ)). p ∷ l) (rest g)

pub put_lost : (ps : List (ℤ × ℕ)) (v : ℕ) (d : ℤ) → part_from ps v 0 ≡ no_place → ps ++ (d, v) ∷ [] ≡ with_coefficient nat_eq ps v d
put_lost ps v d e = put_behind ps v 0 d e
