-- An entry in the place of that of its variable, and one behind the others.
use Rattle.std.proofs.Common.{◌≡◌, ◌+◌, ℕ, suc, List, [], ◌∷◌, ◌++◌, length, take, drop, Bool, true, false, cond, refl, sym, ap, subst, ◌∙◌, arith}
use Rattle.std.specs.Prelude.{nat_eq, slice_set}
use Rattle.std.proofs.lemmas.Bool.{eqb-true}
use Rattle.std.proofs.lemmas.List.{length-set}
use Rattle.indexmap.specs.IndexMap.{insert_entry}
use Rattle.wy_lin_eliminate.specs.Variables.{Counts}
use Rattle.wy_lin_eliminate.specs.Seen.{entry_from}
use Rattle.wy_lemmas.proofs.Options.{no_place, some_place}

-- the entry of a variable stands so far behind a number, and what is put there
abbrev IsPut : List (ℕ × Counts) → ℕ → Counts → ℕ → ℕ → Type 0
IsPut es v n k j = (i : ℕ) × (j ≡ k + i) × (slice_set es i (v, n) ≡ insert_entry nat_eq es v n)

put_from : (es : List (ℕ × Counts)) (v : ℕ) (n : Counts) (k j : ℕ) → entry_from es v k ≡ some_place j → IsPut es v n k j
put_from [] v n k j there = absurd cc
put_from (e ∷ es) v n k j there = by (nat_eq v e.0) refl (λ g. put_from es v n (suc k) j g) there
  where
    by : (b : Bool) → nat_eq v e.0 ≡ b → (entry_from es v (suc k) ≡ some_place j → IsPut es v n (suc k) j) → cond b (some_place k) (entry_from es v (suc k)) ≡ some_place j → IsPut (e ∷ es) v n k j
    by true same rest g =
        let is : k ≡ j = cc in
        (0, omega (arith, is), ap (λ (w : ℕ). (w, n) ∷ es) (eqb-true v e.0 same) ∙ sym (ap (λ (b : Bool). cond b ((e.0, n) ∷ es) (e ∷ insert_entry nat_eq es v n)) same))
    by false other rest g =
        let known = rest g in
        (suc known.0, omega (arith, known.1), ap (λ (l : List (ℕ × Counts)). e ∷ l) known.2 ∙ sym (ap (λ (b : Bool). cond b ((e.0, n) ∷ es) (e ∷ insert_entry nat_eq es v n)) other))

put_found : (es : List (ℕ × Counts)) (v j : ℕ) (n : Counts) → entry_from es v 0 ≡ some_place j → slice_set es j (v, n) ≡ insert_entry nat_eq es v n
put_found es v j n there =
    let known = put_from es v n 0 j there in
    let is : known.0 ≡ j = omega (arith, known.1) in
    subst (λ (i : ℕ). slice_set es i (v, n) ≡ insert_entry nat_eq es v n) is known.2

-- the entries written back, as many as there were
written_back : (ws es : List (ℕ × Counts)) → length ws ≡ length es → take (length es) (ws ++ drop (length ws) es) ≡ ws
written_back [] [] same = refl
written_back [] (e ∷ es) same = absurd (omega (arith, same))
written_back (w ∷ ws) [] same = absurd (omega (arith, same))
written_back (w ∷ ws) (e ∷ es) same = ap (λ (l : List (ℕ × Counts)). w ∷ l) (written_back ws es (omega (arith, same)))

pub put_refilled : (es ws : List (ℕ × Counts)) (v j : ℕ) (n : Counts) → entry_from es v 0 ≡ some_place j → ws ≡ slice_set es j (v, n) → take (length es) (ws ++ drop (length ws) es) ≡ insert_entry nat_eq es v n
put_refilled es ws v j n there new = written_back ws es (ap length new ∙ length-set es j (v, n)) ∙ new ∙ put_found es v j n there

put_behind : (es : List (ℕ × Counts)) (v k : ℕ) (n : Counts) → entry_from es v k ≡ no_place → es ++ (v, n) ∷ [] ≡ insert_entry nat_eq es v n
put_behind [] v k n none = refl
put_behind (e ∷ es) v k n none = by (nat_eq v e.0) (λ g. put_behind es v (suc k) n g) none
  where
    by : (b : Bool) → (entry_from es v (suc k) ≡ no_place → es ++ (v, n) ∷ [] ≡ insert_entry nat_eq es v n) → cond b (some_place k) (entry_from es v (suc k)) ≡ no_place → e ∷ (es ++ (v, n) ∷ []) ≡ cond b ((e.0, n) ∷ es) (e ∷ insert_entry nat_eq es v n)
    by true rest g = absurd cc
    by false rest g = ap (λ (l : List (ℕ × Counts)). e ∷ l) (rest g)

pub put_lost : (es : List (ℕ × Counts)) (v : ℕ) (n : Counts) → entry_from es v 0 ≡ no_place → es ++ (v, n) ∷ [] ≡ insert_entry nat_eq es v n
put_lost es v n none = put_behind es v 0 n none
