-- Numbers and their places.
use Rattle.std.proofs.Common.{◌≡◌, ◌∙◌, ◌+◌, ℕ, suc, List, [], ◌∷◌, ◌++◌, length, Bool, true, false, cond, eqb, Option, Some, None, refl, sym, ap, arith}
use Rattle.std.specs.Prelude.{nat_le, Result, Ok, Err, OnOk}
use Rattle.std.proofs.lemmas.Bool.{eqb-true}
use Rattle.wy_items.specs.few.Places.{number_place, places_from, first_place, ArePlaced, PlacedBehind}

-- ---- one number more

abbrev or_place : Option ℕ → Option ℕ → Option ℕ
or_place None o = o
or_place (Some k) o = Some k

or_nothing : (o : Option ℕ) → or_place o None ≡ o
or_nothing None = refl
or_nothing (Some k) = refl

cond_or : (b : Bool) (x o p : Option ℕ) → or_place (cond b x o) p ≡ cond b (or_place x p) (or_place o p)
cond_or true x o p = refl
cond_or false x o p = refl

place_last : (ks : List ℕ) (k t i : ℕ) → number_place (ks ++ k ∷ []) t i ≡ or_place (number_place ks t i) (cond (eqb k t) (Some (length ks + i)) None)
place_last [] k t i = let e : i ≡ 0 + i = omega arith in ap (λ (n : ℕ). cond (eqb k t) (Some n) None) e
place_last (j ∷ js) k t i =
    let next : length js + suc i ≡ length (j ∷ js) + i = omega arith in
    ap (λ (o : Option ℕ). cond (eqb j t) (Some i) o) (place_last js k t (suc i) ∙ ap (λ (n : ℕ). or_place (number_place js t (suc i)) (cond (eqb k t) (Some n) None)) next)
    ∙ sym (cond_or (eqb j t) (Some i) (number_place js t (suc i)) (cond (eqb k t) (Some (length (j ∷ js) + i)) None))

-- a number that was put last has its place
pub placed_last : (ks : List ℕ) (k place t : ℕ) → place ≡ length ks → cond (eqb k t) (first_place (number_place ks k 0) place) (number_place ks t 0) ≡ number_place (ks ++ k ∷ []) t 0
placed_last ks k place t is = by (eqb k t) refl ∙ sym (place_last ks k t 0)
  where
    first_is : (o : Option ℕ) → first_place o place ≡ or_place o (Some (length ks + 0))
    first_is None = ap (λ (n : ℕ). Some n) (let e : place ≡ length ks + 0 = omega (arith, is) in e)
    first_is (Some m) = refl

    by : (b : Bool) → eqb k t ≡ b → cond b (first_place (number_place ks k 0) place) (number_place ks t 0) ≡ or_place (number_place ks t 0) (cond b (Some (length ks + 0)) None)
    by true e = ap (λ (s : ℕ). first_place (number_place ks s 0) place) (eqb-true k t e) ∙ first_is (number_place ks t 0)
    by false e = sym (or_nothing (number_place ks t 0))

-- one more of the row is noted
pub note_more : (f g : ℕ → Option ℕ) (old new : List ℕ) (k place t : ℕ) → place ≡ length old → ((s : ℕ) → f s ≡ number_place old s 0) → ((s : ℕ) → g s ≡ cond (eqb k s) (first_place (f k) place) (f s)) → new ≡ old ++ k ∷ [] → g t ≡ number_place new t 0
note_more f g old new k place t is placed behind more =
    behind t
    ∙ (ap (λ (o : Option ℕ). cond (eqb k t) (first_place o place) (f t)) (placed k)
    ∙ (ap (λ (o : Option ℕ). cond (eqb k t) (first_place (number_place old k 0) place) o) (placed t)
    ∙ (placed_last old k place t is ∙ ap (λ (ks : List ℕ). number_place ks t 0) (sym more))))

-- one more of a row that has a table
pub placed_more : {E : Type 0} (r : Result Unit E) (f g : ℕ → Option ℕ) (old new : List ℕ) (k place : ℕ) → ((s : ℕ) → f s ≡ places_from 48 old s) → nat_le 48 (length old) ≡ true → nat_le 49 (length new) ≡ true → place ≡ length old → new ≡ old ++ k ∷ [] → OnOk r (PlacedBehind f g k place) → OnOk r (ArePlaced new g)
placed_more (Ok x) f g old new k place placed many more is put behind = λ t.
    note_more f g old new k place t is (λ s. placed s ∙ ap (λ (b : Bool). cond b (number_place old s 0) None) many) behind put
    ∙ sym (ap (λ (b : Bool). cond b (number_place new t 0) None) more)
placed_more (Err e) f g old new k place placed many more is put behind = behind
