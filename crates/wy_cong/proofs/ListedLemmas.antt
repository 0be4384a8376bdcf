-- The code's list of atoms, in which each has its place.
use Rattle.std.proofs.Common.{◌≡◌, ◌∙◌, ◌+◌, ◌<◌, ◌≤◌, ℕ, zero, suc, arith, Bool, true, false, cond, eqb, List, [], ◌∷◌, ◌++◌, map, Option, Some, None, refl, sym, ap, subst}
use Rattle.std.proofs.lemmas.Bool.{eqb-true}
use Rattle.std.specs.Prelude.{is_some, is_none, slice_get}
use Rattle.wy_cong.proofs.WalkLemmas.{below_last}
use Rattle.wy_cong.specs.Once.{once}
use Rattle.wy_items.specs.few.Places.{number_place}
use Rattle.wy_search_spec.specs.wy_check_spec.judge.Node.{has_formula}
use Rattle.wy_check_splits.specs.wy_check_nodes.Seen.{AreBelow}
use Rattle.wy_lemmas.proofs.Lists.{map_pushed as map_last}
use Rattle.wy_lemmas.proofs.Options.{some_is}
use Rattle.wy_check_splits.proofs.JoinedLemmas.{Forward}
use Rattle.wy_term.specs.Same.{same_term}
use Rattle.wy_term.specs.Term.{Term}

-- ---- numbers that have a place name terms that are listed

pub placed_among : (at : ℕ → Term) (n : ℕ) → Forward at n → (ks : List ℕ) (k i : ℕ) → AreBelow n ks → k < n → has_formula (map at ks) (at k) ≡ is_some (number_place ks k i)
placed_among at n one [] k i below lt = refl
placed_among at n one (j ∷ js) k i below lt =
    by (placed_among at n one js k (suc i) (λ m d l. below (suc m) d (omega (arith, l))) lt) (same_term (at j) (at k))
    ∙ ap (λ (b : Bool). is_some (cond b (Some i) (number_place js k (suc i)))) (sym (one j k (below 0 j (omega arith)) lt))
  where
    by : has_formula (map at js) (at k) ≡ is_some (number_place js k (suc i)) → (b : Bool) → cond b true (has_formula (map at js) (at k)) ≡ is_some (cond b (Some i) (number_place js k (suc i)))
    by rest true = refl
    by rest false = rest

none_not : (o : Option ℕ) (b : Bool) → is_none o ≡ b → is_some o ≡ cond b false true
none_not None true e = refl
none_not None false e = absurd (cc)
none_not (Some k) true e = absurd (cc)
none_not (Some k) false e = refl

-- by whether it has none
pub unplaced_among : (at : ℕ → Term) (n : ℕ) → Forward at n → (ks : List ℕ) (k : ℕ) (b : Bool) → AreBelow n ks → k < n → is_none (number_place ks k 0) ≡ b → has_formula (map at ks) (at k) ≡ cond b false true
unplaced_among at n one ks k b below lt is = placed_among at n one ks k 0 below lt ∙ none_not (number_place ks k 0) b is

-- ---- one atom more

pub noted_there : (at : ℕ → Term) (n : ℕ) → Forward at n → (ks : List ℕ) (k : ℕ) → AreBelow n ks → k < n → is_some (number_place ks k 0) ≡ true → map at ks ≡ once (map at ks) (at k ∷ [])
noted_there at n one ks k below lt has = sym (ap (λ (b : Bool). cond b (map at ks) (map at ks ++ at k ∷ [])) (placed_among at n one ks k 0 below lt ∙ has))

pub noted_new : (at : ℕ → Term) (n : ℕ) → Forward at n → (ks js : List ℕ) (k : ℕ) → AreBelow n ks → k < n → is_some (number_place ks k 0) ≡ false → js ≡ ks ++ k ∷ [] → map at js ≡ once (map at ks) (at k ∷ [])
noted_new at n one ks js k below lt none is =
    ap (map at) is ∙ map_last at ks k ∙ sym (ap (λ (b : Bool). cond b (map at ks) (map at ks ++ at k ∷ [])) (placed_among at n one ks k 0 below lt ∙ none))

pub below_noted : (n : ℕ) (ks js : List ℕ) (k : ℕ) → AreBelow n ks → k < n → js ≡ ks ++ k ∷ [] → AreBelow n js
below_noted n ks js k below lt is = subst (AreBelow n) (sym is) (below_last n ks k below lt)

-- ---- what stands before a place, and there

none_some : {A : Type 0} (x : A) (P : Type 0) → None ≡ Some x → P
none_some x P e = absurd (cc)

-- places are counted from this one on
counted : (ks : List ℕ) (a i j : ℕ) → number_place ks a i ≡ Some j → i ≤ j
counted [] a i j is = none_some j (i ≤ j) is
counted (x ∷ xs) a i j is = by (counted xs a (suc i) j) (eqb x a) is
  where
    by : (number_place xs a (suc i) ≡ Some j → suc i ≤ j) → (b : Bool) → cond b (Some i) (number_place xs a (suc i)) ≡ Some j → i ≤ j
    by rest true e = let same : i ≡ j = some_is i j e in omega (arith, same)
    by rest false e = let le : suc i ≤ j = rest e in omega (arith, le)

-- none that stands before the number's place is the number
pub before_place : (ks : List ℕ) (a i j m k : ℕ) → number_place ks a i ≡ Some j → m + i < j → slice_get ks m ≡ Some k → eqb k a ≡ false
before_place [] a i j m k is lt here = absurd (cc)
before_place (x ∷ xs) a i j zero k is lt here = by (eqb x a) refl is
  where
    by : (b : Bool) → eqb x a ≡ b → cond b (Some i) (number_place xs a (suc i)) ≡ Some j → eqb k a ≡ false
    by true e h = let same : i ≡ j = some_is i j h in absurd (omega (arith, same, lt))
    by false e h = ap (λ (y : ℕ). eqb y a) (sym (some_is x k here)) ∙ e
before_place (x ∷ xs) a i j (suc m) k is lt here =
    by (λ h. let next : m + suc i < j = omega (arith, lt) in before_place xs a (suc i) j m k h next here) (eqb x a) is
  where
    by : (number_place xs a (suc i) ≡ Some j → eqb k a ≡ false) → (b : Bool) → cond b (Some i) (number_place xs a (suc i)) ≡ Some j → eqb k a ≡ false
    by rest true h = let same : i ≡ j = some_is i j h in absurd (omega (arith, same, lt))
    by rest false h = rest h

-- none is the number, where it has no place
pub without_place : (ks : List ℕ) (a i m k : ℕ) → number_place ks a i ≡ None → slice_get ks m ≡ Some k → eqb k a ≡ false
without_place [] a i m k is here = absurd (cc)
without_place (x ∷ xs) a i zero k is here = by (eqb x a) refl is
  where
    by : (b : Bool) → eqb x a ≡ b → cond b (Some i) (number_place xs a (suc i)) ≡ None → eqb k a ≡ false
    by true e h = none_some i (eqb k a ≡ false) (sym h)
    by false e h = ap (λ (y : ℕ). eqb y a) (sym (some_is x k here)) ∙ e
without_place (x ∷ xs) a i (suc m) k is here = by (λ h. without_place xs a (suc i) m k h here) (eqb x a) is
  where
    by : (number_place xs a (suc i) ≡ None → eqb k a ≡ false) → (b : Bool) → cond b (Some i) (number_place xs a (suc i)) ≡ None → eqb k a ≡ false
    by rest true h = none_some i (eqb k a ≡ false) (sym h)
    by rest false h = rest h

-- the number stands at its place
pub at_place : (ks : List ℕ) (a i j m k : ℕ) → number_place ks a i ≡ Some j → j ≡ m + i → slice_get ks m ≡ Some k → k ≡ a
at_place [] a i j m k is there here = absurd (cc)
at_place (x ∷ xs) a i j zero k is there here = by (eqb x a) refl is
  where
    by : (b : Bool) → eqb x a ≡ b → cond b (Some i) (number_place xs a (suc i)) ≡ Some j → k ≡ a
    by true e h = sym (some_is x k here) ∙ eqb-true x a e
    by false e h = let le : suc i ≤ j = counted xs a (suc i) j h in absurd (omega (arith, le, there))
at_place (x ∷ xs) a i j (suc m) k is there here =
    by (λ h. let next : j ≡ m + suc i = omega (arith, there) in at_place xs a (suc i) j m k h next here) (eqb x a) is
  where
    by : (number_place xs a (suc i) ≡ Some j → k ≡ a) → (b : Bool) → cond b (Some i) (number_place xs a (suc i)) ≡ Some j → k ≡ a
    by rest true h = let same : i ≡ j = some_is i j h in absurd (omega (arith, same, there))
    by rest false h = rest h
