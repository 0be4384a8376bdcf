-- First places of classes.
use Rattle.std.proofs.Common.{◌≡◌, ◌∙◌, ◌<◌, ◌+◌, ◌⊎◌, inl, inr, ℕ, zero, suc, List, [], ◌∷◌, ◌++◌, length, Bool, true, false, cond, eqb, Option, Some, None, refl, sym, ap, subst, arith}
use Rattle.std.specs.Prelude.{slice_get, slice_index}
use Rattle.std.proofs.lemmas.Bool.{eq-eqb, eqb-true, ne_eqb}
use Rattle.wy_search_bounds.specs.Firsts.{AreFirsts, AreNoted}
use Rattle.wy_lemmas.proofs.Choices.{less_more}
use Rattle.wy_lemmas.proofs.Options.{some_place}
use Rattle.wy_cong.specs.wy_search_spec.Bounds.{first_with, first_of_class}

no_place : {A : Type 0} (o : Option ℕ) (k : ℕ) → o ≡ None → o ≡ some_place k → A
no_place o k none some = absurd cc

-- ---- the first place with a label

first_from : (ms : List ℕ) (l k p : ℕ) → p < length ms → slice_index ms p ≡ l → ((v : ℕ) → v < p → slice_index ms v ≡ l → ⊥) → first_with ms l k ≡ k + p
first_from [] l k p lt is none = absurd (omega (arith, lt))
first_from (m ∷ ms) l k zero lt is none = let e : k ≡ k + zero = omega arith in ap (λ (b : Bool). cond b k (first_with ms l (suc k))) (eq-eqb m l is) ∙ e
first_from (m ∷ ms) l k (suc p) lt is none =
    let e : suc k + p ≡ k + suc p = omega arith in
    ap (λ (b : Bool). cond b k (first_with ms l (suc k))) (ne_eqb m l (none zero (omega arith)))
    ∙ (first_from ms l (suc k) p (omega (arith, lt)) is (λ v less. none (suc v) (omega (arith, less))) ∙ e)

first_here : (labels : List ℕ) (l v : ℕ) → v < length labels → slice_index labels v ≡ l → ((u : ℕ) → u < v → slice_index labels u ≡ l → ⊥) → first_with labels l 0 ≡ v
first_here labels l v lt is none = let e : 0 + v ≡ v = omega arith in first_from labels l 0 v lt is none ∙ e

-- ---- one place more

noted_more : (labels : List ℕ) (found : ℕ → Option ℕ) (v first : ℕ) → ((l k : ℕ) → found l ≡ Some k → first_with labels l 0 ≡ k) → ((u : ℕ) → u < v → (k : ℕ) × (found (slice_index labels u) ≡ Some k)) → found (slice_index labels v) ≡ Some first → AreNoted labels found (v + 1)
noted_more labels found v first firsts all is = record { first = firsts; all = λ u lt. by u (less_more u v (omega (arith, lt))) }
  where
    by : (u : ℕ) → (u < v) ⊎ (u ≡ v) → (k : ℕ) × (found (slice_index labels u) ≡ Some k)
    by u (inl f) = all u f
    by u (inr f) = (first, ap (λ (w : ℕ). found (slice_index labels w)) f ∙ is)

pub none_noted : (labels : List ℕ) (found : ℕ → Option ℕ) → ((q : ℕ) → found q ≡ None) → AreNoted labels found 0
none_noted labels found none = record {
  first = λ l k e. no_place (found l) k (none l) e;
  all = λ v lt. absurd (omega (arith, lt));
}

pub noted_again : (labels : List ℕ) (found : ℕ → Option ℕ) (l v first : ℕ) → l ≡ slice_index labels v → found l ≡ Some first → AreNoted labels found v → AreNoted labels found (v + 1)
noted_again labels found l v first label is noted = noted_more labels found v first noted.first noted.all (ap found (sym label) ∙ is)

pub first_noted : (labels : List ℕ) (found : ℕ → Option ℕ) (l v first : ℕ) → l ≡ slice_index labels v → found l ≡ Some first → AreNoted labels found v → first ≡ first_of_class labels v
first_noted labels found l v first label is noted = sym (noted.first l first is) ∙ ap (λ (m : ℕ). first_with labels m 0) label

module _ (labels : List ℕ) (was : ℕ → Option ℕ) (l v : ℕ) (lt : v < length labels) (label : l ≡ slice_index labels v) (none : was l ≡ None) (noted : AreNoted labels was v) where
  new_here : first_with labels l 0 ≡ v
  new_here = first_here labels l v lt (sym label) (λ u less e. let k = noted.all u less in no_place (was l) k.0 none (ap was (sym e) ∙ k.1))

  pub first_new : v ≡ first_of_class labels v
  first_new = sym new_here ∙ ap (λ (m : ℕ). first_with labels m 0) label

  module _ (now : ℕ → Option ℕ) (puts : (q : ℕ) → now q ≡ cond (eqb l q) (some_place v) (was q)) where
    firsts_new : (m k : ℕ) → now m ≡ Some k → first_with labels m 0 ≡ k
    firsts_new m k e = by (eqb l m) refl (sym (puts m) ∙ e)
      where
        by : (t : Bool) → eqb l m ≡ t → cond t (some_place v) (was m) ≡ some_place k → first_with labels m 0 ≡ k
        by true t f =
            let same : v ≡ k = cc in
            ap (λ (n : ℕ). first_with labels n 0) (sym (eqb-true l m t)) ∙ (new_here ∙ same)
        by false t f = noted.first m k f

    kept_new : (m k : ℕ) → was m ≡ Some k → now m ≡ Some k
    kept_new m k e = puts m ∙ by (eqb l m) refl
      where
        by : (t : Bool) → eqb l m ≡ t → cond t (some_place v) (was m) ≡ some_place k
        by true t = no_place (was l) k none (ap was (eqb-true l m t) ∙ e)
        by false t = e

    all_new : (u : ℕ) → u < v → (k : ℕ) × (now (slice_index labels u) ≡ Some k)
    all_new u less = let k = noted.all u less in (k.0, kept_new (slice_index labels u) k.0 k.1)

    here_new : now (slice_index labels v) ≡ Some v
    here_new = ap now (sym label) ∙ (puts l ∙ ap (λ (t : Bool). cond t (some_place v) (was l)) (eq-eqb l l refl))

    pub noted_new : AreNoted labels now (v + 1)
    noted_new = noted_more labels now v v firsts_new all_new here_new

-- ---- the list

pushed : (P : ℕ → ℕ → Type 0) (xs : List ℕ) (x : ℕ) → ((v k : ℕ) → slice_get xs v ≡ Some k → P v k) → P (length xs) x → (v k : ℕ) → slice_get (xs ++ x ∷ []) v ≡ Some k → P v k
pushed P [] x all here zero k e = let is : x ≡ k = cc in subst (P zero) is here
pushed P [] x all here (suc v) k e = absurd cc
pushed P (y ∷ ys) x all here zero k e = all zero k e
pushed P (y ∷ ys) x all here (suc v) k e = pushed (λ w j. P (suc w) j) ys x (λ w j g. all (suc w) j g) here v k e

pub no_firsts : (labels firsts : List ℕ) → firsts ≡ [] → AreFirsts labels firsts
no_firsts labels [] is v k e = absurd cc
no_firsts labels (x ∷ xs) is v k e = absurd cc

pub count_more : (xs ys : List ℕ) (x n : ℕ) → ys ≡ xs ++ x ∷ [] → length xs ≡ n → length ys ≡ n + 1
count_more xs ys x n put is = ap length put ∙ (counted xs ∙ ap (λ (m : ℕ). m + 1) is)
  where
    counted : (zs : List ℕ) → length (zs ++ x ∷ []) ≡ length zs + 1
    counted [] = refl
    counted (z ∷ zs) = let e = counted zs in omega (arith, e)

pub firsts_more : (labels fs gs : List ℕ) (v first : ℕ) → length fs ≡ v → first ≡ first_of_class labels v → gs ≡ fs ++ first ∷ [] → AreFirsts labels fs → AreFirsts labels gs
firsts_more labels fs gs v first count is put are =
    subst (AreFirsts labels) (sym put) (pushed (λ w k. k ≡ first_of_class labels w) fs first are (is ∙ ap (first_of_class labels) (sym count)))
