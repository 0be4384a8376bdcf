-- Equations that are chosen, and those that are left.
use Rattle.std.proofs.Common.{◌≡◌, ◌<◌, ◌≤◌, ℕ, zero, suc, List, [], ◌∷◌, ◌++◌, All, get_or, length, drop, Option, Some, None, refl, sym, ap, subst, ◌∙◌, append-nil, arith}
use Rattle.std.specs.Prelude.{slice_get}
use Rattle.wy_cong.specs.declared.congruence_closure.explaining.Chosen.{Chosen}
use Rattle.wy_cong.specs.declared.congruence_closure.nodes.Shape.{Shape}
use Rattle.wy_cong.specs.congruence_closure.Congruence.{AreBetween, Same, named}
use Rattle.wy_cong.specs.congruence_closure.Found.{IsChosen}

abbrev pub some_pair : ℕ × ℕ → Option (ℕ × ℕ)
some_pair x = Some x

abbrev pub no_pair : ℕ × ℕ
no_pair = (0, 0)

pub between_both : (count : ℕ) (xs ys : List (ℕ × ℕ)) → AreBetween count xs → AreBetween count ys → AreBetween count (xs ++ ys)
between_both count [] ys a b n e at = b n e at
between_both count (x ∷ xs) ys a b zero e at = a zero e at
between_both count (x ∷ xs) ys a b (suc n) e at = between_both count xs ys (λ m d is. a (suc m) d is) b n e at

pub between_rest : (count k : ℕ) (xs : List (ℕ × ℕ)) → AreBetween count xs → AreBetween count (drop k xs)
between_rest count zero xs a = a
between_rest count (suc k) [] a = a
between_rest count (suc k) (x ∷ xs) a = between_rest count k xs (λ m d is. a (suc m) d is)

found_at : (xs : List (ℕ × ℕ)) (i : ℕ) (d : ℕ × ℕ) → i < length xs → slice_get xs i ≡ Some (get_or xs i d)
found_at [] i d lt = absurd (omega (arith, lt))
found_at (x ∷ xs) zero d lt = refl
found_at (x ∷ xs) (suc i) d lt = found_at xs i d (omega (arith, lt))

pub between_named : (count : ℕ) (all : List (ℕ × ℕ)) (ns : List ℕ) → AreBetween count all → All (λ n. n < length all) ns → AreBetween count (named all ns)
between_named count all [] a h n e at = absurd cc
between_named count all (k ∷ ns) a h zero e at =
    let lt : k < length all = h 0 k (omega arith) in
    let is : get_or all k (0, 0) ≡ e = cc in
    a k e (found_at all k (0, 0) lt ∙ ap (λ (x : ℕ × ℕ). some_pair x) is)
between_named count all (k ∷ ns) a h (suc n) e at = between_named count all ns a (λ i d lt. h (suc i) d (omega (arith, lt))) n e at

named_more : (all : List (ℕ × ℕ)) (ns : List ℕ) (k : ℕ) → named all (ns ++ k ∷ []) ≡ named all ns ++ get_or all k (0, 0) ∷ []
named_more all [] k = refl
named_more all (n ∷ ns) k = ap (λ (l : List (ℕ × ℕ)). get_or all n (0, 0) ∷ l) (named_more all ns k)

all_more : (P : ℕ → Type 0) (ns : List ℕ) (k : ℕ) → All P ns → P k → All P (ns ++ k ∷ [])
all_more P [] k h here zero d lt = here
all_more P [] k h here (suc i) d lt = absurd (omega (arith, lt))
all_more P (n ∷ ns) k h here zero d lt = h 0 n (omega arith)
all_more P (n ∷ ns) k h here (suc i) d lt = all_more P ns k (λ j e lj. h (suc j) e (omega (arith, lj))) here i d (omega (arith, lt))

-- one equation more is chosen
pub chosen_more : (all : List (ℕ × ℕ)) (old new : Chosen) (k n : ℕ) (e : ℕ × ℕ) → IsChosen all old → k < length all → e ≡ get_or all k (0, 0) → n ≡ k → new.numbers ≡ old.numbers ++ n ∷ [] → new.equations ≡ old.equations ++ e ∷ [] → IsChosen all new
chosen_more all old new k n e is lt at same numbers equations = record {
  are =
      equations
      ∙ ap (λ (l : List (ℕ × ℕ)). l ++ e ∷ []) is.are
      ∙ ap (λ (x : ℕ × ℕ). named all old.numbers ++ x ∷ []) at
      ∙ sym (named_more all old.numbers k)
      ∙ sym (ap (named all) (numbers ∙ ap (λ (m : ℕ). old.numbers ++ m ∷ []) same));
  numbered = subst (All (λ m. m < length all)) (sym numbers) (all_more (λ m. m < length all) old.numbers n is.numbered (subst (λ (m : ℕ). m < length all) (sym same) lt));
}

none_left : (xs : List (ℕ × ℕ)) (n : ℕ) → length xs ≤ n → drop n xs ≡ []
none_left [] zero le = refl
none_left [] (suc n) le = refl
none_left (x ∷ xs) zero le = absurd (omega (arith, le))
none_left (x ∷ xs) (suc n) le = none_left xs n (omega (arith, le))

pub same_end : (shapes : List Shape) (all : List (ℕ × ℕ)) (chosen : Chosen) (n s t : ℕ) → length all ≤ n → IsChosen all chosen → Same shapes (chosen.equations ++ drop n all) s t → Same shapes (named all chosen.numbers) s t
same_end shapes all chosen n s t le is same =
    subst (λ (l : List (ℕ × ℕ)). Same shapes l s t)
    (ap (λ (l : List (ℕ × ℕ)). chosen.equations ++ l) (none_left all n le) ∙ append-nil chosen.equations ∙ is.are)
    same

pub equation_found : (xs : List (ℕ × ℕ)) (k : ℕ) (e : ℕ × ℕ) → some_pair e ≡ slice_get xs k → e ≡ get_or xs k (0, 0)
equation_found [] k e is = absurd cc
equation_found (x ∷ xs) zero e is =
    let same : e ≡ x = cc in
    same
equation_found (x ∷ xs) (suc k) e is = equation_found xs k e is

pub equation_lost : (xs : List (ℕ × ℕ)) (k : ℕ) → slice_get xs k ≡ None → no_pair ≡ get_or xs k no_pair
equation_lost [] k e = refl
equation_lost (x ∷ xs) zero e = absurd cc
equation_lost (x ∷ xs) (suc k) e = equation_lost xs k e
