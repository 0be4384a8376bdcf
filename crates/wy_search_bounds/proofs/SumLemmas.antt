-- Multipliers, and sums with them.
use Rattle.std.proofs.Common.{◌≡◌, ◌∙◌, ◌+◌, ◌*◌, ◌<◌, ◌≤◌, ◌&&◌, ◌^◌, ℕ, zero, suc, List, [], ◌∷◌, ◌++◌, map, drop, length, get_or, All, Bool, true, false, cond, Option, Some, None, refl, sym, ap, subst, arith, append_assoc}
use Rattle.std.specs.Prelude.{nat_lt}
use Rattle.std.proofs.lemmas.List.{drop_more}
use Rattle.std.proofs.lemmas.Bool.{lt-ltb, le-ltb}
use Rattle.wy_lemmas.proofs.Choices.{and_false}
use Rattle.wy_lin.specs.Linear.{Linear}
use Rattle.wy_lin.specs.Combination.{combined}
use Rattle.wy_lin_eliminate.specs.Division.{common}
use Rattle.wy_cong.specs.wy_search_spec.Bounds.{named_from, all_fit, replaced_by, by_sum, by_common}
use Rattle.wy_search_bounds.specs.declared.removal.Taking.{Taking}
use Rattle.wy_search_bounds.specs.Seen.{seen_takings, forms_to_add, multipliers_of, sum_with}

abbrev Multipliers : Type 0
Multipliers = List (ℕ × ℕ)

and_assoc : (a b c : Bool) → (a && (b && c)) ≡ ((a && b) && c)
and_assoc true b c = refl
and_assoc false b c = refl

fit_both : (xs ys : Multipliers) → all_fit (xs ++ ys) ≡ (all_fit xs && all_fit ys)
fit_both [] ys = refl
fit_both (x ∷ xs) ys = ap (λ (b : Bool). nat_lt x.0 (2 ^ 127) && b) (fit_both xs ys) ∙ and_assoc (nat_lt x.0 (2 ^ 127)) (all_fit xs) (all_fit ys)

-- what is left, its first one named
abbrev left_named : ℕ → List Taking → ℕ → Multipliers
left_named k ts n = named_from k (seen_takings ts) n

named_step : (k : ℕ) (ts : List Taking) (i n : ℕ) (d : Taking) → i < length ts → left_named k (drop i ts) n ≡ (k * (get_or ts i d).times, n) ∷ left_named k (drop (i + 1) ts) (suc n)
named_step k ts i n d lt = ap (λ (us : List Taking). left_named k us n) (drop_more ts i d lt)

pub multiplier_more : (k : ℕ) (ts : List Taking) (i : ℕ) (d : Taking) (m n : ℕ) (old new whole : Multipliers) → i < length ts → m ≡ k * (get_or ts i d).times → n ≡ i + 1 → new ≡ old ++ (m, n) ∷ [] → old ++ left_named k (drop i ts) (i + 1) ≡ whole → new ++ left_named k (drop (i + 1) ts) (i + 1 + 1) ≡ whole
multiplier_more k ts i d m n old new whole lt ism isn is so =
    let next : i + 1 + 1 ≡ suc (i + 1) = omega arith in
    let left = left_named k (drop (i + 1) ts) (suc (i + 1)) in
    ap (λ (j : ℕ). new ++ left_named k (drop (i + 1) ts) j) next
    ∙ (ap (λ (xs : Multipliers). xs ++ left) is
    ∙ (ap (λ (x : ℕ). (old ++ (x, n) ∷ []) ++ left) ism
    ∙ (ap (λ (x : ℕ). (old ++ (k * (get_or ts i d).times, x) ∷ []) ++ left) isn
    ∙ (append_assoc old ((k * (get_or ts i d).times, i + 1) ∷ []) left
    ∙ (ap (λ (xs : Multipliers). old ++ xs) (sym (named_step k ts i (i + 1) d lt)) ∙ so)))))

pub fit_more : (old new : Multipliers) (m n : ℕ) → new ≡ old ++ (m, n) ∷ [] → m < 2 ^ 127 → all_fit old ≡ true → all_fit new ≡ true
fit_more old new m n is lt fit =
    ap all_fit is ∙ (fit_both old ((m, n) ∷ []) ∙ (ap (λ (b : Bool). b && (nat_lt m (2 ^ 127) && true)) fit ∙ ap (λ (b : Bool). b && true) (lt-ltb m (2 ^ 127) lt)))

-- one that is too large
pub fit_never : (k : ℕ) (ts : List Taking) (i : ℕ) (d : Taking) (old whole : Multipliers) → i < length ts → 2 ^ 127 ≤ k * (get_or ts i d).times → old ++ left_named k (drop i ts) (i + 1) ≡ whole → all_fit whole ≡ false
fit_never k ts i d old whole lt le so =
    let t = (get_or ts i d).times in
    let left = left_named k (drop (i + 1) ts) (suc (i + 1)) in
    sym (ap all_fit so)
    ∙ (fit_both old (left_named k (drop i ts) (i + 1))
    ∙ (ap (λ (xs : Multipliers). all_fit old && all_fit xs) (named_step k ts i (i + 1) d lt)
    ∙ (ap (λ (b : Bool). all_fit old && (b && all_fit left)) (le-ltb (k * t) (2 ^ 127) le) ∙ and_false (all_fit old))))

longer : (xs : Multipliers) (x : ℕ × ℕ) → length (xs ++ x ∷ []) ≡ length xs + 1
longer [] x = refl
longer (y ∷ xs) x = let e : suc (length xs + 1) ≡ suc (length xs) + 1 = omega arith in ap suc (longer xs x) ∙ e

pub one_longer : (old new : Multipliers) (m n i : ℕ) → new ≡ old ++ (m, n) ∷ [] → length old ≡ i + 1 → length new ≡ i + 1 + 1
one_longer old new m n i is count = ap length is ∙ (longer old (m, n) ∙ (let e : length old + 1 ≡ i + 1 + 1 = omega (arith, count) in e))

-- ---- places of forms

length_seen : (ts : List Taking) → length (map (λ (u : ℕ × Linear ℕ). u.1) (seen_takings ts)) ≡ length ts
length_seen [] = refl
length_seen (t ∷ ts) = ap suc (length_seen ts)

abbrev AreBefore : ℕ → Multipliers → Type 0
AreBefore n ms = All (λ (m : ℕ × ℕ). m.1 < n) ms

before_cons : (n : ℕ) (m : ℕ × ℕ) (ms : Multipliers) → m.1 < n → AreBefore n ms → AreBefore n (m ∷ ms)
before_cons n m ms lt all = λ i d l. by i d l
  where
    by : (i : ℕ) (d : ℕ × ℕ) → i < length (m ∷ ms) → (get_or (m ∷ ms) i d).1 < n
    by zero d l = lt
    by (suc i) d l = all i d (omega (arith, l))

named_before : (k : ℕ) (ts : List (ℕ × Linear ℕ)) (i n : ℕ) → i + length ts ≤ n → AreBefore n (named_from k ts i)
named_before k [] i n le = λ j d l. absurd (omega (arith, l))
named_before k (t ∷ ts) i n le = before_cons n (k * t.0, i) (named_from k ts (suc i)) (omega (arith, le)) (named_before k ts (suc i) n (omega (arith, le)))

length_pairs : (ts : List Taking) → length (seen_takings ts) ≡ length ts
length_pairs [] = refl
length_pairs (t ∷ ts) = ap suc (length_pairs ts)

-- each multiplier has the place of a form
pub multipliers_before : (k n : ℕ) (ts : List Taking) (ms : Multipliers) → ms ≡ multipliers_of k (seen_takings ts) → n ≡ suc (length ts) → AreBefore n ms
multipliers_before k n ts ms is count = subst (AreBefore n) (sym is) (before_cons n (k, 0) (named_from k (seen_takings ts) 1) (omega (arith, count)) (named_before k (seen_takings ts) 1 n (omega (arith, count, length_pairs ts))))

pub forms_count : (f : Linear ℕ) (ts : List Taking) (n : ℕ) (forms : List (Linear ℕ)) → forms ≡ forms_to_add f (seen_takings ts) → n ≡ length forms → n ≡ suc (length ts)
forms_count f ts n forms is count = count ∙ (ap length is ∙ ap suc (length_seen ts))

-- ---- the sum

pub sum_none : (f : Linear ℕ) (ts : List (ℕ × Linear ℕ)) (k : ℕ) → all_fit (multipliers_of k ts) ≡ false → None ≡ sum_with f ts k
sum_none f ts k un = ap (λ (b : Bool). cond b (combined (forms_to_add f ts) (multipliers_of k ts)) None) (sym un)

-- ---- by what is to be taken away

pub nothing_taken : (f : Linear ℕ) (ts : List Taking) → length ts ≡ 0 → replaced_by f [] ≡ replaced_by f (seen_takings ts)
nothing_taken f [] e = refl
nothing_taken f (t ∷ ts) e = absurd (omega (arith, e))

pub some_taken : (f : Linear ℕ) (ts : List Taking) → (length ts ≡ 0 → ⊥) → by_sum (sum_with f (seen_takings ts) 2) (sum_with f (seen_takings ts) 1) ≡ replaced_by f (seen_takings ts)
some_taken f [] apart = absurd (apart refl)
some_taken f (t ∷ ts) apart = refl

-- by the sum, taken once
pub replaced_so : (f : Linear ℕ) (ts : List Taking) (us : List (ℕ × Linear ℕ)) (s : Linear ℕ) (o : Option (Linear ℕ)) → (length ts ≡ 0 → ⊥) → seen_takings ts ≡ us → Some s ≡ o → o ≡ sum_with f (seen_takings ts) 1 → by_common (sum_with f (seen_takings ts) 2) s (common s.parts) ≡ replaced_by f us
replaced_so f ts us s o apart is some sum =
    ap (by_sum (sum_with f (seen_takings ts) 2)) (some ∙ sum) ∙ (some_taken f ts apart ∙ ap (replaced_by f) is)
