-- Positions that lie in their lists: the next tuple's do.
use Rattle.std.proofs.Common.{◌≡◌, ◌<◌, ◌≤◌, ℕ, zero, suc, ◌+◌, ◌-◌, List, [], ◌∷◌, ◌++◌, take, drop, length, Bool, true, false, cond, ◌||◌, ◌&&◌, Option, Some, None, refl, sym, ap, ap₂, ◌∙◌, subst, arith}
use Rattle.std.specs.Prelude.{nat_lt, slice_index_or}
use Rattle.wy_lemmas.proofs.Choices.{by_truth, lt_true, both_parts}
use Rattle.wy_lemmas.proofs.Options.{some_same}
use Rattle.wy_probe.proofs.TupleLemmas.{left_false, right_false, some_length}
use Rattle.wy_probe.specs.Tuples.{Fit, greatest_sum, has_empty, is_zero, least, led_by, next_alike, next_tuple, or_else, risen, sum_of, turned, zeros}

pub least_fits : (ns : List ℕ) → has_empty ns ≡ false → (s : ℕ) → s ≤ greatest_sum ns → Fit ns (least ns s)
least_fits [] full s le = tt
least_fits (n ∷ ns) full s le =
    let some = some_length n (left_false (is_zero n) (has_empty ns) full) in
    (omega (arith, le, some), least_fits ns (right_false (is_zero n) (has_empty ns) full) (s - (s - greatest_sum ns)) (omega arith))

pub zeros_fit : (ns : List ℕ) → has_empty ns ≡ false → Fit ns (zeros ns)
zeros_fit [] full = tt
zeros_fit (n ∷ ns) full = (some_length n (left_false (is_zero n) (has_empty ns) full), zeros_fit ns (right_false (is_zero n) (has_empty ns) full))

not_zero : (n p : ℕ) → p < n → is_zero n ≡ false
not_zero zero p lt = absurd (omega (arith, lt))
not_zero (suc n) p lt = refl

pub full_of : (ns ps : List ℕ) → Fit ns ps → has_empty ns ≡ false
full_of [] [] f = refl
full_of [] (p ∷ ps) f = absurd f
full_of (n ∷ ns) [] f = absurd f
full_of (n ∷ ns) (p ∷ ps) f = ap (λ b. b || has_empty ns) (not_zero n p f.0) ∙ full_of ns ps f.1

pub as_long : (ns ps : List ℕ) → Fit ns ps → length ps ≡ length ns
as_long [] [] f = refl
as_long [] (p ∷ ps) f = absurd f
as_long (n ∷ ns) [] f = absurd f
as_long (n ∷ ns) (p ∷ ps) f = ap (λ k. suc k) (as_long ns ps f.1)

pub sum_fits : (ns ps : List ℕ) → Fit ns ps → sum_of ps ≤ greatest_sum ns
sum_fits [] [] f = omega arith
sum_fits [] (p ∷ ps) f = absurd f
sum_fits (n ∷ ns) [] f = absurd f
sum_fits (n ∷ ns) (p ∷ ps) f = let less = sum_fits ns ps f.1 in let lt = f.0 in omega (arith, less, lt)

turned_fits : (n : ℕ) (ns : List ℕ) (p t : ℕ) (qs : List ℕ) → has_empty ns ≡ false → t ≤ greatest_sum ns → turned n ns p t ≡ Some qs → Fit (n ∷ ns) qs
turned_fits n ns p t qs full le = by_truth (nat_lt (suc p) n && nat_lt 0 t) (λ b. cond b (Some (suc p ∷ least ns (t - 1))) None ≡ Some qs → Fit (n ∷ ns) qs)
    (λ yes e. subst (Fit (n ∷ ns)) (some_same _ _ e) (lt_true (suc p) n (both_parts _ _ yes).0, least_fits ns full (t - 1) (omega (arith, le)))) (λ no e. absurd cc)

pub alike_fits : (ns ps qs : List ℕ) → Fit ns ps → next_alike ns ps ≡ Some qs → Fit ns qs
alike_fits [] ps qs f e = absurd cc
alike_fits (n ∷ ns) [] qs f e = absurd f
alike_fits (n ∷ ns) (p ∷ ps) qs f e = go (next_alike ns ps) (λ rs is. alike_fits ns ps rs f.1 is) e
  where
    go : (o : Option (List ℕ)) → ((rs : List ℕ) → o ≡ Some rs → Fit ns rs) → led_by p o (turned n ns p (sum_of ps)) ≡ Some qs → Fit (n ∷ ns) qs
    go None fits e = turned_fits n ns p (sum_of ps) qs (full_of ns ps f.1) (sum_fits ns ps f.1) e
    go (Some rs) fits e = subst (Fit (n ∷ ns)) (some_same _ _ e) (f.0, fits rs refl)

pub next_fits : (ns ps qs : List ℕ) → Fit ns ps → next_tuple ns ps ≡ Some qs → Fit ns qs
next_fits ns ps qs f e = go (next_alike ns ps) (λ rs is. alike_fits ns ps rs f is) e
  where
    go : (o : Option (List ℕ)) → ((rs : List ℕ) → o ≡ Some rs → Fit ns rs) → or_else o (risen ns (sum_of ps)) ≡ Some qs → Fit ns qs
    go None fits e = by_truth (nat_lt (sum_of ps) (greatest_sum ns)) (λ b. cond b (Some (least ns (suc (sum_of ps)))) None ≡ Some qs → Fit ns qs)
        (λ yes is. subst (Fit ns) (some_same _ _ is) (least_fits ns (full_of ns ps f) (suc (sum_of ps)) (let lt = lt_true (sum_of ps) (greatest_sum ns) yes in omega (arith, lt)))) (λ no is. absurd cc) e
    go (Some rs) fits e = subst (Fit ns) (some_same _ _ e) (fits rs refl)

-- ---- turns

-- what the positions from a place on do, all do
pub turned_behind : (i : ℕ) (ns ps qs : List ℕ) → length ps ≡ length ns → next_alike (drop i ns) (drop i ps) ≡ Some qs → next_alike ns ps ≡ Some (take i ps ++ qs)
turned_behind zero ns ps qs same e = e
turned_behind (suc i) [] [] qs same e = absurd cc
turned_behind (suc i) [] (p ∷ ps) qs same e = absurd (omega (arith, same))
turned_behind (suc i) (n ∷ ns) [] qs same e = absurd (omega (arith, same))
turned_behind (suc i) (n ∷ ns) (p ∷ ps) qs same e = ap (λ o. led_by p o (turned n ns p (sum_of ps))) (turned_behind i ns ps qs (omega (arith, same)) e)

pub fit_behind : (i : ℕ) (ns ps : List ℕ) → Fit ns ps → Fit (drop i ns) (drop i ps)
fit_behind zero ns ps f = f
fit_behind (suc i) [] [] f = tt
fit_behind (suc i) [] (p ∷ ps) f = absurd f
fit_behind (suc i) (n ∷ ns) [] f = absurd f
fit_behind (suc i) (n ∷ ns) (p ∷ ps) f = fit_behind i ns ps f.1

-- ---- one position and those behind it

pub drop_at : (xs : List ℕ) (i : ℕ) → i < length xs → drop i xs ≡ slice_index_or xs i 0 ∷ drop (suc i) xs
drop_at [] i lt = absurd (omega (arith, lt))
drop_at (x ∷ xs) zero lt = refl
drop_at (x ∷ xs) (suc i) lt = drop_at xs i (omega (arith, lt))

pub drop_past : (xs : List ℕ) (k : ℕ) → length xs ≤ k → drop k xs ≡ []
drop_past [] zero le = refl
drop_past [] (suc k) le = refl
drop_past (x ∷ xs) zero le = absurd (omega (arith, le))
drop_past (x ∷ xs) (suc k) le = drop_past xs k (omega (arith, le))

pub fit_at : (ns ps : List ℕ) (i : ℕ) → Fit ns ps → i < length ps → slice_index_or ps i 0 < slice_index_or ns i 0
fit_at [] [] i f lt = absurd (omega (arith, lt))
fit_at [] (p ∷ ps) i f lt = absurd f
fit_at (n ∷ ns) [] i f lt = absurd f
fit_at (n ∷ ns) (p ∷ ps) zero f lt = f.0
fit_at (n ∷ ns) (p ∷ ps) (suc i) f lt = fit_at ns ps i f.1 (omega (arith, lt))

pub sum_at : (ps : List ℕ) (i : ℕ) → i < length ps → sum_of (drop i ps) ≡ slice_index_or ps i 0 + sum_of (drop (suc i) ps)
sum_at ps i lt = ap sum_of (drop_at ps i lt)

pub greatest_at : (ns : List ℕ) (i : ℕ) → i < length ns → greatest_sum (drop i ns) ≡ (slice_index_or ns i 0 - 1) + greatest_sum (drop (suc i) ns)
greatest_at ns i lt = ap greatest_sum (drop_at ns i lt)

pub least_at : (ns : List ℕ) (i s : ℕ) → i < length ns
    → least (drop i ns) s ≡ (s - greatest_sum (drop (suc i) ns)) ∷ least (drop (suc i) ns) (s - (s - greatest_sum (drop (suc i) ns)))
least_at ns i s lt = ap (λ l. least l s) (drop_at ns i lt)

pub next_at : (ns ps : List ℕ) (i : ℕ) → i < length ns → i < length ps
    → next_alike (drop i ns) (drop i ps) ≡ led_by (slice_index_or ps i 0) (next_alike (drop (suc i) ns) (drop (suc i) ps)) (turned (slice_index_or ns i 0) (drop (suc i) ns) (slice_index_or ps i 0) (sum_of (drop (suc i) ps)))
next_at ns ps i there within = ap₂ next_alike (drop_at ns i there) (drop_at ps i within)

-- no turn behind a place, and none at it
pub no_turn : (ns ps : List ℕ) (i sum : ℕ) → i < length ns → i < length ps → next_alike (drop (suc i) ns) (drop (suc i) ps) ≡ None → sum ≡ sum_of (drop (suc i) ps)
    → (nat_lt (suc (slice_index_or ps i 0)) (slice_index_or ns i 0) && nat_lt 0 sum) ≡ false → next_alike (drop i ns) (drop i ps) ≡ None
no_turn ns ps i sum there within none is test =
    next_at ns ps i there within
    ∙ ap₂ (λ o t. led_by (slice_index_or ps i 0) o (turned (slice_index_or ns i 0) (drop (suc i) ns) (slice_index_or ps i 0) t)) none (sym is)
    ∙ ap (λ b. cond b (Some (suc (slice_index_or ps i 0) ∷ least (drop (suc i) ns) (sum - 1))) None) test

-- no turn behind a place, and one at it
pub one_turn : (ns ps : List ℕ) (i sum : ℕ) → length ps ≡ length ns → i < length ps → next_alike (drop (suc i) ns) (drop (suc i) ps) ≡ None → sum ≡ sum_of (drop (suc i) ps)
    → (nat_lt (suc (slice_index_or ps i 0)) (slice_index_or ns i 0) && nat_lt 0 sum) ≡ true
    → next_alike ns ps ≡ Some (take i ps ++ suc (slice_index_or ps i 0) ∷ least (drop (suc i) ns) (sum - 1))
one_turn ns ps i sum same within none is test =
    let there : i < length ns = omega (arith, same, within) in
    turned_behind i ns ps _ same
    (next_at ns ps i there within
    ∙ ap₂ (λ o t. led_by (slice_index_or ps i 0) o (turned (slice_index_or ns i 0) (drop (suc i) ns) (slice_index_or ps i 0) t)) none (sym is)
    ∙ ap (λ b. cond b (Some (suc (slice_index_or ps i 0) ∷ least (drop (suc i) ns) (sum - 1))) None) test)

pub zeros_at : (ns : List ℕ) (i : ℕ) → i < length ns → zeros (drop i ns) ≡ 0 ∷ zeros (drop (suc i) ns)
zeros_at ns i lt = ap zeros (drop_at ns i lt)

take_all : (xs : List ℕ) → take (length xs) xs ≡ xs
take_all [] = refl
take_all (x ∷ xs) = ap (λ l. x ∷ l) (take_all xs)

-- all that stands behind a place
pub all_behind : (xs : List ℕ) (k : ℕ) → take (length xs - k) (drop k xs) ≡ drop k xs
all_behind xs zero = let e : length xs - 0 ≡ length xs = omega arith in ap (λ n. take n xs) e ∙ take_all xs
all_behind [] (suc k) = none (0 - suc k)
  where
    none : (n : ℕ) → ◌≡◌ {A = List ℕ} (take n (drop (suc k) [])) (drop (suc k) [])
    none zero = refl
    none (suc n) = refl
all_behind (x ∷ xs) (suc k) = let e : length (x ∷ xs) - suc k ≡ length xs - k = omega arith in ap (λ n. take n (drop k xs)) e ∙ all_behind xs k

-- a list, one more, and a list
pub one_between : (a l : List ℕ) (x : ℕ) → (a ++ x ∷ []) ++ l ≡ a ++ x ∷ l
one_between [] l x = refl
one_between (y ∷ a) l x = ap (λ k. y ∷ k) (one_between a l x)
