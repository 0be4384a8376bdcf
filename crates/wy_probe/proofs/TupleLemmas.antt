-- One tuple after another: they come in order.
use Rattle.std.proofs.Common.{◌≡◌, ◌<◌, ◌≤◌, ℕ, zero, suc, ◌+◌, ◌-◌, List, [], ◌∷◌, ◌++◌, map, take, Bool, true, false, cond, ◌||◌, ◌&&◌, not, Option, Some, None, refl, sym, ap, ap₂, ◌∙◌, subst, arith}
use Rattle.std.specs.Prelude.{nat_lt}
use Rattle.wy_lemmas.proofs.Choices.{by_truth, lt_true, lt_false, less_is}
use Rattle.wy_probe.specs.Tuples.{ComeInOrder, all_tuples, first_tuples, greatest_sum, has_empty, is_zero, least, led_by, next_alike, next_tuple, or_else, risen, sum_of, tuples_from, turned, with_first, with_sum, with_sums, zeros}

-- from the first, if there is one, each is the next of the one before, up to the last, and of each this holds
pub data Runs (f : List ℕ → Option (List ℕ)) (P : List ℕ → Type 0) : Option (List ℕ) → List (List ℕ) → Type 0 where
  stops : Runs f P None []
  goes : {ps : List ℕ} {rest : List (List ℕ)} → P ps → Runs f P (f ps) rest → Runs f P (Some ps) (ps ∷ rest)

not_less : (a b : ℕ) → b ≤ a → nat_lt a b ≡ false
not_less a b h = by_truth (nat_lt a b) (λ x. x ≡ false) (λ t. absurd (omega (arith, h, lt_true a b t))) (λ f. refl)

abbrev Sums : ℕ → List ℕ → Type 0
Sums t ps = sum_of ps ≡ t

-- ---- blocks that are empty

abbrev block : (ℕ → List (List ℕ)) → ℕ → ℕ → List (List ℕ)
block rests p s = cond (nat_lt s p) [] (map (λ ps. p ∷ ps) (rests (s - p)))

no_block : (rests : ℕ → List (List ℕ)) (p s : ℕ) → rests (s - p) ≡ [] → block rests p s ≡ []
no_block rests p s none = by_truth (nat_lt s p) (λ b. cond b [] (map (λ ps. p ∷ ps) (rests (s - p))) ≡ []) (λ t. refl) (λ f. ap (map (λ ps. p ∷ ps)) none)

skipped : (rests : ℕ → List (List ℕ)) (k c p s : ℕ) → ((q : ℕ) → q < p + k → rests (s - q) ≡ []) → with_first rests (k + c) p s ≡ with_first rests c (p + k) s
skipped rests zero c p s none =
    let e : p + 0 ≡ p = omega arith in
    let f : 0 + c ≡ c = omega arith in
    ap (λ m. with_first rests m p s) f ∙ ap (λ q. with_first rests c q s) (sym e)
skipped rests (suc k) c p s none =
    let e : suc p + k ≡ p + suc k = omega arith in
    let f : suc k + c ≡ suc (k + c) = omega arith in
    ap (λ m. with_first rests m p s) f
    ∙ ap (λ b. b ++ with_first rests (k + c) (suc p) s) (no_block rests p s (none p (omega arith)))
    ∙ (skipped rests k c (suc p) s (λ q lt. none q (omega (arith, lt))) ∙ ap (λ q. with_first rests c q s) e)

-- no tuple has a sum that is too great
too_great : (ns : List ℕ) (s : ℕ) → greatest_sum ns < s → with_sum ns s ≡ []
too_great [] zero h = absurd (omega (arith, h))
too_great [] (suc s) h = refl
too_great (n ∷ ns) s h =
    let e : n ≡ n + 0 = omega arith in
    ap (λ c. with_first (with_sum ns) c 0 s) e
    ∙ skipped (with_sum ns) n 0 0 s (λ q lt. too_great ns (s - q) (omega (arith, h, lt)))

-- ---- tuples of one sum

joined_runs : (n : ℕ) (ns : List ℕ) (p t : ℕ) (o : Option (List ℕ)) (front back : List (List ℕ))
    → Runs (next_alike ns) (Sums t) o front → Runs (next_alike (n ∷ ns)) (Sums (p + t)) (turned n ns p t) back
    → Runs (next_alike (n ∷ ns)) (Sums (p + t)) (led_by p o (turned n ns p t)) (map (λ ps. p ∷ ps) front ++ back)
joined_runs n ns p t o front back stops behind = behind
joined_runs n ns p t o front back (goes {ps} {rest} is runs) behind =
    goes (ap (λ u. p + u) is)
    (subst (λ u. Runs (next_alike (n ∷ ns)) (Sums (p + t)) (led_by p (next_alike ns ps) (turned n ns p u)) (map (λ qs. p ∷ qs) rest ++ back)) (sym is)
    (joined_runs n ns p t (next_alike ns ps) rest back runs behind))

abbrev lead : ℕ → List ℕ → ℕ → ℕ → Option (List ℕ)
lead n ns p s = cond (nat_lt p n && not (nat_lt s p)) (Some (p ∷ least ns (s - p))) None

-- behind the tuples with one first position come those with the next
lead_turned : (n : ℕ) (ns : List ℕ) (p s : ℕ) → p ≤ s → lead n ns (suc p) s ≡ turned n ns p (s - p)
lead_turned n ns p s le =
    let e : s - suc p ≡ (s - p) - 1 = omega (arith, le) in
    ap₂ (λ b u. cond (nat_lt (suc p) n && b) (Some (suc p ∷ least ns u)) None) tests e
  where
    tests : not (nat_lt s (suc p)) ≡ nat_lt 0 (s - p)
    tests = by_truth (nat_lt s (suc p)) (λ b. not b ≡ nat_lt 0 (s - p))
        (λ t. let lt = lt_true s (suc p) t in sym (not_less 0 (s - p) (omega (arith, lt, le))))
        (λ f. let ge = lt_false s (suc p) f in sym (less_is 0 (s - p) (omega (arith, ge))))

module _ (n : ℕ) (ns : List ℕ) (p s : ℕ) (back : List (List ℕ)) (below : (t : ℕ) → t ≤ greatest_sum ns → Runs (next_alike ns) (Sums t) (Some (least ns t)) (with_sum ns t))
    (more : Runs (next_alike (n ∷ ns)) (Sums s) (lead n ns (suc p) s) back) where
  none_left : (b : Bool) → cond (b && false) (Some (suc p ∷ least ns (s - suc p))) None ≡ None
  none_left true = refl
  none_left false = refl

  past : s < p → Runs (next_alike (n ∷ ns)) (Sums s) None back
  past lt = subst (λ o. Runs (next_alike (n ∷ ns)) (Sums s) o back)
      (ap (λ b. cond (nat_lt (suc p) n && not b) (Some (suc p ∷ least ns (s - suc p))) None) (less_is s (suc p) (omega (arith, lt))) ∙ none_left (nat_lt (suc p) n)) more

  within : s ≤ p + greatest_sum ns → p ≤ s → Runs (next_alike (n ∷ ns)) (Sums s) (Some (p ∷ least ns (s - p))) (map (λ ps. p ∷ ps) (with_sum ns (s - p)) ++ back)
  within near le =
      let whole : p + (s - p) ≡ s = omega (arith, le) in
      subst (λ u. Runs (next_alike (n ∷ ns)) (Sums u) (Some (p ∷ least ns (s - p))) (map (λ ps. p ∷ ps) (with_sum ns (s - p)) ++ back)) whole
      (joined_runs n ns p (s - p) (Some (least ns (s - p))) (with_sum ns (s - p)) back (below (s - p) (omega (arith, near, le)))
      (subst (λ u. Runs (next_alike (n ∷ ns)) (Sums u) (turned n ns p (s - p)) back) (sym whole)
      (subst (λ o. Runs (next_alike (n ∷ ns)) (Sums s) o back) (lead_turned n ns p s le) more)))

  block_runs : p < n → s ≤ p + greatest_sum ns → Runs (next_alike (n ∷ ns)) (Sums s) (lead n ns p s) (block (with_sum ns) p s ++ back)
  block_runs lt near =
      subst (λ b. Runs (next_alike (n ∷ ns)) (Sums s) (cond (b && not (nat_lt s p)) (Some (p ∷ least ns (s - p))) None) (block (with_sum ns) p s ++ back)) (sym (less_is p n lt))
      (by_truth (nat_lt s p) (λ b. Runs (next_alike (n ∷ ns)) (Sums s) (cond (not b) (Some (p ∷ least ns (s - p))) None) (cond b [] (map (λ ps. p ∷ ps) (with_sum ns (s - p))) ++ back))
      (λ t. past (lt_true s p t)) (λ f. within near (lt_false s p f)))

first_runs : (n : ℕ) (ns : List ℕ) (count p s : ℕ) → ((t : ℕ) → t ≤ greatest_sum ns → Runs (next_alike ns) (Sums t) (Some (least ns t)) (with_sum ns t))
    → p + count ≡ n → s ≤ p + greatest_sum ns → Runs (next_alike (n ∷ ns)) (Sums s) (lead n ns p s) (with_first (with_sum ns) count p s)
first_runs n ns zero p s below all near =
    subst (λ b. Runs (next_alike (n ∷ ns)) (Sums s) (cond (b && not (nat_lt s p)) (Some (p ∷ least ns (s - p))) None) []) (sym (not_less p n (omega (arith, all)))) stops
first_runs n ns (suc count) p s below all near =
    block_runs n ns p s (with_first (with_sum ns) count (suc p) s) below (first_runs n ns count (suc p) s below (omega (arith, all)) (omega (arith, near))) (omega (arith, all)) near

pub left_false : (a b : Bool) → (a || b) ≡ false → a ≡ false
left_false true b e = absurd cc
left_false false b e = refl

pub right_false : (a b : Bool) → (a || b) ≡ false → b ≡ false
right_false true b e = absurd cc
right_false false b e = e

pub some_length : (n : ℕ) → is_zero n ≡ false → 0 < n
some_length zero e = absurd cc
some_length (suc n) e = omega arith

pub sum_runs : (ns : List ℕ) → has_empty ns ≡ false → (s : ℕ) → s ≤ greatest_sum ns → Runs (next_alike ns) (Sums s) (Some (least ns s)) (with_sum ns s)
sum_runs [] full zero le = goes refl stops
sum_runs [] full (suc s) le = absurd (omega (arith, le))
sum_runs (n ∷ ns) full s le =
    let some = some_length n (left_false (is_zero n) (has_empty ns) full) in
    let p = s - greatest_sum ns in
    let c = n - p in
    let whole : n ≡ p + c = omega (arith, le, some) in
    let from_zero : 0 + p ≡ p = omega arith in
    let runs = first_runs n ns c p s (sum_runs ns (right_false (is_zero n) (has_empty ns) full)) (sym whole) (omega arith) in
    subst (λ o. Runs (next_alike (n ∷ ns)) (Sums s) o (with_first (with_sum ns) n 0 s)) (led p (omega (arith, le, some)) (omega arith))
    (subst (Runs (next_alike (n ∷ ns)) (Sums s) (lead n ns p s)) (sym (ap (λ k. with_first (with_sum ns) k 0 s) whole ∙ skipped (with_sum ns) p c 0 s (λ q lt. too_great ns (s - q) (omega (arith, lt))) ∙ ap (λ q. with_first (with_sum ns) c q s) from_zero)) runs)
  where
    led : (p : ℕ) → p < n → p ≤ s → lead n ns p s ≡ Some (p ∷ least ns (s - p))
    led p lt below = ap₂ (λ a b. cond (a && not b) (Some (p ∷ least ns (s - p))) None) (less_is p n lt) (not_less s p below)

-- ---- all tuples

abbrev Any : List ℕ → Type 0
Any ps = Unit {0}

risen_runs : (ns : List ℕ) (t : ℕ) (o : Option (List ℕ)) (front back : List (List ℕ)) → Runs (next_alike ns) (Sums t) o front → Runs (next_tuple ns) Any (risen ns t) back
    → Runs (next_tuple ns) Any (or_else o (risen ns t)) (front ++ back)
risen_runs ns t o front back stops behind = behind
risen_runs ns t o front back (goes {ps} {rest} is runs) behind =
    goes tt (subst (λ u. Runs (next_tuple ns) Any (or_else (next_alike ns ps) (risen ns u)) (rest ++ back)) (sym is) (risen_runs ns t (next_alike ns ps) rest back runs behind))

sums_run : (ns : List ℕ) → has_empty ns ≡ false → (count s : ℕ) → s + count ≡ greatest_sum ns → Runs (next_tuple ns) Any (Some (least ns s)) (with_sums ns (suc count) s)
sums_run ns full zero s all =
    risen_runs ns s (Some (least ns s)) (with_sum ns s) [] (sum_runs ns full s (omega (arith, all)))
    (subst (λ b. Runs (next_tuple ns) Any (cond b (Some (least ns (suc s))) None) []) (sym (not_less s (greatest_sum ns) (omega (arith, all)))) stops)
sums_run ns full (suc count) s all =
    risen_runs ns s (Some (least ns s)) (with_sum ns s) (with_sums ns (suc count) (suc s)) (sum_runs ns full s (omega (arith, all)))
    (subst (λ b. Runs (next_tuple ns) Any (cond b (Some (least ns (suc s))) None) (with_sums ns (suc count) (suc s))) (sym (less_is s (greatest_sum ns) (omega (arith, all))))
    (sums_run ns full count (suc s) (omega (arith, all))))

least_zeros : (ns : List ℕ) → least ns 0 ≡ zeros ns
least_zeros [] = refl
least_zeros (n ∷ ns) =
    let e : 0 - greatest_sum ns ≡ 0 = omega arith in
    let f : 0 - (0 - greatest_sum ns) ≡ 0 = omega arith in
    ap₂ (λ p ps. p ∷ ps) e (ap (least ns) f ∙ least_zeros ns)

-- ---- where a list is empty

none_first : (rests : ℕ → List (List ℕ)) → ((s : ℕ) → rests s ≡ []) → (count p s : ℕ) → with_first rests count p s ≡ []
none_first rests none zero p s = refl
none_first rests none (suc count) p s = ap₂ (λ a b. a ++ b) (no_block rests p s (none (s - p))) (none_first rests none count (suc p) s)

none_of_sum : (ns : List ℕ) → has_empty ns ≡ true → (s : ℕ) → with_sum ns s ≡ []
none_of_sum [] e s = absurd cc
none_of_sum (zero ∷ ns) e s = refl
none_of_sum (suc n ∷ ns) e s = none_first (with_sum ns) (none_of_sum ns e) (suc n) 0 s

none_at_all : (ns : List ℕ) → has_empty ns ≡ true → (count s : ℕ) → with_sums ns count s ≡ []
none_at_all ns e zero s = refl
none_at_all ns e (suc count) s = ap₂ (λ a b. a ++ b) (none_of_sum ns e s) (none_at_all ns e count (suc s))

-- ---- the first of them

first_run : (ns : List ℕ) (o : Option (List ℕ)) (all : List (List ℕ)) (n : ℕ) → Runs (next_tuple ns) Any o all → tuples_from ns n o ≡ take n all
first_run ns o all zero runs = refl
first_run ns o all (suc n) stops = refl
first_run ns o all (suc n) (goes {ps} {rest} is runs) = ap (λ l. ps ∷ l) (first_run ns (next_tuple ns ps) rest n runs)

pub in_order : ComeInOrder
in_order ns n = by_truth (has_empty ns) (λ b. tuples_from ns n (cond b None (Some (zeros ns))) ≡ first_tuples ns n)
    (λ t. none n ∙ sym (ap (take n) (none_at_all ns t (suc (greatest_sum ns)) 0) ∙ nothing n))
    (λ f. ap (λ ps. tuples_from ns n (Some ps)) (sym (least_zeros ns)) ∙ first_run ns (Some (least ns 0)) (all_tuples ns) n (sums_run ns f (greatest_sum ns) 0 all))
  where
    all : 0 + greatest_sum ns ≡ greatest_sum ns
    all = omega arith

    none : (k : ℕ) → tuples_from ns k None ≡ []
    none zero = refl
    none (suc k) = refl

    nothing : (k : ℕ) → ◌≡◌ {A = List (List ℕ)} (take k []) []
    nothing zero = refl
    nothing (suc k) = refl
