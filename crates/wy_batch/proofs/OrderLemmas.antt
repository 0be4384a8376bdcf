-- Verdicts at their places.
use Rattle.std.proofs.Common.{◌≡◌, ◌∙◌, ◌<◌, ◌≤◌, ◌+◌, ℕ, zero, suc, List, [], ◌∷◌, All, length, get_or, map, set, cond, eqb, Bool, true, false, nat_lt, Option, Some, None, option_map, refl, sym, ap, subst, arith}
use Rattle.std.specs.Prelude.{slice_get}
use Rattle.std.proofs.lemmas.Bool.{eq-eqb, eqb-false, eqb-true}
use Rattle.std.proofs.lemmas.List.{length-map}
use Rattle.std.proofs.lemmas.List.Elements.{All-head, All-tail}
use Rattle.std.proofs.lemmas.List.Sums.{get_or-le-sum_by, sum_by-cons}
use Rattle.std.proofs.lemmas.Option.{slice_get-map, slice_get_within}
use Rattle.wy_claim.specs.Claimed.{once_below, times}
use Rattle.wy_claim.specs.Moments.{EachOnce}
use Rattle.wy_batch.specs.Judged.{AreJudged, IsJudged, IsVerdictAt}
use Rattle.wy_cert.specs.Steps.{Certificates}
use Rattle.wy_term.specs.Condition.{Condition}
use Rattle.wy_batch.specs.Ordering.{ArePlaced, IsFull}
use Rattle.wy_batch.specs.Working.{numbers_of}
use Rattle.wy_batch.specs.declared.verdict.Verdict.{Verdict}

abbrev pub Slots : Type 0
Slots = List (Option Verdict)

abbrev pub Numbered : Type 0
Numbered = List (ℕ × Verdict)

-- ---- a place

filled : (w : Verdict) → (let o : Option Verdict = None in Some w ≡ o) → ⊥
filled w h = absurd cc

same_verdict : (a b : Verdict) → Some a ≡ Some b → a ≡ b
same_verdict a b h = cc

set_there : (xs : Slots) (i : ℕ) (a : Option Verdict) → i < length xs → slice_get (set xs i a) i ≡ Some a
set_there [] i a lt = absurd (omega (arith, lt))
set_there (x ∷ xs) zero a lt = refl
set_there (x ∷ xs) (suc i) a lt = set_there xs i a (omega (arith, lt))

set_apart : (xs : Slots) (i j : ℕ) (a : Option Verdict) → (i ≡ j → ⊥) → slice_get (set xs i a) j ≡ slice_get xs j
set_apart [] i j a ne = refl
set_apart (x ∷ xs) zero zero a ne = absurd (ne refl)
set_apart (x ∷ xs) zero (suc j) a ne = refl
set_apart (x ∷ xs) (suc i) zero a ne = refl
set_apart (x ∷ xs) (suc i) (suc j) a ne = set_apart xs i j a (λ e. ne (ap suc e))

same_slot : (a b : Option Verdict) → Some a ≡ Some b → a ≡ b
same_slot a b h = cc

-- what stands at a place after a write
put_at : (old new : Slots) (p q : ℕ) (v : Verdict) (o : Option Verdict) → new ≡ set old p (Some v) → p < length old → slice_get new q ≡ Some o
    → (b : Bool) → eqb p q ≡ b → cond b ((p ≡ q) × (Some v ≡ o)) ((p ≡ q → ⊥) × (slice_get old q ≡ Some o))
put_at old new p q v o is lt at true e =
    let same : p ≡ q = eqb-true p q e in
    let there : slice_get new p ≡ Some (Some v) = ap (λ (xs : Slots). slice_get xs p) is ∙ set_there old p (Some v) lt in
    (same, same_slot (Some v) o (sym there ∙ ap (λ (k : ℕ). slice_get new k) same ∙ at))
put_at old new p q v o is lt at false e =
    let apart = eqb-false p q e in
    (apart, sym (set_apart old p q (Some v) apart) ∙ ap (λ (xs : Slots). slice_get xs q) (sym is) ∙ at)

-- ---- numbers that are left

-- 1 where it is so, and else 0
abbrev once : Bool → ℕ
once b = cond b 1 0

times_cons : (q p : ℕ) (ns : List ℕ) → times q (p ∷ ns) ≡ once (eqb p q) + times q ns
times_cons q p ns = sum_by-cons (λ (x : ℕ). cond (eqb x q) 1 0) p ns

-- a place without a verdict is as often among the numbers that are left as among all
abbrev pub IsLeft : Numbered → Slots → Numbered → Type 0
IsLeft all slots rest = (q : ℕ) → slice_get slots q ≡ Some None → times q (numbers_of rest) ≡ times q (numbers_of all)

pub left_next : (all : Numbered) (old new : Slots) (was rest : Numbered) (p : ℕ) (v : Verdict) → was ≡ (p, v) ∷ rest → new ≡ set old p (Some v) → p < length old → IsLeft all old was → IsLeft all new rest
left_next all old new was rest p v is put lt left q at = by (eqb p q) refl (put_at old new p q v None put lt at (eqb p q) refl)
  where
    by : (b : Bool) → eqb p q ≡ b → cond b ((p ≡ q) × (Some v ≡ None)) ((p ≡ q → ⊥) × (slice_get old q ≡ Some None)) → times q (numbers_of rest) ≡ times q (numbers_of all)
    by true e h = absurd (filled v h.1)
    by false e h =
        let cons : times q (numbers_of was) ≡ once (eqb p q) + times q (numbers_of rest) = ap (λ (vs : Numbered). times q (numbers_of vs)) is ∙ times_cons q p (numbers_of rest) in
        let none : once (eqb p q) ≡ 0 = ap once e in
        let was_so = left q h.1 in
        omega (arith, cons, none, was_so)

-- ---- numbers below the count

abbrev pub IsBelow : ℕ → ℕ × Verdict → Type 0
IsBelow count v = v.0 < count

some_below : (count p : ℕ) → 1 ≤ once_below count p → p < count
some_below count p le = by (nat_lt p count) refl
  where
    by : (b : Bool) → nat_lt p count ≡ b → p < count
    by true e = grind arith
    by false e = let none : once_below count p ≡ 0 = ap once e in absurd (omega (arith, none, le))

number_there : (vs : Numbered) (k : ℕ) (d : ℕ × Verdict) → get_or (numbers_of vs) k d.0 ≡ (get_or vs k d).0
number_there [] k d = refl
number_there (v ∷ vs) zero d = refl
number_there (v ∷ vs) (suc k) d = number_there vs k d

-- each number is below the count
pub all_below : (count : ℕ) (vs : Numbered) → EachOnce count (numbers_of vs) → All (IsBelow count) vs
all_below count vs each k d lt =
    let p = (get_or vs k d).0 in
    let there : once (eqb (get_or (numbers_of vs) k d.0) p) ≤ times p (numbers_of vs) =
    get_or-le-sum_by (λ (x : ℕ). cond (eqb x p) 1 0) (numbers_of vs) k d.0 (omega (arith, lt, length-map vs (λ (w : ℕ × Verdict). w.0))) in
    let one : once (eqb (get_or (numbers_of vs) k d.0) p) ≡ 1 = ap once (eq-eqb (get_or (numbers_of vs) k d.0) p (number_there vs k d)) in
    some_below count p (omega (arith, there, one, each p))

pub rest_below : (count : ℕ) (was rest : Numbered) (p : ℕ) (v : Verdict) → was ≡ (p, v) ∷ rest → All (IsBelow count) was → (p < count) × All (IsBelow count) rest
rest_below count was rest p v is all =
    let here = subst (All (IsBelow count)) is all in
    (All-head (IsBelow count) (p, v) rest here, All-tail (IsBelow count) (p, v) rest here)

-- ---- verdicts that are placed

pub placed_next : (certs : Certificates) (budget : ℕ) (cs : List Condition) (old new : Slots) (p : ℕ) (v : Verdict) → new ≡ set old p (Some v) → p < length old → IsVerdictAt certs budget cs p v → ArePlaced certs budget cs old → ArePlaced certs budget cs new
placed_next certs budget cs old new p v put lt here placed q w at = by (eqb p q) refl (put_at old new p q v (Some w) put lt at (eqb p q) refl)
  where
    by : (b : Bool) → eqb p q ≡ b → cond b ((p ≡ q) × (Some v ≡ Some w)) ((p ≡ q → ⊥) × (slice_get old q ≡ Some (Some w))) → IsVerdictAt certs budget cs q w
    by true e h =
        subst (λ (k : ℕ). IsVerdictAt certs budget cs k w) h.0 (subst (IsVerdictAt certs budget cs p) (same_verdict v w h.1) here)
    by false e h = placed q w h.1

-- ---- at first

nowhere : (xs : Slots) (i : ℕ) (x : Option Verdict) → All (λ slot. slot ≡ None) xs → slice_get xs i ≡ Some x → x ≡ None
nowhere [] i x all h = absurd cc
nowhere (y ∷ ys) zero x all h = let here : y ≡ x = cc in sym here ∙ All-head (λ slot. slot ≡ None) y ys all
nowhere (y ∷ ys) (suc i) x all h = nowhere ys i x (All-tail (λ slot. slot ≡ None) y ys all) h

pub none_placed : (certs : Certificates) (budget : ℕ) (cs : List Condition) (slots : Slots) → All (λ slot. slot ≡ None) slots → ArePlaced certs budget cs slots
none_placed certs budget cs slots none q v at = absurd (filled v (nowhere slots q (Some v) none at))

-- ---- at the end

nothing_left : (vs : Numbered) → length vs ≡ 0 → vs ≡ []
nothing_left [] e = refl
nothing_left (v ∷ vs) e = absurd (omega (arith, e))

one_below : (k n : ℕ) → k < n → once_below n k ≡ 1
one_below k n lt = by (nat_lt k n) refl
  where
    by : (b : Bool) → nat_lt k n ≡ b → once_below n k ≡ 1
    by true e = ap once e
    by false e = absurd (grind arith)

-- with no number left each place has a verdict
pub is_full : (all rest : Numbered) (slots : Slots) (count : ℕ) → EachOnce count (numbers_of all) → length slots ≡ count → length rest ≡ 0 → IsLeft all slots rest → IsFull slots
is_full all rest slots count each long none left q at =
    let within : q < length slots = slice_get_within slots q None at in
    let gone : times q (numbers_of rest) ≡ 0 = ap (λ (vs : Numbered). times q (numbers_of vs)) (nothing_left rest none) in
    let full : once_below count q ≡ 1 = one_below q count (omega (arith, within, long)) in
    absurd (omega (arith, gone, left q at, each q, full))

-- ---- verdicts in order

some_there : (vs : List Verdict) (i : ℕ) (v : Verdict) → slice_get vs i ≡ Some v → slice_get (map Some vs) i ≡ Some (Some v)
some_there vs i v h = slice_get-map Some vs i ∙ ap (option_map Some) h

same_condition_there : (a b : Condition) → Some a ≡ Some b → a ≡ b
same_condition_there a b h = cc

judged_from : (certs : Certificates) (budget n : ℕ) (cs : List Condition) (vs : List Verdict) → length cs ≡ length vs
    → ((i : ℕ) (c : Condition) (v : Verdict) → slice_get cs i ≡ Some c → slice_get vs i ≡ Some v → IsJudged certs budget (n + i) c v) → AreJudged certs budget n cs vs
judged_from certs budget n [] [] same h = tt
judged_from certs budget n [] (v ∷ vs) same h = absurd (omega (arith, same))
judged_from certs budget n (c ∷ cs) [] same h = absurd (omega (arith, same))
judged_from certs budget n (c ∷ cs) (v ∷ vs) same h =
    let here : n + 0 ≡ n = omega arith in (
      subst (λ (m : ℕ). IsJudged certs budget m c v) here (h 0 c v refl refl),
      judged_from certs budget (n + 1) cs vs (omega (arith, same))
          (λ i d w a b. let later : n + suc i ≡ n + 1 + i = omega arith in subst (λ (m : ℕ). IsJudged certs budget m d w) later (h (suc i) d w a b)),
    )

-- what stands at its place stands in order
pub in_their_order : (certs : Certificates) (budget count : ℕ) (cs : List Condition) (slots : Slots) (vs : List Verdict) → length cs ≡ count → length slots ≡ count → map Some vs ≡ slots → ArePlaced certs budget cs slots → AreJudged certs budget 1 cs vs
in_their_order certs budget count cs slots vs many long is placed =
    judged_from certs budget 1 cs vs (omega (arith, many, long, ap length is, length-map vs some_verdict)) there
  where
    some_verdict : Verdict → Option Verdict
    some_verdict v = Some v

    there : (i : ℕ) (c : Condition) (v : Verdict) → slice_get cs i ≡ Some c → slice_get vs i ≡ Some v → IsJudged certs budget (1 + i) c v
    there i c v a b =
        let h = placed i v (sym (ap (λ (xs : Slots). slice_get xs i) is) ∙ some_there vs i v b) in
        let next : i + 1 ≡ 1 + i = omega arith in
        subst (λ (m : ℕ). IsJudged certs budget m c v) next (subst (λ (d : Condition). IsJudged certs budget (i + 1) d v) (same_condition_there h.condition c (sym h.here ∙ a)) h.judged)
