-- Instances and witnesses of true literals are true.
use Rattle.std.proofs.Common.{◌≡◌, ℕ, zero, suc, List, [], ◌∷◌, ◌++◌, Bool, true, false, cond, ◌&&◌, ◌||◌, ℤ, pos, negsuc, ◌+ℤ◌, ◌-ℤ◌, ◌≤ℤ◌, ◌<ℤ◌, Some, refl, sym, ap, ◌∙◌, subst, arith}
use Rattle.std.proofs.lemmas.Int.{ints}
use Rattle.std.specs.Prelude.{int_lt}
use Rattle.wy_lemmas.proofs.Choices.{both_parts as and_both, or_false}
use Rattle.wy_lemmas.proofs.Options.{some_same as some_is}
use Rattle.wy_check_spec.proofs.wy_term_subst_proofs.sorted_lemmas.SortedLemmas.{own_number}
use Rattle.wy_check_spec.specs.wy_term.Term.{Term, Of, no_parts, part, leaf, int_name, every, exists}
use Rattle.wy_check_spec.specs.wy_term.Sorts.{int_sort, formula_sort}
use Rattle.wy_check_spec.specs.wy_term.Scope.{free_names}
use Rattle.wy_check_spec.specs.wy_term.Meaning.{Names, with_number, Sense, sense, distance, each_from, any_from}
use Rattle.wy_check_spec.specs.wy_term.Condition.{AllTrue}
use Rattle.wy_check_spec.specs.wy_facts.Made.{is_at_most, denial, one_of_three}
use Rattle.wy_check_spec.proofs.wy_facts_proofs.SenseLemmas.{at_most_holds, not_at_most_says, below_holds, not_below_says, denial_holds, one_of_three_holds}
use Rattle.wy_check_spec.specs.wy_term_subst.Names.{numbers_in, is_in}
use Rattle.wy_check_spec.specs.wy_term_subst.Substitution.{substituted}
use Rattle.wy_check_spec.specs.wy_term_subst.sorted.Sorted.{IsSorted}
use Rattle.wy_check_spec.specs.wy_term_subst.kept_sorts.SortKept.{HasSort}
use Rattle.wy_check_spec.specs.valid.Ranges.{Range, as_every, as_exists, instance_at, witnessed_at}
use Rattle.wy_check_laws.proofs.sound_lemmas.FreeLemmas.{AllSame, both_numbered, rests_on_free_names}
use Rattle.wy_check_laws.proofs.sound_lemmas.FreshLemmas.{apart_in, free_same, fresh_sense}
use Rattle.wy_check_laws.proofs.sound_lemmas.PutLemmas.{truth_at_number}

-- ---- numbers of a range

none_within : (s z : ℤ) → s ≤ℤ z → z <ℤ (s +ℤ pos 0) → ⊥
none_within s z le lt = omega (arith, ints, le, lt)

less_is : (a b : ℤ) → int_lt a b ≡ true → a <ℤ b
less_is a b e = grind (arith, ints)

less_not : (a b : ℤ) → int_lt a b ≡ false → b ≤ℤ a
less_not a b e = grind (arith, ints)

next_up : (s z : ℤ) → s <ℤ z → (s +ℤ pos 1) ≤ℤ z
next_up s z lt = omega (arith, ints, lt)

still_below : (s z : ℤ) (n : ℕ) → z <ℤ (s +ℤ pos (suc n)) → z <ℤ ((s +ℤ pos 1) +ℤ pos n)
still_below s z n lt = omega (arith, ints, lt)

back_up : (s z : ℤ) → (s +ℤ pos 1) ≤ℤ z → s ≤ℤ z
back_up s z le = omega (arith, ints, le)

back_below : (s z : ℤ) (n : ℕ) → z <ℤ ((s +ℤ pos 1) +ℤ pos n) → z <ℤ (s +ℤ pos (suc n))
back_below s z n lt = omega (arith, ints, lt)

only_one : (s z : ℤ) → s ≤ℤ z → z ≤ℤ s → s ≡ z
only_one s z le ge = omega (arith, ints, le, ge)

itself : (s : ℤ) → s ≤ℤ s
itself s = omega (arith, ints)

below_more : (s : ℤ) (n : ℕ) → s <ℤ (s +ℤ pos (suc n))
below_more s n = omega (arith, ints)

-- a test that holds of each number of a range holds of one in it
each_at : (n : ℕ) (s z : ℤ) (test : ℤ → Bool) → each_from s n test ≡ true → s ≤ℤ z → z <ℤ (s +ℤ pos n) → test z ≡ true
each_at zero s z test e le lt = absurd (none_within s z le lt)
each_at (suc n) s z test e le lt = by (int_lt s z) refl (each_at n (s +ℤ pos 1) z test (and_both (test s) (each_from (s +ℤ pos 1) n test) e).1)
  where
    by : (b : Bool) → int_lt s z ≡ b → ((s +ℤ pos 1) ≤ℤ z → z <ℤ ((s +ℤ pos 1) +ℤ pos n) → test z ≡ true) → test z ≡ true
    by true is rest = rest (next_up s z (less_is s z is)) (still_below s z n lt)
    by false is rest = subst (λ (y : ℤ). test y ≡ true) (only_one s z le (less_not s z is)) (and_both (test s) (each_from (s +ℤ pos 1) n test) e).0

-- a test that holds of no number of a range fails of one in it
none_at : (n : ℕ) (s z : ℤ) (test : ℤ → Bool) → any_from s n test ≡ false → s ≤ℤ z → z <ℤ (s +ℤ pos n) → test z ≡ false
none_at zero s z test e le lt = absurd (none_within s z le lt)
none_at (suc n) s z test e le lt = by (int_lt s z) refl (none_at n (s +ℤ pos 1) z test (or_false (test s) (any_from (s +ℤ pos 1) n test) e).1)
  where
    by : (b : Bool) → int_lt s z ≡ b → ((s +ℤ pos 1) ≤ℤ z → z <ℤ ((s +ℤ pos 1) +ℤ pos n) → test z ≡ false) → test z ≡ false
    by true is rest = rest (next_up s z (less_is s z is)) (still_below s z n lt)
    by false is rest = subst (λ (y : ℤ). test y ≡ false) (only_one s z le (less_not s z is)) (or_false (test s) (any_from (s +ℤ pos 1) n test) e).0

-- a number of a range at which a test answers so
record Found (s : ℤ) (n : ℕ) (test : ℤ → Bool) (b : Bool) : Type 0 where
  number : ℤ
  above : s ≤ℤ number
  below : number <ℤ (s +ℤ pos n)
  answers : test number ≡ b

found_later : (s : ℤ) (n : ℕ) (test : ℤ → Bool) (b : Bool) → Found (s +ℤ pos 1) n test b → Found s (suc n) test b
found_later s n test b f = record { number = f.number; above = back_up s f.number f.above; below = back_below s f.number n f.below; answers = f.answers }

found_first : (s : ℤ) (n : ℕ) (test : ℤ → Bool) (b : Bool) → test s ≡ b → Found s (suc n) test b
found_first s n test b e = record { number = s; above = itself s; below = below_more s n; answers = e }

some_at : (n : ℕ) (s : ℤ) (test : ℤ → Bool) → any_from s n test ≡ true → Found s n test true
some_at zero s test e = absurd cc
some_at (suc n) s test e = by (test s) refl e (some_at n (s +ℤ pos 1) test)
  where
    by : (b : Bool) → test s ≡ b → (b || any_from (s +ℤ pos 1) n test) ≡ true → (any_from (s +ℤ pos 1) n test ≡ true → Found (s +ℤ pos 1) n test true) → Found s (suc n) test true
    by true is h rest = found_first s n test true is
    by false is h rest = found_later s n test true (rest h)

fails_at : (n : ℕ) (s : ℤ) (test : ℤ → Bool) → each_from s n test ≡ false → Found s n test false
fails_at zero s test e = absurd cc
fails_at (suc n) s test e = by (test s) refl e (fails_at n (s +ℤ pos 1) test)
  where
    by : (b : Bool) → test s ≡ b → (b && each_from (s +ℤ pos 1) n test) ≡ false → (each_from (s +ℤ pos 1) n test ≡ false → Found (s +ℤ pos 1) n test false) → Found s (suc n) test false
    by true is h rest = found_later s n test false (rest h)
    by false is h rest = found_first s n test false is

-- between the bounds, and so many numbers from the first bound on
in_span : (s u z d : ℤ) → d ≡ u -ℤ s → s ≤ℤ z → z <ℤ u → z <ℤ (s +ℤ pos (distance d))
in_span s u z (pos n) e le lt = omega (arith, ints, e, le, lt)
in_span s u z (negsuc n) e le lt = omega (arith, ints, e, le, lt)

of_span : (s u z d : ℤ) → d ≡ u -ℤ s → s ≤ℤ z → z <ℤ (s +ℤ pos (distance d)) → z <ℤ u
of_span s u z (pos n) e le lt = omega (arith, ints, e, le, lt)
of_span s u z (negsuc n) e le lt = omega (arith, ints, e, le, lt)

-- ---- instances

abbrev num : Names → Term → ℤ
num names t = (sense names t).number

-- the truth of a body where its bound name stands for a number
abbrev at_number : Names → List ℕ → ℕ → Term → ℤ → Bool
at_number names w n f z = (sense (with_number names w n z) f).truth

instance_by : (names : Names) (w : List ℕ) (n : ℕ) (s u f t g : Term) → (num names s ≤ℤ num names t → num names t <ℤ num names u → (sense names g).truth ≡ true) → (sense names (one_of_three (denial (is_at_most s t)) (is_at_most u t) g)).truth ≡ true
instance_by names w n s u f t g h =
    one_of_three_holds names (denial (is_at_most s t)) (is_at_most u t) g (λ e k. h (not_below_says names t s e) (not_at_most_says names u t k))

instance_true : (names : Names) (b : Bool) (a : Term) (r : Range) (t : Term) → (sense names a).truth ≡ b → IsSorted a → HasSort t int_sort → cond b (as_every a) (as_exists a) ≡ Some r → (sense names (instance_at b r t)).truth ≡ true
instance_true names true (Of (every w n) (part s (part u (part f no_parts)))) r t told sorted is_t e =
    let made : Range = record { word = w; number = n; lower = s; upper = u; body = f } in
    subst (λ (q : Range). (sense names (instance_at true q t)).truth ≡ true) (some_is made r e)
    (instance_by names w n s u f t (substituted f (leaf (int_name w n)) t)
    (λ le lt. truth_at_number names w n f t (sorted.2.2.1, sorted.2.2.0) is_t
    ∙ each_at (distance (num names u -ℤ num names s)) (num names s) (num names t) (at_number names w n f) told le (in_span (num names s) (num names u) (num names t) (num names u -ℤ num names s) refl le lt)))
instance_true names false (Of (exists w n) (part s (part u (part f no_parts)))) r t told sorted is_t e =
    let made : Range = record { word = w; number = n; lower = s; upper = u; body = f } in
    subst (λ (q : Range). (sense names (instance_at false q t)).truth ≡ true) (some_is made r e)
    (instance_by names w n s u f t (denial (substituted f (leaf (int_name w n)) t))
    (λ le lt. denial_holds names (substituted f (leaf (int_name w n)) t)
    (truth_at_number names w n f t (sorted.2.2.1, sorted.2.2.0) is_t
    ∙ none_at (distance (num names u -ℤ num names s)) (num names s) (num names t) (at_number names w n f) told le (in_span (num names s) (num names u) (num names t) (num names u -ℤ num names s) refl le lt))))
instance_true names b a r t told sorted is_t e = absurd cc

-- an instance of a true literal is true
pub instance_holds : (names : Names) (b : Bool) (a : Term) (r : Range) (t : Term) → (sense names a).truth ≡ b → IsSorted a → HasSort t int_sort → cond b (as_every a) (as_exists a) ≡ Some r → (sense names (instance_at b r t)).truth ≡ true
instance_holds names b a r t told sorted is_t e = instance_true names b a r t told sorted is_t e

-- ---- witnesses

numbered_all : (names others : Names) (w : List ℕ) (n : ℕ) (z : ℤ) (xs : List Term) → AllSame names others xs → AllSame (with_number names w n z) (with_number others w n z) xs
numbered_all names others w n z [] f = tt
numbered_all names others w n z (x ∷ xs) f = (both_numbered names others w n z x f.0, numbered_all names others w n z xs f.1)

up_to : (a b c d : ℤ) → a ≤ℤ b → a ≡ c → b ≡ d → c ≤ℤ d
up_to a b c d le e f = omega (arith, ints, le, e, f)

up_below : (a b c d : ℤ) → a <ℤ b → a ≡ c → b ≡ d → c <ℤ d
up_below a b c d lt e f = omega (arith, ints, lt, e, f)

-- a bound name, its range, and a number that its witness has
module _ (names : Names) (w : List ℕ) (n m : ℕ) (s u f : Term) (z : ℤ) (out_s : is_in m (numbers_in s) ≡ false) (out_u : is_in m (numbers_in u) ≡ false) (out_f : is_in m (numbers_in f) ≡ false) (is_f : HasSort f formula_sort) where
  abbrev new_name : Term
  new_name = leaf (int_name w m)

  abbrev renamed : Names
  renamed = with_number names w m z

  is_z : num renamed new_name ≡ z
  is_z = own_number names w m z

  lower_holds : num names s ≤ℤ z → (sense renamed (is_at_most s new_name)).truth ≡ true
  lower_holds le = at_most_holds renamed s new_name (up_to (num names s) z (num renamed s) (num renamed new_name) le (ap (λ (x : Sense). x.number) (fresh_sense names w m z s out_s)) (sym is_z))

  upper_holds : z <ℤ num names u → (sense renamed (denial (is_at_most u new_name))).truth ≡ true
  upper_holds lt = below_holds renamed new_name u (up_below z (num names u) (num renamed new_name) (num renamed u) lt (sym is_z) (ap (λ (x : Sense). x.number) (fresh_sense names w m z u out_u)))

  body_means : (sense renamed (substituted f (leaf (int_name w n)) new_name)).truth ≡ at_number names w n f z
  body_means =
      truth_at_number renamed w n f new_name is_f (tt, refl)
      ∙ (ap (λ (y : ℤ). at_number renamed w n f y) is_z
      ∙ sym (ap (λ (x : Sense). x.truth) (rests_on_free_names f (with_number names w n z) (with_number renamed w n z) refl (numbered_all names renamed w n z (free_names f) (free_same names w m z f out_f)))))

-- a number that the witness may stand for
pub record Witnessed (names : Names) (b : Bool) (r : Range) (m : ℕ) : Type 0 where
  pub number : ℤ
  pub holds : AllTrue (with_number names r.word m number) (witnessed_at b r (leaf (int_name r.word m)))

-- where a number stands in none of the parts
parts_out : (m n : ℕ) (s u f : Term) → is_in m (n ∷ (numbers_in s ++ (numbers_in u ++ (numbers_in f ++ [])))) ≡ false → (is_in m (numbers_in s) ≡ false) × (is_in m (numbers_in u) ≡ false) × (is_in m (numbers_in f) ≡ false)
parts_out m n s u f e =
    let a = apart_in m (n ∷ []) (numbers_in s ++ (numbers_in u ++ (numbers_in f ++ []))) e in
    let b = apart_in m (numbers_in s) (numbers_in u ++ (numbers_in f ++ [])) a.1 in
    let c = apart_in m (numbers_in u) (numbers_in f ++ []) b.1 in
    let d = apart_in m (numbers_in f) [] c.1 in
    (b.0, c.0, d.0)

-- a true literal that asks for a witness has one, under a number that stands nowhere in it
pub witness_holds : (names : Names) (b : Bool) (a : Term) (r : Range) (m : ℕ) → (sense names a).truth ≡ b → IsSorted a → is_in m (numbers_in a) ≡ false → cond b (as_exists a) (as_every a) ≡ Some r → Witnessed names b r m
witness_holds names true (Of (exists w n) (part s (part u (part f no_parts)))) r m told sorted out e =
    let made : Range = record { word = w; number = n; lower = s; upper = u; body = f } in
    let p = parts_out m n s u f out in
    let z = some_at (distance (num names u -ℤ num names s)) (num names s) (at_number names w n f) told in
    let is_f : HasSort f formula_sort = (sorted.2.2.1, sorted.2.2.0) in
    subst (λ (q : Range). Witnessed names true q m) (some_is made r e)
    (record {
      number = z.number;
      holds = (lower_holds names w n m s u f z.number p.0 p.1 p.2 is_f z.above, (upper_holds names w n m s u f z.number p.0 p.1 p.2 is_f (of_span (num names s) (num names u) z.number (num names u -ℤ num names s) refl z.above z.below), (body_means names w n m s u f z.number p.0 p.1 p.2 is_f ∙ z.answers, tt)));
    })
witness_holds names false (Of (every w n) (part s (part u (part f no_parts)))) r m told sorted out e =
    let made : Range = record { word = w; number = n; lower = s; upper = u; body = f } in
    let p = parts_out m n s u f out in
    let z = fails_at (distance (num names u -ℤ num names s)) (num names s) (at_number names w n f) told in
    let is_f : HasSort f formula_sort = (sorted.2.2.1, sorted.2.2.0) in
    subst (λ (q : Range). Witnessed names false q m) (some_is made r e)
    (record {
      number = z.number;
      holds = (lower_holds names w n m s u f z.number p.0 p.1 p.2 is_f z.above, (upper_holds names w n m s u f z.number p.0 p.1 p.2 is_f (of_span (num names s) (num names u) z.number (num names u -ℤ num names s) refl z.above z.below), (denial_holds (with_number names w m z.number) (substituted f (leaf (int_name w n)) (leaf (int_name w m))) (body_means names w n m s u f z.number p.0 p.1 p.2 is_f ∙ z.answers), tt)));
    })
witness_holds names b a r m told sorted out e = absurd cc
