-- The types that a condition lists: what the formula of a listed type tests is listed too.
use Rattle.std.proofs.Common.{◌≡◌, ◌<◌, ◌≤◌, ◌+◌, ◌⊎◌, inl, inr, ℕ, zero, suc, Bool, true, false, cond, eqb, ◌&&◌, ◌||◌, nat_lt, List, [], ◌∷◌, ◌++◌, length, refl, sym, ap, subst, arith}
use Rattle.std.proofs.lemmas.Bool.{and_parts, cases_lt, lt-ltb, ltb-true, or_cases, or_left, or_right, eqb-true}
use Rattle.wy_sound_terms.specs.wy_core.CoreTree.{Alias}
use Rattle.wy_lemmas.proofs.Choices.{eqb_itself as eqb_self}
use Rattle.wy_sound_terms.specs.wy_sem.TypeTests.{no_alias, alias_at}
use Rattle.wy_sound_terms.specs.wy_vc_spec.Owed.{Owed}
use Rattle.wy_sound_terms.specs.wy_vc_spec.Values.{Setting, defined, named_in, test_name, test_formula}
use Rattle.wy_sound_terms.specs.wy_vc_spec.Limits.{tests_in, tests_in_all, formulas_of, mentioned, is_among, rising_among, types_of}
use Rattle.wy_sound_terms.proofs.wy_graph_proofs.reach_lemmas.BoundedLemmas.{Grows, bounded}
use Rattle.wy_sound_terms.proofs.wy_sem_proofs.SharedLemmas.{alias_past}

-- ---- numbers among numbers

among_left : (ns ms : List ℕ) (n : ℕ) → is_among ns n ≡ true → is_among (ns ++ ms) n ≡ true
among_left [] ms n h = absurd cc
among_left (k ∷ ns) ms n h = by (λ e. among_left ns ms n e) (or_cases (eqb k n) (is_among ns n) h)
  where
    by : (is_among ns n ≡ true → is_among (ns ++ ms) n ≡ true) → (eqb k n ≡ true) ⊎ (is_among ns n ≡ true) → (eqb k n || is_among (ns ++ ms) n) ≡ true
    by rest (inl e) = or_left (eqb k n) (is_among (ns ++ ms) n) e
    by rest (inr e) = or_right (eqb k n) (is_among (ns ++ ms) n) (rest e)

among_right : (ns ms : List ℕ) (n : ℕ) → is_among ms n ≡ true → is_among (ns ++ ms) n ≡ true
among_right [] ms n h = h
among_right (k ∷ ns) ms n h = or_right (eqb k n) (is_among (ns ++ ms) n) (among_right ns ms n h)

among_either : (ns ms : List ℕ) (n : ℕ) → is_among (ns ++ ms) n ≡ true → (is_among ns n ≡ true) ⊎ (is_among ms n ≡ true)
among_either [] ms n h = inr h
among_either (k ∷ ns) ms n h = by (λ e. among_either ns ms n e) (or_cases (eqb k n) (is_among (ns ++ ms) n) h)
  where
    later : (is_among ns n ≡ true) ⊎ (is_among ms n ≡ true) → ((eqb k n || is_among ns n) ≡ true) ⊎ (is_among ms n ≡ true)
    later (inl e) = inl (or_right (eqb k n) (is_among ns n) e)
    later (inr e) = inr e

    by : (is_among (ns ++ ms) n ≡ true → (is_among ns n ≡ true) ⊎ (is_among ms n ≡ true)) → (eqb k n ≡ true) ⊎ (is_among (ns ++ ms) n ≡ true) → ((eqb k n || is_among ns n) ≡ true) ⊎ (is_among ms n ≡ true)
    by rest (inl e) = inl (or_left (eqb k n) (is_among ns n) e)
    by rest (inr e) = later (rest e)

-- ---- rising numbers

rising_has : (ns : List ℕ) (from j n : ℕ) → from ≤ n → n < from + j → is_among ns n ≡ true → is_among (rising_among ns from j) n ≡ true
rising_has ns from zero n le less h = absurd (omega (arith, le, less))
rising_has ns from (suc j) n le less h = by (λ l. rising_has ns (suc from) j n (omega (arith, l)) (omega (arith, less)) h) (cases_lt from n)
  where
    later : (b : Bool) → is_among (rising_among ns (suc from) j) n ≡ true → is_among (cond b (from ∷ rising_among ns (suc from) j) (rising_among ns (suc from) j)) n ≡ true
    later true e = or_right (eqb from n) (is_among (rising_among ns (suc from) j) n) e
    later false e = e

    here : (b : Bool) → is_among ns from ≡ b → from ≡ n → is_among (cond b (from ∷ rising_among ns (suc from) j) (rising_among ns (suc from) j)) n ≡ true
    here true t e = or_left (eqb from n) (is_among (rising_among ns (suc from) j) n) (subst (λ (m : ℕ). eqb from m ≡ true) e (eqb_self from))
    here false f e = let t : is_among ns from ≡ true = subst (λ (m : ℕ). is_among ns m ≡ true) (sym e) h in absurd cc

    by : (from < n → is_among (rising_among ns (suc from) j) n ≡ true) → (from < n) ⊎ (n ≤ from) → is_among (cond (is_among ns from) (from ∷ rising_among ns (suc from) j) (rising_among ns (suc from) j)) n ≡ true
    by rest (inl l) = later (is_among ns from) (rest l)
    by rest (inr g) = here (is_among ns from) refl (omega (arith, le, g))

-- what is listed is below the count, and among those
pub record IsListed (ns : List ℕ) (from j n : ℕ) : Type 0 where
  pub below : n < from + j
  pub among : is_among ns n ≡ true

pub rising_is : (ns : List ℕ) (from j n : ℕ) → is_among (rising_among ns from j) n ≡ true → IsListed ns from j n
rising_is ns from zero n h = absurd cc
rising_is ns from (suc j) n h = by (λ e. rising_is ns (suc from) j n e) (is_among ns from) refl h
  where
    further : IsListed ns (suc from) j n → IsListed ns from (suc j) n
    further r = let l : n < suc from + j = r.below in record { below = omega (arith, l); among = r.among }

    here : (is_among (rising_among ns (suc from) j) n ≡ true → IsListed ns (suc from) j n) → is_among ns from ≡ true → (eqb from n ≡ true) ⊎ (is_among (rising_among ns (suc from) j) n ≡ true) → IsListed ns from (suc j) n
    here rest t (inl e) = let is : from ≡ n = eqb-true from n e in record { below = omega (arith, is); among = subst (λ (m : ℕ). is_among ns m ≡ true) is t }
    here rest t (inr e) = further (rest e)

    by : (is_among (rising_among ns (suc from) j) n ≡ true → IsListed ns (suc from) j n) → (b : Bool) → is_among ns from ≡ b → is_among (cond b (from ∷ rising_among ns (suc from) j) (rising_among ns (suc from) j)) n ≡ true → IsListed ns from (suc j) n
    by rest true t e = here rest t (or_cases (eqb from n) (is_among (rising_among ns (suc from) j) n) e)
    by rest false f e = further (rest e)

-- ---- what is mentioned

module _ {N : Type 0} (s : Setting N) where
  -- what the formula of a type tests
  abbrev tested : ℕ → List ℕ
  tested n = tests_in (test_formula s n)

  tested_one : (ns : List ℕ) (n k : ℕ) → is_among ns n ≡ true → is_among (tested n) k ≡ true → is_among (tests_in_all (formulas_of s ns)) k ≡ true
  tested_one [] n k h g = absurd cc
  tested_one (m ∷ ns) n k h g = by (λ e. tested_one ns n k e g) (or_cases (eqb m n) (is_among ns n) h)
    where
      by : (is_among ns n ≡ true → is_among (tests_in_all (formulas_of s ns)) k ≡ true) → (eqb m n ≡ true) ⊎ (is_among ns n ≡ true) → is_among (tests_in (test_formula s m) ++ tests_in_all (formulas_of s ns)) k ≡ true
      by rest (inl e) = among_left (tested m) (tests_in_all (formulas_of s ns)) k (subst (λ (x : ℕ). is_among (tested x) k ≡ true) (sym (eqb-true m n e)) g)
      by rest (inr e) = among_right (tested m) (tests_in_all (formulas_of s ns)) k (rest e)

  -- some of these tests it
  record IsTested (ns : List ℕ) (k : ℕ) : Type 0 where
    pub tester : ℕ
    pub among : is_among ns tester ≡ true
    pub tests : is_among (tested tester) k ≡ true

  one_tested : (ns : List ℕ) (k : ℕ) → is_among (tests_in_all (formulas_of s ns)) k ≡ true → IsTested ns k
  one_tested [] k h = absurd cc
  one_tested (m ∷ ns) k h = at (λ e. one_tested ns k e) (among_either (tested m) (tests_in_all (formulas_of s ns)) k h)
    where
      at : (is_among (tests_in_all (formulas_of s ns)) k ≡ true → IsTested ns k) → (is_among (tested m) k ≡ true) ⊎ (is_among (tests_in_all (formulas_of s ns)) k ≡ true) → IsTested (m ∷ ns) k
      at rest (inl e) = record { tester = m; among = or_left (eqb m m) (is_among ns m) (eqb_self m); tests = e }
      at rest (inr e) = let r = rest e in record { tester = r.tester; among = or_right (eqb m r.tester) (is_among ns r.tester) r.among; tests = r.tests }

  -- one step
  abbrev further : List ℕ → List ℕ
  further ns = ns ++ tests_in_all (formulas_of s ns)

  mentioned_further : (j : ℕ) (ns : List ℕ) → mentioned s (suc j) ns ≡ further (mentioned s j ns)
  mentioned_further zero ns = refl
  mentioned_further (suc j) ns = mentioned_further j (further ns)

  mentioned_step : (j : ℕ) (ns : List ℕ) (n k : ℕ) → is_among (mentioned s j ns) n ≡ true → is_among (tested n) k ≡ true → is_among (mentioned s (suc j) ns) k ≡ true
  mentioned_step j ns n k h g =
      subst (λ (l : List ℕ). is_among l k ≡ true) (sym (mentioned_further j ns)) (among_right (mentioned s j ns) (tests_in_all (formulas_of s (mentioned s j ns))) k (tested_one (mentioned s j ns) n k h g))

  mentioned_more : (j : ℕ) (ns : List ℕ) (n : ℕ) → is_among ns n ≡ true → is_among (mentioned s j ns) n ≡ true
  mentioned_more zero ns n h = h
  mentioned_more (suc j) ns n h = mentioned_more j (further ns) n (among_left ns (tests_in_all (formulas_of s ns)) n h)

  -- what is no type tests nothing
  tested_past : (n : ℕ) → length s.types ≤ n → tested n ≡ []
  tested_past n past = ap (λ (a : Alias N). tests_in (defined s (named_in s) a (test_name s n) 1).term) (alias_past s.types n past)

  -- ---- steps

  module _ (begun : List ℕ) where
    abbrev count : ℕ
    count = length s.types

    -- what is mentioned within so many steps
    abbrev within : ℕ → ℕ → Bool
    within zero n = false
    within (suc j) n = nat_lt n count && is_among (mentioned s j begun) n

    both_true : (a b : Bool) → a ≡ true → b ≡ true → (a && b) ≡ true
    both_true true b p q = q
    both_true false b p q = p

    among_of : (j n : ℕ) → within (suc j) n ≡ true → is_among (mentioned s j begun) n ≡ true
    among_of j n h = (and_parts (nat_lt n count) (is_among (mentioned s j begun) n) h).1

    below_of : (j n : ℕ) → within j n ≡ true → n < count
    below_of zero n h = absurd (let e : false ≡ true = h in cc)
    below_of (suc j) n h = ltb-true n count (and_parts (nat_lt n count) (is_among (mentioned s j begun) n) h).0

    is_within : (j n : ℕ) → n < count → is_among (mentioned s j begun) n ≡ true → within (suc j) n ≡ true
    is_within j n less h = both_true (nat_lt n count) (is_among (mentioned s j begun) n) (lt-ltb n count less) h

    -- a type that tests something is one
    testing : (m k : ℕ) → is_among (tested m) k ≡ true → m < count
    testing m k g = by (cases_lt m count)
      where
        by : (m < count) ⊎ (count ≤ m) → m < count
        by (inl less) = less
        by (inr past) = absurd (let e : false ≡ true = subst (λ (l : List ℕ). is_among l k ≡ true) (tested_past m past) g in cc)

    steps : (i j : ℕ) → ((n : ℕ) → within i n ≡ true → within j n ≡ true) → (n : ℕ) → within (suc i) n ≡ true → within (suc j) n ≡ true
    steps zero j up n h = is_within j n (below_of 1 n h) (mentioned_more j begun n (among_of 0 n h))
    steps (suc i) j up n h = by (among_either (mentioned s i begun) (tests_in_all (formulas_of s (mentioned s i begun))) n (subst (λ (l : List ℕ). is_among l n ≡ true) (mentioned_further i begun) (among_of (suc i) n h)))
      where
        less : n < count
        less = below_of (suc (suc i)) n h

        more : (j : ℕ) → within j n ≡ true → within (suc j) n ≡ true
        more zero g = absurd (let e : false ≡ true = g in cc)
        more (suc j) g = is_within (suc j) n less (subst (λ (l : List ℕ). is_among l n ≡ true) (sym (mentioned_further j begun)) (among_left (mentioned s j begun) (tests_in_all (formulas_of s (mentioned s j begun))) n (among_of j n g)))

        next : (j m : ℕ) → is_among (tested m) n ≡ true → within j m ≡ true → within (suc j) n ≡ true
        next zero m t g = absurd (let e : false ≡ true = g in cc)
        next (suc j) m t g = is_within (suc j) n less (mentioned_step j begun m n (among_of j m g) t)

        by : (is_among (mentioned s i begun) n ≡ true) ⊎ (is_among (tests_in_all (formulas_of s (mentioned s i begun))) n ≡ true) → within (suc j) n ≡ true
        by (inl e) = more j (up n (is_within i n less e))
        by (inr e) = let r = one_tested (mentioned s i begun) n e in next j r.tester r.tests (up r.tester (is_within i r.tester (testing r.tester n r.tests) r.among))

    grows : Grows within count
    grows = record { empty = λ n h. let e : false ≡ true = h in cc; steps = steps; within = below_of }

    -- what the formula of a mentioned type tests is mentioned
    closed : (n k : ℕ) → is_among (mentioned s count begun) n ≡ true → is_among (tested n) k ≡ true → k < count → is_among (mentioned s count begun) k ≡ true
    closed n k h g less = by count (bounded within count grows (suc (suc count)) k (is_within (suc count) k less (mentioned_step count begun n k h g)))
      where
        by : (j : ℕ) → within j k ≡ true → is_among (mentioned s j begun) k ≡ true
        by zero e = absurd (let f : false ≡ true = e in cc)
        by (suc j) e = subst (λ (l : List ℕ). is_among l k ≡ true) (sym (mentioned_further j begun)) (among_left (mentioned s j begun) (tests_in_all (formulas_of s (mentioned s j begun))) k (among_of j k e))

  -- ---- listed types

  pub listed_below : (c : Owed) (n : ℕ) → is_among (types_of s c) n ≡ true → n < length s.types
  listed_below c n h = let l : n < 0 + length s.types = (rising_is (mentioned s (length s.types) (tests_in_all (c.hyps ++ c.goal ∷ []))) 0 (length s.types) n h).below in omega (arith, l)

  -- what the formula of a listed type tests is listed
  pub tests_listed : (c : Owed) (n k : ℕ) → is_among (types_of s c) n ≡ true → is_among (tests_in (test_formula s n)) k ≡ true → k < length s.types → is_among (types_of s c) k ≡ true
  tests_listed c n k h g less =
      let begun = tests_in_all (c.hyps ++ c.goal ∷ []) in
      let r = rising_is (mentioned s (length s.types) begun) 0 (length s.types) n h in
      rising_has (mentioned s (length s.types) begun) 0 (length s.types) k (omega arith) (omega (arith, less)) (closed begun n k r.among g less)

  -- what the condition itself tests is listed
  pub mentioned_listed : (c : Owed) (n : ℕ) → is_among (tests_in_all (c.hyps ++ c.goal ∷ [])) n ≡ true → n < length s.types → is_among (types_of s c) n ≡ true
  mentioned_listed c n h less =
      let begun = tests_in_all (c.hyps ++ c.goal ∷ []) in
      rising_has (mentioned s (length s.types) begun) 0 (length s.types) n (omega arith) (omega (arith, less)) (mentioned_more (length s.types) begun n h)
