-- What the tests of named types stand for.
use Rattle.std.proofs.Common.{◌≡◌, ◌<◌, ◌≤◌, ◌+◌, ℕ, zero, suc, List, [], ◌∷◌, ◌++◌, length, map, slice_index_or, refl, sym, ◌∙◌, ap, subst, arith, inl, inr}
use Rattle.std.proofs.lemmas.Bool.{cases_lt}
use Rattle.std.proofs.lemmas.List.{append-nil}
use Rattle.wy_core.specs.CoreTree.{Alias}
use Rattle.wy_sem.specs.TypeTests.{alias_at, no_alias}
use Rattle.wy_term.specs.Term.{Term}
use Rattle.wy_term.specs.Nodes.{Plain, tree_at}
use Rattle.wy_term.specs.Numbers.{IsAt}
use Rattle.wy_vc_spec.specs.Limits as limits
use Rattle.wy_vc_spec.specs.Limits.{formulas_of, is_among, tests_in, tests_in_all}
use Rattle.wy_vc_spec.specs.Numbered.{Node}
use Rattle.wy_vc_spec.specs.Values.{Setting, defined, named_in, test_name, test_formula}
use Rattle.wy_vc_body.specs.wy_vc_operations.Growing.{Kept}
use Rattle.wy_vc.specs.Meanings.{AreMeanings, AreMeaningsFrom, IsMeaning, tests_at}
use Rattle.wy_vc.specs.Mentioned.{reached, tested_by}
use Rattle.wy_vc.specs.declared.unfolding.Meaning.{Meaning}
use Rattle.wy_vc.proofs.MentionedLemmas.{same_reached}

-- ---- as terms grow

at_on : (old new : List Plain) (k : ℕ) (t : Term) → Kept old new → IsAt old k t → IsAt new k t
at_on old new k t kept at = record { within = let g = kept.grows in let w = at.within in omega (arith, g, w); is = kept.trees k at.within ∙ at.is }

pub meaning_on : (old new : List Plain) (s : Setting Node) (n : ℕ) (m : Meaning) → Kept old new → IsMeaning old s n m → IsMeaning new s n m
meaning_on old new s n m kept is = record {
  name = at_on old new m.name (test_name s n) kept is.name;
  formula = at_on old new m.formula (test_formula s n) kept is.formula;
  tests = is.tests;
}

pub meanings_on : (old new : List Plain) (s : Setting Node) (n : ℕ) (ms : List Meaning) → Kept old new → AreMeaningsFrom old s n ms → AreMeaningsFrom new s n ms
meanings_on old new s n [] kept are = tt
meanings_on old new s n (m ∷ ms) kept are = (meaning_on old new s n m kept are.0, meanings_on old new s (suc n) ms kept are.1)

-- ---- one more

pub meanings_push : (nodes : List Plain) (s : Setting Node) (n : ℕ) (ms : List Meaning) (m : Meaning) → AreMeaningsFrom nodes s n ms → IsMeaning nodes s (n + length ms) m → AreMeaningsFrom nodes s n (ms ++ m ∷ [])
meanings_push nodes s n [] m are is = let e : n + 0 ≡ n = omega arith in (subst (λ (k : ℕ). IsMeaning nodes s k m) e is, tt)
meanings_push nodes s n (x ∷ ms) m are is = let e : n + suc (length ms) ≡ suc n + length ms = omega arith in (are.0, meanings_push nodes s (suc n) ms m are.1 (subst (λ (k : ℕ). IsMeaning nodes s k m) e is))

-- so many have meanings
pub record IsMeaningUpTo (old new : List Plain) (s : Setting Node) (n : ℕ) (ms : List Meaning) : Type 0 where
  pub kept : Kept old new
  pub count : length ms ≡ n
  pub are : AreMeaningsFrom new s 0 ms

pub up_to_begin : (nodes : List Plain) (s : Setting Node) (ms : List Meaning) → ms ≡ [] → IsMeaningUpTo nodes nodes s 0 ms
up_to_begin nodes s ms is = subst (λ (l : List Meaning). IsMeaningUpTo nodes nodes s 0 l) (sym is) (record { kept = record { grows = omega arith; trees = λ t lt. refl }; count = refl; are = tt })

kept_on : (a b c : List Plain) → Kept a b → Kept b c → Kept a c
kept_on a b c k l = record {
  grows = let g = k.grows in let h = l.grows in omega (arith, g, h);
  trees = λ t lt. l.trees t (let g = k.grows in omega (arith, g, lt)) ∙ k.trees t lt;
}

pub up_to_turn : (a b c : List Plain) (s : Setting Node) (n : ℕ) (ms ns : List Meaning) (m : Meaning) → IsMeaningUpTo a b s n ms → Kept b c → IsMeaning c s n m → ns ≡ ms ++ m ∷ [] → IsMeaningUpTo a c s (n + 1) ns
up_to_turn a b c s n ms ns m inv kept is pushed = subst (λ (l : List Meaning). IsMeaningUpTo a c s (n + 1) l) (sym pushed) (record {
  kept = kept_on a b c inv.kept kept;
  count = length_push ms ∙ ap (λ (k : ℕ). k + 1) inv.count;
  are = meanings_push c s 0 ms m (meanings_on b c s 0 ms kept inv.are) (let e : length ms ≡ 0 + length ms = omega arith in subst (λ (k : ℕ). IsMeaning c s k m) (sym inv.count ∙ e) is);
})
  where
    length_push : (l : List Meaning) → length (l ++ m ∷ []) ≡ length l + 1
    length_push [] = refl
    length_push (x ∷ l) = let r = length_push l in omega (arith, r)

-- ---- what the test of a named type tests

one_formula : (f : Term) → tests_in_all (f ∷ []) ≡ tests_in f
one_formula f = append-nil (tests_in f)

-- what was made is the meaning
pub meaning_made : (nodes : List Plain) (s : Setting Node) (n : ℕ) (m : Meaning) (roots : List ℕ) → IsAt nodes m.name (test_name s n) → IsAt nodes m.formula (test_formula s n) → roots ≡ m.formula ∷ []
    → ((k : ℕ) → is_among m.tests.items k ≡ is_among (tests_in_all (map (tree_at nodes) roots)) k) → IsMeaning nodes s n m
meaning_made nodes s n m roots name formula is tests = record {
  name = name;
  formula = formula;
  tests = λ k. tests k ∙ ap (λ (l : List ℕ). is_among (tests_in_all (map (tree_at nodes) l)) k) is ∙ ap (λ (l : List ℕ). is_among l k) (one_formula (tree_at nodes m.formula)) ∙ ap (λ (t : Term). is_among (tests_in t) k) formula.is;
}

alias_past : (types : List (Alias Node)) (n : ℕ) → length types ≤ n → alias_at types n ≡ no_alias
alias_past [] n past = refl
alias_past (a ∷ types) zero past = absurd (omega (arith, past))
alias_past (a ∷ types) (suc n) past = alias_past types n (omega (arith, past))

-- what is no type tests nothing
tests_past : (s : Setting Node) (n : ℕ) → length s.types ≤ n → tests_in (test_formula s n) ≡ []
tests_past s n past = ap (λ (a : Alias Node). tests_in (defined s (named_in s) a (test_name s n) 1).term) (alias_past s.types n past)

at_past : (ms : List Meaning) (n : ℕ) → length ms ≤ n → tests_at ms n ≡ []
at_past [] n past = refl
at_past (m ∷ ms) zero past = absurd (omega (arith, past))
at_past (m ∷ ms) (suc n) past = at_past ms n (omega (arith, past))

-- a type tests what its meaning says
pub tests_some : (ms : List Meaning) (n : ℕ) (m : Meaning) → n < length ms → m ≡ slice_index_or ms n m → m.tests.items ≡ tests_at ms n
tests_some [] n m lt is = absurd (omega (arith, lt))
tests_some (x ∷ ms) zero m lt is = ap (λ (y : Meaning). y.tests.items) is
tests_some (x ∷ ms) (suc n) m lt is = tests_some ms n m (omega (arith, lt)) is

pub no_tests : (ms : List Meaning) (n : ℕ) → length ms ≤ n → tests_at ms n ≡ []
no_tests ms n past = at_past ms n past

tests_from : (nodes : List Plain) (s : Setting Node) (base : ℕ) (ms : List Meaning) (n k : ℕ) → AreMeaningsFrom nodes s base ms → n < length ms → is_among (tests_at ms n) k ≡ is_among (tests_in (test_formula s (base + n))) k
tests_from nodes s base [] n k are lt = absurd (omega (arith, lt))
tests_from nodes s base (m ∷ ms) zero k are lt = let e : base ≡ base + 0 = omega arith in are.0.tests k ∙ ap (λ (i : ℕ). is_among (tests_in (test_formula s i)) k) e
tests_from nodes s base (m ∷ ms) (suc n) k are lt = let e : suc base + n ≡ base + suc n = omega arith in tests_from nodes s (suc base) ms n k are.1 (omega (arith, lt)) ∙ ap (λ (i : ℕ). is_among (tests_in (test_formula s i)) k) e

tests_are : (nodes : List Plain) (s : Setting Node) (ms : List Meaning) → AreMeanings nodes s ms → (n k : ℕ) → is_among (tests_at ms n) k ≡ is_among (tests_in (test_formula s n)) k
tests_are nodes s ms are n k = elim (cases_lt n (length ms)) as (λ _. is_among (tests_at ms n) k ≡ is_among (tests_in (test_formula s n)) k) [
  | inl lt ↦ let e : 0 + n ≡ n = omega arith in tests_from nodes s 0 ms n k are.are lt ∙ ap (λ (i : ℕ). is_among (tests_in (test_formula s i)) k) e
  | inr past ↦ ap (λ (l : List ℕ). is_among l k) (at_past ms n past) ∙ sym (ap (λ (l : List ℕ). is_among l k) (tests_past s n (let c = are.count in omega (arith, past, c))))
]

-- ---- what is mentioned

formulas_tested : (s : Setting Node) (ns : List ℕ) → tests_in_all (formulas_of s ns) ≡ tested_by (λ n. tests_in (test_formula s n)) ns
formulas_tested s [] = refl
formulas_tested s (n ∷ ns) = ap (λ (l : List ℕ). tests_in (test_formula s n) ++ l) (formulas_tested s ns)

mentioned_is : (s : Setting Node) (j : ℕ) (ns : List ℕ) → limits.mentioned s j ns ≡ reached (λ n. tests_in (test_formula s n)) j ns
mentioned_is s zero ns = refl
mentioned_is s (suc j) ns = ap (λ (l : List ℕ). limits.mentioned s j (ns ++ l)) (formulas_tested s ns) ∙ mentioned_is s j (ns ++ tested_by (λ n. tests_in (test_formula s n)) ns)

-- by the meanings as by the definition
pub reached_mentioned : (nodes : List Plain) (s : Setting Node) (ms : List Meaning) (begun ns : List ℕ) → AreMeanings nodes s ms → ((k : ℕ) → is_among begun k ≡ is_among ns k)
    → (n : ℕ) → is_among (reached (tests_at ms) (length ms) begun) n ≡ is_among (limits.mentioned s (length s.types) ns) n
reached_mentioned nodes s ms begun ns are same n =
    ap (λ (j : ℕ). is_among (reached (tests_at ms) j begun) n) are.count
    ∙ same_reached (tests_at ms) (λ m. tests_in (test_formula s m)) (length s.types) begun ns (tests_are nodes s ms are) same n
    ∙ sym (ap (λ (l : List ℕ). is_among l n) (mentioned_is s (length s.types) ns))
