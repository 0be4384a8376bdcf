-- The conditions of a program are formed.
use Rattle.std.proofs.Common.{◌≢◌, ◌<◌, ℕ, zero, suc, Bool, true, false, cond, List, [], ◌∷◌, ◌++◌, map, length, arith}
use Rattle.wy_term_subst.specs.wy_term.Term.{Term}
use Rattle.wy_term_subst.specs.wy_term.Sorts.{Sort, formula_sort}
use Rattle.wy_term_subst.specs.wy_term.Unfolding.{IsUnlisted, AreListedOnce}
use Rattle.wy_vc_spec.specs.Numbered.{numbered_core}
use Rattle.wy_vc_spec.specs.Values.{Setting}
use Rattle.wy_vc_spec.specs.Owed.{Owed}
use Rattle.wy_vc_spec.specs.Limits.{tests_in_all, mentioned, is_among, rising_among, types_of, unfolded, unfold_of}
use Rattle.wy_vc_spec.specs.Programs.{setting_of}
use Rattle.wy_sound_terms.specs.formed.OwedConditions.{with_types, AllHave, AllTold, IsWellFormed, AreWellFormed, OwedConditionsAreFormed}
use Rattle.wy_sound_terms.proofs.formed_lemmas.MakingLemmas.{AllOf, none, more}
use Rattle.wy_sound_terms.proofs.formed_lemmas.ValueLemmas.{test_sorted}
use Rattle.wy_sound_terms.proofs.formed_lemmas.WalkLemmas.{IsFormula, AreOwed, nothing, owed}
use Rattle.wy_sound_terms.proofs.formed_lemmas.ProgramLemmas.{program_owed}
use Rattle.wy_sound_terms.proofs.formed_lemmas.ClosedLemmas.{tests_closed}

-- ---- listed once

differ : (n m : ℕ) → n < m → n ≢ m
differ n m less e = omega (arith, less, e)

unlisted_before : {N : Type 0} (s : Setting N) (ns : List ℕ) (n from j : ℕ) → n < from → IsUnlisted n (map (unfolded s) (rising_among ns from j))
unlisted_before s ns n from zero less = tt
unlisted_before s ns n from (suc j) less = by (is_among ns from) (unlisted_before s ns n (suc from) j (omega (arith, less)))
  where
    by : (b : Bool) → IsUnlisted n (map (unfolded s) (rising_among ns (suc from) j)) → IsUnlisted n (map (unfolded s) (cond b (from ∷ rising_among ns (suc from) j) (rising_among ns (suc from) j)))
    by true rest = (differ n from less, rest)
    by false rest = rest

rising_once : {N : Type 0} (s : Setting N) (ns : List ℕ) (from j : ℕ) → AreListedOnce (map (unfolded s) (rising_among ns from j))
rising_once s ns from zero = tt
rising_once s ns from (suc j) = by (is_among ns from) (rising_once s ns (suc from) j)
  where
    by : (b : Bool) → AreListedOnce (map (unfolded s) (rising_among ns (suc from) j)) → AreListedOnce (map (unfolded s) (cond b (from ∷ rising_among ns (suc from) j) (rising_among ns (suc from) j)))
    by true rest = (unlisted_before s ns from (suc from) j (omega arith), rest)
    by false rest = rest

pub types_once : {N : Type 0} (s : Setting N) (c : Owed) → AreListedOnce (unfold_of s c)
types_once s c = rising_once s (mentioned s (length s.types) (tests_in_all (c.hyps ++ c.goal ∷ []))) 0 (length s.types)

-- ---- formed

all_have : {sort : Sort} {ts : List Term} → AllOf sort ts → AllHave sort ts
all_have none = tt
all_have (more h all) = (h.has, all_have all)

entries_sorted : {N : Type 0} (s : Setting N) (ns : List ℕ) → AllTold formula_sort (map (unfolded s) ns)
entries_sorted s [] = tt
entries_sorted s (n ∷ ns) = ((test_sorted s n).has, entries_sorted s ns)

is_formed : {N : Type 0} (s : Setting N) (c : Owed) → IsFormula c → IsWellFormed (with_types s c)
is_formed s c h = record {
  hyps = all_have h.hyps;
  goal = h.goal.has;
  types = entries_sorted s (types_of s c);
  once = types_once s c;
  are_closed = tests_closed s (types_of s c);
}

are_formed : {N : Type 0} (s : Setting N) {cs : List Owed} → AreOwed cs → AreWellFormed (map (with_types s) cs)
are_formed s nothing = tt
are_formed s (owed {c = c} h all) = (is_formed s c h, are_formed s all)

pub conditions_formed : OwedConditionsAreFormed
conditions_formed core flow = are_formed (setting_of (numbered_core core) flow) (program_owed core flow)
