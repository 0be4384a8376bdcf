-- Data that meet the formulas of all types: there are some, and true conditions are true by them.
use Rattle.std.proofs.Common.{◌≡◌, ◌<◌, ◌≤◌, ◌⊎◌, inl, inr, ℕ, zero, suc, Bool, true, false, eqb, ◌||◌, List, [], ◌∷◌, length, map, pos, sym, ap, ◌∙◌, subst, arith}
use Rattle.std.proofs.lemmas.Bool.{cases_lt, or_cases, or_left, or_right, eqb-true}
use Rattle.wy_lemmas.proofs.Choices.{eqb_itself as eqb_self}
use Rattle.wy_lemmas.proofs.Lists.{nothing_more as append_nothing}
use Rattle.wy_value.specs.Datum.{Datum, Null}
use Rattle.wy_core.specs.Types.{Ty}
use Rattle.wy_core.specs.CoreTree.{Core}
use Rattle.wy_core.specs.formed.Bound.{Bound}
use Rattle.wy_core.specs.formed.Recursion.{Recursion}
use Rattle.wy_term.specs.declared.cond.CondKind.TheVariants as kind
use Rattle.wy_term.specs.Term.{Of, Parts, no_parts, part, in_type, all_of}
use Rattle.wy_term.specs.Scope.{free_names}
use Rattle.wy_term.specs.Meaning.{Names, with_datum, Sense}
use Rattle.wy_term.specs.Condition.{says, AreUnfolded}
use Rattle.wy_term.specs.Unfolding.{IsUnlisted}
use Rattle.wy_sem.specs.TypeTests.{alias_at}
use Rattle.wy_vc_laws.proofs.wy_check_laws_proofs.sound_lemmas.FreeLemmas.{rests_on_free_names}
use Rattle.wy_term_subst.specs.grounded.Readings.{with_members, IsReading}
use Rattle.wy_term_subst.proofs.grounded_lemmas.ReadingLemmas.{a_reading}
use Rattle.wy_sound_statements.specs.wy_vc_spec.Numbered.{Node}
use Rattle.wy_sound_statements.specs.wy_vc_spec.Owed.{Owed}
use Rattle.wy_sound_statements.specs.wy_vc_spec.Values.{Setting, x_word, word_if, test_name, test_formula}
use Rattle.wy_sound_statements.specs.wy_vc_spec.Limits.{tests_in_parts, is_among, types_of, unfolded, unfold_of}
use Rattle.wy_sound_statements.specs.wy_vc_spec.Programs.{conditions_of}
use Rattle.wy_vc_laws.specs.wy_sound_terms.formed.OwedConditions.{with_types}
use Rattle.wy_vc_laws.proofs.wy_sound_terms_proofs.formed_lemmas.ClosedLemmas.{test_closed}
use Rattle.wy_vc_laws.proofs.grounded_lemmas.ReachLemmas.{listed_below, mentioned_listed}
use Rattle.wy_vc_laws.proofs.grounded_lemmas.GroundedLemmas.{stands_for, all_same, grounded}
use Rattle.wy_sound_statements.specs.wy_sound_walks.expressions.Truth.{AreTrueBy}
use Rattle.wy_sound_types.specs.members.Members.{MeetFormulas, HoldAlways}
use Rattle.wy_sound_types.specs.members.Laws.{told_by, SomeMembersMeet, ConditionsAreTrueBy}

-- ---- a condition that tests all types

-- tests of so many types
abbrev all_tests : ℕ → Parts
all_tests zero = no_parts
all_tests (suc n) = part (Of (in_type n) no_parts) (all_tests n)

all_tested : (k n : ℕ) → n < k → is_among (tests_in_parts (all_tests k)) n ≡ true
all_tested zero n less = absurd (omega (arith, less))
all_tested (suc k) n less = by (λ l. all_tested k n l) (cases_lt n k) where
  by : (n < k → is_among (tests_in_parts (all_tests k)) n ≡ true) → (n < k) ⊎ (k ≤ n) → (eqb k n || is_among (tests_in_parts (all_tests k)) n) ≡ true
  by rest (inl l) = or_right (eqb k n) (is_among (tests_in_parts (all_tests k)) n) (rest l)
  by rest (inr past) =
      let is : k ≡ n = omega (arith, less, past) in
      or_left (eqb k n) (is_among (tests_in_parts (all_tests k)) n) (subst (λ (m : ℕ). eqb k m ≡ true) is (eqb_self k))

abbrev about_all : ℕ → Owed
about_all n = record { kind = kind.Member; at = 0; hyps = []; goal = Of all_of (all_tests n) }

abbrev some_names : Names
some_names = record { datum_of = λ w n. Null; number_of = λ w n. pos 0; is_member = λ n d. false }

-- ---- what listed types are told by

unfolded_at : (s : Setting Node) (names : Names) (ns : List ℕ) → AreUnfolded names (map (unfolded s) ns) → (b : ℕ) → is_among ns b ≡ true → (d : Datum) → names.is_member b d ≡ says names (unfolded s b) d
unfolded_at s names [] h b t d = absurd cc
unfolded_at s names (n ∷ ns) h b t d = by (λ e. unfolded_at s names ns h.1 b e d) (or_cases (eqb n b) (is_among ns b) t) where
  by : (is_among ns b ≡ true → names.is_member b d ≡ says names (unfolded s b) d) → (eqb n b ≡ true) ⊎ (is_among ns b ≡ true) → names.is_member b d ≡ says names (unfolded s b) d
  by rest (inl e) = subst (λ (m : ℕ). names.is_member m d ≡ says names (unfolded s m) d) (eqb-true n b e) (h.0 d)
  by rest (inr e) = rest e

unlisted : (s : Setting Node) (ns : List ℕ) (b : ℕ) → ((n : ℕ) → is_among ns n ≡ true → n ≡ b → ⊥) → IsUnlisted b (map (unfolded s) ns)
unlisted s [] b h = tt
unlisted s (n ∷ ns) b h = ((λ is. h n (or_left (eqb n n) (is_among ns n) (eqb_self n)) (sym is)), unlisted s ns b (λ m t. h m (or_right (eqb n m) (is_among ns m) t)))

pub all_unfolded : (s : Setting Node) (names : Names) (members : ℕ → Datum → Bool) → MeetFormulas s members → names.is_member ≡ members → (ns : List ℕ) → ((n : ℕ) → is_among ns n ≡ true → n < length s.types) → AreUnfolded names (map (unfolded s) ns)
all_unfolded s names members meet right [] below = tt
all_unfolded s names members meet right (n ∷ ns) below = (
  λ d. ap (λ (m : ℕ → Datum → Bool). m n d) right ∙ meet.told n (below n (or_left (eqb n n) (is_among ns n) (eqb_self n))) names right d,
  all_unfolded s names members meet right ns (λ m t. below m (or_right (eqb n m) (is_among ns m) t)),
)

-- ---- a reading of all types

module _ (core : Core ℕ) (flow : List Ty) (bound : Bound core) (recurs : Recursion core) where
  abbrev s : Setting Node
  s = told_by core flow

  abbrev about : Owed
  about = about_all (length s.types)

  listed : (b : ℕ) → b < length s.types → is_among (types_of s about) b ≡ true
  listed b less = mentioned_listed s about b (subst (λ (ns : List ℕ). is_among ns b ≡ true) (sym (append_nothing (tests_in_parts (all_tests (length s.types))))) (all_tested (length s.types) b less)) less

  abbrev reading : (m : ℕ → Datum → Bool) × IsReading (unfold_of s about) some_names m
  reading = a_reading (unfold_of s about) (grounded core bound recurs flow about) some_names

  -- a formula is told alike by names with the same data for types
  told_alike : (m : ℕ → Datum → Bool) → IsReading (unfold_of s about) some_names m → (b : ℕ) → b < length s.types → (names : Names) → names.is_member ≡ m → (d : Datum) → m b d ≡ says names (unfolded s b) d
  told_alike m r b less names right d =
      let on = with_members some_names m in
      let w = word_if (alias_at s.types b).variables (alias_at s.types b).variable x_word in
      unfolded_at s on (types_of s about) r.meets b (listed b less) d
      ∙ ap (λ (x : Sense). x.truth) (rests_on_free_names (test_formula s b) (with_datum on w 0 d) (with_datum names w 0 d) (sym right)
      (all_same (with_datum on w 0 d) (with_datum names w 0 d) (test_name s b) (free_names (test_formula s b)) (stands_for on w d ∙ sym (stands_for names w d)) (test_closed s b).free))

  meets : (m : ℕ → Datum → Bool) → IsReading (unfold_of s about) some_names m → MeetFormulas s m
  meets m r = record {
    told = λ b less names right d. told_alike m r b less names right d;
    others = λ b past d. r.keeps b (unlisted s (types_of s about) b (λ n t is. let l = listed_below s about n t in omega (arith, l, past, is))) d;
  }

pub some_meet : SomeMembersMeet
some_meet core flow bound recurs = let r = reading core flow bound recurs in (r.0, meets core flow bound recurs r.0 r.1)

-- ---- true conditions

true_by : (s : Setting Node) (members : ℕ → Datum → Bool) → MeetFormulas s members → (cs : List Owed) → HoldAlways (map (with_types s) cs) → AreTrueBy members cs
true_by s members meet [] h = tt
true_by s members meet (c ∷ cs) h = (
  λ names right hyps. h.0 names (all_unfolded s names members meet right (types_of s c) (λ n t. listed_below s c n t)) hyps,
  true_by s members meet cs h.1,
)

pub are_true_by : ConditionsAreTrueBy
are_true_by core flow members meet h = true_by (told_by core flow) members meet (conditions_of core flow) h
