-- The named types of a program's conditions are grounded.
use Rattle.std.proofs.Common.{◌≡◌, ◌<◌, ℕ, Bool, true, false, cond, eqb, ◌&&◌, ◌⊎◌, inl, inr, List, [], ◌∷◌, map, length, refl, sym, ap, ◌∙◌, subst}
use Rattle.std.specs.Prelude.{bytes_eq}
use Rattle.std.proofs.lemmas.Bool.{or_cases, or_left, or_right, eqb-true}
use Rattle.wy_lemmas.proofs.Choices.{eqb_itself as eqb_self}
use Rattle.wy_lemmas.proofs.Lists.{bytes_self}
use Rattle.wy_check_laws.specs.wy_value.Datum.{Datum}
use Rattle.wy_sound_terms.specs.wy_core.Types.{Ty}
use Rattle.wy_sound_terms.specs.wy_core.CoreTree.{Core}
use Rattle.wy_sound_terms.specs.wy_core.formed.Bound.{Bound}
use Rattle.wy_sound_terms.specs.wy_core.formed.Recursion.{Recursion}
use Rattle.wy_check_laws.specs.wy_term.Term.{Term}
use Rattle.wy_check_laws.specs.wy_term.Scope.{free_names}
use Rattle.wy_check_laws.specs.wy_term.Meaning.{Names, with_datum, Sense, sense}
use Rattle.wy_check_laws.specs.wy_term.Condition.{says}
use Rattle.wy_check_laws.specs.wy_term.Unfolding.{AreAll, Question, AnswerAlikeBefore, AsksEarlier, AskEarlier, AreGrounded}
use Rattle.wy_check_laws.proofs.sound_lemmas.FreeLemmas.{SameAt, AllSame, rests_on_free_names}
use Rattle.wy_sound_terms.specs.wy_term_subst.grounded.Readings.{with_members}
use Rattle.wy_sound_terms.specs.wy_sem.TypeTests.{alias_at}
use Rattle.wy_sound_terms.specs.wy_vc_spec.Numbered.{Node, numbered_core}
use Rattle.wy_sound_terms.specs.wy_vc_spec.Owed.{Owed}
use Rattle.wy_sound_terms.specs.wy_vc_spec.Values.{Setting, x_word, word_if, test_name, test_formula}
use Rattle.wy_sound_terms.specs.wy_vc_spec.Limits.{tests_in, is_among, types_of, unfolded, unfold_of}
use Rattle.wy_sound_terms.specs.wy_vc_spec.Programs.{setting_of, conditions_of}
use Rattle.wy_sound_terms.specs.formed.OwedConditions.{with_types}
use Rattle.wy_sound_terms.proofs.formed_lemmas.ClosedLemmas.{test_closed, tests_closed}
use Rattle.wy_sound_terms.proofs.formed_lemmas.OwedLemmas.{types_once}
use Rattle.wy_vc_laws.specs.grounded.Grounds.{AllGrounded, OwedConditionsAreGrounded}
use Rattle.wy_vc_laws.proofs.grounded_lemmas.SizeLemmas.{size, goes_before, lower_before, part_before, bare_before, founded_by_three}
use Rattle.wy_vc_laws.proofs.grounded_lemmas.SteadyLemmas.{Two}
use Rattle.wy_vc_laws.proofs.grounded_lemmas.NamedLemmas.{IsBelow, lower, smaller, earlier, formula_stays}
use Rattle.wy_vc_laws.proofs.grounded_lemmas.TestLemmas.{rests_on_tests}
use Rattle.wy_vc_laws.proofs.grounded_lemmas.ReachLemmas.{listed_below, tests_listed}
use Rattle.wy_vc_laws.proofs.grounded_lemmas.LevelLemmas.{level, ranked, types_levelled}

-- ---- names

-- the Val name stands for the datum
pub stands_for : (names : Names) (w : List ℕ) (d : Datum) → (with_datum names w 0 d).datum_of w 0 ≡ d
stands_for names w d = ap (λ (b : Bool). cond b d (names.datum_of w 0)) (own w 0)
  where
    own : (w : List ℕ) (n : ℕ) → (bytes_eq w w && eqb n n) ≡ true
    own w n = rw (bytes_self w, eqb_self n) refl

-- names that agree on the one name of a list
pub all_same : (names others : Names) (x : Term) (ys : List Term) → SameAt names others x → AreAll x ys → AllSame names others ys
all_same names others x [] same h = tt
all_same names others x (y ∷ ys) same h = (subst (SameAt names others) (sym h.0) same, all_same names others x ys same h.1)

module _ (core : Core ℕ) (bound : Bound core) (recurs : Recursion core) (flow : List Ty) where
  abbrev s : Setting Node
  s = setting_of (numbered_core core) flow

  abbrev height : ℕ → ℕ
  height = level core bound recurs

  abbrev rank : ℕ → ℕ
  rank = (ranked core bound recurs).rank

  abbrev before : Question → Question → Bool
  before = goes_before height rank

  below_before : (b n : ℕ) (d e : Datum) → IsBelow height rank (height b) (size d) (rank b) n e → before (record { type_number = n; datum = e }) (record { type_number = b; datum = d }) ≡ true
  below_before b n d e (lower l) = lower_before height rank (record { type_number = n; datum = e }) (record { type_number = b; datum = d }) l
  below_before b n d e (smaller l t) = part_before height rank (record { type_number = n; datum = e }) (record { type_number = b; datum = d }) l t
  below_before b n d e (earlier l t u) = bare_before height rank (record { type_number = n; datum = e }) (record { type_number = b; datum = d }) l t u

  -- both answer an earlier question of a listed type alike
  alike_at : (ns : List ℕ) (q : Question) (names others : Names) → AnswerAlikeBefore before (map (unfolded s) ns) q names others → (n : ℕ) (e : Datum) → is_among ns n ≡ true → before (record { type_number = n; datum = e }) q ≡ true → names.is_member n e ≡ others.is_member n e
  alike_at [] q names others alike n e h t = absurd cc
  alike_at (m ∷ ns) q names others alike n e h t = by (λ later. alike_at ns q names others alike.1 n e later t) (or_cases (eqb m n) (is_among ns n) h)
    where
      by : (is_among ns n ≡ true → names.is_member n e ≡ others.is_member n e) → (eqb m n ≡ true) ⊎ (is_among ns n ≡ true) → names.is_member n e ≡ others.is_member n e
      by rest (inl is) = subst (λ (k : ℕ). before (record { type_number = k; datum = e }) q ≡ true → names.is_member k e ≡ others.is_member k e) (eqb-true m n is) (alike.0 e) t
      by rest (inr later) = rest later

  module _ (c : Owed) (b : ℕ) (h : is_among (types_of s c) b ≡ true) (d : Datum) (names others : Names) (alike : AnswerAlikeBefore before (map (unfolded s) (types_of s c)) (record { type_number = b; datum = d }) names others) where
    abbrev w : List ℕ
    w = word_if (alias_at s.types b).variables (alias_at s.types b).variable x_word

    -- the second reading for the types that the formula tests, the first for all others
    abbrev mixed : ℕ → Datum → Bool
    mixed n e = cond (is_among (tests_in (test_formula s b)) n) (others.is_member n e) (names.is_member n e)

    abbrev two : Two
    two = record { first = names.is_member; second = mixed; word = w; datum = d }

    known : (n : ℕ) (e : Datum) → n < length s.types → IsBelow height rank (height b) (size d) (rank b) n e → names.is_member n e ≡ mixed n e
    known n e less below = by (is_among (tests_in (test_formula s b)) n) refl
      where
        by : (t : Bool) → is_among (tests_in (test_formula s b)) n ≡ t → names.is_member n e ≡ cond t (others.is_member n e) (names.is_member n e)
        by true t = alike_at (types_of s c) (record { type_number = b; datum = d }) names others alike n e (tests_listed s c b n h t less) (below_before b n d e below)
        by false f = refl

    first_step : (sense (with_members (with_datum names w 0 d) names.is_member) (test_formula s b)).truth ≡ (sense (with_members (with_datum names w 0 d) mixed) (test_formula s b)).truth
    first_step = (formula_stays two s height rank (types_levelled core bound recurs) b refl (listed_below s c b h) known).same (with_datum names w 0 d) (stands_for names w d)

    second_step : sense (with_members (with_datum names w 0 d) mixed) (test_formula s b) ≡ sense (with_members (with_datum names w 0 d) others.is_member) (test_formula s b)
    second_step = rests_on_tests mixed others.is_member (test_formula s b) (with_datum names w 0 d) (λ n t e. ap (λ (x : Bool). cond x (others.is_member n e) (names.is_member n e)) t)

    third_step : sense (with_members (with_datum names w 0 d) others.is_member) (test_formula s b) ≡ sense (with_datum others w 0 d) (test_formula s b)
    third_step =
        rests_on_free_names (test_formula s b) (with_members (with_datum names w 0 d) others.is_member) (with_datum others w 0 d) refl
        (all_same (with_members (with_datum names w 0 d) others.is_member) (with_datum others w 0 d) (test_name s b) (free_names (test_formula s b)) (stands_for names w d ∙ sym (stands_for others w d)) (test_closed s b).free)

    asks_at : says names (unfolded s b) d ≡ says others (unfolded s b) d
    asks_at = first_step ∙ (ap (λ (x : Sense). x.truth) second_step ∙ ap (λ (x : Sense). x.truth) third_step)

  asks : (c : Owed) (b : ℕ) → is_among (types_of s c) b ≡ true → AsksEarlier before (map (unfolded s) (types_of s c)) (unfolded s b)
  asks c b h d names others alike = asks_at c b h d names others alike

  all_ask : (c : Owed) (ns : List ℕ) → ((b : ℕ) → is_among ns b ≡ true → is_among (types_of s c) b ≡ true) → AskEarlier before (map (unfolded s) (types_of s c)) (map (unfolded s) ns)
  all_ask c [] within = tt
  all_ask c (n ∷ ns) within = (asks c n (within n (or_left (eqb n n) (is_among ns n) (eqb_self n))), all_ask c ns (λ b h. within b (or_right (eqb n b) (is_among ns b) h)))

  pub grounded : (c : Owed) → AreGrounded (unfold_of s c)
  grounded c = record {
    once = types_once s c;
    closed = tests_closed s (types_of s c);
    before = before;
    descends = founded_by_three height rank;
    earlier = all_ask c (types_of s c) (λ b h. h);
  }

  all_grounded : (cs : List Owed) → AllGrounded (map (with_types s) cs)
  all_grounded [] = tt
  all_grounded (c ∷ cs) = (grounded c, all_grounded cs)

pub conditions_grounded : OwedConditionsAreGrounded
conditions_grounded core flow bound recurs = all_grounded core bound recurs flow (conditions_of core flow)
