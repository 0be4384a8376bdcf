-- What is left of a true literal's form once each variable is replaced by the first of its class is at least 0.
use Rattle.std.proofs.Common.{◌≡◌, ◌∙◌, ◌+◌, ◌*◌, ◌<◌, ◌||◌, ◌^◌, ℕ, zero, suc, List, [], ◌∷◌, ◌++◌, map, length, Bool, true, false, cond, eqb, ℤ, pos, negsuc, ◌+ℤ◌, ◌*ℤ◌, ◌≤ℤ◌, Option, Some, None, refl, sym, ap, subst, arith}
use Rattle.std.specs.Prelude.{int_lt, slice_index}
use Rattle.std.specs.Ordering.{int_eq}
use Rattle.std.proofs.lemmas.Bool.{eqb-true, eq-eqb}
use Rattle.std.proofs.lemmas.Int.{ints}
use Rattle.wy_lemmas.proofs.Choices.{true_false as two_ways}
use Rattle.wy_lemmas.proofs.Numbers.{one_times}
use Rattle.wy_search_bounds.specs.wy_term.Term.{Term}
use Rattle.wy_search_bounds.specs.wy_term.Meaning.{Names, Sense, sense}
use Rattle.wy_search_bounds.specs.wy_term.Meaning as meaning
use Rattle.wy_search_bounds.specs.wy_lin.Linear.{Linear}
use Rattle.wy_search_bounds.specs.wy_lin.Combination.{combined}
use Rattle.wy_search_bounds.specs.wy_lin.TermForm.{form_of_literal}
use Rattle.wy_search_bounds.specs.wy_lin.Worth.{worth_of_parts, worth, number_of}
use Rattle.wy_search_bounds.proofs.wy_lin_proofs.Ring.{minus_times}
use Rattle.wy_search_bounds.proofs.wy_lin_proofs.WorthLemmas.{says-form_of_literal}
use Rattle.wy_search_bounds.specs.wy_lin_eliminate.Division.{common, lowered}
use Rattle.wy_search_bounds.specs.wy_lin_eliminate.declared.steps.Elim.{Elim}
use Rattle.wy_search_bounds.specs.wy_lin_eliminate.declared.steps.Elim.TheVariants as outcome
use Rattle.wy_search_bounds.specs.wy_lin_eliminate.declared.steps.Steps.{Steps}
use Rattle.wy_search_bounds.specs.wy_lin_eliminate.Elimination.{elimination}
use Rattle.wy_search_bounds.specs.wy_check_spec.judge.Node.{Literal, Node}
use Rattle.wy_search_bounds.specs.wy_check_spec.judge.Told.{AllTold, IsTrueNode}
use Rattle.wy_search_bounds.specs.wy_check_spec.valid.Literals.{formula_of}
use Rattle.wy_search_bounds.specs.wy_search_spec.Standing.{in_literals, standing, present}
use Rattle.wy_search_bounds.specs.wy_search_spec.Classes.{place_from, classes}
use Rattle.wy_search_bounds.specs.wy_search_spec.Bounds.{number_or_end, numbered_part, numbered, first_with, first_of_class, order_form, taking_away, takings, named_from, all_fit, stated_sum, Replaced, gone, given, refutes, leaves, by_two, by_common, by_sum, replaced_by, replaced, with_form, replaced_forms, is_refuting, is_leaving, any_so, form_in, forms_in, Ending, refuted, consistent, crowded, wide, ending_of, ending_by, ending}
use Rattle.wy_search_bounds.proofs.wy_check_laws_proofs.sound_lemmas.Basics.{or_cases, formula_told}
use Rattle.wy_search_laws.specs.sound.Closed.{IsNatural, AreNatural, AreLiterals}
use Rattle.wy_search_laws.proofs.sound_lemmas.FormLemmas.{cond_some, combined_natural, bare_never, lowered_natural, common_lowered}
use Rattle.wy_search_laws.proofs.sound_lemmas.EliminationLemmas.{not_zero, refuted_never}
use Rattle.wy_search_laws.proofs.sound_lemmas.EvenLemmas.{twice_named}
use Rattle.wy_search_laws.proofs.sound_lemmas.ClassLemmas.{placed, StandsAt, stands_at, Respects}
use Rattle.wy_search_laws.proofs.sound_lemmas.ClashLemmas.{node_respects}
use Rattle.wy_search_laws.proofs.sound_lemmas.PlacedLemmas.{AreAmong, IsOne, AreOnes, literals_among, literal_ones, one_literal, has_a_place}

-- ---- the first of a class

record IsFirst (ls : List ℕ) (l k w : ℕ) : Type 0 where
  index : ℕ
  is : w ≡ k + index
  within : index < length ls
  label : slice_index ls index ≡ l

first_there : (ls : List ℕ) (l k i : ℕ) → i < length ls → slice_index ls i ≡ l → IsFirst ls l k (first_with ls l k)
first_there [] l k i lt e = absurd (omega (arith, lt))
first_there (m ∷ ms) l k i lt e = by (eqb m l) refl i lt e (λ j lt e. first_there ms l (suc k) j lt e)
  where
    by : (b : Bool) → eqb m l ≡ b → (j : ℕ) → j < length (m ∷ ms) → slice_index (m ∷ ms) j ≡ l → ((j : ℕ) → j < length ms → slice_index ms j ≡ l → IsFirst ms l (suc k) (first_with ms l (suc k))) → IsFirst (m ∷ ms) l k (cond b k (first_with ms l (suc k)))
    by true is j within here later = record { index = 0; is = omega arith; within = omega arith; label = eqb-true m l is }
    by false is zero within here later = absurd (two_ways (eqb m l) (eq-eqb m l here) is)
    by false is (suc j) within here later =
        let rest = later j (omega (arith, within)) here in
        record { index = suc rest.index; is = omega (arith, rest.is); within = omega (arith, rest.within); label = rest.label }

abbrev pub values_at : Names → List Term → ℕ → ℤ
values_at names ts k = (placed names ts k).number

first_same : (names : Names) (ts : List Term) (labels : List ℕ) (v : ℕ) → Respects names ts labels → v < length ts → values_at names ts v ≡ values_at names ts (first_of_class labels v)
first_same names ts labels v known lt =
    let within : v < length labels = omega (arith, known.long, lt) in
    let first = first_there labels (slice_index labels v) 0 v within refl in
    let is : first_of_class labels v ≡ first.index = omega (arith, first.is) in
    let below : first.index < length ts = omega (arith, known.long, first.within) in
    ap (λ (x : Sense). x.number) (known.same v first.index lt below (sym first.label)) ∙ ap (values_at names ts) (sym is)

-- ---- replaced forms

-- each variable has the value of the first of its class
abbrev AreFair : (ℕ → ℤ) → List ℕ → List (ℤ × ℕ) → Type 0
AreFair values labels [] = Unit {0}
AreFair values labels (p ∷ ps) = (values p.1 ≡ values (first_of_class labels p.1)) × AreFair values labels ps

module _ (values : ℕ → ℤ) where
  order_natural : (v w : ℕ) → values v ≡ values w → IsNatural values (order_form v w)
  order_natural v w e = let m = minus_times (values v) in let o = one_times (values w) in omega (arith, ints, e, m, o)

  taking_natural : (c : ℤ) (v w : ℕ) → values v ≡ values w → IsNatural values (taking_away c v w).1
  taking_natural c v w e = by (int_lt c (pos 0))
    where
      by : (b : Bool) → IsNatural values (cond b (order_form w v) (order_form v w))
      by true = order_natural w v (sym e)
      by false = order_natural v w e

  takings_natural : (labels : List ℕ) (ps : List (ℤ × ℕ)) → AreFair values labels ps → AreNatural values (map (λ (u : ℕ × Linear ℕ). u.1) (takings labels ps))
  takings_natural labels [] fair = tt
  takings_natural labels (p ∷ ps) fair = by (int_eq p.0 (pos 0) || eqb (first_of_class labels p.1) p.1) (takings_natural labels ps fair.1)
    where
      by : (b : Bool) → AreNatural values (map (λ (u : ℕ × Linear ℕ). u.1) (takings labels ps)) → AreNatural values (map (λ (u : ℕ × Linear ℕ). u.1) (cond b (takings labels ps) (taking_away p.0 p.1 (first_of_class labels p.1) ∷ takings labels ps)))
      by true rest = rest
      by false rest = (taking_natural p.0 p.1 (first_of_class labels p.1) fair.0, rest)

  abbrev IsSound : Replaced → Type 0
  IsSound gone = Unit {0}
  IsSound (given f) = IsNatural values f
  IsSound refutes = ⊥
  IsSound leaves = Unit {0}

  stated_is : (fs : List (Linear ℕ)) (ms : List (ℕ × ℕ)) (f : Linear ℕ) → stated_sum fs ms ≡ Some f → combined fs ms ≡ Some f
  stated_is fs ms f e = (cond_some (all_fit ms) (combined fs ms) f e).1

  two_sound : (fs : List (Linear ℕ)) (ts : List (ℕ × Linear ℕ)) (o : Option (Linear ℕ)) → AreNatural values fs → stated_sum fs ((2, 0) ∷ named_from 2 ts 1) ≡ o → IsSound (by_two o)
  two_sound fs ts None h e = tt
  two_sound fs ts (Some f) h e =
      let is = stated_is fs ((2, 0) ∷ named_from 2 ts 1) f e in
      let two : 0 < 2 = omega arith in
      lowered_natural values 2 f two (twice_named fs ts f is) (combined_natural values fs ((2, 0) ∷ named_from 2 ts 1) f h is)

  common_sound : (fs : List (Linear ℕ)) (ts : List (ℕ × Linear ℕ)) (f : Linear ℕ) → AreNatural values fs → IsNatural values f → IsSound (by_common (stated_sum fs ((2, 0) ∷ named_from 2 ts 1)) f (common f.parts))
  common_sound fs ts f h g = by_divisor (eqb (common f.parts) 0) (eqb (common f.parts) 1) refl
    where
      bare : (b : Bool) → int_lt f.constant (pos 0) ≡ b → common f.parts ≡ 0 → IsSound (cond b refutes gone)
      bare true is none = bare_never values f g none is
      bare false is none = tt

      by_divisor : (b c : Bool) → eqb (common f.parts) 0 ≡ b → IsSound (cond b (cond (int_lt f.constant (pos 0)) refutes gone) (cond c (by_two (stated_sum fs ((2, 0) ∷ named_from 2 ts 1))) (given (lowered (common f.parts) f))))
      by_divisor true c is = bare (int_lt f.constant (pos 0)) refl (eqb-true (common f.parts) 0 is)
      by_divisor false true is = two_sound fs ts (stated_sum fs ((2, 0) ∷ named_from 2 ts 1)) h refl
      by_divisor false false is = common_lowered values f (not_zero (common f.parts) is) g

  sum_sound : (fs : List (Linear ℕ)) (ts : List (ℕ × Linear ℕ)) (o : Option (Linear ℕ)) → AreNatural values fs → stated_sum fs ((1, 0) ∷ named_from 1 ts 1) ≡ o → IsSound (by_sum (stated_sum fs ((2, 0) ∷ named_from 2 ts 1)) o)
  sum_sound fs ts None h e = tt
  sum_sound fs ts (Some f) h e = common_sound fs ts f h (combined_natural values fs ((1, 0) ∷ named_from 1 ts 1) f h (stated_is fs ((1, 0) ∷ named_from 1 ts 1) f e))

  by_sound : (f : Linear ℕ) (ts : List (ℕ × Linear ℕ)) → IsNatural values f → AreNatural values (map (λ (u : ℕ × Linear ℕ). u.1) ts) → IsSound (replaced_by f ts)
  by_sound f [] g h = g
  by_sound f (t ∷ ts) g h = sum_sound (f ∷ map (λ (u : ℕ × Linear ℕ). u.1) (t ∷ ts)) (t ∷ ts) (stated_sum (f ∷ map (λ (u : ℕ × Linear ℕ). u.1) (t ∷ ts)) ((1, 0) ∷ named_from 1 (t ∷ ts) 1)) (g, h) refl

  replaced_sound : (labels : List ℕ) (f : Linear ℕ) → AreFair values labels f.parts → IsNatural values f → IsSound (replaced labels f)
  replaced_sound labels f fair natural = by_sound f (takings labels f.parts) natural (takings_natural labels f.parts fair)

  -- ---- the forms of a node

  abbrev AreSound : List Replaced → Type 0
  AreSound [] = Unit {0}
  AreSound (r ∷ rs) = IsSound r × AreSound rs

  no_refuting : (rs : List Replaced) → AreSound rs → any_so is_refuting rs ≡ true → ⊥
  no_refuting [] h e = absurd cc
  no_refuting (r ∷ rs) h e = or_cases (is_refuting r) (any_so is_refuting rs) ⊥ e (λ g. one r h.0 g) (λ g. no_refuting rs h.1 g)
    where
      one : (r : Replaced) → IsSound r → is_refuting r ≡ true → ⊥
      one gone k g = absurd cc
      one (given f) k g = absurd cc
      one refutes k g = k
      one leaves k g = absurd cc

  forms_natural : (rs : List Replaced) → AreSound rs → AreNatural values (forms_in rs)
  forms_natural [] h = tt
  forms_natural (gone ∷ rs) h = forms_natural rs h.1
  forms_natural (given f ∷ rs) h = (h.0, forms_natural rs h.1)
  forms_natural (refutes ∷ rs) h = forms_natural rs h.1
  forms_natural (leaves ∷ rs) h = forms_natural rs h.1

  end_never : (rs : List Replaced) (e : Elim) → AreSound rs → elimination (forms_in rs) ≡ e → ending_of e ≡ refuted → ⊥
  end_never rs (outcome.Refuted steps) h is g = refuted_never (forms_in rs) steps is values (forms_natural rs h)
  end_never rs outcome.Consistent h is g = absurd cc
  end_never rs outcome.Crowded h is g = absurd cc
  end_never rs outcome.Wide h is g = absurd cc

  ending_never : (rs : List Replaced) → AreSound rs → ending_by rs ≡ refuted → ⊥
  ending_never rs h e = by (any_so is_refuting rs) (any_so is_leaving rs) refl e
    where
      by : (b c : Bool) → any_so is_refuting rs ≡ b → cond b refuted (cond c wide (ending_of (elimination (forms_in rs)))) ≡ refuted → ⊥
      by true c is g = no_refuting rs h is
      by false true is g = absurd cc
      by false false is g = end_never rs (elimination (forms_in rs)) h refl g

-- ---- forms by places

module _ (names : Names) (node : Node) where
  numbered_worth : (ps : List (ℤ × Term)) → AreOnes (standing node) ps → worth_of_parts (values_at names (present node)) (map (numbered_part (present node)) ps) ≡ worth_of_parts (number_of names) ps
  numbered_worth [] h = refl
  numbered_worth (p ∷ ps) h =
      let has = has_a_place node p.1 h.0 in
      let there = stands_at names (present node) p.1 has.0 has.1 in
      let value : values_at names (present node) (number_or_end (place_from (present node) p.1 0)) ≡ number_of names p.1 = ap (λ (o : Option ℕ). values_at names (present node) (number_or_end o)) has.1 ∙ ap (λ (x : Sense). x.number) there.one in
      ap (λ (z : ℤ). p.0 *ℤ z +ℤ worth_of_parts (values_at names (present node)) (map (numbered_part (present node)) ps)) value
      ∙ ap (λ (z : ℤ). p.0 *ℤ number_of names p.1 +ℤ z) (numbered_worth ps h.1)

  numbered_fair : (labels : List ℕ) (ps : List (ℤ × Term)) → Respects names (present node) labels → AreOnes (standing node) ps → AreFair (values_at names (present node)) labels (map (numbered_part (present node)) ps)
  numbered_fair labels [] known h = tt
  numbered_fair labels (p ∷ ps) known h =
      let has = has_a_place node p.1 h.0 in
      let there = stands_at names (present node) p.1 has.0 has.1 in
      let fair : values_at names (present node) has.0 ≡ values_at names (present node) (first_of_class labels has.0) = first_same names (present node) labels has.0 known there.within in (
        subst (λ (o : Option ℕ). values_at names (present node) (number_or_end o) ≡ values_at names (present node) (first_of_class labels (number_or_end o))) (sym has.1) fair,
        numbered_fair labels ps known h.1,
      )

  at_most_is : (a b : ℤ) → meaning.at_most a b ≡ true → a ≤ℤ b
  at_most_is a b h = grind (arith, ints)

  literal_natural : (l : Literal) (f : Linear Term) → (sense names l.atom).truth ≡ l.holds → form_of_literal (formula_of l) ≡ Some f → pos 0 ≤ℤ worth (number_of names) f
  literal_natural l f told e = at_most_is (pos 0) (worth (number_of names) f) (says-form_of_literal (formula_of l) f e names ∙ formula_told names l.atom l.holds told)

  with_form_sound : (labels : List ℕ) (rest : List Replaced) (l : Literal) (o : Option (Linear Term)) → Respects names (present node) labels → form_of_literal (formula_of l) ≡ o → (sense names l.atom).truth ≡ l.holds → ((f : Linear Term) → o ≡ Some f → AreOnes (standing node) f.parts) → AreSound (values_at names (present node)) rest → AreSound (values_at names (present node)) (with_form (present node) labels rest o)
  with_form_sound labels rest l None known e told ones h = h
  with_form_sound labels rest l (Some f) known e told ones h =
      let are = ones f refl in
      let natural : IsNatural (values_at names (present node)) (numbered (present node) f) = subst (λ (z : ℤ). pos 0 ≤ℤ (z +ℤ f.constant)) (sym (numbered_worth f.parts are)) (literal_natural l f told e) in
      (replaced_sound (values_at names (present node)) labels (numbered (present node) f) (numbered_fair labels f.parts known are) natural, h)

  forms_sound : (labels : List ℕ) (ls : List Literal) → Respects names (present node) labels → AllTold names ls → AreLiterals ls → AreAmong (standing node) (in_literals ls) → AreSound (values_at names (present node)) (replaced_forms (present node) labels ls)
  forms_sound labels [] known told are among = tt
  forms_sound labels (l ∷ ls) known told are among =
      let apart = one_literal (standing node) l ls among in
      with_form_sound labels (replaced_forms (present node) labels ls) l (form_of_literal (formula_of l)) known refl told.0
      (λ f is. literal_ones (standing node) l f are.0 apart.0 is)
      (forms_sound labels ls known told.1 are.1 apart.1)

-- elimination doesn't refute the forms of a true node
pub refuting_never : (names : Names) (node : Node) → IsTrueNode names node → AreLiterals node.literals → ending node ≡ refuted → ⊥
refuting_never names node told are e =
    let labels = classes (present node) node.literals in
    ending_never (values_at names (present node)) (replaced_forms (present node) labels node.literals)
    (forms_sound names node labels node.literals (node_respects names node told are) told.literals are (literals_among node)) e
