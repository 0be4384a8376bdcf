-- Where elimination refutes forms, whatever holds of lists of forms that a sum refutes, and of those to which a cut leads back, holds of these: of the forms beside the steps, and of the forms alone.
use Rattle.std.proofs.Common.{◌≡◌, ◌<◌, ◌*◌, ℕ, zero, suc, List, [], ◌∷◌, ◌++◌, length, Bool, true, false, cond, ℤ, pos, Option, Some, None, refl, sym, ap, subst, ◌∙◌, append_assoc, append-nil, length-append, arith}
use Rattle.std.specs.Prelude.{nat_lt, ◌==◌, ◌&&◌, unsigned_abs, int_lt, int_le, ◌+ℤ◌}
use Rattle.std.proofs.lemmas.Bool.{eqb-true}
use Rattle.wy_search_bounds.proofs.wy_lin_eliminate_proofs.TurnLemmas.{AllHave, AreAt, ArePlain, are_at, in_step_some, once_plain, sides_have, Grows, no_growth, grows_on, variable_grown, have_grown, at_grown}
use Rattle.wy_lemmas.proofs.Choices.{large_one}
use Rattle.wy_search_bounds.specs.wy_lin.Linear.{Linear}
use Rattle.wy_search_bounds.specs.wy_lin.Combination.{form_at, combined}
use Rattle.wy_search_bounds.specs.wy_lin_eliminate.declared.steps.LinStep.{LinStep}
use Rattle.wy_search_bounds.specs.wy_lin_eliminate.declared.steps.LinStep.TheVariants.{Sum, Cut}
use Rattle.wy_search_bounds.specs.wy_lin_eliminate.declared.steps.Elim.{Elim}
use Rattle.wy_search_bounds.specs.wy_lin_eliminate.declared.steps.Elim.TheVariants.{Refuted, Crowded, Wide}
use Rattle.wy_search_bounds.specs.wy_lin_eliminate.declared.steps.Steps.{Steps}
use Rattle.wy_search_bounds.specs.wy_lin_eliminate.declared.sides.Sides.{Sides}
use Rattle.wy_search_bounds.specs.wy_lin_eliminate.declared.sums.Pair.{Pair}
use Rattle.wy_search_bounds.specs.wy_lin_eliminate.Division.{common, lowered}
use Rattle.wy_search_bounds.specs.wy_lin_eliminate.Variables.{coefficient_at, opposite, sides, variables, next_variable}
use Rattle.wy_search_bounds.specs.wy_lin_eliminate.Sums.{Summed, refuting, dropped, beyond, cut, pair_by, doubled, multipliers, in_step, by_two, by_common, by_sum, summed}
use Rattle.wy_search_bounds.specs.wy_lin_eliminate.Elimination.{State, is_crowded, is_new, room_for, with_place, with_cut, Turn, goes_on, refuted, and_then, unless_crowded, refuted_by, given, given_from, after_sum, over_uppers, over_lowers, turned, ended, without_next, eliminated, at_first, elimination}
use Rattle.wy_search_bounds.specs.wy_lin_eliminate.Validity.{are_named, divides, is_bare, IsPlain}
use Rattle.wy_search_bounds.proofs.wy_lin_eliminate_proofs.ValidityLemmas.{common-divides, common-bare, twice-divides, HasVariable, place_within, form_before, variable_before, share_first, share_second, named_one, named_two, some_form}
use Rattle.wy_search_laws.proofs.sums_lemmas.TwiceLemmas.{bare_common, twice_bare}

-- what holds of lists of forms that are all to be at least 0
pub record Rules (P : List (Linear ℕ) → Type 0) : Type 0 where
  -- it holds where a sum of them is a negative number
  pub by_sum : (all : List (Linear ℕ)) (ms : List (ℕ × ℕ)) (f : Linear ℕ) → are_named (length all) ms ≡ true → combined all ms ≡ Some f → is_bare f.parts ≡ true → int_lt f.constant (pos 0) ≡ true → P all
  -- and where it holds with what a number that divides the coefficients of a sum, which has a variable, leaves of it
  pub by_cut : (all : List (Linear ℕ)) (d : ℕ) (ms : List (ℕ × ℕ)) (f : Linear ℕ) → nat_lt 1 d ≡ true → are_named (length all) ms ≡ true → combined all ms ≡ Some f → divides d f.parts ≡ true → is_bare f.parts ≡ false → P (all ++ lowered d f ∷ []) → P all

-- what holds of such lists beside steps that refute them
pub record StepRules (P : List (Linear ℕ) → List LinStep → Type 0) : Type 0 where
  pub by_sum : (all : List (Linear ℕ)) (ms : List (ℕ × ℕ)) (f : Linear ℕ) → are_named (length all) ms ≡ true → combined all ms ≡ Some f → is_bare f.parts ≡ true → int_lt f.constant (pos 0) ≡ true → P all (Sum ms ∷ [])
  pub by_cut : (all : List (Linear ℕ)) (d : ℕ) (ms : List (ℕ × ℕ)) (f : Linear ℕ) (rest : List LinStep) → nat_lt 1 d ≡ true → are_named (length all) ms ≡ true → combined all ms ≡ Some f → divides d f.parts ≡ true → is_bare f.parts ≡ false → P (all ++ lowered d f ∷ []) rest → P all (Cut d ms ∷ rest)

-- a form with a common divisor other than 0 has a variable
pub common_not_bare : (ps : List (ℤ × ℕ)) → (common ps == 0) ≡ false → is_bare ps ≡ false
common_not_bare ps e = by (is_bare ps) refl
  where
    by : (b : Bool) → is_bare ps ≡ b → b ≡ false
    by true f = absurd (let up : true ≡ false = sym (ap (λ (d : ℕ). d == 0) (bare_common ps f)) ∙ e in cc)
    by false f = refl

refuted_is : (a b : Steps) → Refuted a ≡ Refuted b → a ≡ b
refuted_is a b e = cc

-- ---- what holds

module _ (P : List (Linear ℕ) → List LinStep → Type 0) (rules : StepRules P) where
  -- the sum of a pair
  abbrev GoodSum : List (Linear ℕ) → Summed → Type 0
  GoodSum all (refuting ms) = P all (Sum ms ∷ [])
  GoodSum all dropped = Unit {0}
  GoodSum all beyond = Unit {0}
  GoodSum all (cut d ms f) = (rest : List LinStep) → P (all ++ f ∷ []) rest → P all (Cut d ms ∷ rest)

  module _ (all : List (Linear ℕ)) (p : Pair) (lower : p.lower < length all) (upper : p.upper < length all) (first : 0 < p.times_lower) (second : 0 < p.times_upper) where
    named : are_named (length all) (multipliers p) ≡ true
    named = named_two (length all) p.times_lower p.lower p.times_upper p.upper first lower second upper

    named_twice : are_named (length all) (multipliers (doubled p)) ≡ true
    named_twice = named_two (length all) (2 * p.times_lower) p.lower (2 * p.times_upper) p.upper (omega (arith, first)) lower (omega (arith, second)) upper

    good_two : (f : Linear ℕ) (o : Option (Linear ℕ)) → combined all (multipliers p) ≡ some_form f → is_bare f.parts ≡ false → in_step all (doubled p) ≡ o → GoodSum all (by_two (doubled p) o)
    good_two f None once free e = tt
    good_two f (Some g) once free e =
        let is = in_step_some all (doubled p) g e in
        λ rest. rules.by_cut all 2 (multipliers (doubled p)) g rest refl named_twice is (twice-divides all p.times_lower p.lower p.times_upper p.upper g is)
        (twice_bare all p.times_lower p.lower p.times_upper p.upper f g once is free)

    good_common : (f : Linear ℕ) → in_step all p ≡ some_form f → GoodSum all (by_common all p f (common f.parts))
    good_common f e = by (common f.parts == 0) (int_lt f.constant (pos 0)) (common f.parts == 1) refl refl refl
      where
        by : (a b c : Bool) → (common f.parts == 0) ≡ a → int_lt f.constant (pos 0) ≡ b → (common f.parts == 1) ≡ c → GoodSum all (cond a (cond b (refuting (multipliers p)) dropped) (cond c (by_two (doubled p) (in_step all (doubled p))) (cut (common f.parts) (multipliers p) (lowered (common f.parts) f))))
        by true true c none negative one = rules.by_sum all (multipliers p) f named (in_step_some all p f e) (common-bare f.parts (eqb-true (common f.parts) 0 none)) negative
        by true false c none negative one = tt
        by false b true none negative one = good_two f (in_step all (doubled p)) (in_step_some all p f e) (common_not_bare f.parts none) refl
        by false b false none negative one = λ rest. rules.by_cut all (common f.parts) (multipliers p) f rest (large_one (common f.parts) none one) named (in_step_some all p f e) (common-divides f.parts) (common_not_bare f.parts none)

    good_by : (o : Option (Linear ℕ)) → in_step all p ≡ o → GoodSum all (by_sum all p o)
    good_by (Some f) e = good_common f e
    good_by None e = by (opposite (form_at all p.lower).parts (form_at all p.upper).parts && int_le (pos 0) ((form_at all p.lower).constant +ℤ (form_at all p.upper).constant))
      where
        by : (b : Bool) → GoodSum all (cond b dropped beyond)
        by true = tt
        by false = tt

  good_pair : (all : List (Linear ℕ)) (v l u : ℕ) → HasVariable all v l → HasVariable all v u → GoodSum all (summed all v l u)
  good_pair all v l u has_l has_u =
      let a = unsigned_abs (coefficient_at all v l) in
      let b = unsigned_abs (coefficient_at all v u) in
      let p = pair_by l u a b in
      good_by all p (place_within all v l has_l) (place_within all v u has_u) (share_second a b has_u) (share_first a b has_l) (in_step all p) refl

  module _ (forms : List (Linear ℕ)) where
    -- ---- states

    abbrev Good : State → Type 0
    Good s = (rest : List LinStep) → P s.all rest → P forms (s.steps ++ rest)

    abbrev GoodTurn : State → Turn → Type 0
    GoodTurn s (goes_on t) = Good t × Grows s t
    GoodTurn s (refuted steps) = P forms steps

    turn_on : (s t : State) (x : Turn) → Grows s t → GoodTurn t x → GoodTurn s x
    turn_on s t (goes_on u) a h = (h.0, grows_on s t u a h.1)
    turn_on s t (refuted steps) a h = h

    good_then : (s : State) (x : Turn) (f : State → Turn) → GoodTurn s x → ((t : State) → Good t → Grows s t → GoodTurn t (f t)) → GoodTurn s (and_then x f)
    good_then s (goes_on t) f h next = turn_on s t (f t) h.1 (next t h.0 h.1)
    good_then s (refuted steps) f h next = h

    module _ (s : State) (good : Good s) where
      stays : GoodTurn s (goes_on s)
      stays = (good, no_growth s s refl)

      good_place : (i : ℕ) (f : Linear ℕ) → GoodTurn s (goes_on (with_place s i f))
      good_place i f = by (is_new s f)
        where
          by : (b : Bool) → GoodTurn s (goes_on (cond b (record s { standing = room_for s f ++ i ∷ [] }) s))
          by true = (good, record { more = []; grown = sym (append-nil s.all) })
          by false = stays

      good_cut : (d : ℕ) (ms : List (ℕ × ℕ)) (f : Linear ℕ) → ((rest : List LinStep) → P (s.all ++ f ∷ []) rest → P s.all (Cut d ms ∷ rest)) → GoodTurn s (goes_on (with_cut s d ms f))
      good_cut d ms f back = by (is_new s f)
        where
          by : (b : Bool) → GoodTurn s (goes_on (cond b (record { all = s.all ++ f ∷ []; standing = room_for s f ++ length s.all ∷ []; steps = s.steps ++ Cut d ms ∷ []; wide = s.wide }) s))
          by true = (λ rest h. subst (P forms) (sym (append_assoc s.steps (Cut d ms ∷ []) rest)) (good (Cut d ms ∷ rest) (back rest h)), record { more = f ∷ []; grown = refl })
          by false = stays

      good_unless : (t : State) → GoodTurn s (goes_on t) → GoodTurn s (unless_crowded s t)
      good_unless t h = by (is_crowded s)
        where
          by : (b : Bool) → GoodTurn s (cond b (goes_on s) (goes_on t))
          by true = stays
          by false = h

      good_sum : (x : Summed) → GoodSum s.all x → GoodTurn s (after_sum s x)
      good_sum (refuting ms) h = good (Sum ms ∷ []) h
      good_sum dropped h = stays
      good_sum beyond h = (good, record { more = []; grown = sym (append-nil s.all) })
      good_sum (cut d ms f) h = good_unless (with_cut s d ms f) (good_cut d ms f h)

    -- ---- a variable goes

    good_uppers : (v l : ℕ) (s : State) (us : List ℕ) → Good s → HasVariable s.all v l → AllHave s.all v us → GoodTurn s (over_uppers v l s us)
    good_uppers v l s [] good has_l have = stays s good
    good_uppers v l s (u ∷ us) good has_l have =
        good_then s (after_sum s (summed s.all v l u)) (λ t. over_uppers v l t us)
        (good_sum s good (summed s.all v l u) (good_pair s.all v l u has_l have.0))
        (λ t good_t grows. good_uppers v l t us good_t (variable_grown s t v l grows has_l) (have_grown s t v us grows have.1))

    good_lowers : (v : ℕ) (us : List ℕ) (s : State) (ls : List ℕ) → Good s → AllHave s.all v us → AllHave s.all v ls → GoodTurn s (over_lowers v us s ls)
    good_lowers v us s [] good uppers lowers = stays s good
    good_lowers v us s (l ∷ ls) good uppers lowers =
        good_then s (over_uppers v l s us) (λ t. over_lowers v us t ls)
        (good_uppers v l s us good lowers.0 uppers)
        (λ t good_t grows. good_lowers v us t ls good_t (have_grown s t v us grows uppers) (have_grown s t v ls grows lowers.1))

    good_turned : (v : ℕ) (s : State) → Good s → GoodTurn s (turned v s)
    good_turned v s good =
        let none : Sides = record { lower = []; upper = []; without = [] } in
        let have = sides_have s.all v none s.standing tt tt in
        let parted = sides s.all v s.standing in
        let first : State = record s { standing = parted.without } in
        turn_on s first (over_lowers v parted.upper first parted.lower) (record { more = []; grown = sym (append-nil s.all) })
        (good_lowers v parted.upper first parted.lower good have.1 have.0)

    -- ---- the given forms

    good_given : (s : State) (i : ℕ) (f : Linear ℕ) → Good s → form_at s.all i ≡ f → i < length s.all → IsPlain f → GoodTurn s (given s i f)
    good_given s i f good here lt plain = by (common f.parts == 0) (int_lt f.constant (pos 0)) (common f.parts == 1) refl refl refl
      where
        is : combined s.all ((1, i) ∷ []) ≡ some_form f
        is = once_plain s.all i f here plain

        named_it : are_named (length s.all) ((1, i) ∷ []) ≡ true
        named_it = named_one (length s.all) 1 i (omega arith) lt

        by : (a b c : Bool) → (common f.parts == 0) ≡ a → int_lt f.constant (pos 0) ≡ b → (common f.parts == 1) ≡ c →
            GoodTurn s (cond a (cond b (refuted_by s ((1, i) ∷ [])) (goes_on s)) (cond c (unless_crowded s (with_place s i f)) (unless_crowded s (with_cut s (common f.parts) ((1, i) ∷ []) (lowered (common f.parts) f)))))
        by true true c none negative one = good (Sum ((1, i) ∷ []) ∷ []) (rules.by_sum s.all ((1, i) ∷ []) f named_it is (common-bare f.parts (eqb-true (common f.parts) 0 none)) negative)
        by true false c none negative one = stays s good
        by false b true none negative one = good_unless s good (with_place s i f) (good_place s good i f)
        by false b false none negative one =
            good_unless s good (with_cut s (common f.parts) ((1, i) ∷ []) (lowered (common f.parts) f))
            (good_cut s good (common f.parts) ((1, i) ∷ []) (lowered (common f.parts) f)
            (λ rest. rules.by_cut s.all (common f.parts) ((1, i) ∷ []) f rest (large_one (common f.parts) none one) named_it is (common-divides f.parts) (common_not_bare f.parts none)))

    good_from : (s : State) (i : ℕ) (fs : List (Linear ℕ)) → Good s → AreAt s.all i fs → ArePlain fs → GoodTurn s (given_from s i fs)
    good_from s i [] good at plain = stays s good
    good_from s i (f ∷ fs) good at plain =
        good_then s (given s i f) (λ t. given_from t (suc i) fs)
        (good_given s i f good at.0 at.1 plain.0)
        (λ t good_t grows. good_from t (suc i) fs good_t (subst (λ (l : List (Linear ℕ)). AreAt l (suc i) fs) (sym grows.grown) (at_grown s.all grows.more (suc i) fs at.2)) plain.1)

    -- ---- the whole

    abbrev EndsWell : Elim → Type 0
    EndsWell e = (steps : Steps) → e ≡ Refuted steps → P forms steps.list

    well_ended : (s : State) (x : Turn) (f : State → Elim) → GoodTurn s x → ((t : State) → Good t → EndsWell (f t)) → EndsWell (ended x f)
    well_ended s (refuted list) f h next steps e = subst (λ (x : Steps). P forms x.list) (refuted_is (record { list = list }) steps e) h
    well_ended s (goes_on t) f h next steps e = by (is_crowded t) t.wide e
      where
        by : (a b : Bool) → cond a Crowded (cond b Wide (f t)) ≡ Refuted steps → P forms steps.list
        by true b g = absurd cc
        by false true g = absurd cc
        by false false g = next t h.0 steps g

    well_next : (o : Option (ℕ × ℕ)) (s : State) (f : State → Elim) → Good s → ((t : State) → Good t → EndsWell (f t)) → EndsWell (without_next o s f)
    well_next None s f good next steps e = absurd cc
    well_next (Some b) s f good next steps e = well_ended s (turned b.0 s) f (good_turned b.0 s good) next steps e

    well_eliminated : (n : ℕ) (s : State) → Good s → EndsWell (eliminated n s)
    well_eliminated zero s good steps e = absurd cc
    well_eliminated (suc n) s good steps e = well_next (next_variable (variables s.all s.standing)) s (λ t. eliminated n t) good (λ t good_t. well_eliminated n t good_t) steps e

    -- where elimination refutes such forms, it holds of them and its steps
    pub steps_hold : ArePlain forms → (steps : Steps) → elimination forms ≡ Refuted steps → P forms steps.list
    steps_hold plain =
        let first = at_first forms in
        well_ended first (given_from first 0 forms) (λ s. eliminated (length (variables s.all s.standing)) s)
        (good_from first 0 forms (λ rest h. h) (are_at forms 0 forms refl) plain)
        (λ t good_t. well_eliminated (length (variables t.all t.standing)) t good_t)

-- where elimination refutes such forms
pub refuted_holds : (P : List (Linear ℕ) → Type 0) → Rules P → (forms : List (Linear ℕ)) → ArePlain forms → (steps : Steps) → elimination forms ≡ Refuted steps → P forms
refuted_holds P rules forms =
    steps_hold (λ all steps. P all)
    (record { by_sum = rules.by_sum; by_cut = λ all d ms f rest large named is even free h. rules.by_cut all d ms f large named is even free h })
    forms
