-- Elimination refutes no forms that are all at least 0.
use Rattle.std.proofs.Common.{◌≡◌, ◌∙◌, ◌*◌, ◌<◌, ◌&&◌, ◌^◌, ℕ, zero, suc, List, [], ◌∷◌, ◌++◌, length, Bool, true, false, cond, eqb, ℤ, pos, ◌+ℤ◌, Option, Some, None, refl, sym, ap, subst, arith}
use Rattle.std.specs.Prelude.{int_lt, int_le, nat_lt, unsigned_abs}
use Rattle.std.proofs.lemmas.Bool.{eqb-true}
use Rattle.wy_search_bounds.specs.wy_lin.Linear.{Linear}
use Rattle.wy_search_bounds.specs.wy_lin.Combination.{form_at, combined}
use Rattle.wy_search_bounds.specs.wy_lin_eliminate.declared.steps.LinStep.{LinStep}
use Rattle.wy_search_bounds.specs.wy_lin_eliminate.declared.steps.LinStep.TheVariants.{Cut}
use Rattle.wy_search_bounds.specs.wy_lin_eliminate.declared.steps.Elim.{Elim}
use Rattle.wy_search_bounds.specs.wy_lin_eliminate.declared.steps.Elim.TheVariants.{Refuted, Consistent, Crowded, Wide}
use Rattle.wy_search_bounds.specs.wy_lin_eliminate.declared.sides.Sides.{Sides}
use Rattle.wy_search_bounds.specs.wy_lin_eliminate.declared.sums.Pair.{Pair}
use Rattle.wy_search_bounds.specs.wy_lin_eliminate.Division.{common, lowered}
use Rattle.wy_search_bounds.specs.wy_lin_eliminate.Variables.{opposite, coefficient_at, sides, variables, next_variable}
use Rattle.wy_search_bounds.specs.wy_lin_eliminate.Sums.{Summed, refuting, dropped, beyond, cut, pair_by, doubled, multipliers, in_step, by_two, by_common, unstated, by_sum, summed}
use Rattle.wy_search_bounds.specs.wy_lin_eliminate.Elimination.{State, is_crowded, is_new, room_for, with_place, with_cut, Turn, goes_on, refuted, and_then, unless_crowded, refuted_by, given_by, given, given_from, after_sum, over_uppers, over_lowers, turned, ended, without_next, step, eliminated, at_first, elimination}
use Rattle.wy_search_bounds.proofs.wy_lin_eliminate_proofs.ValidityLemmas.{twice-divides}
use Rattle.wy_search_laws.specs.sound.Closed.{IsNatural, AreNatural, RefutedFormsAreNegative}
use Rattle.wy_search_laws.proofs.sound_lemmas.FormLemmas.{cond_some, natural_last, combined_natural, bare_never, lowered_natural, common_lowered}

pub not_zero : (d : ℕ) → eqb d 0 ≡ false → 0 < d
not_zero zero e = absurd cc
not_zero (suc d) e = omega arith

module _ (values : ℕ → ℤ) where
  -- all forms so far are at least 0
  abbrev TurnIsSound : Turn → Type 0
  TurnIsSound (goes_on s) = AreNatural values s.all
  TurnIsSound (refuted steps) = ⊥

  then_sound : (t : Turn) (f : State → Turn) → TurnIsSound t → ((s : State) → AreNatural values s.all → TurnIsSound (f s)) → TurnIsSound (and_then t f)
  then_sound (goes_on s) f h g = g s h
  then_sound (refuted steps) f h g = absurd h

  unless_sound : (s t : State) → AreNatural values s.all → AreNatural values t.all → TurnIsSound (unless_crowded s t)
  unless_sound s t h g = by (is_crowded s)
    where
      by : (b : Bool) → TurnIsSound (cond b (goes_on s) (goes_on t))
      by true = h
      by false = g

  place_sound : (s : State) (i : ℕ) (f : Linear ℕ) → AreNatural values s.all → AreNatural values (with_place s i f).all
  place_sound s i f h = by (is_new s f)
    where
      by : (b : Bool) → AreNatural values (cond b (record s { standing = room_for s f ++ i ∷ [] }) s).all
      by true = h
      by false = h

  cut_sound : (s : State) (d : ℕ) (ms : List (ℕ × ℕ)) (f : Linear ℕ) → AreNatural values s.all → IsNatural values f → AreNatural values (with_cut s d ms f).all
  cut_sound s d ms f h g = by (is_new s f)
    where
      by : (b : Bool) → AreNatural values (cond b (record { all = s.all ++ f ∷ []; standing = room_for s f ++ length s.all ∷ []; steps = s.steps ++ Cut d ms ∷ []; wide = s.wide }) s).all
      by true = natural_last values s.all f h g
      by false = h

  -- ---- given forms

  given_sound : (s : State) (i : ℕ) (f : Linear ℕ) → AreNatural values s.all → IsNatural values f → TurnIsSound (given s i f)
  given_sound s i f h g = by_divisor (eqb (common f.parts) 0) (eqb (common f.parts) 1) refl
    where
      bare : (b : Bool) → int_lt f.constant (pos 0) ≡ b → common f.parts ≡ 0 → TurnIsSound (cond b (refuted_by s ((1, i) ∷ [])) (goes_on s))
      bare true is none = bare_never values f g none is
      bare false is none = h

      by_divisor : (b c : Bool) → eqb (common f.parts) 0 ≡ b → TurnIsSound (cond b (cond (int_lt f.constant (pos 0)) (refuted_by s ((1, i) ∷ [])) (goes_on s)) (cond c (unless_crowded s (with_place s i f)) (unless_crowded s (with_cut s (common f.parts) ((1, i) ∷ []) (lowered (common f.parts) f)))))
      by_divisor true c is = bare (int_lt f.constant (pos 0)) refl (eqb-true (common f.parts) 0 is)
      by_divisor false true is = unless_sound s (with_place s i f) h (place_sound s i f h)
      by_divisor false false is =
          unless_sound s (with_cut s (common f.parts) ((1, i) ∷ []) (lowered (common f.parts) f)) h
          (cut_sound s (common f.parts) ((1, i) ∷ []) (lowered (common f.parts) f) h (common_lowered values f (not_zero (common f.parts) is) g))

  all_given_sound : (s : State) (i : ℕ) (fs : List (Linear ℕ)) → AreNatural values s.all → AreNatural values fs → TurnIsSound (given_from s i fs)
  all_given_sound s i [] h g = h
  all_given_sound s i (f ∷ fs) h g = then_sound (given s i f) (λ t. given_from t (suc i) fs) (given_sound s i f h g.0) (λ t k. all_given_sound t (suc i) fs k g.1)

  -- ---- sums

  abbrev SumIsSound : Summed → Type 0
  SumIsSound (refuting ms) = ⊥
  SumIsSound dropped = Unit {0}
  SumIsSound beyond = Unit {0}
  SumIsSound (cut d ms f) = IsNatural values f

  unstated_sound : (all : List (Linear ℕ)) (p : Pair) → SumIsSound (unstated all p)
  unstated_sound all p = by (opposite (form_at all p.lower).parts (form_at all p.upper).parts && int_le (pos 0) ((form_at all p.lower).constant +ℤ (form_at all p.upper).constant))
    where
      by : (b : Bool) → SumIsSound (cond b dropped beyond)
      by true = tt
      by false = tt

  stated : (all : List (Linear ℕ)) (p : Pair) (f : Linear ℕ) → in_step all p ≡ Some f → combined all (multipliers p) ≡ Some f
  stated all p f e = (cond_some (nat_lt p.times_lower (2 ^ 127) && nat_lt p.times_upper (2 ^ 127)) (combined all (multipliers p)) f e).1

  two_sound : (all : List (Linear ℕ)) (p : Pair) (o : Option (Linear ℕ)) → AreNatural values all → in_step all (doubled p) ≡ o → SumIsSound (by_two (doubled p) o)
  two_sound all p None h e = tt
  two_sound all p (Some f) h e =
      let is = stated all (doubled p) f e in
      let two : 0 < 2 = omega arith in
      lowered_natural values 2 f two (twice-divides all p.times_lower p.lower p.times_upper p.upper f is) (combined_natural values all (multipliers (doubled p)) f h is)

  common_sound : (all : List (Linear ℕ)) (p : Pair) (f : Linear ℕ) → AreNatural values all → IsNatural values f → SumIsSound (by_common all p f (common f.parts))
  common_sound all p f h g = by_divisor (eqb (common f.parts) 0) (eqb (common f.parts) 1) refl
    where
      bare : (b : Bool) → int_lt f.constant (pos 0) ≡ b → common f.parts ≡ 0 → SumIsSound (cond b (refuting (multipliers p)) dropped)
      bare true is none = bare_never values f g none is
      bare false is none = tt

      by_divisor : (b c : Bool) → eqb (common f.parts) 0 ≡ b → SumIsSound (cond b (cond (int_lt f.constant (pos 0)) (refuting (multipliers p)) dropped) (cond c (by_two (doubled p) (in_step all (doubled p))) (cut (common f.parts) (multipliers p) (lowered (common f.parts) f))))
      by_divisor true c is = bare (int_lt f.constant (pos 0)) refl (eqb-true (common f.parts) 0 is)
      by_divisor false true is = two_sound all p (in_step all (doubled p)) h refl
      by_divisor false false is = common_lowered values f (not_zero (common f.parts) is) g

  sum_sound : (all : List (Linear ℕ)) (p : Pair) (o : Option (Linear ℕ)) → AreNatural values all → in_step all p ≡ o → SumIsSound (by_sum all p o)
  sum_sound all p None h e = unstated_sound all p
  sum_sound all p (Some f) h e = common_sound all p f h (combined_natural values all (multipliers p) f h (stated all p f e))

  summed_sound : (all : List (Linear ℕ)) (v l u : ℕ) → AreNatural values all → SumIsSound (summed all v l u)
  summed_sound all v l u h =
      let p = pair_by l u (unsigned_abs (coefficient_at all v l)) (unsigned_abs (coefficient_at all v u)) in
      sum_sound all p (in_step all p) h refl

  after_sound : (s : State) (x : Summed) → AreNatural values s.all → SumIsSound x → TurnIsSound (after_sum s x)
  after_sound s (refuting ms) h g = absurd g
  after_sound s dropped h g = h
  after_sound s beyond h g = h
  after_sound s (cut d ms f) h g = unless_sound s (with_cut s d ms f) h (cut_sound s d ms f h g)

  uppers_sound : (v l : ℕ) (s : State) (us : List ℕ) → AreNatural values s.all → TurnIsSound (over_uppers v l s us)
  uppers_sound v l s [] h = h
  uppers_sound v l s (u ∷ us) h = then_sound (after_sum s (summed s.all v l u)) (λ t. over_uppers v l t us) (after_sound s (summed s.all v l u) h (summed_sound s.all v l u h)) (λ t k. uppers_sound v l t us k)

  lowers_sound : (v : ℕ) (us : List ℕ) (s : State) (ls : List ℕ) → AreNatural values s.all → TurnIsSound (over_lowers v us s ls)
  lowers_sound v us s [] h = h
  lowers_sound v us s (l ∷ ls) h = then_sound (over_uppers v l s us) (λ t. over_lowers v us t ls) (uppers_sound v l s us h) (λ t k. lowers_sound v us t ls k)

  turned_sound : (v : ℕ) (s : State) → AreNatural values s.all → TurnIsSound (turned v s)
  turned_sound v s h = by (sides s.all v s.standing)
    where
      by : (parted : Sides) → TurnIsSound (over_lowers v parted.upper (record s { standing = parted.without }) parted.lower)
      by parted = lowers_sound v parted.upper (record s { standing = parted.without }) parted.lower h

  -- ---- the whole

  abbrev EndIsSound : Elim → Type 0
  EndIsSound (Refuted steps) = ⊥
  EndIsSound Consistent = Unit {0}
  EndIsSound Crowded = Unit {0}
  EndIsSound Wide = Unit {0}

  ended_sound : (t : Turn) (f : State → Elim) → TurnIsSound t → ((s : State) → AreNatural values s.all → EndIsSound (f s)) → EndIsSound (ended t f)
  ended_sound (refuted steps) f h g = absurd h
  ended_sound (goes_on s) f h g = by (is_crowded s) s.wide
    where
      by : (b c : Bool) → EndIsSound (cond b Crowded (cond c Wide (f s)))
      by true c = tt
      by false true = tt
      by false false = g s h

  next_sound : (o : Option (ℕ × ℕ)) (s : State) (f : State → Elim) → AreNatural values s.all → ((t : State) → AreNatural values t.all → EndIsSound (f t)) → EndIsSound (without_next o s f)
  next_sound None s f h g = tt
  next_sound (Some b) s f h g = ended_sound (turned b.0 s) f (turned_sound b.0 s h) g

  eliminated_sound : (n : ℕ) (s : State) → AreNatural values s.all → EndIsSound (eliminated n s)
  eliminated_sound zero s h = tt
  eliminated_sound (suc n) s h = next_sound (next_variable (variables s.all s.standing)) s (λ t. eliminated n t) h (λ t k. eliminated_sound n t k)

  elimination_sound : (forms : List (Linear ℕ)) → AreNatural values forms → EndIsSound (elimination forms)
  elimination_sound forms h =
      ended_sound (given_from (at_first forms) 0 forms) (λ s. eliminated (length (variables s.all s.standing)) s)
      (all_given_sound (at_first forms) 0 forms h h)
      (λ s k. eliminated_sound (length (variables s.all s.standing)) s k)

pub refuted_never : RefutedFormsAreNegative
refuted_never forms steps e values h = subst (EndIsSound values) e (elimination_sound values forms h)
