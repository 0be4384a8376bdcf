-- Elimination: variables of forms that are at least 0 go one after the other, until a negative constant is left or nothing.
use Rattle.std.specs.Prelude.{ℕ, zero, suc, List, [], ◌∷◌, ◌++◌, length, remove, slice_index, nat_lt, ◌==◌, Bool, true, false, if◌then◌else◌, ℤ, pos, int_lt, Option, Some, None}
use Rattle.wy_lin.specs.Linear.{Linear}
use Rattle.wy_lin.specs.Combination.{form_at}
use Rattle.wy_lin_eliminate.specs.declared.steps.LinStep.{LinStep}
use Rattle.wy_lin_eliminate.specs.declared.steps.LinStep.TheVariants.{Sum, Cut}
use Rattle.wy_lin_eliminate.specs.declared.steps.Elim.{Elim}
use Rattle.wy_lin_eliminate.specs.declared.steps.Elim.TheVariants.{Refuted, Consistent, Crowded, Wide}
use Rattle.wy_lin_eliminate.specs.declared.sides.Sides.{Sides}
use Rattle.wy_lin_eliminate.specs.Division.{common, lowered}
use Rattle.wy_lin_eliminate.specs.Variables.{agree, sides, variables, next_variable}
use Rattle.wy_lin_eliminate.specs.Sums.{Summed, refuting, dropped, beyond, cut, summed}

-- ---- forms that stand

-- the given forms and those of the cuts, the places of those that stand, the cuts so far, and whether a number left 128 bits
pub record State : Type 0 where
  pub all : List (Linear ℕ)
  pub standing : List ℕ
  pub steps : List LinStep
  pub wide : Bool

-- more forms stand than may
abbrev pub is_crowded : State → Bool
is_crowded s = nat_lt 4096 (length s.standing)

-- where, from a number on, a form with these coefficients stands
abbrev pub equal_from : List (Linear ℕ) → List (ℤ × ℕ) → List ℕ → ℕ → Option ℕ
equal_from all ps [] k = None
equal_from all ps (i ∷ is) k = if agree ps (form_at all i).parts then Some k else equal_from all ps is (suc k)

-- whether the constant is below that of the form which stands there with the same coefficients, if one does
abbrev pub is_less : List (Linear ℕ) → List ℕ → ℤ → Option ℕ → Bool
is_less all is c None = true
is_less all is c (Some k) = int_lt c (form_at all (slice_index is k)).constant

-- whether a form comes to stand
abbrev pub is_new : State → Linear ℕ → Bool
is_new s f = is_less s.all s.standing f.constant (equal_from s.all f.parts s.standing 0)

abbrev pub removed_at : List ℕ → Option ℕ → List ℕ
removed_at is None = is
removed_at is (Some k) = remove is k

-- the places without that of a form with the same coefficients
abbrev pub room_for : State → Linear ℕ → List ℕ
room_for s f = removed_at s.standing (equal_from s.all f.parts s.standing 0)

-- a form that has a place comes to stand last, in place of one with the same coefficients and a greater constant
abbrev pub with_place : State → ℕ → Linear ℕ → State
with_place s i f = if is_new s f then record s { standing = room_for s f ++ i ∷ [] } else s

-- so does one that a cut gives, at a place of its own
abbrev pub with_cut : State → ℕ → List (ℕ × ℕ) → Linear ℕ → State
with_cut s d ms f =
    if is_new s f
    then record { all = s.all ++ f ∷ []; standing = room_for s f ++ length s.all ∷ []; steps = s.steps ++ Cut d ms ∷ []; wide = s.wide }
    else s

-- ---- one form or sum after the other

-- the forms so far, or the steps that refute them
pub data Turn : Type 0 where
  goes_on : State → Turn
  refuted : List LinStep → Turn

abbrev pub and_then : Turn → (State → Turn) → Turn
and_then (goes_on s) f = f s
and_then (refuted steps) f = refuted steps

-- where more forms stand than may, only what refutes still counts
abbrev pub unless_crowded : State → State → Turn
unless_crowded s t = if is_crowded s then goes_on s else goes_on t

abbrev pub refuted_by : State → List (ℕ × ℕ) → Turn
refuted_by s ms = refuted (s.steps ++ Sum ms ∷ [])

-- a given form, by the greatest common divisor of its coefficients
abbrev pub given_by : State → ℕ → Linear ℕ → ℕ → Turn
given_by s i f d =
    if d == 0 then (if int_lt f.constant (pos 0) then refuted_by s ((1, i) ∷ []) else goes_on s)
    else (if d == 1 then unless_crowded s (with_place s i f)
    else unless_crowded s (with_cut s d ((1, i) ∷ []) (lowered d f)))

abbrev pub given : State → ℕ → Linear ℕ → Turn
given s i f = given_by s i f (common f.parts)

-- forms, the first of which has this place
abbrev pub given_from : State → ℕ → List (Linear ℕ) → Turn
given_from s i [] = goes_on s
given_from s i (f ∷ fs) = and_then (given s i f) (λ t. given_from t (suc i) fs)

-- a sum
abbrev pub after_sum : State → Summed → Turn
after_sum s (refuting ms) = refuted_by s ms
after_sum s dropped = goes_on s
after_sum s beyond = goes_on (record s { wide = true })
after_sum s (cut d ms f) = unless_crowded s (with_cut s d ms f)

-- a lower form with each of the upper forms
abbrev pub over_uppers : ℕ → ℕ → State → List ℕ → Turn
over_uppers v l s [] = goes_on s
over_uppers v l s (u ∷ us) = and_then (after_sum s (summed s.all v l u)) (λ t. over_uppers v l t us)

-- each of the lower forms
abbrev pub over_lowers : ℕ → List ℕ → State → List ℕ → Turn
over_lowers v us s [] = goes_on s
over_lowers v us s (l ∷ ls) = and_then (over_uppers v l s us) (λ t. over_lowers v us t ls)

-- the forms without the variable, and then the sums of those on its sides
abbrev pub over_sides : ℕ → State → Sides → Turn
over_sides v s parted = over_lowers v parted.upper (record s { standing = parted.without }) parted.lower

abbrev pub turned : ℕ → State → Turn
turned v s = over_sides v s (sides s.all v s.standing)

-- ---- the whole

-- what a turn ends with, or else what follows
abbrev pub ended : Turn → (State → Elim) → Elim
ended (refuted steps) f = Refuted (record { list = steps })
ended (goes_on s) f = if is_crowded s then Crowded else (if s.wide then Wide else f s)

-- the variable goes, if there is one
abbrev pub without_next : Option (ℕ × ℕ) → State → (State → Elim) → Elim
without_next None s f = Consistent
without_next (Some b) s f = ended (turned b.0 s) f

-- the next variable goes, and the rest follows
abbrev pub step : State → (State → Elim) → Elim
step s f = without_next (next_variable (variables s.all s.standing)) s f

-- so many variables go
abbrev pub eliminated : ℕ → State → Elim
eliminated zero s = Consistent
eliminated (suc n) s = step s (λ t. eliminated n t)

-- the given forms, none of which stands yet
abbrev pub at_first : List (Linear ℕ) → State
at_first forms = record { all = forms; standing = []; steps = []; wide = false }

-- every variable of the given forms goes
abbrev pub elimination : List (Linear ℕ) → Elim
elimination forms = ended (given_from (at_first forms) 0 forms) (λ s. eliminated (length (variables s.all s.standing)) s)
