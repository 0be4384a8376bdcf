-- When is a program accepted?
use Rattle.std.specs.Prelude.{List, [], ◌∷◌}
use Rattle.wy_assign.specs.Assigned.{IsAssigned}
use Rattle.wy_cert.specs.Steps.{Written}
use Rattle.wy_sound_programs.specs.wy_sound_terms.formed.OwedConditions.{owed_conditions}
use Rattle.wy_sound_types.specs.wy_vc_laws.shown.Certified.{AllHold}
use Rattle.wy_sound_types.specs.wy_check_laws.sound.Sortedness.{AreSortedSteps}
use Rattle.wy_term.specs.Condition.{Condition}
use Rattle.wy_flow_spec.specs.typing.TypedPrograms.{Triple, core_of, flow_of}
use Rattle.wy_sound_types.specs.wy_check_spec.valid.Validity.{IsValid}

-- every condition that the program owes is true, whatever its names stand for
abbrev pub AreTrue : Triple → Type 0
AreTrue t = AllHold (owed_conditions (core_of t) (flow_of t))

-- beside that it is well typed: each variable is assigned before its uses, and its conditions are true
pub record IsAccepted (t : Triple) : Type 0 where
  pub assigned : IsAssigned (core_of t)
  pub holds : AreTrue t

-- the steps are valid for the condition, and their terms are of the sorts of their places
pub record Proves (c : Condition) (steps : List Written) : Type 0 where
  pub valid : IsValid c steps
  pub sorted : AreSortedSteps steps

-- each condition has the certificate at its place
abbrev pub AreProved : List Condition → List (List Written) → Type 0
AreProved [] [] = Unit {0}
AreProved [] (s ∷ ss) = ⊥
AreProved (c ∷ cs) [] = ⊥
AreProved (c ∷ cs) (s ∷ ss) = Proves c s × AreProved cs ss
