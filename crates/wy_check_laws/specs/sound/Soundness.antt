-- What a valid certificate shows.
use Rattle.std.specs.Prelude.{List}
use Rattle.wy_check_spec.specs.wy_term.Condition.{Condition, HoldsAlways}
use Rattle.wy_check_spec.specs.wy_term.Unfolding.{AreClosed}
use Rattle.wy_check_spec.specs.wy_cert.Steps.{Written}
use Rattle.wy_check_spec.specs.valid.Validity.{IsValid}
use Rattle.wy_check_laws.specs.sound.Sortedness.{IsSortedCondition, AreSortedSteps}

-- A condition with a valid certificate is true, whatever its names stand for. The formula of each of its named types has no other free name than the one that is listed with it, and all terms are of the sorts that their places want.
abbrev pub ValidImpliesTrue : Type 0
ValidImpliesTrue = (c : Condition) (steps : List Written) → IsSortedCondition c → AreClosed c.types → AreSortedSteps steps → IsValid c steps → HoldsAlways c
