-- Valid certificates and those that can be written.
use Rattle.wy_cert.specs.Steps.{Written}
use Rattle.wy_check_laws.specs.reread.Writable.{AreTrees}
use Rattle.wy_term.specs.Condition.{Condition}
use Rattle.wy_check_laws.specs.wy_check_spec.valid.Validity.{IsValid}
use Rattle.std.specs.Prelude.{List}

-- the steps of a valid certificate are those of one tree
abbrev pub ValidIsOneTree : Type 0
ValidIsOneTree = (c : Condition) (steps : List Written) → IsValid c steps → AreTrees 1 steps
