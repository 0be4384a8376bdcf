-- Accepted programs, and the values that they are run on.
use Rattle.std.specs.Prelude.{List, map}
use Rattle.wy_value.specs.Seen.{seen, seen_items}
use Rattle.wy_value.specs.Values.{AreValues}
use Rattle.wy_value.specs.declared.value.Value.{Value}
use Rattle.wy_core.specs.formed.Formed.{Formed}
use Rattle.wy_flow_spec.specs.typing.TypedPrograms.{Triple, core_of, flow_of, IsWhole}
use Rattle.wy_sound.specs.acceptance.Acceptance.{IsAccepted}
use Rattle.wy_sound_programs.specs.wy_sound_kinds.Bounded.{AllBounded}
use Rattle.wy_sound.specs.typing.Sources.{Sourced}
use Rattle.wy_sound.specs.Sound.{Shown}

-- of an accepted program that is formed, and whose variables are as those of each core that names give, nothing is left to show: so it never faults, and what it returns meets its contract
abbrev pub AcceptedAreShown : Type 0
AcceptedAreShown = (t : Triple) → IsWhole t → IsAccepted t → Formed (core_of t) → Sourced (core_of t) → Shown (core_of t) (flow_of t)

-- values of the language are data that a program may hold
abbrev pub ValuesAreHeld : Type 0
ValuesAreHeld = (vs : List Value) → AreValues (seen_items vs) → AllBounded (map seen vs)
