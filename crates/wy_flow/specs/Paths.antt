-- What a step of a path leads to, as the definition has it.
use Rattle.std.specs.Prelude.{List}
use Rattle.wy_core.specs.Types as ty
use Rattle.wy_core.specs.declared.types.Ty.{Ty}
use Rattle.wy_core.specs.CoreSeen.{seen_ty}
use Rattle.wy_flow_spec.specs.typing.Paths.{Reached}

abbrev pub seen_reached : List ty.Ty → Ty → Reached
seen_reached flow t = record { ty = seen_ty t; flow = flow }
