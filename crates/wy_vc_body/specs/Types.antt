-- Declared types by the variables' numbers.
use Rattle.std.specs.Prelude.{List, map, Option, Some, None}
use Rattle.wy_core.specs.Types as ty
use Rattle.wy_core.specs.CoreSeen.{seen_ty}
use Rattle.wy_core.specs.declared.types.Ty.{Ty}

-- what has no declared type may be anything
abbrev pub or_any : Option Ty → ty.Ty
or_any None = ty.AnyTy
or_any (Some t) = seen_ty t

abbrev pub types_in : List (Option Ty) → List ty.Ty
types_in ts = map or_any ts
