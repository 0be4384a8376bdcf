-- Fields of record types, each a name and what its type stands for.
use Rattle.std.specs.Prelude.{ℕ, List, map}
use Rattle.wy_core.specs.Types as tree
use Rattle.wy_core.specs.CoreSeen.{seen_ty, field_tys_of}
use Rattle.wy_core.specs.declared.types.Ty.{Ty}

-- these fields
abbrev pub seen_field_tys : List (List ℕ × Ty) → tree.FieldTys
seen_field_tys fs = field_tys_of (map (λ f. (f.0, seen_ty f.1)) fs)
