-- What the parts of a type of the core stand for, each in a list.
use Rattle.std.specs.Prelude.{ℕ, List}
use Rattle.wy_core.specs.Types as ty
use Rattle.wy_core.specs.CoreSeen.{SeenSigned, seen_ty, seen_part}
use Rattle.wy_core.specs.declared.types.Ty.{Ty}
use Rattle.wy_core.specs.declared.types.Part.{Part}
use Rattle.wy_core.specs.declared.types.Signed.{Signed}

-- a field's name and its type
abbrev pub seen_field : List ℕ × Ty → List ℕ × ty.Ty
seen_field f = (f.0, seen_ty f.1)

-- a field's name and its part
abbrev pub seen_field_part : List ℕ × Part → List ℕ × ty.Part
seen_field_part f = (f.0, seen_part f.1)

-- a signed term: its term, whether it is read upward, and whether inside is meant
abbrev pub seen_signed : Signed → SeenSigned
seen_signed s = (seen_ty s.term, s.up, s.inside)
