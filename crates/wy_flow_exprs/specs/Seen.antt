-- What the code knows, as the definition has it.
use Rattle.std.specs.Prelude.{ℕ, List, map, Option, Some, None}
use Rattle.wy_core.specs.Types as ty
use Rattle.wy_core.specs.declared.types.Ty.{Ty}
use Rattle.wy_core.specs.CoreSeen.{seen_ty}
use Rattle.wy_types.specs.Names.{types_of}
use Rattle.wy_flow_spec.specs.environment.Seen.{seen_changes}
use Rattle.wy_flow_spec.specs.typing.Contexts as typing
use Rattle.wy_flow_exprs.specs.declared.signatures.Signature.{Signature}
use Rattle.wy_flow_exprs.specs.declared.walk.Program.{Program}
use Rattle.wy_flow_exprs.specs.declared.walk.Walk.{Walk}
use Rattle.wy_flow_exprs.specs.declared.walk.Found.{Found}

-- a type that may be absent
abbrev pub seen_result : Option Ty → Option ty.Ty
seen_result None = None
seen_result (Some t) = Some (seen_ty t)

-- these types
abbrev pub seen_types : List Ty → List ty.Ty
seen_types ts = map seen_ty ts

-- these fields
abbrev pub seen_field_types : List (List ℕ × Ty) → List (List ℕ × ty.Ty)
seen_field_types fs = map (λ f. (f.0, seen_ty f.1)) fs

abbrev pub seen_signature : Signature → typing.Signature
seen_signature s = record { params = seen_types s.params; result = seen_result s.result }

abbrev pub seen_program : Program → typing.Program
seen_program p = record { names = types_of p.names; signatures = map seen_signature p.signatures }

-- the types of the expressions so far
abbrev pub seen_flow : Walk → List ty.Ty
seen_flow w = seen_types w.flow

-- what was found of an expression, with the types of all so far
abbrev pub seen_found : List ty.Ty → Found → typing.Found
seen_found flow f = record { ty = seen_ty f.ty; yes = seen_changes f.yes; no = seen_changes f.no; flow = flow }

-- so of several expressions
abbrev pub seen_all : List ty.Ty → List Ty → typing.FoundAll
seen_all flow ts = record { types = seen_types ts; flow = flow }

-- so of fields
abbrev pub seen_all_fields : List ty.Ty → List (List ℕ × Ty) → typing.FoundFields
seen_all_fields flow fs = record { fields = seen_field_types fs; flow = flow }
