-- What lists of the parts of a type stand for.
use Rattle.std.specs.Prelude.{ℕ, List, map}
use Rattle.wy_core.specs.Types as ty
use Rattle.wy_core.specs.declared.types.Ty.{Ty}
use Rattle.wy_core.specs.declared.types.TyKind.{TyKind, fold-TyKind}
use Rattle.wy_core.specs.declared.types.Conjunct.{Conjunct}
use Rattle.wy_core.specs.declared.types.Atom.{Atom}
use Rattle.wy_core.specs.declared.types.Part.{Part}
use Rattle.wy_core.specs.declared.types.Signed.{Signed, fold-Signed}
use Rattle.wy_core.specs.CoreSeen.{SeenConjunct, SeenSigned, atom_layer, kind_layer, conjunct_layer, part_layer, signed_layer, ty_layer, seen_ty, seen_conjunct, seen_atom, seen_part, field_tys_of, conjuncts_of, atoms_of, field_parts_of, part_of}

-- the type of this kind
abbrev pub seen_kind : TyKind → ty.Ty
seen_kind = fold-TyKind ty.Atom ty.Ty SeenConjunct ty.Part SeenSigned ty.Ty atom_layer kind_layer conjunct_layer part_layer signed_layer ty_layer

-- the signed term that the node stands for
abbrev pub seen_signed : Signed → SeenSigned
seen_signed = fold-Signed ty.Atom ty.Ty SeenConjunct ty.Part SeenSigned ty.Ty atom_layer kind_layer conjunct_layer part_layer signed_layer ty_layer

-- these fields of a record type
abbrev pub seen_fields : List (List ℕ × Ty) → ty.FieldTys
seen_fields fs = field_tys_of (map (λ f. (f.0, seen_ty f.1)) fs)

-- these conjuncts
abbrev pub seen_conjuncts : List Conjunct → ty.Conjuncts
seen_conjuncts cs = conjuncts_of (map seen_conjunct cs)

-- these atoms
abbrev pub seen_atoms : List Atom → ty.Atoms
seen_atoms xs = atoms_of (map seen_atom xs)

-- these parts of a record
abbrev pub seen_parts : List (List ℕ × Part) → ty.FieldParts
seen_parts fs = field_parts_of (map (λ f. (f.0, seen_part f.1)) fs)

-- these signed terms
abbrev pub seen_terms : List Signed → ty.Part
seen_terms ss = part_of (map seen_signed ss)
