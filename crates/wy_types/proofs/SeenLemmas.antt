-- What a record type stands for.
use Rattle.std.proofs.Common.{◌≡◌, ℕ, List, sym, ap, ◌∙◌}
use Rattle.wy_core.specs.Types as ty
use Rattle.wy_core.specs.declared.types.Ty.{Ty}
use Rattle.wy_core.specs.declared.types.TyKind.{TyKind-F, fold-roll-TyKind}
use Rattle.wy_core.specs.declared.types.TyKind.TheVariants as kind
use Rattle.wy_core.specs.declared.types.TyKind.TheVariants.{rolls-Record}
use Rattle.wy_core.specs.CoreSeen.{SeenConjunct, SeenSigned, atom_layer, kind_layer, conjunct_layer, part_layer, signed_layer, ty_layer}
use Rattle.wy_types.specs.SeenTypes.{seen_kind, seen_fields}

pub seen-Record : (fs : List (List ℕ × Ty)) → seen_kind (kind.Record fs) ≡ ty.RecordTy (seen_fields fs)
seen-Record fs =
    ap seen_kind (sym (rolls-Record fs))
    ∙ fold-roll-TyKind ty.Atom ty.Ty SeenConjunct ty.Part SeenSigned ty.Ty atom_layer kind_layer conjunct_layer part_layer signed_layer ty_layer (TyKind-F.TyKind::Record fs)
