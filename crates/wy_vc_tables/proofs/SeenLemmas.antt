-- What record types stand for.
use Rattle.std.proofs.Common.{◌≡◌, ℕ, List, map, rules}
use Rattle.wy_core.specs.Types as ty
use Rattle.wy_core.specs.CoreSeen.{field_tys_of, seen_ty}
use Rattle.wy_core.specs.declared.types.Ty as t
use Rattle.wy_core.specs.declared.types.TyKind as kind

pub seen_record_ty : (x : t.Ty) (fs : List (List ℕ × t.Ty)) → x.kind ≡ kind.Record fs → seen_ty x ≡ ty.RecordTy (field_tys_of (map (λ f. (f.0, seen_ty f.1)) fs))
seen_record_ty x fs is = search (rules, t.the_lemmas)
