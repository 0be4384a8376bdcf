-- What a type stands for, by its kind, where its parts were read by reference.
use Rattle.std.proofs.Common.{◌≡◌, ◌∙◌, ℕ, List, map, sym, ap, rules}
use Rattle.wy_core.specs.CoreSeen.{conjuncts_of, field_tys_of, seen_conjunct, seen_ty}
use Rattle.wy_core.specs.Types as ty
use Rattle.wy_core.specs.declared.types.Conjunct.{Conjunct}
use Rattle.wy_core.specs.declared.types.Ty as t
use Rattle.wy_core.specs.declared.types.Ty.{Ty}
use Rattle.wy_core.specs.declared.types.TyKind as sort

pub null_type : (x : Ty) → x.kind ≡ sort.Null → seen_ty x ≡ ty.NullTy
null_type x is = search (rules, t.the_lemmas)

pub bool_type : (x : Ty) → x.kind ≡ sort.Bool → seen_ty x ≡ ty.BoolTy
bool_type x is = search (rules, t.the_lemmas)

pub int_type : (x : Ty) → x.kind ≡ sort.Int → seen_ty x ≡ ty.IntTy
int_type x is = search (rules, t.the_lemmas)

pub any_type : (x : Ty) → x.kind ≡ sort.Any → seen_ty x ≡ ty.AnyTy
any_type x is = search (rules, t.the_lemmas)

pub void_type : (x : Ty) → x.kind ≡ sort.Void → seen_ty x ≡ ty.VoidTy
void_type x is = search (rules, t.the_lemmas)

array_type_itself : (x a : Ty) → x.kind ≡ sort.Array a → seen_ty x ≡ ty.ArrayTy (seen_ty a)
array_type_itself x a is = search (rules, t.the_lemmas)

pub array_type : (x a a2 : Ty) → x.kind ≡ sort.Array a → a2 ≡ a → seen_ty x ≡ ty.ArrayTy (seen_ty a2)
array_type x a a2 is same = array_type_itself x a is ∙ ap (λ (z : Ty). ty.ArrayTy (seen_ty z)) (sym same)

not_type_itself : (x a : Ty) → x.kind ≡ sort.Not a → seen_ty x ≡ ty.NotTy (seen_ty a)
not_type_itself x a is = search (rules, t.the_lemmas)

pub not_type : (x a a2 : Ty) → x.kind ≡ sort.Not a → a2 ≡ a → seen_ty x ≡ ty.NotTy (seen_ty a2)
not_type x a a2 is same = not_type_itself x a is ∙ ap (λ (z : Ty). ty.NotTy (seen_ty z)) (sym same)

union_type_itself : (x a b : Ty) → x.kind ≡ sort.Union a b → seen_ty x ≡ ty.UnionTy (seen_ty a) (seen_ty b)
union_type_itself x a b is = search (rules, t.the_lemmas)

pub union_type : (x a b a2 b2 : Ty) → x.kind ≡ sort.Union a b → a2 ≡ a → b2 ≡ b → seen_ty x ≡ ty.UnionTy (seen_ty a2) (seen_ty b2)
union_type x a b a2 b2 is same also = union_type_itself x a b is ∙ ap (λ (z : Ty). ty.UnionTy (seen_ty z) (seen_ty b)) (sym same) ∙ ap (λ (z : Ty). ty.UnionTy (seen_ty a2) (seen_ty z)) (sym also)

inter_type_itself : (x a b : Ty) → x.kind ≡ sort.Inter a b → seen_ty x ≡ ty.InterTy (seen_ty a) (seen_ty b)
inter_type_itself x a b is = search (rules, t.the_lemmas)

pub inter_type : (x a b a2 b2 : Ty) → x.kind ≡ sort.Inter a b → a2 ≡ a → b2 ≡ b → seen_ty x ≡ ty.InterTy (seen_ty a2) (seen_ty b2)
inter_type x a b a2 b2 is same also = inter_type_itself x a b is ∙ ap (λ (z : Ty). ty.InterTy (seen_ty z) (seen_ty b)) (sym same) ∙ ap (λ (z : Ty). ty.InterTy (seen_ty a2) (seen_ty z)) (sym also)

record_type_itself : (x : Ty) (fs : List (List ℕ × Ty)) → x.kind ≡ sort.Record fs → seen_ty x ≡ ty.RecordTy (field_tys_of (map (λ f. (f.0, seen_ty f.1)) fs))
record_type_itself x fs is = search (rules, t.the_lemmas)

pub record_type : (x : Ty) (fs fs2 : List (List ℕ × Ty)) → x.kind ≡ sort.Record fs → fs2 ≡ fs → seen_ty x ≡ ty.RecordTy (field_tys_of (map (λ f. (f.0, seen_ty f.1)) fs2))
record_type x fs fs2 is same = record_type_itself x fs is ∙ ap (λ (z : List (List ℕ × Ty)). ty.RecordTy (field_tys_of (map (λ f. (f.0, seen_ty f.1)) z))) (sym same)

pub named_type : (x : Ty) (n : ℕ) → x.kind ≡ sort.Named n → seen_ty x ≡ ty.NamedTy n
named_type x n is = search (rules, t.the_lemmas)

pub normal_type : (x : Ty) (cs : List Conjunct) → x.kind ≡ sort.Normal cs → seen_ty x ≡ ty.NormalTy (conjuncts_of (map seen_conjunct cs))
normal_type x cs is = search (rules, t.the_lemmas)
