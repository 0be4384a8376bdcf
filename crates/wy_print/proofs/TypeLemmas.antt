-- What types are written as, by their kinds. A part may be read again.
use Rattle.std.proofs.Common.{◌≡◌, ℕ, List, ◌++◌, rules, codes}
use Rattle.wy_ast.specs.declared.types.Ty.{Ty, the_lemmas}
use Rattle.wy_ast.specs.declared.types.TyKind as kind
use Rattle.wy_print.specs.declared.types.TheConstants.{UNION, INTERSECTION, SUFFIX, TIGHT}
use Rattle.wy_print.specs.Pieces.{listed}
use Rattle.wy_print.specs.TypeText.{shown_ty, ty_text, part, shown_field_tys}

pub record_text : (t : Ty) (fields : List (List ℕ × Ty)) → t.kind ≡ kind.Record fields → ty_text t ≡ codes "{" ++ (listed (shown_field_tys fields) ++ codes "}")
record_text t fields e = search (rules, the_lemmas)

pub array_text : (t item : Ty) → t.kind ≡ kind.Array item → ty_text t ≡ part SUFFIX (shown_ty item) ++ codes "[]"
array_text t item e = search (rules, the_lemmas)

pub union_text : (t a b : Ty) → t.kind ≡ kind.Union a b → ty_text t ≡ part UNION (shown_ty a) ++ (codes "|" ++ part INTERSECTION (shown_ty b))
union_text t a b e = search (rules, the_lemmas)

pub inter_text : (t a b : Ty) → t.kind ≡ kind.Inter a b → ty_text t ≡ part INTERSECTION (shown_ty a) ++ (codes "&" ++ part SUFFIX (shown_ty b))
inter_text t a b e = search (rules, the_lemmas)

pub not_text : (t a : Ty) → t.kind ≡ kind.Not a → ty_text t ≡ codes "!" ++ part TIGHT (shown_ty a)
not_text t a e = search (rules, the_lemmas)
