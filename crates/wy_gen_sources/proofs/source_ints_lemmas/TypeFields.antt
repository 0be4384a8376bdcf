-- The types that are read have names in their records.
use Rattle.std.proofs.Common.{◌≡◌, ℕ, zero, suc, List, [], ◌∷◌, map, refl, sym, subst, rules}
use Rattle.wy_data.specs.Words.{IsName}
use Rattle.wy_ast.specs.SurfaceTree as tree
use Rattle.wy_ast.specs.SurfaceSeen.{seen_ty}
use Rattle.wy_ast.specs.declared.types.Ty.{Ty, the_lemmas}
use Rattle.wy_ast.specs.declared.types.TyKind.{TyKind}
use Rattle.wy_ast.specs.declared.types.TyKind.TheVariants as ty
use Rattle.wy_print_laws.specs.wy_lex.declared.token.TokenKind.{TokenKind}
use Rattle.wy_print_laws.specs.wy_lex.declared.token.TokenKind.TheVariants as k
use Rattle.wy_print_laws.specs.wy_parse_grammar.declared.measured.Measured.TheVariants.{Low}
use Rattle.wy_print_laws.specs.wy_parse_grammar.declared.fault.Kind.TheVariants.{Deep}
use Rattle.wy_print_laws.specs.wy_parse_grammar.declared.sort.Class.TheVariants as kinds
use Rattle.wy_print_laws.specs.wy_parse_grammar.Sorts as t
use Rattle.wy_print_laws.specs.wy_parse_grammar.Sorts.{has}
use Rattle.wy_print_laws.specs.wy_parse_grammar.Steps.{R, inside}
use Rattle.wy_print_laws.specs.wy_parse_grammar.Trees.{both, made, pushed, named, none, ty_node, named_ty, array_ty, not_ty, union_ty, inter_ty, record_ty}
use Rattle.wy_print_laws.specs.wy_parse_grammar.TypeGrammar.{T, Fields, base_kind, Base, Brackets, Suffixes, Suffix, AndSuffix, Inters, Inter, OrInter, Unions, Union, Tail, Rest, Field, NextField, FieldList, TightOf, Tight, Type_, TypeRest, TypeTail}
use Rattle.wy_gen_sources.specs.source_ints.SourceFields.{FieldsTy, FieldsTys}
use Rattle.wy_print_laws.proofs.round_lemmas.Gives.{Gives, gives-pure, gives-one, gives-then, gives-or, gives-loop, gives-refused, gives-mark, gives-inner, gives-name}
use Rattle.wy_gen_sources.proofs.source_ints_lemmas.LowLemmas.{OnLow, AllOf, low-both, low-made, low-pushed, low-named, low-ty}

-- ---- nodes

abbrev ty_at : ℕ → TyKind → Ty
ty_at at kind = record { at = at; kind = kind }

abbrev pub IsTy : Ty → Type 0
IsTy x = FieldsTy (seen_ty x)

abbrev pub IsT : T → Type 0
IsT m = OnLow IsTy m

is-ty : (x : Ty) (y : tree.Ty) → seen_ty x ≡ y → FieldsTy y → IsTy x
is-ty x y e h = subst (λ (z : tree.Ty). FieldsTy z) (sym e) h

seen_array : (x a : Ty) → x.kind ≡ ty.Array a → seen_ty x ≡ tree.ArrayTy x.at (seen_ty a)
seen_array x a is = search (rules, the_lemmas)

seen_not : (x a : Ty) → x.kind ≡ ty.Not a → seen_ty x ≡ tree.NotTy x.at (seen_ty a)
seen_not x a is = search (rules, the_lemmas)

seen_union : (x a b : Ty) → x.kind ≡ ty.Union a b → seen_ty x ≡ tree.UnionTy x.at (seen_ty a) (seen_ty b)
seen_union x a b is = search (rules, the_lemmas)

seen_inter : (x a b : Ty) → x.kind ≡ ty.Inter a b → seen_ty x ≡ tree.InterTy x.at (seen_ty a) (seen_ty b)
seen_inter x a b is = search (rules, the_lemmas)

seen_record : (x : Ty) (fs : List (List ℕ × Ty)) → x.kind ≡ ty.Record fs → seen_ty x ≡ tree.RecordTy x.at (tree.field_tys_of (map (λ f. (f.0, seen_ty f.1)) fs))
seen_record x fs is = search (rules, the_lemmas)

seen_named : (x : Ty) (name : List ℕ) → x.kind ≡ ty.Named name → seen_ty x ≡ tree.NamedTy x.at name
seen_named x name is = search (rules, the_lemmas)

seen_null : (x : Ty) → x.kind ≡ ty.Null → seen_ty x ≡ tree.NullTy x.at
seen_null x is = search (rules, the_lemmas)

seen_bool : (x : Ty) → x.kind ≡ ty.Bool → seen_ty x ≡ tree.BoolTy x.at
seen_bool x is = search (rules, the_lemmas)

seen_int : (x : Ty) → x.kind ≡ ty.Int → seen_ty x ≡ tree.IntTy x.at
seen_int x is = search (rules, the_lemmas)

seen_any : (x : Ty) → x.kind ≡ ty.Any → seen_ty x ≡ tree.AnyTy x.at
seen_any x is = search (rules, the_lemmas)

seen_void : (x : Ty) → x.kind ≡ ty.Void → seen_ty x ≡ tree.VoidTy x.at
seen_void x is = search (rules, the_lemmas)

array-t : (at : ℕ) (m : T) → IsT m → IsT (array_ty at m)
array-t at m p = low-ty IsTy at (made ty.Array m) (low-made IsTy (λ k. IsTy (ty_at at k)) ty.Array m (λ x h. is-ty (ty_at at (ty.Array x)) (tree.ArrayTy at (seen_ty x)) (seen_array (ty_at at (ty.Array x)) x refl) h) p)

not-t : (at : ℕ) (m : T) → IsT m → IsT (not_ty at m)
not-t at m p = low-ty IsTy at (made ty.Not m) (low-made IsTy (λ k. IsTy (ty_at at k)) ty.Not m (λ x h. is-ty (ty_at at (ty.Not x)) (tree.NotTy at (seen_ty x)) (seen_not (ty_at at (ty.Not x)) x refl) h) p)

abbrev BothTy : Ty × Ty → Type 0
BothTy z = IsTy z.0 × IsTy z.1

union-t : (at : ℕ) (a b : T) → IsT a → IsT b → IsT (union_ty at a b)
union-t at a b p q =
    low-ty IsTy at (made (λ z. ty.Union z.0 z.1) (both a b))
    (low-made BothTy (λ k. IsTy (ty_at at k)) (λ z. ty.Union z.0 z.1) (both a b) (λ z h. is-ty (ty_at at (ty.Union z.0 z.1)) (tree.UnionTy at (seen_ty z.0) (seen_ty z.1)) (seen_union (ty_at at (ty.Union z.0 z.1)) z.0 z.1 refl) h) (low-both IsTy IsTy a b p q))

inter-t : (at : ℕ) (a b : T) → IsT a → IsT b → IsT (inter_ty at a b)
inter-t at a b p q =
    low-ty IsTy at (made (λ z. ty.Inter z.0 z.1) (both a b))
    (low-made BothTy (λ k. IsTy (ty_at at k)) (λ z. ty.Inter z.0 z.1) (both a b) (λ z h. is-ty (ty_at at (ty.Inter z.0 z.1)) (tree.InterTy at (seen_ty z.0) (seen_ty z.1)) (seen_inter (ty_at at (ty.Inter z.0 z.1)) z.0 z.1 refl) h) (low-both IsTy IsTy a b p q))

pub named-t : (at : ℕ) (name : List ℕ) → IsT (named_ty at name)
named-t at name = low-ty IsTy at (Low (ty.Named name) 0) (is-ty (ty_at at (ty.Named name)) (tree.NamedTy at name) (seen_named (ty_at at (ty.Named name)) name refl) tt)

pub array-one : (at : ℕ) (m : T) → IsT m → IsT (array_ty at m)
array-one at m p = array-t at m p

-- ---- records

abbrev IsField : List ℕ × Ty → Type 0
IsField f = IsName f.0 × IsTy f.1

abbrev AreFields : Fields → Type 0
AreFields fs = OnLow (AllOf IsField) fs

fields-named : (fs : List (List ℕ × Ty)) → AllOf IsField fs → FieldsTys (tree.field_tys_of (map (λ f. (f.0, seen_ty f.1)) fs))
fields-named [] h = tt
fields-named (f ∷ fs) h = (h.0.0, h.0.1, fields-named fs h.1)

record-t : (at : ℕ) (fs : Fields) → AreFields fs → IsT (record_ty at fs)
record-t at fs p =
    low-ty IsTy at (made ty.Record fs)
    (low-made (AllOf IsField) (λ k. IsTy (ty_at at k)) ty.Record fs (λ x h. is-ty (ty_at at (ty.Record x)) (tree.RecordTy at (tree.field_tys_of (map (λ f. (f.0, seen_ty f.1)) x))) (seen_record (ty_at at (ty.Record x)) x refl) (fields-named x h)) p)

field-more : (fs : Fields) (name : List ℕ) (m : T) → AreFields fs → IsName name → IsT m → AreFields (pushed fs (named name m))
field-more fs name m r v p = low-pushed IsField fs (named name m) r (low-named IsTy IsField name m (λ x h. (v, h)) p)

base : (at : ℕ) (kind : TokenKind) → IsTy (ty_at at (base_kind kind))
base at k.Null = is-ty (ty_at at ty.Null) (tree.NullTy at) (seen_null (ty_at at ty.Null) refl) tt
base at k.Bool = is-ty (ty_at at ty.Bool) (tree.BoolTy at) (seen_bool (ty_at at ty.Bool) refl) tt
base at k.Int = is-ty (ty_at at ty.Int) (tree.IntTy at) (seen_int (ty_at at ty.Int) refl) tt
base at k.Any = is-ty (ty_at at ty.Any) (tree.AnyTy at) (seen_any (ty_at at ty.Any) refl) tt
base at _ = is-ty (ty_at at ty.Void) (tree.VoidTy at) (seen_void (ty_at at ty.Void) refl) tt

-- ---- the rules

module _ (n : ℕ) (V : R T) (tight : Gives V IsT) where
  gives-brackets : (x : T) → IsT x → Gives (Brackets n x) IsT
  gives-brackets x p = gives-then (gives-mark t.OPEN_BRACKET) (λ at h. gives-then (gives-inner (inside n) t.CLOSE_BRACKET) (λ r deep. gives-pure (array_ty at x) IsT (array-t at x p)))

  gives-suffixes : (x : T) → IsT x → Gives (Suffixes n x) IsT
  gives-suffixes x p = gives-loop gives-brackets x p

  gives-suffix : Gives (Suffix n V) IsT
  gives-suffix = gives-then tight gives-suffixes

  gives-and_suffix : (x : T) → IsT x → Gives (AndSuffix n V x) IsT
  gives-and_suffix x p = gives-then (gives-mark t.AMPERSAND) (λ at h. gives-then gives-suffix (λ z q. gives-pure (inter_ty at x z) IsT (inter-t at x z p q)))

  gives-inters : (x : T) → IsT x → Gives (Inters n V x) IsT
  gives-inters x p = gives-loop gives-and_suffix x p

  gives-inter : Gives (Inter n V) IsT
  gives-inter = gives-then gives-suffix gives-inters

  gives-or_inter : (x : T) → IsT x → Gives (OrInter n V x) IsT
  gives-or_inter x p = gives-then (gives-mark t.BAR) (λ at h. gives-then gives-inter (λ z q. gives-pure (union_ty at x z) IsT (union-t at x z p q)))

  gives-unions : (x : T) → IsT x → Gives (Unions n V x) IsT
  gives-unions x p = gives-loop gives-or_inter x p

  gives-union : Gives (Union n V) IsT
  gives-union = gives-then gives-inter gives-unions

  gives-tail : (x : T) → IsT x → Gives (Tail n V x) IsT
  gives-tail x p = gives-then (gives-inters x p) gives-unions

  gives-rest : (x : T) → IsT x → Gives (Rest n V x) IsT
  gives-rest x p = gives-then (gives-suffixes x p) gives-tail

  gives-field : (fs : Fields) → AreFields fs → Gives (Field n V fs) AreFields
  gives-field fs r = gives-then gives-union (λ x p. gives-then gives-name (λ w v. gives-pure (pushed fs (named w.1 x)) AreFields (field-more fs w.1 x r v p)))

  gives-next_field : (fs : Fields) → AreFields fs → Gives (NextField n V fs) AreFields
  gives-next_field fs r = gives-then (gives-mark t.COMMA) (λ at h. gives-field fs r)

  gives-field_list : Gives (FieldList n V) AreFields
  gives-field_list = gives-or (gives-then (gives-field none tt) (λ fs r. gives-loop gives-next_field fs r)) (gives-pure none AreFields tt)

  gives-base : Gives Base IsT
  gives-base = gives-then (gives-one (has kinds.BaseType)) (λ s h. gives-pure (ty_node s.at (Low (base_kind s.kind) 0)) IsT (low-ty IsTy s.at (Low (base_kind s.kind) 0) (base s.at s.kind)))

  gives-tight_of : Gives (TightOf n V) IsT
  gives-tight_of =
      gives-or (gives-then (gives-mark t.NOT) (λ at h. gives-then tight (λ x p. gives-pure (not_ty at x) IsT (not-t at x p))))
      (gives-or (gives-then (gives-mark t.OPEN_PAREN) (λ at h. gives-then gives-union (λ x p. gives-then (gives-mark t.CLOSE_PAREN) (λ r g. gives-pure x IsT p))))
      (gives-or (gives-then (gives-mark t.OPEN_BRACE) (λ at h. gives-then gives-field_list (λ fs r. gives-then (gives-inner n t.CLOSE_BRACE) (λ g deep. gives-pure (record_ty at fs) IsT (record-t at fs r)))))
      (gives-or (gives-then gives-name (λ w v. gives-pure (named_ty w.0 w.1) IsT (named-t w.0 w.1)))
      gives-base)))

gives-tight : (n : ℕ) → Gives (Tight n) IsT
unfolding Tight
gives-tight zero = gives-refused IsT (has kinds.Type) Deep
gives-tight (suc n) = gives-tight_of n (Tight n) (gives-tight n)

pub gives-type : (n : ℕ) → Gives (Type_ n) IsT
unfolding Type_
gives-type n = gives-union n (Tight n) (gives-tight n)

pub gives-type_rest : (n : ℕ) (x : T) → IsT x → Gives (TypeRest n x) IsT
unfolding TypeRest
gives-type_rest n x p = gives-rest n (Tight n) (gives-tight n) x p

pub gives-type_tail : (n : ℕ) (x : T) → IsT x → Gives (TypeTail n x) IsT
unfolding TypeTail
gives-type_tail n x p = gives-tail n (Tight n) (gives-tight n) x p
