-- The test of a type, which is made from its end to its beginning.
use Rattle.std.proofs.Common.{◌≡◌, ◌∙◌, ℕ, suc, List, [], ◌∷◌, ◌++◌, map, refl, ap, sym, append_assoc}
use Rattle.wy_core.specs.CoreSeen.{field_tys_of, seen_ty}
use Rattle.wy_core.specs.Types as types
use Rattle.wy_core.specs.declared.types.Ty.{Ty}
use Rattle.wy_core.specs.declared.types.TyKind as kind
use Rattle.wy_code.specs.declared.instructions.Instr.TheVariants as instr
use Rattle.wy_code.specs.declared.pieces.steps.Step.{Step}
use Rattle.wy_code.specs.declared.pieces.steps.Step.TheVariants.{Does}
use Rattle.wy_code.specs.pieces.Steps.{fork}
use Rattle.wy_code_spec.specs.declared.tables.context.Context.{Context}
use Rattle.wy_code_spec.specs.tables.Tables.{number_of, shape_number, ty_names_in}
use Rattle.wy_code_spec.specs.compiled.TypeTests.{array_test, field_end, fields_test, items_test, record_test, test}
use Rattle.wy_gen.proofs.SeenLemmas.{seen_record_ty, seen_array_ty, seen_union, seen_inter, seen_not_ty}

-- the steps of the whole are these before the rest
then_same : (first rest whole old steps : List Step) → whole ≡ first ++ rest → steps ≡ rest ++ old → first ++ steps ≡ whole ++ old
then_same first rest whole old steps whole_is is = ap (λ (l : List Step). first ++ l) is ∙ sym (append_assoc first rest old) ∙ ap (λ (l : List Step). l ++ old) (sym whole_is)

ty_names : (fs : List (List ℕ × Ty)) → ty_names_in (field_tys_of (map (λ f. (f.0, seen_ty f.1)) fs)) ≡ map (λ f. f.0) fs
ty_names [] = refl
ty_names (f ∷ fs) = ap (λ (l : List (List ℕ)). f.0 ∷ l) (ty_names fs)

seen_test : (c : Context) (x : Ty) (y : types.Ty) (v r f : ℕ) → seen_ty x ≡ y → test c (seen_ty x) v r f ≡ test c y v r f
seen_test c x y v r f is = ap (λ (z : types.Ty). test c z v r f) is

pub record_test_same : (c : Context) (x : Ty) (fs : List (List ℕ × Ty)) (v r f : ℕ) (old : List Step) → x.kind ≡ kind.Record fs
    → record_test (shape_number c.table (map (λ f. f.0) fs)) v r (fields_test c (field_tys_of (map (λ f. (f.0, seen_ty f.1)) fs)) v r f) ++ old ≡ test c (seen_ty x) v r f ++ old
record_test_same c x fs v r f old is =
    ap (λ (names : List (List ℕ)). record_test (shape_number c.table names) v r (fields_test c (field_tys_of (map (λ f. (f.0, seen_ty f.1)) fs)) v r f) ++ old) (sym (ty_names fs))
    ∙ ap (λ (l : List Step). l ++ old) (sym (seen_test c x (types.RecordTy (field_tys_of (map (λ f. (f.0, seen_ty f.1)) fs))) v r f (seen_record_ty x fs is)))

pub array_test_same : (c : Context) (x a : Ty) (v r f : ℕ) (old : List Step) → x.kind ≡ kind.Array a
    → array_test v r f (items_test v r f (test c (seen_ty a) (suc (suc f)) r (suc (suc (suc f))))) ++ old ≡ test c (seen_ty x) v r f ++ old
array_test_same c x a v r f old is = ap (λ (l : List Step). l ++ old) (sym (seen_test c x (types.ArrayTy (seen_ty a)) v r f (seen_array_ty x a is)))

pub union_test_same : (c : Context) (x a b : Ty) (v r f : ℕ) (old steps : List Step) → x.kind ≡ kind.Union a b → steps ≡ fork r [] (test c (seen_ty b) v r f) ++ old
    → test c (seen_ty a) v r f ++ steps ≡ test c (seen_ty x) v r f ++ old
union_test_same c x a b v r f old steps is steps_is =
    then_same (test c (seen_ty a) v r f) (fork r [] (test c (seen_ty b) v r f)) (test c (seen_ty x) v r f) old steps (seen_test c x (types.UnionTy (seen_ty a) (seen_ty b)) v r f (seen_union x a b is)) steps_is

pub inter_test_same : (c : Context) (x a b : Ty) (v r f : ℕ) (old steps : List Step) → x.kind ≡ kind.Inter a b → steps ≡ fork r (test c (seen_ty b) v r f) [] ++ old
    → test c (seen_ty a) v r f ++ steps ≡ test c (seen_ty x) v r f ++ old
inter_test_same c x a b v r f old steps is steps_is =
    then_same (test c (seen_ty a) v r f) (fork r (test c (seen_ty b) v r f) []) (test c (seen_ty x) v r f) old steps (seen_test c x (types.InterTy (seen_ty a) (seen_ty b)) v r f (seen_inter x a b is)) steps_is

pub not_test_same : (c : Context) (x a : Ty) (v r f : ℕ) (old steps : List Step) → x.kind ≡ kind.Not a → steps ≡ Does (instr.Not r r) ∷ old
    → test c (seen_ty a) v r f ++ steps ≡ test c (seen_ty x) v r f ++ old
not_test_same c x a v r f old steps is steps_is =
    then_same (test c (seen_ty a) v r f) (Does (instr.Not r r) ∷ []) (test c (seen_ty x) v r f) old steps (seen_test c x (types.NotTy (seen_ty a)) v r f (seen_not_ty x a is)) steps_is

-- one field more before those that are made
pub field_same : (c : Context) (name : List ℕ) (a : Ty) (more : types.FieldTys) (v r f inner number : ℕ) (old one two three : List Step) → inner ≡ suc f → number ≡ number_of name c.table.names
    → one ≡ field_end r f (fields_test c more v r f) ++ old → two ≡ test c (seen_ty a) f r inner ++ one → three ≡ Does (instr.Field f v number) ∷ two
    → three ≡ fields_test c (types.MoreFieldTys name (seen_ty a) more) v r f ++ old
field_same c name a more v r f inner number old one two three inner_is number_is one_is two_is three_is =
    let e = field_end r f (fields_test c more v r f) in
    let a_is : two ≡ test c (seen_ty a) f r (suc f) ++ (e ++ old) = two_is ∙ (λ i. test c (seen_ty a) f r (inner_is i) ++ one_is i) in
    let b_is : two ≡ (test c (seen_ty a) f r (suc f) ++ e) ++ old = a_is ∙ sym (append_assoc (test c (seen_ty a) f r (suc f)) e old) in
    three_is ∙ (λ i. Does (instr.Field f v (number_is i)) ∷ b_is i)
