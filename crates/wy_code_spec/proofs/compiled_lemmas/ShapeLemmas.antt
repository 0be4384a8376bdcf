-- The table of a program meets what the heap asks of one.
use Rattle.std.proofs.Common.{◌≡◌, ◌∙◌, ◌⊎◌, inl, inr, ◌<◌, ◌+◌, ℕ, zero, suc, List, [], ◌∷◌, ◌++◌, length, get_or, Bool, true, false, cond, ◌||◌, Option, Some, None, refl, subst, sym, length-append, arith}
use Rattle.std.specs.Prelude.{bytes_eq}
use Rattle.std.specs.List.{All}
use Rattle.std.proofs.lemmas.Slice.Eq.{bytes_eq-Decides}
use Rattle.std.proofs.lemmas.List.Elements.{All-nil, All-cons, All-push}
use Rattle.wy_data.specs.Words.{IsName}
use Rattle.wy_value.specs.Values.{Rise}
use Rattle.wy_value.specs.Shapes.{IsShapes, AreApart, named}
use Rattle.wy_core.specs.Types.{Ty, NullTy, BoolTy, IntTy, AnyTy, VoidTy, RecordTy, ArrayTy, UnionTy, InterTy, NotTy, NamedTy, NormalTy, FieldTys, NoFieldTys, MoreFieldTys}
use Rattle.wy_core.specs.CoreTree as tree
use Rattle.wy_core.specs.CoreTree.{Expr, NullExpr, BoolExpr, IntExpr, VarExpr, CallExpr, NegExpr, NotExpr, LenExpr, BinaryExpr, IsExpr, IndexExpr, FieldExpr, ListExpr, RepeatExpr, RecordExpr, QuantExpr, Exprs, NoExprs, MoreExprs, Fields, NoFields, MoreFields, Step, IndexStep, FieldStep, Stmt, DeclareStmt, AssignStmt, CallStmt, ReturnStmt, AssertStmt, BreakStmt, ContinueStmt, SkipStmt, FailStmt, IfStmt, WhileStmt, Stmts, NoStmts, MoreStmts, Decl, AliasDecl, RoutineDecl, Core}
use Rattle.wy_code_spec.specs.tables.Tables.{Table, stands, number_of, numbers_of, with_name, with_names, with_shape, names_in, ty_names_in, ty_table, field_tys_table, expr_table, exprs_table, fields_table, option_table, path_table, stmt_table, stmts_table, decl_table, decls_table, table_of}
use Rattle.wy_code_spec.specs.compiled.Fields.{AreNames, AreFields, NamesTy, NameFieldTys, NamesExpr, NameExprs, NameFields, NamesOption, NamesPath, NamesStmt, NameStmts, NamesDecl, HasFields}
use Rattle.wy_code_spec.proofs.compiled_lemmas.TableLemmas.{Listed, number_within, listed, same}

-- ---- lists with one more

last_at : (xs : List (List ℕ)) (x : List ℕ) (k : ℕ) (d : List ℕ) → k < length (xs ++ x ∷ []) → ((k < length xs) × (get_or (xs ++ x ∷ []) k d ≡ get_or xs k d)) ⊎ ((k ≡ length xs) × (get_or (xs ++ x ∷ []) k d ≡ x))
last_at [] x zero d below = inr (refl, refl)
last_at [] x (suc k) d below = absurd (omega arith)
last_at (y ∷ ys) x zero d below = inl (omega arith, refl)
last_at (y ∷ ys) x (suc k) d below = elim (last_at ys x k d (omega arith)) [
  | inl first ↦ inl (omega (arith, first.0), first.1)
  | inr last ↦ inr (omega (arith, last.0), last.1)
]

absent : (n : List ℕ) (xs : List (List ℕ)) (k : ℕ) (d : List ℕ) → stands n xs ≡ false → k < length xs → get_or xs k d ≡ n → ⊥
absent n [] k d h below is = absurd (omega arith)
absent n (m ∷ xs) zero d h below is = let e : bytes_eq m n ≡ true = (bytes_eq-Decides m n).1 is in clash (bytes_eq m n) (stands n xs) e h
  where
    clash : (a b : Bool) → a ≡ true → (a || b) ≡ false → ⊥
    clash true b e h = cc
    clash false b e h = cc
absent n (m ∷ xs) (suc k) d h below is = absent n xs k d (right (bytes_eq m n) (stands n xs) h) (omega arith) is
  where
    right : (a b : Bool) → (a || b) ≡ false → b ≡ false
    right true b h = cc
    right false b h = h

apart_more : (xs : List (List ℕ)) (n : List ℕ) → AreApart xs → stands n xs ≡ false → AreApart (xs ++ n ∷ [])
apart_more xs n apart h i j d first second =
    let many : length (xs ++ n ∷ []) ≡ length xs + 1 = length-append xs (n ∷ []) in
    elim (last_at xs n j d second) [
      | inl early ↦ elim (last_at xs n i d (omega arith)) [
        | inl one ↦ λ is. apart i j d first early.0 (sym one.1 ∙ is ∙ early.1)
        | inr last ↦ absurd (omega (arith, last.0, early.0))
      ]
      | inr last ↦ elim (last_at xs n i d (omega arith)) [
        | inl one ↦ λ is. absent n xs i d h one.0 (sym one.1 ∙ is ∙ last.1)
        | inr other ↦ absurd (omega (arith, last.0, other.0))
      ]
    ]

-- ---- the names with these numbers

named_more : (xs : List (List ℕ)) (n : List ℕ) (list : List ℕ) → All (λ k. k < length xs) list → named (xs ++ n ∷ []) list ≡ named xs list
named_more xs n [] h = refl
named_more xs n (k ∷ list) h =
    let a = first xs k (h 0 k (omega arith)) in let b = named_more xs n list (λ i d below. h (suc i) d (omega arith)) in λ i. a i ∷ b i
  where
    first : (ys : List (List ℕ)) (k : ℕ) → k < length ys → get_or (ys ++ n ∷ []) k [] ≡ get_or ys k []
    first [] k below = absurd (omega arith)
    first (y ∷ ys) zero below = refl
    first (y ∷ ys) (suc k) below = first ys k (omega arith)

number_named : (n : List ℕ) (xs : List (List ℕ)) → stands n xs ≡ true → get_or xs (number_of n xs) [] ≡ n
number_named n [] h = cc
number_named n (m ∷ xs) h = either (bytes_eq m n) refl h (number_named n xs)
  where
    either : (b : Bool) → b ≡ bytes_eq m n → (b || stands n xs) ≡ true → (stands n xs ≡ true → get_or xs (number_of n xs) [] ≡ n) → get_or (m ∷ xs) (cond b 0 (suc (number_of n xs))) [] ≡ n
    either true e g k = (bytes_eq-Decides m n).0 (sym e)
    either false e g k = k g

numbers_named : (ns xs : List (List ℕ)) → Listed xs ns → named xs (numbers_of xs ns) ≡ ns
numbers_named [] xs l = refl
numbers_named (n ∷ ns) xs l = let a = number_named n xs l.0 in let b = numbers_named ns xs l.1 in λ i. a i ∷ b i

numbers_within : (ns xs : List (List ℕ)) → Listed xs ns → All (λ k. k < length xs) (numbers_of xs ns)
numbers_within [] xs l = All-nil (λ k. k < length xs)
numbers_within (n ∷ ns) xs l = All-cons (λ k. k < length xs) (number_of n xs) (numbers_of xs ns) (number_within n xs l.0) (numbers_within ns xs l.1)

-- ---- a table with one more

name_more : (t : Table) (n : List ℕ) (b : Bool) → b ≡ stands n t.names → IsName n → IsShapes t → IsShapes (record t { names = cond b t.names (t.names ++ n ∷ []) })
name_more t n true e is h = h
name_more t n false e is h =
    let many : length (t.names ++ n ∷ []) ≡ length t.names + 1 = length-append t.names (n ∷ []) in
    record {
      names = All-push IsName t.names n h.names is;
      names_apart = apart_more t.names n h.names_apart (sym e);
      lists_apart = h.lists_apart;
      numbers = λ k d below i x within. omega (arith, h.numbers k d below i x within, many);
      rise = λ k d below. subst Rise (sym (named_more t.names n (get_or t.lists k d) (h.numbers k d below))) (h.rise k d below);
    }

name_shapes : (t : Table) (n : List ℕ) → IsName n → IsShapes t → IsShapes (with_name n t)
name_shapes t n is h = name_more t n (stands n t.names) refl is h

names_shapes : (t : Table) (ns : List (List ℕ)) → AreNames ns → IsShapes t → IsShapes (with_names ns t)
names_shapes t [] are h = h
names_shapes t (n ∷ ns) are h = names_shapes (with_name n t) ns are.1 (name_shapes t n are.0 h)

list_more : (t : Table) (list : List ℕ) (b : Bool) → b ≡ stands list t.lists → All (λ k. k < length t.names) list → Rise (named t.names list) → IsShapes t → IsShapes (record t { lists = cond b t.lists (t.lists ++ list ∷ []) })
list_more t list true e within rises h = h
list_more t list false e within rises h = record {
  names = h.names;
  names_apart = h.names_apart;
  lists_apart = apart_more t.lists list h.lists_apart (sym e);
  numbers = All-push (λ l. All (λ n. n < length t.names) l) t.lists list h.numbers within;
  rise = All-push (λ l. Rise (named t.names l)) t.lists list h.rise rises;
}

shape_shapes : (t : Table) (ns : List (List ℕ)) → AreFields ns → IsShapes t → IsShapes (with_shape ns t)
shape_shapes t ns are h =
    let u = with_names ns t in let l : Listed u.names ns = listed ns t u (same u) in let list = numbers_of u.names ns in
    list_more u list (stands list u.lists) refl (numbers_within ns u.names l) (subst Rise (sym (numbers_named ns u.names l)) are.1) (names_shapes t ns are.0 h)

-- ---- programs

mutual
  ty_shapes : (ty : Ty) (t : Table) → NamesTy ty → IsShapes t → IsShapes (ty_table ty t)
  ty_shapes NullTy t n h = h
  ty_shapes BoolTy t n h = h
  ty_shapes IntTy t n h = h
  ty_shapes AnyTy t n h = h
  ty_shapes VoidTy t n h = h
  ty_shapes (RecordTy fs) t n h = shape_shapes (field_tys_table fs t) (ty_names_in fs) n.0 (field_tys_shapes fs t n.1 h)
  ty_shapes (ArrayTy a) t n h = ty_shapes a t n h
  ty_shapes (UnionTy a b) t n h = ty_shapes b (ty_table a t) n.1 (ty_shapes a t n.0 h)
  ty_shapes (InterTy a b) t n h = ty_shapes b (ty_table a t) n.1 (ty_shapes a t n.0 h)
  ty_shapes (NotTy a) t n h = ty_shapes a t n h
  ty_shapes (NamedTy x) t n h = h
  ty_shapes (NormalTy cs) t n h = h

  field_tys_shapes : (fs : FieldTys) (t : Table) → NameFieldTys fs → IsShapes t → IsShapes (field_tys_table fs t)
  field_tys_shapes NoFieldTys t n h = h
  field_tys_shapes (MoreFieldTys name a fs) t n h = field_tys_shapes fs (ty_table a t) n.1 (ty_shapes a t n.0 h)

mutual
  expr_shapes : (e : Expr ℕ) (t : Table) → NamesExpr e → IsShapes t → IsShapes (expr_table e t)
  expr_shapes (NullExpr at) t n h = h
  expr_shapes (BoolExpr at truth) t n h = h
  expr_shapes (IntExpr at number) t n h = h
  expr_shapes (VarExpr at x) t n h = h
  expr_shapes (CallExpr at routine args) t n h = exprs_shapes args t n h
  expr_shapes (NegExpr at a) t n h = expr_shapes a t n h
  expr_shapes (NotExpr at a) t n h = expr_shapes a t n h
  expr_shapes (LenExpr at a) t n h = expr_shapes a t n h
  expr_shapes (BinaryExpr at op a b) t n h = expr_shapes b (expr_table a t) n.1 (expr_shapes a t n.0 h)
  expr_shapes (IsExpr at a ty) t n h = ty_shapes ty (expr_table a t) n.1 (expr_shapes a t n.0 h)
  expr_shapes (IndexExpr at a b) t n h = expr_shapes b (expr_table a t) n.1 (expr_shapes a t n.0 h)
  expr_shapes (FieldExpr at a name) t n h = name_shapes (expr_table a t) name n.1 (expr_shapes a t n.0 h)
  expr_shapes (ListExpr at items) t n h = exprs_shapes items t n h
  expr_shapes (RepeatExpr at a b) t n h = expr_shapes b (expr_table a t) n.1 (expr_shapes a t n.0 h)
  expr_shapes (RecordExpr at fs) t n h = shape_shapes (fields_table fs t) (names_in fs) n.0 (fields_shapes fs t n.1 h)
  expr_shapes (QuantExpr at all x a b body) t n h = expr_shapes body (expr_table b (expr_table a t)) n.1.1 (expr_shapes b (expr_table a t) n.1.0 (expr_shapes a t n.0 h))

  exprs_shapes : (es : Exprs ℕ) (t : Table) → NameExprs es → IsShapes t → IsShapes (exprs_table es t)
  exprs_shapes NoExprs t n h = h
  exprs_shapes (MoreExprs e es) t n h = exprs_shapes es (expr_table e t) n.1 (expr_shapes e t n.0 h)

  fields_shapes : (fs : Fields ℕ) (t : Table) → NameFields fs → IsShapes t → IsShapes (fields_table fs t)
  fields_shapes NoFields t n h = h
  fields_shapes (MoreFields name e fs) t n h = fields_shapes fs (expr_table e t) n.1 (expr_shapes e t n.0 h)

option_shapes : (value : Option (Expr ℕ)) (t : Table) → NamesOption value → IsShapes t → IsShapes (option_table value t)
option_shapes None t n h = h
option_shapes (Some e) t n h = expr_shapes e t n h

path_shapes : (path : List (Step ℕ)) (t : Table) → NamesPath path → IsShapes t → IsShapes (path_table path t)
path_shapes [] t n h = h
path_shapes (IndexStep at e ∷ path) t n h = path_shapes path (expr_table e t) n.1 (expr_shapes e t n.0 h)
path_shapes (FieldStep at name ∷ path) t n h = path_shapes path (with_name name t) n.1 (name_shapes t name n.0 h)

mutual
  stmt_shapes : (st : Stmt ℕ) (t : Table) → NamesStmt st → IsShapes t → IsShapes (stmt_table st t)
  stmt_shapes (DeclareStmt at ty x value) t n h = option_shapes value t n h
  stmt_shapes (AssignStmt at x path e) t n h = expr_shapes e (path_table path t) n.1 (path_shapes path t n.0 h)
  stmt_shapes (CallStmt at routine args) t n h = exprs_shapes args t n h
  stmt_shapes (ReturnStmt at value) t n h = option_shapes value t n h
  stmt_shapes (AssertStmt at e) t n h = h
  stmt_shapes (BreakStmt at) t n h = h
  stmt_shapes (ContinueStmt at) t n h = h
  stmt_shapes (SkipStmt at) t n h = h
  stmt_shapes (FailStmt at) t n h = h
  stmt_shapes (IfStmt at e first second) t n h = stmts_shapes second (stmts_table first (expr_table e t)) n.1.1 (stmts_shapes first (expr_table e t) n.1.0 (expr_shapes e t n.0 h))
  stmt_shapes (WhileStmt at e invariants body) t n h = stmts_shapes body (expr_table e t) n.1 (expr_shapes e t n.0 h)

  stmts_shapes : (ss : Stmts ℕ) (t : Table) → NameStmts ss → IsShapes t → IsShapes (stmts_table ss t)
  stmts_shapes NoStmts t n h = h
  stmts_shapes (MoreStmts st rest) t n h = stmts_shapes rest (stmt_table st t) n.1 (stmt_shapes st t n.0 h)

decl_shapes : (d : Decl ℕ) (t : Table) → NamesDecl d → IsShapes t → IsShapes (decl_table d t)
decl_shapes (AliasDecl a) t n h = exprs_shapes (tree.exprs_of a.clauses) (ty_table a.ty t) n.1 (ty_shapes a.ty t n.0 h)
decl_shapes (RoutineDecl r) t n h = stmts_shapes r.body t n h

decls_shapes : (ds : Core ℕ) (t : Table) → HasFields ds → IsShapes t → IsShapes (decls_table ds t)
decls_shapes [] t n h = h
decls_shapes (d ∷ ds) t n h = decls_shapes ds (decl_table d t) n.1 (decl_shapes d t n.0 h)

no_shapes : IsShapes (record { names = []; lists = [] })
no_shapes = record {
  names = All-nil IsName;
  names_apart = λ i j d first second. absurd (omega arith);
  lists_apart = λ i j d first second. absurd (omega arith);
  numbers = All-nil (λ list. All (λ n. n < 0) list);
  rise = All-nil (λ list. Rise (named [] list));
}

pub core_shapes : (core : Core ℕ) → HasFields core → IsShapes (table_of core)
core_shapes core n = decls_shapes core (record { names = []; lists = [] }) n no_shapes
