-- The table of a program has each name of a field and each shape in it.
use Rattle.std.proofs.Common.{◌≡◌, ◌∙◌, ◌<◌, ℕ, suc, List, [], ◌∷◌, ◌++◌, length, Bool, true, false, cond, ◌||◌, Option, Some, None, refl, ap, subst, sym, append_assoc, arith}
use Rattle.std.specs.Prelude.{bytes_eq}
use Rattle.std.proofs.lemmas.Slice.Eq.{bytes_eq-Decides}
use Rattle.std.proofs.lemmas.List.{append-nil}
use Rattle.wy_core.specs.Types.{Ty, NullTy, BoolTy, IntTy, AnyTy, VoidTy, RecordTy, ArrayTy, UnionTy, InterTy, NotTy, NamedTy, NormalTy, FieldTys, NoFieldTys, MoreFieldTys}
use Rattle.wy_core.specs.CoreTree as tree
use Rattle.wy_core.specs.CoreTree.{Expr, NullExpr, BoolExpr, IntExpr, VarExpr, CallExpr, NegExpr, NotExpr, LenExpr, BinaryExpr, IsExpr, IndexExpr, FieldExpr, ListExpr, RepeatExpr, RecordExpr, QuantExpr, Exprs, NoExprs, MoreExprs, Fields, NoFields, MoreFields, Step, IndexStep, FieldStep, Stmt, DeclareStmt, AssignStmt, CallStmt, ReturnStmt, AssertStmt, BreakStmt, ContinueStmt, SkipStmt, FailStmt, IfStmt, WhileStmt, Stmts, NoStmts, MoreStmts, Decl, AliasDecl, RoutineDecl, Core}
use Rattle.wy_code_spec.specs.tables.Tables.{Table, stands, with_one, number_of, with_name, with_names, numbers_of, with_shape, names_in, ty_names_in, ty_table, field_tys_table, expr_table, exprs_table, fields_table, option_table, path_table, stmt_table, stmts_table, decl_table, decls_table, table_of}

-- ---- lists

with_stands : (n : List ℕ) (all : List (List ℕ)) → (t : Bool) → t ≡ stands n all → stands n (cond t all (all ++ n ∷ [])) ≡ true
with_stands n all true h = sym h
with_stands n all false h = last all
  where
    last : (ms : List (List ℕ)) → stands n (ms ++ n ∷ []) ≡ true
    last [] = ap (λ (b : Bool). b || false) ((bytes_eq-Decides n n).1 refl)
    last (m ∷ ms) = ap (λ (b : Bool). bytes_eq m n || b) (last ms) ∙ either (bytes_eq m n)
      where
        either : (b : Bool) → (b || true) ≡ true
        either true = refl
        either false = refl

pub one_stands : (all : List (List ℕ)) (n : List ℕ) → stands n (with_one all n) ≡ true
one_stands all n = with_stands n all (stands n all) refl

stands_more : (n : List ℕ) (xs ys : List (List ℕ)) → stands n xs ≡ true → stands n (xs ++ ys) ≡ true
stands_more n [] ys h = cc
stands_more n (m ∷ xs) ys h = either (bytes_eq m n) h (stands_more n xs ys)
  where
    either : (b : Bool) → (b || stands n xs) ≡ true → (stands n xs ≡ true → stands n (xs ++ ys) ≡ true) → (b || stands n (xs ++ ys)) ≡ true
    either true g k = refl
    either false g k = k g

number_same : (n : List ℕ) (xs ys : List (List ℕ)) → stands n xs ≡ true → number_of n (xs ++ ys) ≡ number_of n xs
number_same n [] ys h = cc
number_same n (m ∷ xs) ys h = either (bytes_eq m n) h (number_same n xs ys)
  where
    either : (b : Bool) → (b || stands n xs) ≡ true → (stands n xs ≡ true → number_of n (xs ++ ys) ≡ number_of n xs) → cond b 0 (suc (number_of n (xs ++ ys))) ≡ cond b 0 (suc (number_of n xs))
    either true g k = refl
    either false g k = ap suc (k g)

pub number_within : (n : List ℕ) (xs : List (List ℕ)) → stands n xs ≡ true → number_of n xs < length xs
number_within n [] h = cc
number_within n (m ∷ xs) h = either (bytes_eq m n) h (number_within n xs)
  where
    either : (b : Bool) → (b || stands n xs) ≡ true → (stands n xs ≡ true → number_of n xs < length xs) → cond b 0 (suc (number_of n xs)) < suc (length xs)
    either true g k = omega arith
    either false g k = let l : number_of n xs < length xs = k g in omega arith

-- ---- tables that grow

-- the second table has what the first one has, at the same places
pub record Extends (t u : Table) : Type 0 where
  pub more_names : List (List ℕ)
  pub names : u.names ≡ t.names ++ more_names
  pub more_lists : List (List ℕ)
  pub lists : u.lists ≡ t.lists ++ more_lists

pub same : (t : Table) → Extends t t
same t = record { more_names = []; names = sym (append-nil t.names); more_lists = []; lists = sym (append-nil t.lists) }

pub then : (t u v : Table) → Extends t u → Extends u v → Extends t v
then t u v e f = record {
  more_names = e.more_names ++ f.more_names;
  names = f.names ∙ ap (λ (l : List (List ℕ)). l ++ f.more_names) e.names ∙ append_assoc t.names e.more_names f.more_names;
  more_lists = e.more_lists ++ f.more_lists;
  lists = f.lists ∙ ap (λ (l : List (List ℕ)). l ++ f.more_lists) e.lists ∙ append_assoc t.lists e.more_lists f.more_lists;
}

-- what is put into a list that may have it
added : (all : List (List ℕ)) (n : List ℕ) → (more : List (List ℕ)) × (with_one all n ≡ all ++ more)
added all n = by (stands n all)
  where
    by : (b : Bool) → (more : List (List ℕ)) × (cond b all (all ++ n ∷ []) ≡ all ++ more)
    by true = ([], sym (append-nil all))
    by false = (n ∷ [], refl)

name_grows : (n : List ℕ) (t : Table) → Extends t (with_name n t)
name_grows n t = let a = added t.names n in record { more_names = a.0; names = a.1; more_lists = []; lists = sym (append-nil t.lists) }

names_grow : (ns : List (List ℕ)) (t : Table) → Extends t (with_names ns t)
names_grow [] t = same t
names_grow (n ∷ ns) t = then t (with_name n t) (with_names ns (with_name n t)) (name_grows n t) (names_grow ns (with_name n t))

shape_grows : (ns : List (List ℕ)) (t : Table) → Extends t (with_shape ns t)
shape_grows ns t =
    let u = with_names ns t in let a = added u.lists (numbers_of u.names ns) in
    then t u (with_shape ns t) (names_grow ns t) (record { more_names = []; names = sym (append-nil u.names); more_lists = a.0; lists = a.1 })

mutual
  ty_grows : (ty : Ty) (t : Table) → Extends t (ty_table ty t)
  ty_grows NullTy t = same t
  ty_grows BoolTy t = same t
  ty_grows IntTy t = same t
  ty_grows AnyTy t = same t
  ty_grows VoidTy t = same t
  ty_grows (RecordTy fs) t = then t (field_tys_table fs t) (ty_table (RecordTy fs) t) (field_tys_grow fs t) (shape_grows (ty_names_in fs) (field_tys_table fs t))
  ty_grows (ArrayTy a) t = ty_grows a t
  ty_grows (UnionTy a b) t = then t (ty_table a t) (ty_table b (ty_table a t)) (ty_grows a t) (ty_grows b (ty_table a t))
  ty_grows (InterTy a b) t = then t (ty_table a t) (ty_table b (ty_table a t)) (ty_grows a t) (ty_grows b (ty_table a t))
  ty_grows (NotTy a) t = ty_grows a t
  ty_grows (NamedTy n) t = same t
  ty_grows (NormalTy cs) t = same t

  field_tys_grow : (fs : FieldTys) (t : Table) → Extends t (field_tys_table fs t)
  field_tys_grow NoFieldTys t = same t
  field_tys_grow (MoreFieldTys name a fs) t = then t (ty_table a t) (field_tys_table fs (ty_table a t)) (ty_grows a t) (field_tys_grow fs (ty_table a t))

mutual
  expr_grows : (e : Expr ℕ) (t : Table) → Extends t (expr_table e t)
  expr_grows (NullExpr at) t = same t
  expr_grows (BoolExpr at truth) t = same t
  expr_grows (IntExpr at number) t = same t
  expr_grows (VarExpr at x) t = same t
  expr_grows (CallExpr at routine args) t = exprs_grow args t
  expr_grows (NegExpr at a) t = expr_grows a t
  expr_grows (NotExpr at a) t = expr_grows a t
  expr_grows (LenExpr at a) t = expr_grows a t
  expr_grows (BinaryExpr at op a b) t = then t (expr_table a t) (expr_table b (expr_table a t)) (expr_grows a t) (expr_grows b (expr_table a t))
  expr_grows (IsExpr at a ty) t = then t (expr_table a t) (ty_table ty (expr_table a t)) (expr_grows a t) (ty_grows ty (expr_table a t))
  expr_grows (IndexExpr at a b) t = then t (expr_table a t) (expr_table b (expr_table a t)) (expr_grows a t) (expr_grows b (expr_table a t))
  expr_grows (FieldExpr at a name) t = then t (expr_table a t) (with_name name (expr_table a t)) (expr_grows a t) (name_grows name (expr_table a t))
  expr_grows (ListExpr at items) t = exprs_grow items t
  expr_grows (RepeatExpr at a b) t = then t (expr_table a t) (expr_table b (expr_table a t)) (expr_grows a t) (expr_grows b (expr_table a t))
  expr_grows (RecordExpr at fs) t = then t (fields_table fs t) (expr_table (RecordExpr at fs) t) (fields_grow fs t) (shape_grows (names_in fs) (fields_table fs t))
  expr_grows (QuantExpr at all x a b body) t =
      let u = expr_table a t in let v = expr_table b u in
      then t u (expr_table body v) (expr_grows a t) (then u v (expr_table body v) (expr_grows b u) (expr_grows body v))

  exprs_grow : (es : Exprs ℕ) (t : Table) → Extends t (exprs_table es t)
  exprs_grow NoExprs t = same t
  exprs_grow (MoreExprs e es) t = then t (expr_table e t) (exprs_table es (expr_table e t)) (expr_grows e t) (exprs_grow es (expr_table e t))

  fields_grow : (fs : Fields ℕ) (t : Table) → Extends t (fields_table fs t)
  fields_grow NoFields t = same t
  fields_grow (MoreFields name e fs) t = then t (expr_table e t) (fields_table fs (expr_table e t)) (expr_grows e t) (fields_grow fs (expr_table e t))

option_grows : (value : Option (Expr ℕ)) (t : Table) → Extends t (option_table value t)
option_grows None t = same t
option_grows (Some e) t = expr_grows e t

path_grows : (path : List (Step ℕ)) (t : Table) → Extends t (path_table path t)
path_grows [] t = same t
path_grows (IndexStep at e ∷ path) t = then t (expr_table e t) (path_table path (expr_table e t)) (expr_grows e t) (path_grows path (expr_table e t))
path_grows (FieldStep at name ∷ path) t = then t (with_name name t) (path_table path (with_name name t)) (name_grows name t) (path_grows path (with_name name t))

mutual
  stmt_grows : (st : Stmt ℕ) (t : Table) → Extends t (stmt_table st t)
  stmt_grows (DeclareStmt at ty x value) t = option_grows value t
  stmt_grows (AssignStmt at x path e) t = then t (path_table path t) (expr_table e (path_table path t)) (path_grows path t) (expr_grows e (path_table path t))
  stmt_grows (CallStmt at routine args) t = exprs_grow args t
  stmt_grows (ReturnStmt at value) t = option_grows value t
  stmt_grows (AssertStmt at e) t = same t
  stmt_grows (BreakStmt at) t = same t
  stmt_grows (ContinueStmt at) t = same t
  stmt_grows (SkipStmt at) t = same t
  stmt_grows (FailStmt at) t = same t
  stmt_grows (IfStmt at e first second) t =
      let u = expr_table e t in let v = stmts_table first u in
      then t u (stmts_table second v) (expr_grows e t) (then u v (stmts_table second v) (stmts_grow first u) (stmts_grow second v))
  stmt_grows (WhileStmt at e invariants body) t = then t (expr_table e t) (stmts_table body (expr_table e t)) (expr_grows e t) (stmts_grow body (expr_table e t))

  stmts_grow : (ss : Stmts ℕ) (t : Table) → Extends t (stmts_table ss t)
  stmts_grow NoStmts t = same t
  stmts_grow (MoreStmts st rest) t = then t (stmt_table st t) (stmts_table rest (stmt_table st t)) (stmt_grows st t) (stmts_grow rest (stmt_table st t))

decl_grows : (d : Decl ℕ) (t : Table) → Extends t (decl_table d t)
decl_grows (AliasDecl a) t = then t (ty_table a.ty t) (exprs_table (tree.exprs_of a.clauses) (ty_table a.ty t)) (ty_grows a.ty t) (exprs_grow (tree.exprs_of a.clauses) (ty_table a.ty t))
decl_grows (RoutineDecl r) t = stmts_grow r.body t

decls_grow : (ds : Core ℕ) (t : Table) → Extends t (decls_table ds t)
decls_grow [] t = same t
decls_grow (d ∷ ds) t = then t (decl_table d t) (decls_table ds (decl_table d t)) (decl_grows d t) (decls_grow ds (decl_table d t))

-- ---- what stands in a table

abbrev pub Listed : List (List ℕ) → List (List ℕ) → Type 0
Listed names [] = Unit {0}
Listed names (n ∷ ns) = (stands n names ≡ true) × Listed names ns

-- the names of the fields of a shape, and the shape
abbrev pub Shaped : Table → List (List ℕ) → Type 0
Shaped u ns = Listed u.names ns × (stands (numbers_of u.names ns) u.lists ≡ true)

abbrev mutual
  pub StandsTy : Table → Ty → Type 0
  StandsTy u NullTy = Unit {0}
  StandsTy u BoolTy = Unit {0}
  StandsTy u IntTy = Unit {0}
  StandsTy u AnyTy = Unit {0}
  StandsTy u VoidTy = Unit {0}
  StandsTy u (RecordTy fs) = Shaped u (ty_names_in fs) × StandFieldTys u fs
  StandsTy u (ArrayTy a) = StandsTy u a
  StandsTy u (UnionTy a b) = StandsTy u a × StandsTy u b
  StandsTy u (InterTy a b) = StandsTy u a × StandsTy u b
  StandsTy u (NotTy a) = StandsTy u a
  StandsTy u (NamedTy n) = Unit {0}
  StandsTy u (NormalTy cs) = Unit {0}

  pub StandFieldTys : Table → FieldTys → Type 0
  StandFieldTys u NoFieldTys = Unit {0}
  StandFieldTys u (MoreFieldTys name a fs) = StandsTy u a × StandFieldTys u fs

abbrev mutual
  pub StandsExpr : Table → Expr ℕ → Type 0
  StandsExpr u (NullExpr at) = Unit {0}
  StandsExpr u (BoolExpr at truth) = Unit {0}
  StandsExpr u (IntExpr at number) = Unit {0}
  StandsExpr u (VarExpr at x) = Unit {0}
  StandsExpr u (CallExpr at routine args) = StandExprs u args
  StandsExpr u (NegExpr at a) = StandsExpr u a
  StandsExpr u (NotExpr at a) = StandsExpr u a
  StandsExpr u (LenExpr at a) = StandsExpr u a
  StandsExpr u (BinaryExpr at op a b) = StandsExpr u a × StandsExpr u b
  StandsExpr u (IsExpr at a ty) = StandsExpr u a × StandsTy u ty
  StandsExpr u (IndexExpr at a b) = StandsExpr u a × StandsExpr u b
  StandsExpr u (FieldExpr at a name) = StandsExpr u a × (stands name u.names ≡ true)
  StandsExpr u (ListExpr at items) = StandExprs u items
  StandsExpr u (RepeatExpr at a b) = StandsExpr u a × StandsExpr u b
  StandsExpr u (RecordExpr at fs) = Shaped u (names_in fs) × StandFields u fs
  StandsExpr u (QuantExpr at all x a b body) = StandsExpr u a × (StandsExpr u b × StandsExpr u body)

  pub StandExprs : Table → Exprs ℕ → Type 0
  StandExprs u NoExprs = Unit {0}
  StandExprs u (MoreExprs e es) = StandsExpr u e × StandExprs u es

  pub StandFields : Table → Fields ℕ → Type 0
  StandFields u NoFields = Unit {0}
  StandFields u (MoreFields name e fs) = StandsExpr u e × StandFields u fs

abbrev pub StandsOption : Table → Option (Expr ℕ) → Type 0
StandsOption u None = Unit {0}
StandsOption u (Some e) = StandsExpr u e

abbrev pub StandsPath : Table → List (Step ℕ) → Type 0
StandsPath u [] = Unit {0}
StandsPath u (IndexStep at e ∷ path) = StandsExpr u e × StandsPath u path
StandsPath u (FieldStep at name ∷ path) = (stands name u.names ≡ true) × StandsPath u path

abbrev mutual
  pub StandsStmt : Table → Stmt ℕ → Type 0
  StandsStmt u (DeclareStmt at ty x value) = StandsOption u value
  StandsStmt u (AssignStmt at x path e) = StandsPath u path × StandsExpr u e
  StandsStmt u (CallStmt at routine args) = StandExprs u args
  StandsStmt u (ReturnStmt at value) = StandsOption u value
  StandsStmt u (AssertStmt at e) = Unit {0}
  StandsStmt u (BreakStmt at) = Unit {0}
  StandsStmt u (ContinueStmt at) = Unit {0}
  StandsStmt u (SkipStmt at) = Unit {0}
  StandsStmt u (FailStmt at) = Unit {0}
  StandsStmt u (IfStmt at e first second) = StandsExpr u e × (StandStmts u first × StandStmts u second)
  StandsStmt u (WhileStmt at e invariants body) = StandsExpr u e × StandStmts u body

  pub StandStmts : Table → Stmts ℕ → Type 0
  StandStmts u NoStmts = Unit {0}
  StandStmts u (MoreStmts st rest) = StandsStmt u st × StandStmts u rest

abbrev pub StandsDecl : Table → Decl ℕ → Type 0
StandsDecl u (AliasDecl a) = StandsTy u a.ty × StandExprs u (tree.exprs_of a.clauses)
StandsDecl u (RoutineDecl r) = StandStmts u r.body

abbrev pub StandDecls : Table → Core ℕ → Type 0
StandDecls u [] = Unit {0}
StandDecls u (d ∷ ds) = StandsDecl u d × StandDecls u ds

-- ---- what is met stands in each table that extends the one made of it

in_more : (n : List ℕ) (t u : Table) → Extends t u → stands n t.names ≡ true → stands n u.names ≡ true
in_more n t u e h = subst (λ (l : List (List ℕ)). stands n l ≡ true) (sym e.names) (stands_more n t.names e.more_names h)

name_stands : (n : List ℕ) (t u : Table) → Extends (with_name n t) u → stands n u.names ≡ true
name_stands n t u e = in_more n (with_name n t) u e (one_stands t.names n)

pub listed : (ns : List (List ℕ)) (t u : Table) → Extends (with_names ns t) u → Listed u.names ns
listed [] t u e = tt
listed (n ∷ ns) t u e = (name_stands n t u (then (with_name n t) (with_names ns (with_name n t)) u (names_grow ns (with_name n t)) e), listed ns (with_name n t) u e)

numbers_same : (xs ys ns : List (List ℕ)) → Listed xs ns → numbers_of (xs ++ ys) ns ≡ numbers_of xs ns
numbers_same xs ys [] l = refl
numbers_same xs ys (n ∷ ns) l = let a = number_same n xs ys l.0 in let b = numbers_same xs ys ns l.1 in λ i. a i ∷ b i

shape_stands : (ns : List (List ℕ)) (t u : Table) → Extends (with_shape ns t) u → Shaped u ns
shape_stands ns t u e =
    let v = with_names ns t in
    let f : Extends v u = then v (with_shape ns t) u (let a = added v.lists (numbers_of v.names ns) in record { more_names = []; names = sym (append-nil v.names); more_lists = a.0; lists = a.1 }) e in
    let l : Listed v.names ns = listed ns t v (same v) in
    let numbers : numbers_of u.names ns ≡ numbers_of v.names ns = ap (λ (x : List (List ℕ)). numbers_of x ns) f.names ∙ numbers_same v.names f.more_names ns l in
    let h : stands (numbers_of v.names ns) u.lists ≡ true = subst (λ (x : List (List ℕ)). stands (numbers_of v.names ns) x ≡ true) (sym e.lists) (stands_more (numbers_of v.names ns) (with_shape ns t).lists e.more_lists (one_stands v.lists (numbers_of v.names ns))) in
    (listed ns t u f, ap (λ (x : List ℕ). stands x u.lists) numbers ∙ h)

mutual
  pub ty_stands : (ty : Ty) (t u : Table) → Extends (ty_table ty t) u → StandsTy u ty
  ty_stands NullTy t u e = tt
  ty_stands BoolTy t u e = tt
  ty_stands IntTy t u e = tt
  ty_stands AnyTy t u e = tt
  ty_stands VoidTy t u e = tt
  ty_stands (RecordTy fs) t u e = (shape_stands (ty_names_in fs) (field_tys_table fs t) u e, field_tys_stand fs t u (then (field_tys_table fs t) (ty_table (RecordTy fs) t) u (shape_grows (ty_names_in fs) (field_tys_table fs t)) e))
  ty_stands (ArrayTy a) t u e = ty_stands a t u e
  ty_stands (UnionTy a b) t u e = (ty_stands a t u (then (ty_table a t) (ty_table b (ty_table a t)) u (ty_grows b (ty_table a t)) e), ty_stands b (ty_table a t) u e)
  ty_stands (InterTy a b) t u e = (ty_stands a t u (then (ty_table a t) (ty_table b (ty_table a t)) u (ty_grows b (ty_table a t)) e), ty_stands b (ty_table a t) u e)
  ty_stands (NotTy a) t u e = ty_stands a t u e
  ty_stands (NamedTy n) t u e = tt
  ty_stands (NormalTy cs) t u e = tt

  field_tys_stand : (fs : FieldTys) (t u : Table) → Extends (field_tys_table fs t) u → StandFieldTys u fs
  field_tys_stand NoFieldTys t u e = tt
  field_tys_stand (MoreFieldTys name a fs) t u e = (ty_stands a t u (then (ty_table a t) (field_tys_table fs (ty_table a t)) u (field_tys_grow fs (ty_table a t)) e), field_tys_stand fs (ty_table a t) u e)

mutual
  pub expr_stands : (e : Expr ℕ) (t u : Table) → Extends (expr_table e t) u → StandsExpr u e
  expr_stands (NullExpr at) t u g = tt
  expr_stands (BoolExpr at truth) t u g = tt
  expr_stands (IntExpr at number) t u g = tt
  expr_stands (VarExpr at x) t u g = tt
  expr_stands (CallExpr at routine args) t u g = exprs_stand args t u g
  expr_stands (NegExpr at a) t u g = expr_stands a t u g
  expr_stands (NotExpr at a) t u g = expr_stands a t u g
  expr_stands (LenExpr at a) t u g = expr_stands a t u g
  expr_stands (BinaryExpr at op a b) t u g = (expr_stands a t u (then (expr_table a t) (expr_table b (expr_table a t)) u (expr_grows b (expr_table a t)) g), expr_stands b (expr_table a t) u g)
  expr_stands (IsExpr at a ty) t u g = (expr_stands a t u (then (expr_table a t) (ty_table ty (expr_table a t)) u (ty_grows ty (expr_table a t)) g), ty_stands ty (expr_table a t) u g)
  expr_stands (IndexExpr at a b) t u g = (expr_stands a t u (then (expr_table a t) (expr_table b (expr_table a t)) u (expr_grows b (expr_table a t)) g), expr_stands b (expr_table a t) u g)
  expr_stands (FieldExpr at a name) t u g = (expr_stands a t u (then (expr_table a t) (with_name name (expr_table a t)) u (name_grows name (expr_table a t)) g), name_stands name (expr_table a t) u g)
  expr_stands (ListExpr at items) t u g = exprs_stand items t u g
  expr_stands (RepeatExpr at a b) t u g = (expr_stands a t u (then (expr_table a t) (expr_table b (expr_table a t)) u (expr_grows b (expr_table a t)) g), expr_stands b (expr_table a t) u g)
  expr_stands (RecordExpr at fs) t u g = (shape_stands (names_in fs) (fields_table fs t) u g, fields_stand fs t u (then (fields_table fs t) (expr_table (RecordExpr at fs) t) u (shape_grows (names_in fs) (fields_table fs t)) g))
  expr_stands (QuantExpr at all x a b body) t u g =
      let v = expr_table a t in let w = expr_table b v in let h : Extends w u = then w (expr_table body w) u (expr_grows body w) g in
      (expr_stands a t u (then v w u (expr_grows b v) h), (expr_stands b v u h, expr_stands body w u g))

  pub exprs_stand : (es : Exprs ℕ) (t u : Table) → Extends (exprs_table es t) u → StandExprs u es
  exprs_stand NoExprs t u g = tt
  exprs_stand (MoreExprs e es) t u g = (expr_stands e t u (then (expr_table e t) (exprs_table es (expr_table e t)) u (exprs_grow es (expr_table e t)) g), exprs_stand es (expr_table e t) u g)

  fields_stand : (fs : Fields ℕ) (t u : Table) → Extends (fields_table fs t) u → StandFields u fs
  fields_stand NoFields t u g = tt
  fields_stand (MoreFields name e fs) t u g = (expr_stands e t u (then (expr_table e t) (fields_table fs (expr_table e t)) u (fields_grow fs (expr_table e t)) g), fields_stand fs (expr_table e t) u g)

option_stands : (value : Option (Expr ℕ)) (t u : Table) → Extends (option_table value t) u → StandsOption u value
option_stands None t u g = tt
option_stands (Some e) t u g = expr_stands e t u g

path_stands : (path : List (Step ℕ)) (t u : Table) → Extends (path_table path t) u → StandsPath u path
path_stands [] t u g = tt
path_stands (IndexStep at e ∷ path) t u g = (expr_stands e t u (then (expr_table e t) (path_table path (expr_table e t)) u (path_grows path (expr_table e t)) g), path_stands path (expr_table e t) u g)
path_stands (FieldStep at name ∷ path) t u g = (name_stands name t u (then (with_name name t) (path_table path (with_name name t)) u (path_grows path (with_name name t)) g), path_stands path (with_name name t) u g)

mutual
  stmt_stands : (st : Stmt ℕ) (t u : Table) → Extends (stmt_table st t) u → StandsStmt u st
  stmt_stands (DeclareStmt at ty x value) t u g = option_stands value t u g
  stmt_stands (AssignStmt at x path e) t u g = (path_stands path t u (then (path_table path t) (expr_table e (path_table path t)) u (expr_grows e (path_table path t)) g), expr_stands e (path_table path t) u g)
  stmt_stands (CallStmt at routine args) t u g = exprs_stand args t u g
  stmt_stands (ReturnStmt at value) t u g = option_stands value t u g
  stmt_stands (AssertStmt at e) t u g = tt
  stmt_stands (BreakStmt at) t u g = tt
  stmt_stands (ContinueStmt at) t u g = tt
  stmt_stands (SkipStmt at) t u g = tt
  stmt_stands (FailStmt at) t u g = tt
  stmt_stands (IfStmt at e first second) t u g =
      let v = expr_table e t in let w = stmts_table first v in let h : Extends w u = then w (stmts_table second w) u (stmts_grow second w) g in
      (expr_stands e t u (then v w u (stmts_grow first v) h), (stmts_stand first v u h, stmts_stand second w u g))
  stmt_stands (WhileStmt at e invariants body) t u g = (expr_stands e t u (then (expr_table e t) (stmts_table body (expr_table e t)) u (stmts_grow body (expr_table e t)) g), stmts_stand body (expr_table e t) u g)

  stmts_stand : (ss : Stmts ℕ) (t u : Table) → Extends (stmts_table ss t) u → StandStmts u ss
  stmts_stand NoStmts t u g = tt
  stmts_stand (MoreStmts st rest) t u g = (stmt_stands st t u (then (stmt_table st t) (stmts_table rest (stmt_table st t)) u (stmts_grow rest (stmt_table st t)) g), stmts_stand rest (stmt_table st t) u g)

decl_stands : (d : Decl ℕ) (t u : Table) → Extends (decl_table d t) u → StandsDecl u d
decl_stands (AliasDecl a) t u g =
    (ty_stands a.ty t u (then (ty_table a.ty t) (exprs_table (tree.exprs_of a.clauses) (ty_table a.ty t)) u (exprs_grow (tree.exprs_of a.clauses) (ty_table a.ty t)) g), exprs_stand (tree.exprs_of a.clauses) (ty_table a.ty t) u g)
decl_stands (RoutineDecl r) t u g = stmts_stand r.body t u g

decls_stand : (ds : Core ℕ) (t u : Table) → Extends (decls_table ds t) u → StandDecls u ds
decls_stand [] t u g = tt
decls_stand (d ∷ ds) t u g = (decl_stands d t u (then (decl_table d t) (decls_table ds (decl_table d t)) u (decls_grow ds (decl_table d t)) g), decls_stand ds (decl_table d t) u g)

-- all that is met in a program stands in its table
pub core_stands : (core : Core ℕ) → StandDecls (table_of core) core
core_stands core = decls_stand core (record { names = []; lists = [] }) (table_of core) (same (table_of core))
