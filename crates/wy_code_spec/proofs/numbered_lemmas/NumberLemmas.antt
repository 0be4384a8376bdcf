-- The numbers of names and shapes stand for them.
use Rattle.std.proofs.Common.{◌≡◌, ◌∙◌, ℕ, zero, suc, List, [], ◌∷◌, Bool, true, false, cond, ◌||◌, Option, Some, None, refl, ap}
use Rattle.std.specs.Prelude.{bytes_eq, slice_get, slice_index_or}
use Rattle.wy_core.specs.Types.{Ty, NullTy, BoolTy, IntTy, AnyTy, VoidTy, RecordTy, ArrayTy, UnionTy, InterTy, NotTy, NamedTy, NormalTy, FieldTys, NoFieldTys, MoreFieldTys}
use Rattle.wy_core.specs.CoreTree as tree
use Rattle.wy_core.specs.CoreTree.{Expr, NullExpr, BoolExpr, IntExpr, VarExpr, CallExpr, NegExpr, NotExpr, LenExpr, BinaryExpr, IsExpr, IndexExpr, FieldExpr, ListExpr, RepeatExpr, RecordExpr, QuantExpr, Exprs, NoExprs, MoreExprs, Fields, NoFields, MoreFields, Step, IndexStep, FieldStep, Stmt, DeclareStmt, AssignStmt, CallStmt, ReturnStmt, AssertStmt, BreakStmt, ContinueStmt, SkipStmt, FailStmt, IfStmt, WhileStmt, Stmts, NoStmts, MoreStmts, Decl, AliasDecl, RoutineDecl, Core}
use Rattle.wy_lemmas.proofs.Lists.{bytes_are}
use Rattle.wy_value.specs.declared.shapes.Shapes.{Shapes}
use Rattle.wy_value.specs.Shapes.{named}
use Rattle.wy_code_spec.specs.tables.Tables.{stands, number_of, numbers_of, names_in, ty_names_in, table_of}
use Rattle.wy_code_spec.proofs.compiled_lemmas.TableLemmas.{Listed, Shaped, StandsTy, StandFieldTys, StandsExpr, StandExprs, StandFields, StandsOption, StandsPath, StandsStmt, StandStmts, StandsDecl, StandDecls, core_stands}
use Rattle.wy_code_spec.specs.step.Step as step
use Rattle.wy_code_spec.specs.numbered.Numbered.{AreNumbers, IsShape, NumberedTy, NumberedFieldTys, NumberedExpr, NumberedExprs, NumberedFields, NumberedOption, NumberedPath, NumberedStmt, NumberedStmts, NumberedDecl, NumberedDecls, NumbersStandForNames}

-- what stands in a list has its number there
number_is : (n : List ℕ) (xs : List (List ℕ)) → stands n xs ≡ true → slice_get xs (number_of n xs) ≡ Some n
number_is n [] h = absurd (let e : false ≡ true = h in cc)
number_is n (m ∷ xs) h = by (bytes_eq m n) refl h (number_is n xs)
  where
    by : (b : Bool) → bytes_eq m n ≡ b → (b || stands n xs) ≡ true → (stands n xs ≡ true → slice_get xs (number_of n xs) ≡ Some n) → slice_get (m ∷ xs) (cond b 0 (suc (number_of n xs))) ≡ Some n
    by true e g k = ap (λ (x : List ℕ). Some x) (bytes_are m n e)
    by false e g k = k g

index_is : (xs : List (List ℕ)) (k : ℕ) (x d : List ℕ) → slice_get xs k ≡ Some x → slice_index_or xs k d ≡ x
index_is [] k x d e = absurd cc
index_is (y ∷ xs) zero x d e = cc
index_is (y ∷ xs) (suc k) x d e = index_is xs k x d e

module _ (u : Shapes) where
  are_numbers : (ns : List (List ℕ)) → Listed u.names ns → AreNumbers u ns
  are_numbers [] h = tt
  are_numbers (n ∷ ns) h = (number_is n u.names h.0, are_numbers ns h.1)

  named_back : (ns : List (List ℕ)) → Listed u.names ns → named u.names (numbers_of u.names ns) ≡ ns
  named_back [] h = refl
  named_back (n ∷ ns) h = ap (λ (m : List ℕ). m ∷ named u.names (numbers_of u.names ns)) (index_is u.names (number_of n u.names) n [] (number_is n u.names h.0)) ∙ ap (λ (ms : List (List ℕ)). n ∷ ms) (named_back ns h.1)

  is_shape : (ns : List (List ℕ)) → Shaped u ns → IsShape u ns
  is_shape ns h = (are_numbers ns h.0, ap (λ (o : Option (List ℕ)). step.names_in u.names o) (number_is (numbers_of u.names ns) u.lists h.1) ∙ ap (λ (ms : List (List ℕ)). Some ms) (named_back ns h.0))

  mutual
    ty : (t : Ty) → StandsTy u t → NumberedTy u t
    ty NullTy h = tt
    ty BoolTy h = tt
    ty IntTy h = tt
    ty AnyTy h = tt
    ty VoidTy h = tt
    ty (RecordTy fs) h = (is_shape (ty_names_in fs) h.0, field_tys fs h.1)
    ty (ArrayTy a) h = ty a h
    ty (UnionTy a b) h = (ty a h.0, ty b h.1)
    ty (InterTy a b) h = (ty a h.0, ty b h.1)
    ty (NotTy a) h = ty a h
    ty (NamedTy n) h = tt
    ty (NormalTy cs) h = tt

    field_tys : (fs : FieldTys) → StandFieldTys u fs → NumberedFieldTys u fs
    field_tys NoFieldTys h = tt
    field_tys (MoreFieldTys name a fs) h = (ty a h.0, field_tys fs h.1)

  mutual
    expr : (e : Expr ℕ) → StandsExpr u e → NumberedExpr u e
    expr (NullExpr at) h = tt
    expr (BoolExpr at truth) h = tt
    expr (IntExpr at number) h = tt
    expr (VarExpr at x) h = tt
    expr (CallExpr at routine args) h = exprs args h
    expr (NegExpr at a) h = expr a h
    expr (NotExpr at a) h = expr a h
    expr (LenExpr at a) h = expr a h
    expr (BinaryExpr at op a b) h = (expr a h.0, expr b h.1)
    expr (IsExpr at a t) h = (expr a h.0, ty t h.1)
    expr (IndexExpr at a b) h = (expr a h.0, expr b h.1)
    expr (FieldExpr at a name) h = (expr a h.0, number_is name u.names h.1)
    expr (ListExpr at items) h = exprs items h
    expr (RepeatExpr at a b) h = (expr a h.0, expr b h.1)
    expr (RecordExpr at fs) h = (is_shape (names_in fs) h.0, fields fs h.1)
    expr (QuantExpr at all x a b body) h = (expr a h.0, (expr b h.1.0, expr body h.1.1))

    exprs : (es : Exprs ℕ) → StandExprs u es → NumberedExprs u es
    exprs NoExprs h = tt
    exprs (MoreExprs e es) h = (expr e h.0, exprs es h.1)

    fields : (fs : Fields ℕ) → StandFields u fs → NumberedFields u fs
    fields NoFields h = tt
    fields (MoreFields name e fs) h = (expr e h.0, fields fs h.1)

  option : (o : Option (Expr ℕ)) → StandsOption u o → NumberedOption u o
  option None h = tt
  option (Some e) h = expr e h

  path : (steps : List (Step ℕ)) → StandsPath u steps → NumberedPath u steps
  path [] h = tt
  path (IndexStep at e ∷ steps) h = (expr e h.0, path steps h.1)
  path (FieldStep at name ∷ steps) h = (number_is name u.names h.0, path steps h.1)

  mutual
    stmt : (st : Stmt ℕ) → StandsStmt u st → NumberedStmt u st
    stmt (DeclareStmt at t x value) h = option value h
    stmt (AssignStmt at x steps e) h = (path steps h.0, expr e h.1)
    stmt (CallStmt at routine args) h = exprs args h
    stmt (ReturnStmt at value) h = option value h
    stmt (AssertStmt at e) h = tt
    stmt (BreakStmt at) h = tt
    stmt (ContinueStmt at) h = tt
    stmt (SkipStmt at) h = tt
    stmt (FailStmt at) h = tt
    stmt (IfStmt at e first second) h = (expr e h.0, (stmts first h.1.0, stmts second h.1.1))
    stmt (WhileStmt at e invariants body) h = (expr e h.0, stmts body h.1)

    stmts : (ss : Stmts ℕ) → StandStmts u ss → NumberedStmts u ss
    stmts NoStmts h = tt
    stmts (MoreStmts st rest) h = (stmt st h.0, stmts rest h.1)

  decl : (d : Decl ℕ) → StandsDecl u d → NumberedDecl u d
  decl (AliasDecl a) h = (ty a.ty h.0, exprs (tree.exprs_of a.clauses) h.1)
  decl (RoutineDecl r) h = stmts r.body h

  decls : (ds : Core ℕ) → StandDecls u ds → NumberedDecls u ds
  decls [] h = tt
  decls (d ∷ ds) h = (decl d h.0, decls ds h.1)

pub stand_for_names : NumbersStandForNames
stand_for_names core = decls (table_of core) core (core_stands core)
