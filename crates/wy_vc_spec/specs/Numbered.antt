-- Expressions with the numbers that they have in the walk of flow typing: from 0, each behind its parts, declarations in the order of the source.
use Rattle.std.specs.Prelude.{ℕ, ◌+◌, List, [], ◌∷◌, Option, Some, None}
use Rattle.wy_sem.specs.wy_core.CoreTree.{Expr, NullExpr, BoolExpr, IntExpr, VarExpr, CallExpr, NegExpr, NotExpr, LenExpr, BinaryExpr, IsExpr, IndexExpr, FieldExpr, ListExpr, RepeatExpr, RecordExpr, QuantExpr, Exprs, NoExprs, MoreExprs, Fields, NoFields, MoreFields, Step, IndexStep, FieldStep, Stmt, DeclareStmt, AssignStmt, CallStmt, ReturnStmt, AssertStmt, BreakStmt, ContinueStmt, SkipStmt, FailStmt, IfStmt, WhileStmt, Stmts, NoStmts, MoreStmts, Alias, Routine, Decl, AliasDecl, RoutineDecl, Core}
use Rattle.wy_vc_spec.specs.Sizes.{exprs_in, exprs_in_all, exprs_in_fields, exprs_in_list, exprs_in_path, exprs_in_stmt, exprs_in_block}

-- where an expression stands, and its number
pub record Node : Type 0 where
  pub at : ℕ
  pub number : ℕ

abbrev pub node : ℕ → ℕ → Node
node at number = record { at = at; number = number }

abbrev mutual
  -- an expression, the first of whose parts has this number
  pub numbered : Expr ℕ → ℕ → Expr Node
  numbered (NullExpr at) k = NullExpr (node at k)
  numbered (BoolExpr at truth) k = BoolExpr (node at k) truth
  numbered (IntExpr at number) k = IntExpr (node at k) number
  numbered (VarExpr at x) k = VarExpr (node at k) x
  numbered (CallExpr at routine args) k = CallExpr (node at (k + exprs_in_all args)) routine (numbered_all args k)
  numbered (NegExpr at a) k = NegExpr (node at (k + exprs_in a)) (numbered a k)
  numbered (NotExpr at a) k = NotExpr (node at (k + exprs_in a)) (numbered a k)
  numbered (LenExpr at a) k = LenExpr (node at (k + exprs_in a)) (numbered a k)
  numbered (BinaryExpr at op a b) k = BinaryExpr (node at (k + exprs_in a + exprs_in b)) op (numbered a k) (numbered b (k + exprs_in a))
  numbered (IsExpr at a ty) k = IsExpr (node at (k + exprs_in a)) (numbered a k) ty
  numbered (IndexExpr at a b) k = IndexExpr (node at (k + exprs_in a + exprs_in b)) (numbered a k) (numbered b (k + exprs_in a))
  numbered (FieldExpr at a name) k = FieldExpr (node at (k + exprs_in a)) (numbered a k) name
  numbered (ListExpr at items) k = ListExpr (node at (k + exprs_in_all items)) (numbered_all items k)
  numbered (RepeatExpr at a b) k = RepeatExpr (node at (k + exprs_in a + exprs_in b)) (numbered a k) (numbered b (k + exprs_in a))
  numbered (RecordExpr at fields) k = RecordExpr (node at (k + exprs_in_fields fields)) (numbered_fields fields k)
  numbered (QuantExpr at all x a b body) k =
      QuantExpr (node at (k + exprs_in a + exprs_in b + exprs_in body)) all x (numbered a k) (numbered b (k + exprs_in a)) (numbered body (k + exprs_in a + exprs_in b))

  pub numbered_all : Exprs ℕ → ℕ → Exprs Node
  numbered_all NoExprs k = NoExprs
  numbered_all (MoreExprs e es) k = MoreExprs (numbered e k) (numbered_all es (k + exprs_in e))

  pub numbered_fields : Fields ℕ → ℕ → Fields Node
  numbered_fields NoFields k = NoFields
  numbered_fields (MoreFields name e fs) k = MoreFields name (numbered e k) (numbered_fields fs (k + exprs_in e))

abbrev pub numbered_list : List (Expr ℕ) → ℕ → List (Expr Node)
numbered_list [] k = []
numbered_list (e ∷ es) k = numbered e k ∷ numbered_list es (k + exprs_in e)

abbrev pub numbered_option : Option (Expr ℕ) → ℕ → Option (Expr Node)
numbered_option None k = None
numbered_option (Some e) k = Some (numbered e k)

abbrev pub numbered_path : List (Step ℕ) → ℕ → List (Step Node)
numbered_path [] k = []
numbered_path (IndexStep at e ∷ steps) k = IndexStep at (numbered e k) ∷ numbered_path steps (k + exprs_in e)
numbered_path (FieldStep at name ∷ steps) k = FieldStep at name ∷ numbered_path steps k

abbrev mutual
  pub numbered_stmt : Stmt ℕ → ℕ → Stmt Node
  numbered_stmt (DeclareStmt at ty x value) k = DeclareStmt at ty x (numbered_option value k)
  numbered_stmt (AssignStmt at x path value) k = AssignStmt at x (numbered_path path k) (numbered value (k + exprs_in_path path))
  numbered_stmt (CallStmt at routine args) k = CallStmt at routine (numbered_all args k)
  numbered_stmt (ReturnStmt at value) k = ReturnStmt at (numbered_option value k)
  numbered_stmt (AssertStmt at e) k = AssertStmt at (numbered e k)
  numbered_stmt (BreakStmt at) k = BreakStmt at
  numbered_stmt (ContinueStmt at) k = ContinueStmt at
  numbered_stmt (SkipStmt at) k = SkipStmt at
  numbered_stmt (FailStmt at) k = FailStmt at
  numbered_stmt (IfStmt at e first second) k =
      IfStmt at (numbered e k) (numbered_block first (k + exprs_in e)) (numbered_block second (k + exprs_in e + exprs_in_block first))
  numbered_stmt (WhileStmt at e invariants body) k =
      WhileStmt at (numbered e k) (numbered_list invariants (k + exprs_in e)) (numbered_block body (k + exprs_in e + exprs_in_list invariants))

  pub numbered_block : Stmts ℕ → ℕ → Stmts Node
  numbered_block NoStmts k = NoStmts
  numbered_block (MoreStmts first rest) k = MoreStmts (numbered_stmt first k) (numbered_block rest (k + exprs_in_stmt first))

-- a declared type, the first of whose expressions has this number
abbrev pub numbered_alias : Alias ℕ → ℕ → Alias Node
numbered_alias a k = record {
  at = a.at;
  name = a.name;
  variables = a.variables;
  ty_at = a.ty_at;
  ty = a.ty;
  variable = a.variable;
  clauses = numbered_list a.clauses k;
}

-- a function or method: its requires clauses, its ensures clauses, its body
abbrev pub numbered_routine : Routine ℕ → ℕ → Routine Node
numbered_routine r k = record {
  at = r.at;
  name = r.name;
  is_method = r.is_method;
  variables = r.variables;
  params = r.params;
  result = r.result;
  preconditions = numbered_list r.preconditions k;
  postconditions = numbered_list r.postconditions (k + exprs_in_list r.preconditions);
  body = numbered_block r.body (k + exprs_in_list r.preconditions + exprs_in_list r.postconditions);
}

abbrev pub exprs_in_decl : Decl ℕ → ℕ
exprs_in_decl (AliasDecl a) = exprs_in_list a.clauses
exprs_in_decl (RoutineDecl r) = exprs_in_list r.preconditions + exprs_in_list r.postconditions + exprs_in_block r.body

abbrev pub numbered_decl : Decl ℕ → ℕ → Decl Node
numbered_decl (AliasDecl a) k = AliasDecl (numbered_alias a k)
numbered_decl (RoutineDecl r) k = RoutineDecl (numbered_routine r k)

abbrev pub numbered_decls : List (Decl ℕ) → ℕ → List (Decl Node)
numbered_decls [] k = []
numbered_decls (d ∷ ds) k = numbered_decl d k ∷ numbered_decls ds (k + exprs_in_decl d)

-- the program, whose expressions have the numbers from 0
abbrev pub numbered_core : Core ℕ → Core Node
numbered_core core = numbered_decls core 0
