-- A program has one list of marks.
use Rattle.std.proofs.Common.{◌≡◌, ℕ, Bool, List, [], ◌∷◌, Option, Some, None, refl, sym, ap, ◌∙◌}
use Rattle.wy_core.specs.CoreTree as tree
use Rattle.wy_core.specs.CoreTree.{Expr, NullExpr, BoolExpr, IntExpr, VarExpr, CallExpr, NegExpr, NotExpr, LenExpr, BinaryExpr, IsExpr, IndexExpr, FieldExpr, ListExpr, RepeatExpr, RecordExpr, QuantExpr, Exprs, NoExprs, MoreExprs, Fields, NoFields, MoreFields, Step, IndexStep, FieldStep, Stmt, DeclareStmt, AssignStmt, CallStmt, ReturnStmt, AssertStmt, BreakStmt, ContinueStmt, SkipStmt, FailStmt, IfStmt, WhileStmt, Stmts, NoStmts, MoreStmts, Decl, AliasDecl, RoutineDecl, Core}
use Rattle.wy_lemmas.proofs.Choices.{same_test as one_truth}
use Rattle.wy_live.specs.Paths.{occurs, any_occurs, any_field_occurs, any_step_occurs, AreLive}
use Rattle.wy_live.specs.LastUses.{Later, then_later, assigned_later, updated_later, turn_later, unused, clauses_unused, ExprMarks, ExprsMarks, FieldsMarks, StepMarks, StepsMarks, DeclareMarks, AssignMarks, ReturnMarks, nothing_later, if_later, head_later, test_later, StmtMarks, StmtsMarks, DeclMarks, DeclsMarks, AreLast}

one_front : (b c : Bool) (ms ns r q : List Bool) → b ≡ c → r ≡ q → ms ≡ b ∷ r → ns ≡ c ∷ q → ms ≡ ns
one_front b c ms ns r q e f m n = m ∙ (ap (λ z. z ∷ r) e ∙ (ap (λ z. c ∷ z) f ∙ sym n))

mutual
  one_expr : (e : Expr ℕ) (after : Later) (ms ns r q : List Bool) → r ≡ q → ExprMarks e after ms r → ExprMarks e after ns q → ms ≡ ns
  one_expr (NullExpr at) after ms ns r q e m n = m ∙ (e ∙ sym n)
  one_expr (BoolExpr at truth) after ms ns r q e m n = m ∙ (e ∙ sym n)
  one_expr (IntExpr at number) after ms ns r q e m n = m ∙ (e ∙ sym n)
  one_expr (VarExpr at x) after ms ns r q e m n = one_front m.0 n.0 ms ns r q (one_truth m.0 n.0 (λ t. n.3 (m.2 t)) (λ t. m.3 (n.2 t))) e m.1 n.1
  one_expr (CallExpr at routine args) after ms ns r q e m n = one_exprs args after ms ns r q e m n
  one_expr (NegExpr at a) after ms ns r q e m n = one_expr a after ms ns r q e m n
  one_expr (NotExpr at a) after ms ns r q e m n = one_expr a after ms ns r q e m n
  one_expr (LenExpr at a) after ms ns r q e m n = one_expr a after ms ns r q e m n
  one_expr (BinaryExpr at op a b) after ms ns r q e m n = one_expr a (then_later (occurs b) after) ms ns m.0 n.0 (one_expr b after m.0 n.0 r q e m.2 n.2) m.1 n.1
  one_expr (IsExpr at a ty) after ms ns r q e m n = one_expr a after ms ns r q e m n
  one_expr (IndexExpr at a b) after ms ns r q e m n = one_expr a (then_later (occurs b) after) ms ns m.0 n.0 (one_expr b after m.0 n.0 r q e m.2 n.2) m.1 n.1
  one_expr (FieldExpr at a name) after ms ns r q e m n = one_expr a after ms ns r q e m n
  one_expr (ListExpr at items) after ms ns r q e m n = one_exprs items after ms ns r q e m n
  one_expr (RepeatExpr at a b) after ms ns r q e m n = one_expr a (then_later (occurs b) after) ms ns m.0 n.0 (one_expr b after m.0 n.0 r q e m.2 n.2) m.1 n.1
  one_expr (RecordExpr at fs) after ms ns r q e m n = one_fields fs after ms ns r q e m n
  one_expr (QuantExpr at all x a b body) after ms ns r q e m n =
      let third = one_expr body (turn_later x body after) m.1 n.1 r q e m.4 n.4 in
      let second = one_expr b (turn_later x body after) m.0 n.0 m.1 n.1 third m.3 n.3 in
      one_expr a (then_later (occurs b) (turn_later x body after)) ms ns m.0 n.0 second m.2 n.2

  one_exprs : (es : Exprs ℕ) (after : Later) (ms ns r q : List Bool) → r ≡ q → ExprsMarks es after ms r → ExprsMarks es after ns q → ms ≡ ns
  one_exprs NoExprs after ms ns r q e m n = m ∙ (e ∙ sym n)
  one_exprs (MoreExprs x xs) after ms ns r q e m n = one_expr x (then_later (any_occurs xs) after) ms ns m.0 n.0 (one_exprs xs after m.0 n.0 r q e m.2 n.2) m.1 n.1

  one_fields : (fs : Fields ℕ) (after : Later) (ms ns r q : List Bool) → r ≡ q → FieldsMarks fs after ms r → FieldsMarks fs after ns q → ms ≡ ns
  one_fields NoFields after ms ns r q e m n = m ∙ (e ∙ sym n)
  one_fields (MoreFields name x fs) after ms ns r q e m n = one_expr x (then_later (any_field_occurs fs) after) ms ns m.0 n.0 (one_fields fs after m.0 n.0 r q e m.2 n.2) m.1 n.1

one_step : (step : Step ℕ) (after : Later) (ms ns r q : List Bool) → r ≡ q → StepMarks step after ms r → StepMarks step after ns q → ms ≡ ns
one_step (IndexStep at x) after ms ns r q e m n = one_expr x after ms ns r q e m n
one_step (FieldStep at name) after ms ns r q e m n = m ∙ (e ∙ sym n)

one_steps : (steps : List (Step ℕ)) (after : Later) (ms ns r q : List Bool) → r ≡ q → StepsMarks steps after ms r → StepsMarks steps after ns q → ms ≡ ns
one_steps [] after ms ns r q e m n = m ∙ (e ∙ sym n)
one_steps (step ∷ steps) after ms ns r q e m n = one_step step (then_later (any_step_occurs steps) after) ms ns m.0 n.0 (one_steps steps after m.0 n.0 r q e m.2 n.2) m.1 n.1

one_declare : (x : ℕ) (value : Option (Expr ℕ)) (after : Later) (ms ns r q : List Bool) → r ≡ q → DeclareMarks x value after ms r → DeclareMarks x value after ns q → ms ≡ ns
one_declare x None after ms ns r q e m n = m ∙ (e ∙ sym n)
one_declare x (Some v) after ms ns r q e m n = one_expr v (assigned_later x after) ms ns r q e m n

one_assign : (x : ℕ) (path : List (Step ℕ)) (v : Expr ℕ) (after : Later) (ms ns r q : List Bool) → r ≡ q → AssignMarks x path v after ms r → AssignMarks x path v after ns q → ms ≡ ns
one_assign x [] v after ms ns r q e m n = one_expr v (assigned_later x after) ms ns r q e m n
one_assign x (step ∷ steps) v after ms ns r q e m n =
    one_steps (step ∷ steps) (then_later (occurs v) (updated_later x after)) ms ns m.0 n.0 (one_expr v (updated_later x after) m.0 n.0 r q e m.2 n.2) m.1 n.1

one_return : (value : Option (Expr ℕ)) (ms ns r q : List Bool) → r ≡ q → ReturnMarks value ms r → ReturnMarks value ns q → ms ≡ ns
one_return None ms ns r q e m n = m ∙ (e ∙ sym n)
one_return (Some v) ms ns r q e m n = one_expr v nothing_later ms ns r q e m n

mutual
  one_stmt : (st : Stmt ℕ) (after exit again : Later) (ms ns r q : List Bool) → r ≡ q → StmtMarks st after exit again ms r → StmtMarks st after exit again ns q → ms ≡ ns
  one_stmt (DeclareStmt at ty x value) after exit again ms ns r q e m n = one_declare x value after ms ns r q e m n
  one_stmt (AssignStmt at x path v) after exit again ms ns r q e m n = one_assign x path v after ms ns r q e m n
  one_stmt (CallStmt at routine args) after exit again ms ns r q e m n = one_exprs args after ms ns r q e m n
  one_stmt (ReturnStmt at value) after exit again ms ns r q e m n = one_return value ms ns r q e m n
  one_stmt (AssertStmt at v) after exit again ms ns r q e m n = m ∙ (ap (unused v) e ∙ sym n)
  one_stmt (BreakStmt at) after exit again ms ns r q e m n = m ∙ (e ∙ sym n)
  one_stmt (ContinueStmt at) after exit again ms ns r q e m n = m ∙ (e ∙ sym n)
  one_stmt (SkipStmt at) after exit again ms ns r q e m n = m ∙ (e ∙ sym n)
  one_stmt (FailStmt at) after exit again ms ns r q e m n = m ∙ (e ∙ sym n)
  one_stmt (IfStmt at v first second) after exit again ms ns r q e m n =
      let two = one_stmts second after exit again m.1 n.1 r q e m.4 n.4 in
      let one = one_stmts first after exit again m.0 n.0 m.1 n.1 two m.3 n.3 in
      one_expr v (if_later first second after exit again) ms ns m.0 n.0 one m.2 n.2
  one_stmt (WhileStmt at v invariants body) after exit again ms ns r q e m n =
      let one = one_stmts body (head_later v body after) after (head_later v body after) m.0 n.0 r q e m.2 n.2 in
      one_expr v (test_later v body after) ms ns (clauses_unused invariants m.0) (clauses_unused invariants n.0) (ap (clauses_unused invariants) one) m.1 n.1

  one_stmts : (ss : Stmts ℕ) (after exit again : Later) (ms ns r q : List Bool) → r ≡ q → StmtsMarks ss after exit again ms r → StmtsMarks ss after exit again ns q → ms ≡ ns
  one_stmts NoStmts after exit again ms ns r q e m n = m ∙ (e ∙ sym n)
  one_stmts (MoreStmts st rest) after exit again ms ns r q e m n =
      one_stmt st (λ x. AreLive rest x (after x) (exit x) (again x)) exit again ms ns m.0 n.0 (one_stmts rest after exit again m.0 n.0 r q e m.2 n.2) m.1 n.1

one_decl : (d : Decl ℕ) (ms ns r q : List Bool) → r ≡ q → DeclMarks d ms r → DeclMarks d ns q → ms ≡ ns
one_decl (AliasDecl a) ms ns r q e m n = one_exprs (tree.exprs_of a.clauses) nothing_later ms ns r q e m n
one_decl (RoutineDecl x) ms ns r q e m n =
    m.1 ∙ (ap (λ z. clauses_unused x.preconditions (clauses_unused x.postconditions z)) (one_stmts x.body nothing_later nothing_later nothing_later m.0 n.0 r q e m.2 n.2) ∙ sym n.1)

one_decls : (core : Core ℕ) (ms ns r q : List Bool) → r ≡ q → DeclsMarks core ms r → DeclsMarks core ns q → ms ≡ ns
one_decls [] ms ns r q e m n = m ∙ (e ∙ sym n)
one_decls (d ∷ ds) ms ns r q e m n = one_decl d ms ns m.0 n.0 (one_decls ds m.0 n.0 r q e m.2 n.2) m.1 n.1

pub one_list : (core : Core ℕ) (ms ns : List Bool) → AreLast core ms → AreLast core ns → ms ≡ ns
one_list core ms ns m n = one_decls core ms ns [] [] refl m n
