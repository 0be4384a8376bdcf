-- The marks of last uses are those by paths.
use Rattle.std.proofs.Common.{◌≡◌, ℕ, Bool, List, [], ◌∷◌, Option, Some, None}
use Rattle.wy_core.specs.CoreTree as tree
use Rattle.wy_core.specs.CoreTree.{Expr, NullExpr, BoolExpr, IntExpr, VarExpr, CallExpr, NegExpr, NotExpr, LenExpr, BinaryExpr, IsExpr, IndexExpr, FieldExpr, ListExpr, RepeatExpr, RecordExpr, QuantExpr, Exprs, NoExprs, MoreExprs, Fields, NoFields, MoreFields, Step, IndexStep, FieldStep, Stmt, DeclareStmt, AssignStmt, CallStmt, ReturnStmt, AssertStmt, BreakStmt, ContinueStmt, SkipStmt, FailStmt, IfStmt, WhileStmt, Stmts, NoStmts, MoreStmts, Decl, AliasDecl, RoutineDecl, Core}
use Rattle.wy_lemmas.proofs.Choices.{false_of as false_unless, true_false as not_both_ways}
use Rattle.wy_live.specs.Paths.{occurs, any_occurs, any_field_occurs, any_step_occurs, AreLive}
use Rattle.wy_live.specs.LastUses.{then_later, assigned_later, updated_later, turn_later, Marked, ExprMarks, ExprsMarks, FieldsMarks, clauses_unused, StepMarks, StepsMarks, DeclareMarks, AssignMarks, nothing_later, ReturnMarks, if_later, head_later, test_later, StmtMarks, StmtsMarks, DeclMarks, DeclsMarks, AreLast}
use Rattle.wy_live.specs.live_paths.Events.{Path, uses_first, Then}
use Rattle.wy_live.specs.live_paths.Through.{Right, Through, ThroughAll, ThroughFields, ThroughSteps, ThroughStmts}
use Rattle.wy_live.specs.live_paths.Behind.{Ended, Assigned, Updated, Turned, Onward, Head, Tested, Forked, LastMark, ExprLast, ExprsLast, FieldsLast, StepLast, StepsLast, DeclareLast, AssignLast, ReturnLast, StmtLast, StmtsLast, DeclLast, DeclsLast, AreLastOnPaths}
use Rattle.wy_live.proofs.live_paths_lemmas.ReadsLemmas.{reads_right, expr_reads, exprs_reads, fields_reads, steps_reads}
use Rattle.wy_live.proofs.live_paths_lemmas.BehindLemmas.{Agrees, agrees_ended, agrees_then, agrees_assigned, agrees_updated, agrees_turned, agrees_block, agrees_head, agrees_tested, agrees_forked}

-- the one where the other is, both ways
abbrev Same : Type 0 → Type 0 → Type 0
Same P Q = (P → Q) × (Q → P)

same_self : (P : Type 0) → Same P P
same_self P = ((λ z. z), (λ z. z))

same_mid : (A P : List Bool → Type 0) (B Q : List Bool → Type 0) → ((m : List Bool) → Same (A m) (P m)) → ((m : List Bool) → Same (B m) (Q m)) → Same ((m : List Bool) × A m × B m) ((m : List Bool) × P m × Q m)
same_mid A P B Q f g = ((λ t. (t.0, (f t.0).0 t.1, (g t.0).0 t.2)), (λ t. (t.0, (f t.0).1 t.1, (g t.0).1 t.2)))

same_two : (A P : List Bool → Type 0) (B Q : List Bool → List Bool → Type 0) (C R : List Bool → Type 0) → ((m : List Bool) → Same (A m) (P m)) → ((m n : List Bool) → Same (B m n) (Q m n)) → ((n : List Bool) → Same (C n) (R n)) → Same ((m : List Bool) × (n : List Bool) × A m × B m n × C n) ((m : List Bool) × (n : List Bool) × P m × Q m n × R n)
same_two A P B Q C R f g h = (
  (λ t. (t.0, t.1, (f t.0).0 t.2, (g t.0 t.1).0 t.3, (h t.1).0 t.4)),
  (λ t. (t.0, t.1, (f t.0).1 t.2, (g t.0 t.1).1 t.3, (h t.1).1 t.4)),
)

mark_same : (x : ℕ) (later : ℕ → Type 0) (after : Path → Type 0) → Agrees later after → (marks rest : List Bool) → Same (Marked x later marks rest) (LastMark x after marks rest)
mark_same x later after h marks rest = (
  (λ m. (
    m.0,
    m.1,
    (λ u es t. false_unless (uses_first x es) (λ z. m.2 u (h.from x es t z))),
    (λ k. m.3 (λ l. let a = h.to x l in not_both_ways (uses_first x a.0) a.2 (k a.0 a.1))),
  )),
  (λ m. (
    m.0,
    m.1,
    (λ u l. let a = h.to x l in not_both_ways (uses_first x a.0) a.2 (m.2 u a.0 a.1)),
    (λ k. m.3 (λ es t. false_unless (uses_first x es) (λ z. k (h.from x es t z)))),
  )),
)

mutual
  expr_same : (e : Expr ℕ) (later : ℕ → Type 0) (after : Path → Type 0) → Agrees later after → (marks rest : List Bool) → Same (ExprMarks e later marks rest) (ExprLast e after marks rest)
  expr_same (NullExpr at) later after h marks rest = same_self (marks ≡ rest)
  expr_same (BoolExpr at truth) later after h marks rest = same_self (marks ≡ rest)
  expr_same (IntExpr at number) later after h marks rest = same_self (marks ≡ rest)
  expr_same (VarExpr at x) later after h marks rest = mark_same x later after h marks rest
  expr_same (CallExpr at routine args) later after h marks rest = exprs_same args later after h marks rest
  expr_same (NegExpr at a) later after h marks rest = expr_same a later after h marks rest
  expr_same (NotExpr at a) later after h marks rest = expr_same a later after h marks rest
  expr_same (LenExpr at a) later after h marks rest = expr_same a later after h marks rest
  expr_same (BinaryExpr at o a b) later after h marks rest =
      let l = then_later (occurs b) later in let p = Then (Right o (Through b)) after in
      same_mid (λ m. ExprMarks a l marks m) (λ m. ExprLast a p marks m) (λ m. ExprMarks b later m rest) (λ m. ExprLast b after m rest)
      (λ m. expr_same a l p (agrees_then (occurs b) (Right o (Through b)) (reads_right o (occurs b) (Through b) (expr_reads b)) later after h) marks m) (λ m. expr_same b later after h m rest)
  expr_same (IsExpr at a ty) later after h marks rest = expr_same a later after h marks rest
  expr_same (IndexExpr at a b) later after h marks rest =
      let l = then_later (occurs b) later in let p = Then (Through b) after in
      same_mid (λ m. ExprMarks a l marks m) (λ m. ExprLast a p marks m) (λ m. ExprMarks b later m rest) (λ m. ExprLast b after m rest)
      (λ m. expr_same a l p (agrees_then (occurs b) (Through b) (expr_reads b) later after h) marks m) (λ m. expr_same b later after h m rest)
  expr_same (FieldExpr at a name) later after h marks rest = expr_same a later after h marks rest
  expr_same (ListExpr at items) later after h marks rest = exprs_same items later after h marks rest
  expr_same (RepeatExpr at a b) later after h marks rest =
      let l = then_later (occurs b) later in let p = Then (Through b) after in
      same_mid (λ m. ExprMarks a l marks m) (λ m. ExprLast a p marks m) (λ m. ExprMarks b later m rest) (λ m. ExprLast b after m rest)
      (λ m. expr_same a l p (agrees_then (occurs b) (Through b) (expr_reads b) later after h) marks m) (λ m. expr_same b later after h m rest)
  expr_same (RecordExpr at fs) later after h marks rest = fields_same fs later after h marks rest
  expr_same (QuantExpr at all x a b body) later after h marks rest =
      let l = turn_later x body later in let p = Turned x body after in let k = agrees_turned x body later after h in
      same_two (λ m. ExprMarks a (then_later (occurs b) l) marks m) (λ m. ExprLast a (Then (Through b) p) marks m) (λ m n. ExprMarks b l m n) (λ m n. ExprLast b p m n) (λ n. ExprMarks body l n rest) (λ n. ExprLast body p n rest)
      (λ m. expr_same a (then_later (occurs b) l) (Then (Through b) p) (agrees_then (occurs b) (Through b) (expr_reads b) l p k) marks m) (λ m n. expr_same b l p k m n) (λ n. expr_same body l p k n rest)

  exprs_same : (es : Exprs ℕ) (later : ℕ → Type 0) (after : Path → Type 0) → Agrees later after → (marks rest : List Bool) → Same (ExprsMarks es later marks rest) (ExprsLast es after marks rest)
  exprs_same NoExprs later after h marks rest = same_self (marks ≡ rest)
  exprs_same (MoreExprs e es) later after h marks rest =
      let l = then_later (any_occurs es) later in let p = Then (ThroughAll es) after in
      same_mid (λ m. ExprMarks e l marks m) (λ m. ExprLast e p marks m) (λ m. ExprsMarks es later m rest) (λ m. ExprsLast es after m rest)
      (λ m. expr_same e l p (agrees_then (any_occurs es) (ThroughAll es) (exprs_reads es) later after h) marks m) (λ m. exprs_same es later after h m rest)

  fields_same : (fs : Fields ℕ) (later : ℕ → Type 0) (after : Path → Type 0) → Agrees later after → (marks rest : List Bool) → Same (FieldsMarks fs later marks rest) (FieldsLast fs after marks rest)
  fields_same NoFields later after h marks rest = same_self (marks ≡ rest)
  fields_same (MoreFields name e fs) later after h marks rest =
      let l = then_later (any_field_occurs fs) later in let p = Then (ThroughFields fs) after in
      same_mid (λ m. ExprMarks e l marks m) (λ m. ExprLast e p marks m) (λ m. FieldsMarks fs later m rest) (λ m. FieldsLast fs after m rest)
      (λ m. expr_same e l p (agrees_then (any_field_occurs fs) (ThroughFields fs) (fields_reads fs) later after h) marks m) (λ m. fields_same fs later after h m rest)

step_same : (step : Step ℕ) (later : ℕ → Type 0) (after : Path → Type 0) → Agrees later after → (marks rest : List Bool) → Same (StepMarks step later marks rest) (StepLast step after marks rest)
step_same (IndexStep at e) later after h marks rest = expr_same e later after h marks rest
step_same (FieldStep at name) later after h marks rest = same_self (marks ≡ rest)

steps_same : (steps : List (Step ℕ)) (later : ℕ → Type 0) (after : Path → Type 0) → Agrees later after → (marks rest : List Bool) → Same (StepsMarks steps later marks rest) (StepsLast steps after marks rest)
steps_same [] later after h marks rest = same_self (marks ≡ rest)
steps_same (step ∷ steps) later after h marks rest =
    let l = then_later (any_step_occurs steps) later in let p = Then (ThroughSteps steps) after in
    same_mid (λ m. StepMarks step l marks m) (λ m. StepLast step p marks m) (λ m. StepsMarks steps later m rest) (λ m. StepsLast steps after m rest)
    (λ m. step_same step l p (agrees_then (any_step_occurs steps) (ThroughSteps steps) (steps_reads steps) later after h) marks m) (λ m. steps_same steps later after h m rest)

declare_same : (x : ℕ) (value : Option (Expr ℕ)) (later : ℕ → Type 0) (after : Path → Type 0) → Agrees later after → (marks rest : List Bool) → Same (DeclareMarks x value later marks rest) (DeclareLast x value after marks rest)
declare_same x None later after h marks rest = same_self (marks ≡ rest)
declare_same x (Some e) later after h marks rest = expr_same e (assigned_later x later) (Assigned x after) (agrees_assigned x later after h) marks rest

assign_same : (x : ℕ) (path : List (Step ℕ)) (e : Expr ℕ) (later : ℕ → Type 0) (after : Path → Type 0) → Agrees later after → (marks rest : List Bool) → Same (AssignMarks x path e later marks rest) (AssignLast x path e after marks rest)
assign_same x [] e later after h marks rest = expr_same e (assigned_later x later) (Assigned x after) (agrees_assigned x later after h) marks rest
assign_same x (step ∷ steps) e later after h marks rest =
    let l = updated_later x later in let p = Updated x after in let k = agrees_updated x later after h in
    same_mid (λ m. StepsMarks (step ∷ steps) (then_later (occurs e) l) marks m) (λ m. StepsLast (step ∷ steps) (Then (Through e) p) marks m) (λ m. ExprMarks e l m rest) (λ m. ExprLast e p m rest)
    (λ m. steps_same (step ∷ steps) (then_later (occurs e) l) (Then (Through e) p) (agrees_then (occurs e) (Through e) (expr_reads e) l p k) marks m) (λ m. expr_same e l p k m rest)

return_same : (value : Option (Expr ℕ)) (marks rest : List Bool) → Same (ReturnMarks value marks rest) (ReturnLast value marks rest)
return_same None marks rest = same_self (marks ≡ rest)
return_same (Some e) marks rest = expr_same e nothing_later Ended agrees_ended marks rest

mutual
  stmt_same : (st : Stmt ℕ) (later exit again : ℕ → Type 0) (after out more : Path → Type 0) → Agrees later after → Agrees exit out → Agrees again more → (marks rest : List Bool) → Same (StmtMarks st later exit again marks rest) (StmtLast st after out more marks rest)
  stmt_same (DeclareStmt at ty x value) later exit again after out more h k n marks rest = declare_same x value later after h marks rest
  stmt_same (AssignStmt at x path e) later exit again after out more h k n marks rest = assign_same x path e later after h marks rest
  stmt_same (CallStmt at routine args) later exit again after out more h k n marks rest = exprs_same args later after h marks rest
  stmt_same (ReturnStmt at value) later exit again after out more h k n marks rest = return_same value marks rest
  stmt_same (AssertStmt at e) later exit again after out more h k n marks rest = ((λ z. z), (λ z. z))
  stmt_same (BreakStmt at) later exit again after out more h k n marks rest = same_self (marks ≡ rest)
  stmt_same (ContinueStmt at) later exit again after out more h k n marks rest = same_self (marks ≡ rest)
  stmt_same (SkipStmt at) later exit again after out more h k n marks rest = same_self (marks ≡ rest)
  stmt_same (FailStmt at) later exit again after out more h k n marks rest = same_self (marks ≡ rest)
  stmt_same (IfStmt at e first second) later exit again after out more h k n marks rest =
      let l = if_later first second later exit again in let p = Forked first second after out more in
      same_two (λ m. ExprMarks e l marks m) (λ m. ExprLast e p marks m) (λ m j. StmtsMarks first later exit again m j) (λ m j. StmtsLast first after out more m j) (λ j. StmtsMarks second later exit again j rest) (λ j. StmtsLast second after out more j rest)
      (λ m. expr_same e l p (agrees_forked first second later exit again after out more h k n) marks m)
      (λ m j. stmts_same first later exit again after out more h k n m j) (λ j. stmts_same second later exit again after out more h k n j rest)
  stmt_same (WhileStmt at e invariants body) later exit again after out more h k n marks rest =
      let l = head_later e body later in let p = Head e body after in let g = agrees_head e body later after h in
      same_mid (λ m. ExprMarks e (test_later e body later) marks (clauses_unused invariants m)) (λ m. ExprLast e (Tested e body after) marks (clauses_unused invariants m)) (λ m. StmtsMarks body l later l m rest) (λ m. StmtsLast body p after p m rest)
      (λ m. expr_same e (test_later e body later) (Tested e body after) (agrees_tested e body later after h) marks (clauses_unused invariants m)) (λ m. stmts_same body l later l p after p g h g m rest)

  stmts_same : (ss : Stmts ℕ) (later exit again : ℕ → Type 0) (after out more : Path → Type 0) → Agrees later after → Agrees exit out → Agrees again more → (marks rest : List Bool) → Same (StmtsMarks ss later exit again marks rest) (StmtsLast ss after out more marks rest)
  stmts_same NoStmts later exit again after out more h k n marks rest = same_self (marks ≡ rest)
  stmts_same (MoreStmts st others) later exit again after out more h k n marks rest =
      let l = λ (x : ℕ). AreLive others x (later x) (exit x) (again x) in let p = Onward (ThroughStmts others) after out more in
      same_mid (λ m. StmtMarks st l exit again marks m) (λ m. StmtLast st p out more marks m) (λ m. StmtsMarks others later exit again m rest) (λ m. StmtsLast others after out more m rest)
      (λ m. stmt_same st l exit again p out more (agrees_block others later exit again after out more h k n) k n marks m) (λ m. stmts_same others later exit again after out more h k n m rest)

decl_same : (d : Decl ℕ) (marks rest : List Bool) → Same (DeclMarks d marks rest) (DeclLast d marks rest)
decl_same (AliasDecl a) marks rest = exprs_same (tree.exprs_of a.clauses) nothing_later Ended agrees_ended marks rest
decl_same (RoutineDecl r) marks rest =
    same_mid (λ m. marks ≡ clauses_unused r.preconditions (clauses_unused r.postconditions m)) (λ m. marks ≡ clauses_unused r.preconditions (clauses_unused r.postconditions m))
    (λ m. StmtsMarks r.body nothing_later nothing_later nothing_later m rest) (λ m. StmtsLast r.body Ended Ended Ended m rest)
    (λ m. same_self (marks ≡ clauses_unused r.preconditions (clauses_unused r.postconditions m)))
    (λ m. stmts_same r.body nothing_later nothing_later nothing_later Ended Ended Ended agrees_ended agrees_ended agrees_ended m rest)

decls_same : (core : Core ℕ) (marks rest : List Bool) → Same (DeclsMarks core marks rest) (DeclsLast core marks rest)
decls_same [] marks rest = same_self (marks ≡ rest)
decls_same (d ∷ ds) marks rest =
    same_mid (λ m. DeclMarks d marks m) (λ m. DeclLast d marks m) (λ m. DeclsMarks ds m rest) (λ m. DeclsLast ds m rest) (λ m. decl_same d marks m) (λ m. decls_same ds m rest)

pub on_paths : (core : Core ℕ) (marks : List Bool) → AreLast core marks → AreLastOnPaths core marks
on_paths core marks p = (decls_same core marks []).0 p

pub of_paths : (core : Core ℕ) (marks : List Bool) → AreLastOnPaths core marks → AreLast core marks
of_paths core marks p = (decls_same core marks []).1 p
