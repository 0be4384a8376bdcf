-- The least place of a use in a statement is exact.
use Rattle.std.proofs.Common.{◌≡◌, ◌⊎◌, inl, inr, ℕ, Bool, true, false, List, [], ◌∷◌, ◌++◌, Option, Some, None, refl}
use Rattle.wy_core.specs.CoreTree.{Expr, Step, Stmt, DeclareStmt, AssignStmt, CallStmt, ReturnStmt, AssertStmt, BreakStmt, ContinueStmt, SkipStmt, FailStmt, IfStmt, WhileStmt, Stmts, NoStmts, MoreStmts}
use Rattle.wy_assign.specs.Paths.{Event, Uses, Sets, Unsets, End, Falls, Breaks, Continues, Leaves, Through, Course, Nothing, One, Then, ExprPath, ExprsPath, ClausesPath, OptionPath, StepsPath, Ending, Before, Either, Loop, AssignPath, DeclarePath, StmtPath, StmtsPath}
use Rattle.wy_assign.specs.Assigned.{UsesUnset, SomeUse}
use Rattle.wy_assign.specs.Marks.{Marks, has}
use Rattle.wy_assign.specs.Flows.{from_here, alone, otherwise, head, flow, flow_all}
use Rattle.wy_assign.specs.Faults.{noted_where, expr_faults, exprs_faults, clauses_faults, option_faults, steps_faults, path_faults, faults, faults_all}
use Rattle.wy_assign.specs.declared.flow.Flow.{Flow}
use Rattle.wy_assign.proofs.CalmLemmas.{Calm, calm_one, calm_then, calm_expr, calm_exprs, calm_clauses, calm_option, calm_steps, calm_nothing}
use Rattle.wy_assign.proofs.MarkLemmas.{Sane}
use Rattle.wy_assign.proofs.FlowLemmas.{Tells, Sound, sound_from, sound_alone}
use Rattle.wy_assign.proofs.TellsLemmas.{tells, tells_all, sound_flow, sound_all}
use Rattle.wy_assign.proofs.LoopLemmas.{sane_head}
use Rattle.wy_assign.proofs.LeastLemmas.{Least, least_same, least_two, least_one, least_none}
use Rattle.wy_assign.proofs.UseLemmas.{no_use, least_then, fault_expr, fault_exprs, fault_clauses, fault_option, fault_steps, fault_use}
use Rattle.wy_assign.proofs.BadLemmas.{Bad, HasPath, ending_to, ending_of, value_to, value_of, unset_of, before_of, before_to, either_of, either_to, in_order_path, in_order_to, in_order_of, loop_of, loop_to}

declare_path : (x : ℕ) (value : Option (Expr ℕ)) → HasPath (Ending Falls (DeclarePath x value))
declare_path x None = (Unsets x ∷ [], Falls, (refl, refl))
declare_path x (Some e) = let a = calm_expr e in (a.some ++ Sets x ∷ [], Falls, (refl, (a.some, Sets x ∷ [], refl, a.is_some, refl)))

calm_update : (at x : ℕ) (ss : List (Step ℕ)) (e : Expr ℕ) → Calm (Then (One (Uses at x)) (Then (StepsPath ss) (ExprPath e)))
calm_update at x ss e = calm_then (One (Uses at x)) (Then (StepsPath ss) (ExprPath e)) (calm_one at x) (calm_then (StepsPath ss) (ExprPath e) (calm_steps ss) (calm_expr e))

calm_path : (E : End) (A : Through) → Calm A → HasPath (Ending E A)
calm_path E A a = (a.some, E, (refl, a.is_some))

assign_path : (at x : ℕ) (path : List (Step ℕ)) (e : Expr ℕ) → HasPath (Ending Falls (AssignPath at x path e))
assign_path at x [] e = let a = calm_expr e in (a.some ++ Sets x ∷ [], Falls, (refl, (a.some, Sets x ∷ [], refl, a.is_some, refl)))
assign_path at x (step ∷ steps) e = calm_path Falls (AssignPath at x (step ∷ steps) e) (calm_update at x (step ∷ steps) e)

mutual
  some_path : (st : Stmt ℕ) → HasPath (StmtPath st)
  some_path (DeclareStmt at ty x value) = declare_path x value
  some_path (AssignStmt at x path e) = assign_path at x path e
  some_path (CallStmt at routine args) = calm_path Falls (ExprsPath args) (calm_exprs args)
  some_path (ReturnStmt at value) = calm_path Leaves (OptionPath value) (calm_option value)
  some_path (AssertStmt at e) = calm_path Falls (ExprPath e) (calm_expr e)
  some_path (BreakStmt at) = calm_path Breaks Nothing calm_nothing
  some_path (ContinueStmt at) = calm_path Continues Nothing calm_nothing
  some_path (SkipStmt at) = calm_path Falls Nothing calm_nothing
  some_path (FailStmt at) = calm_path Leaves Nothing calm_nothing
  some_path (IfStmt at e first second) = let a = calm_expr e in let w = some_paths first in (a.some ++ w.0, w.1, (a.some, w.0, refl, a.is_some, inl w.2))
  some_path (WhileStmt at e invariants body) = let a = calm_then (ClausesPath invariants) (ExprPath e) (calm_clauses invariants) (calm_expr e) in (a.some, Falls, (0, (refl, a.is_some)))

  pub some_paths : (ss : Stmts ℕ) → HasPath (StmtsPath ss)
  some_paths NoStmts = calm_path Falls Nothing calm_nothing
  some_paths (MoreStmts st rest) = in_order_path (StmtPath st) (StmtsPath rest) (some_path st) (some_paths rest)

least_ending : (P : ℕ → Type 0) (E : End) (A : Through) (s : Marks) (o : Option ℕ) → Calm A → Sane s → Least (λ k. P k ⊎ SomeUse A (has s) k) o → Least (λ k. P k ⊎ Bad (Ending E A) s k) o
least_ending P E A s o a sane l = least_one P (λ k. SomeUse A (has s) k) (λ k. Bad (Ending E A) s k) o (λ k. ending_to E A s k a sane) (λ k. ending_of E A s k) l

least_value : (P : ℕ → Type 0) (x : ℕ) (A : Through) (s : Marks) (o : Option ℕ) → Calm A → Sane s → Least (λ k. P k ⊎ SomeUse A (has s) k) o → Least (λ k. P k ⊎ Bad (Ending Falls (Then A (One (Sets x)))) s k) o
least_value P x A s o a sane l = least_one P (λ k. SomeUse A (has s) k) (λ k. Bad (Ending Falls (Then A (One (Sets x)))) s k) o (λ k. value_to x A s k a sane) (λ k. value_of x A s k) l

least_idle : (P : ℕ → Type 0) (E : End) (s : Marks) (o : Option ℕ) → Least P o → Least (λ k. P k ⊎ Bad (Ending E Nothing) s k) o
least_idle P E s o l = least_none P (λ k. Bad (Ending E Nothing) s k) o (λ k b. no_use (has s) k (ending_of E Nothing s k b)) l

fault_declare : (x : ℕ) (value : Option (Expr ℕ)) (s : Marks) (P : ℕ → Type 0) (o : Option ℕ) → Sane s → Least P o → Least (λ k. P k ⊎ Bad (Ending Falls (DeclarePath x value)) s k) (option_faults s value o)
fault_declare x None s P o sane l = least_none P (λ k. Bad (Ending Falls (One (Unsets x))) s k) o (λ k. unset_of x s k) l
fault_declare x (Some e) s P o sane l = least_value P x (ExprPath e) s (expr_faults s [] e o) (calm_expr e) sane (fault_expr e s [] P o l)

fault_assign : (at x : ℕ) (path : List (Step ℕ)) (e : Expr ℕ) (s : Marks) (P : ℕ → Type 0) (o : Option ℕ) → Sane s → Least P o
    → Least (λ k. P k ⊎ Bad (Ending Falls (AssignPath at x path e)) s k) (expr_faults s [] e (path_faults s at x path o))
fault_assign at x [] e s P o sane l = least_value P x (ExprPath e) s (expr_faults s [] e o) (calm_expr e) sane (fault_expr e s [] P o l)
fault_assign at x (step ∷ steps) e s P o sane l =
    let o1 = noted_where (has s x) o at in let o2 = steps_faults s (step ∷ steps) o1 in let o3 = expr_faults s [] e o2 in
    let PU : ℕ → Type 0 = λ k. P k ⊎ SomeUse (One (Uses at x)) (has s) k in
    let S = StepsPath (step ∷ steps) in let V = ExprPath e in
    least_ending P Falls (Then (One (Uses at x)) (Then S V)) s o3 (calm_update at x (step ∷ steps) e) sane
    (least_then P (One (Uses at x)) (Then S V) (has s) o3 (calm_one at x) (calm_then S V (calm_steps (step ∷ steps)) (calm_expr e))
    (least_then PU S V (has s) o3 (calm_steps (step ∷ steps)) (calm_expr e)
    (fault_expr e s [] (λ k. PU k ⊎ SomeUse S (has s) k) o2 (fault_steps (step ∷ steps) s PU o1 (fault_use at x s P o l)))))

-- an `if`: its test, and either block
least_if : (P : ℕ → Type 0) (A : Through) (C D : Course) (s : Marks) (o : Option ℕ) → Calm A → Sane s → HasPath C
    → Least (λ k. ((P k ⊎ SomeUse A (has s) k) ⊎ Bad C s k) ⊎ Bad D s k) o → Least (λ k. P k ⊎ Bad (Before A (Either C D)) s k) o
least_if P A C D s o a sane way l =
    least_two P (λ k. SomeUse A (has s) k) (λ k. Bad (Either C D) s k) (λ k. Bad (Before A (Either C D)) s k) o
    (λ k. before_to A (Either C D) s k a sane (way.0, way.1, inl way.2)) (λ k. before_of A (Either C D) s k a)
    (least_two (λ k. P k ⊎ SomeUse A (has s) k) (λ k. Bad C s k) (λ k. Bad D s k) (λ k. Bad (Either C D) s k) o
    (λ k. either_to C D s k) (λ k. either_of C D s k) l)

mutual
  pub fault_stmt : (st : Stmt ℕ) (f : Flow) (P : ℕ → Type 0) (o : Option ℕ) → Sound f → Least P o → Least (λ k. P k ⊎ Bad (StmtPath st) f.here k) (faults st f o)
  fault_stmt (DeclareStmt at ty x value) f P o s l = fault_declare x value f.here P o s.here l
  fault_stmt (AssignStmt at x path e) f P o s l = fault_assign at x path e f.here P o s.here l
  fault_stmt (CallStmt at routine args) f P o s l = least_ending P Falls (ExprsPath args) f.here (exprs_faults f.here [] args o) (calm_exprs args) s.here (fault_exprs args f.here [] P o l)
  fault_stmt (ReturnStmt at value) f P o s l = least_ending P Leaves (OptionPath value) f.here (option_faults f.here value o) (calm_option value) s.here (fault_option value f.here P o l)
  fault_stmt (AssertStmt at e) f P o s l = least_ending P Falls (ExprPath e) f.here (expr_faults f.here [] e o) (calm_expr e) s.here (fault_expr e f.here [] P o l)
  fault_stmt (BreakStmt at) f P o s l = least_idle P Breaks f.here o l
  fault_stmt (ContinueStmt at) f P o s l = least_idle P Continues f.here o l
  fault_stmt (SkipStmt at) f P o s l = least_idle P Falls f.here o l
  fault_stmt (FailStmt at) f P o s l = least_idle P Leaves f.here o l
  fault_stmt (IfStmt at e first second) f P o s l =
      let g = flow_all first f in
      let sg = sound_all first f s in
      let so : Sound (otherwise f.here g) = record { here = s.here; breaks = sg.breaks; continues = sg.continues } in
      let o1 = expr_faults f.here [] e o in
      let o2 = faults_all first f o1 in
      let PE : ℕ → Type 0 = λ k. P k ⊎ SomeUse (ExprPath e) (has f.here) k in
      least_if P (ExprPath e) (StmtsPath first) (StmtsPath second) f.here (faults_all second (otherwise f.here g) o2) (calm_expr e) s.here (some_paths first)
      (fault_all second (otherwise f.here g) (λ k. PE k ⊎ Bad (StmtsPath first) f.here k) o2 so (fault_all first f PE o1 s (fault_expr e f.here [] P o l)))
  fault_stmt (WhileStmt at e invariants body) f P o s l =
      let turn = flow_all body alone in
      let st = sound_all body alone sound_alone in
      let h = head f.here turn in
      let sh = sane_head f.here turn s.here st in
      let I = ClausesPath invariants in let H = Then I (ExprPath e) in
      let ci = calm_clauses invariants in let ch = calm_then I (ExprPath e) ci (calm_expr e) in
      let o1 = clauses_faults h invariants o in
      let o2 = expr_faults h [] e o1 in
      let o3 = faults_all body (from_here h) o2 in
      least_two P (λ k. SomeUse H (has h) k) (λ k. Bad (StmtsPath body) h k) (λ k. Bad (Loop H (StmtsPath body)) f.here k) o3
      (λ k. loop_to H (StmtsPath body) f.here turn k ch s.here st (tells_all body alone sound_alone))
      (λ k. loop_of H (StmtsPath body) f.here turn k ch s.here st (tells_all body alone sound_alone))
      (fault_all body (from_here h) (λ k. P k ⊎ SomeUse H (has h) k) o2 (sound_from h sh)
      (least_then P I (ExprPath e) (has h) o2 ci (calm_expr e) (fault_expr e h [] (λ k. P k ⊎ SomeUse I (has h) k) o1 (fault_clauses invariants h P o l))))

  pub fault_all : (ss : Stmts ℕ) (f : Flow) (P : ℕ → Type 0) (o : Option ℕ) → Sound f → Least P o → Least (λ k. P k ⊎ Bad (StmtsPath ss) f.here k) (faults_all ss f o)
  fault_all NoStmts f P o s l = least_idle P Falls f.here o l
  fault_all (MoreStmts st rest) f P o s l =
      let g = flow st f in
      let o1 = faults st f o in
      least_two P (λ k. Bad (StmtPath st) f.here k) (λ k. Bad (StmtsPath rest) g.here k) (λ k. Bad (StmtsPath (MoreStmts st rest)) f.here k) (faults_all rest g o1)
      (λ k. in_order_to (StmtPath st) (StmtsPath rest) f g k (tells st f s) (some_paths rest))
      (λ k. in_order_of (StmtPath st) (StmtsPath rest) f g k (tells st f s))
      (fault_all rest g (λ k. P k ⊎ Bad (StmtPath st) f.here k) o1 (sound_flow st f s) (fault_stmt st f P o s l))
