-- The flow of each statement and block says exactly what its paths leave.
use Rattle.std.proofs.Common.{◌≡◌, ℕ, List, [], ◌∷◌, Option, Some, None, refl}
use Rattle.wy_core.specs.CoreTree.{Expr, Step, Stmt, DeclareStmt, AssignStmt, CallStmt, ReturnStmt, AssertStmt, BreakStmt, ContinueStmt, SkipStmt, FailStmt, IfStmt, WhileStmt, Stmts, NoStmts, MoreStmts}
use Rattle.wy_assign.specs.Paths.{Event, Uses, End, Falls, Course, Nothing, One, Then, ExprPath, ExprsPath, ClausesPath, OptionPath, StepsPath, Ending, Either, Loop, AssignPath, DeclarePath, StmtPath, StmtsPath}
use Rattle.wy_assign.specs.Flows.{alone, declared_here, assigned_here, otherwise, flow, flow_all}
use Rattle.wy_assign.specs.declared.flow.Flow.{Flow}
use Rattle.wy_assign.proofs.CalmLemmas.{Calm, calm_one, calm_then, calm_expr, calm_exprs, calm_clauses, calm_option, calm_steps, calm_nothing}
use Rattle.wy_assign.proofs.FlowLemmas.{Tells, Sound, sound_alone, told_sound, calm_tells, unset_tells, left_tells, broken_tells, continued_tells, before_tells, value_tells, either_tells, in_order_tells}
use Rattle.wy_assign.proofs.LoopLemmas.{loop_tells}

declare_tells : (x : ℕ) (value : Option (Expr ℕ)) (f : Flow) → Sound f → (w : Option ℕ) → Tells w (Ending Falls (DeclarePath x value)) f (declared_here x value f)
declare_tells x None f s w = unset_tells w x f s.here
declare_tells x (Some e) f s w = value_tells w (ExprPath e) x f (calm_expr e) s.here

assign_tells : (at x : ℕ) (path : List (Step ℕ)) (e : Expr ℕ) (f : Flow) → Sound f → (w : Option ℕ) → Tells w (Ending Falls (AssignPath at x path e)) f (assigned_here x path f)
assign_tells at x [] e f s w = value_tells w (ExprPath e) x f (calm_expr e) s.here
assign_tells at x (step ∷ steps) e f s w = calm_tells w (AssignPath at x (step ∷ steps) e) f (calm_update at x (step ∷ steps) e) s.here
  where
    calm_update : (k y : ℕ) (ss : List (Step ℕ)) (v : Expr ℕ) → Calm (Then (One (Uses k y)) (Then (StepsPath ss) (ExprPath v)))
    calm_update k y ss v = calm_then (One (Uses k y)) (Then (StepsPath ss) (ExprPath v)) (calm_one k y) (calm_then (StepsPath ss) (ExprPath v) (calm_steps ss) (calm_expr v))

mutual
  pub tells : (st : Stmt ℕ) (f : Flow) → Sound f → (w : Option ℕ) → Tells w (StmtPath st) f (flow st f)
  tells (DeclareStmt at ty x value) f s w = declare_tells x value f s w
  tells (AssignStmt at x path e) f s w = assign_tells at x path e f s w
  tells (CallStmt at routine args) f s w = calm_tells w (ExprsPath args) f (calm_exprs args) s.here
  tells (ReturnStmt at value) f s w = left_tells w (OptionPath value) f
  tells (AssertStmt at e) f s w = calm_tells w (ExprPath e) f (calm_expr e) s.here
  tells (BreakStmt at) f s w = broken_tells w f s
  tells (ContinueStmt at) f s w = continued_tells w f s
  tells (SkipStmt at) f s w = calm_tells w Nothing f calm_nothing s.here
  tells (FailStmt at) f s w = left_tells w Nothing f
  tells (IfStmt at e first second) f s w =
      let g = flow_all first f in
      let sg = told_sound (StmtsPath first) f g s (tells_all first f s) in
      let so : Sound (otherwise f.here g) = record { here = s.here; breaks = sg.breaks; continues = sg.continues } in
      let h = flow_all second (otherwise f.here g) in
      let sh = told_sound (StmtsPath second) (otherwise f.here g) h so (tells_all second (otherwise f.here g) so) in
      before_tells w (ExprPath e) (Either (StmtsPath first) (StmtsPath second)) f (flow (IfStmt at e first second) f) (calm_expr e)
      (either_tells w (StmtsPath first) (StmtsPath second) f g h sg.here sh.here (tells_all first f s w) (tells_all second (otherwise f.here g) so w))
  tells (WhileStmt at e invariants body) f s w =
      let turn = flow_all body alone in
      let st = told_sound (StmtsPath body) alone turn sound_alone (tells_all body alone sound_alone) in
      loop_tells w (Then (ClausesPath invariants) (ExprPath e)) (StmtsPath body) f turn (calm_then (ClausesPath invariants) (ExprPath e) (calm_clauses invariants) (calm_expr e)) s st
      (tells_all body alone sound_alone w)

  pub tells_all : (ss : Stmts ℕ) (f : Flow) → Sound f → (w : Option ℕ) → Tells w (StmtsPath ss) f (flow_all ss f)
  tells_all NoStmts f s w = calm_tells w Nothing f calm_nothing s.here
  tells_all (MoreStmts st rest) f s w =
      let g = flow st f in
      let sg = told_sound (StmtPath st) f g s (tells st f s) in
      in_order_tells w (StmtPath st) (StmtsPath rest) f g (flow_all rest g) (tells st f s w) (tells st f s None) (tells_all rest g sg w)

-- the flow behind a sound one is sound
pub sound_flow : (st : Stmt ℕ) (f : Flow) → Sound f → Sound (flow st f)
sound_flow st f s = told_sound (StmtPath st) f (flow st f) s (tells st f s)

pub sound_all : (ss : Stmts ℕ) (f : Flow) → Sound f → Sound (flow_all ss f)
sound_all ss f s = told_sound (StmtsPath ss) f (flow_all ss f) s (tells_all ss f s)
