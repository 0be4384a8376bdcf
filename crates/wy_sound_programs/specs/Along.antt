-- What a formed and assigned body gives of each expression, along the points of the walk through its conditions.
use Rattle.std.specs.Prelude.{◌≡◌, ℕ, ◌+◌, Bool, true, false, List, [], ◌∷◌, Option, Some, None}
use Rattle.wy_core.specs.CoreTree.{Expr, Step, IndexStep, FieldStep, Stmt, DeclareStmt, AssignStmt, CallStmt, ReturnStmt, AssertStmt, BreakStmt, ContinueStmt, SkipStmt, FailStmt, IfStmt, WhileStmt, Stmts, NoStmts, MoreStmts}
use Rattle.wy_term.specs.declared.cond.CondKind.TheVariants as kind
use Rattle.wy_vc_spec.specs.Sizes.{exprs_in, exprs_in_list, exprs_in_stmt, exprs_in_block}
use Rattle.wy_vc_spec.specs.Numbered.{Node, numbered, numbered_list, numbered_stmt, numbered_block}
use Rattle.wy_vc_spec.specs.Clauses.{owe_clauses}
use Rattle.wy_vc_spec.specs.Spots.{Spot, is_set, with_hyps}
use Rattle.wy_vc_spec.specs.Statements.{Body, words, expr, renew, walk_clauses, where_true, where_false, exec, exec_all}
use Rattle.wy_sound_statements.specs.wy_sound_kinds.Ready.{Rules, count_of, Ready, AllReady}
use Rattle.wy_sound_statements.specs.wy_sound_kinds.fits.Fit.{ClausesReady}

-- what may be called with so many arguments: in expressions, and by statements; and how many variables there are
pub record Allowed : Type 0 where
  pub rules : Rules
  pub statements : ℕ → ℕ → Bool
  pub many : ℕ

-- the rules of the calls that statements make
abbrev pub in_statements : Allowed → Rules
in_statements a = record { tested = a.rules.tested; called = a.statements }

-- an expression of code, where these variables are marked
abbrev pub CodeReady : Allowed → Spot → Expr ℕ → Type 0
CodeReady a p e = Ready a.rules false a.many (is_set p.set) e

-- what follows is so at the point, where there is one
abbrev pub WhereGoes : (Spot → Type 0) → Option Spot → Type 0
WhereGoes Next None = Unit {0}
WhereGoes Next (Some q) = Next q

-- the indices of a path
abbrev pub PathReady : Allowed → Spot → List (Step ℕ) → Type 0
PathReady a p [] = Unit {0}
PathReady a p (IndexStep at e ∷ steps) = CodeReady a p e × PathReady a p steps
PathReady a p (FieldStep at name ∷ steps) = PathReady a p steps

abbrev mutual
  -- a statement, the first of whose expressions has this number, in a loop with these invariants, at the point, where so many names were made
  pub ReadyAlong : Allowed → Body Node → List (Expr Node) → Stmt ℕ → ℕ → Spot → ℕ → Type 0
  ReadyAlong a b around (DeclareStmt at t x None) k p m = Unit {0}
  ReadyAlong a b around (DeclareStmt at t x (Some e)) k p m = CodeReady a p e
  ReadyAlong a b around (AssignStmt at x [] e) k p m = CodeReady a p e
  ReadyAlong a b around (AssignStmt at x (step ∷ steps) e) k p m = (is_set p.set x ≡ true) × PathReady a p (step ∷ steps) × CodeReady a p e
  ReadyAlong a b around (CallStmt at f es) k p m = AllReady a.rules false a.many (is_set p.set) es × (a.statements f (count_of es) ≡ true)
  ReadyAlong a b around (ReturnStmt at None) k p m = Unit {0}
  ReadyAlong a b around (ReturnStmt at (Some e)) k p m = CodeReady a p e
  ReadyAlong a b around (AssertStmt at e) k p m = Ready a.rules true a.many (is_set p.set) e
  ReadyAlong a b around (BreakStmt at) k p m = Unit {0}
  ReadyAlong a b around (ContinueStmt at) k p m = Unit {0}
  ReadyAlong a b around (SkipStmt at) k p m = Unit {0}
  ReadyAlong a b around (FailStmt at) k p m = Unit {0}
  ReadyAlong a b around (IfStmt at e first second) k p m =
      let v = expr b (numbered e k) p.vars p.hyps m in
      let one = exec_all b around (numbered_block first (k + exprs_in e)) (where_true v p) v.count in
      CodeReady a p e
      × AllReadyAlong a b around first (k + exprs_in e) (where_true v p) v.count
      × AllReadyAlong a b around second (k + exprs_in e + exprs_in_block first) (where_false v p) one.count
  ReadyAlong a b around (WhileStmt at e invariants body) k p m =
      let clauses = numbered_list invariants (k + exprs_in e) in
      let inner = numbered_block body (k + exprs_in e + exprs_in_list invariants) in
      let entry = owe_clauses b.program.setting kind.Entry at (words b) clauses p.vars p.hyps m in
      let head = renew b inner (with_hyps entry.hyps p) entry.count in
      let inside = walk_clauses b.program (words b) clauses head.spot.vars head.spot.hyps head.count in
      let v = expr b (numbered e k) head.spot.vars inside.hyps inside.count in
      ClausesReady a.rules a.many (is_set p.set) invariants
      × CodeReady a p e
      × AllReadyAlong a b clauses body (k + exprs_in e + exprs_in_list invariants) (where_true v head.spot) v.count

  pub AllReadyAlong : Allowed → Body Node → List (Expr Node) → Stmts ℕ → ℕ → Spot → ℕ → Type 0
  AllReadyAlong a b around NoStmts k p m = Unit {0}
  AllReadyAlong a b around (MoreStmts first rest) k p m =
      let one = exec b around (numbered_stmt first k) p m in
      ReadyAlong a b around first k p m × WhereGoes (λ q. AllReadyAlong a b around rest (k + exprs_in_stmt first) q one.count) one.ends
