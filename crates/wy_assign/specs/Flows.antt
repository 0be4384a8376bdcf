-- What may have no value behind a statement, by one walk in which a loop's body is first gone through alone.
use Rattle.std.specs.Prelude.{ℕ, Bool, true, false, ◌||◌, cond, List, [], ◌∷◌, Option, Some, None}
use Rattle.wy_core.specs.CoreTree.{Expr, Step, Stmt, DeclareStmt, AssignStmt, CallStmt, ReturnStmt, AssertStmt, BreakStmt, ContinueStmt, SkipStmt, FailStmt, IfStmt, WhileStmt, Stmts, NoStmts, MoreStmts}
use Rattle.wy_assign.specs.Marks.{Marks, nowhere, all_set, assigned, declared, joined}
use Rattle.wy_assign.specs.declared.flow.Flow.{Flow}

-- from here on, with no `break` and no `continue` so far
abbrev pub from_here : Marks → Flow
from_here s = record { here = s; breaks = nowhere; continues = nowhere }

-- a turn of a loop by itself: what the variables are before it is no part of what it says
abbrev pub alone : Flow
alone = from_here all_set

abbrev pub declared_here : ℕ → Option (Expr ℕ) → Flow → Flow
declared_here x None f = record f { here = declared f.here x }
declared_here x (Some e) f = record f { here = assigned f.here x }

abbrev pub assigned_here : ℕ → List (Step ℕ) → Flow → Flow
assigned_here x [] f = record f { here = assigned f.here x }
assigned_here x (step ∷ steps) f = f

-- no path goes on
abbrev pub left : Flow → Flow
left f = record f { here = nowhere }

abbrev pub broken : Flow → Flow
broken f = record { here = nowhere; breaks = joined f.breaks f.here; continues = f.continues }

abbrev pub continued : Flow → Flow
continued f = record { here = nowhere; breaks = f.breaks; continues = joined f.continues f.here }

-- the second block of an `if`, behind what the first left by `break` and `continue`
abbrev pub otherwise : Marks → Flow → Flow
otherwise s first = record first { here = s }

-- behind both blocks
abbrev pub rejoined : Marks → Flow → Flow
rejoined s second = record second { here = joined s second.here }

-- the head of a loop, before the first turn and behind each, where `turn` is what a turn by itself leaves
abbrev pub head : Marks → Flow → Marks
head s turn = cond s.reached (joined (joined s turn.here) turn.continues) s

-- behind a loop whose head has these marks
abbrev pub exit : Marks → Marks → Marks
exit s breaks = cond s.reached (joined s breaks) s

abbrev pub looped : Flow → Flow → Flow
looped f turn = record f { here = exit (head f.here turn) turn.breaks }

abbrev mutual
  pub flow : Stmt ℕ → Flow → Flow
  flow (DeclareStmt at ty x value) f = declared_here x value f
  flow (AssignStmt at x path e) f = assigned_here x path f
  flow (CallStmt at routine args) f = f
  flow (ReturnStmt at value) f = left f
  flow (AssertStmt at e) f = f
  flow (BreakStmt at) f = broken f
  flow (ContinueStmt at) f = continued f
  flow (SkipStmt at) f = f
  flow (FailStmt at) f = left f
  flow (IfStmt at e first second) f = rejoined (flow_all first f).here (flow_all second (otherwise f.here (flow_all first f)))
  flow (WhileStmt at e invariants body) f = looped f (flow_all body alone)

  pub flow_all : Stmts ℕ → Flow → Flow
  flow_all NoStmts f = f
  flow_all (MoreStmts st rest) f = flow_all rest (flow st f)

-- a path gets past the statements that made this
abbrev pub is_open : Flow → Bool
is_open f = f.here.reached || (f.breaks.reached || f.continues.reached)
