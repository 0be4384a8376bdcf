-- What a statement does.
use Rattle.std.specs.Prelude.{ℕ, zero, suc, List, [], ◌∷◌, Bool, true, Option, Some, None}
use Rattle.wy_term.specs.wy_value.Datum.{Datum}
use Rattle.wy_types.specs.wy_core.Types.{Ty, AnyTy}
use Rattle.wy_types.specs.wy_core.CoreTree as tree
use Rattle.wy_types.specs.wy_core.CoreTree.{Expr, Step, IndexStep, FieldStep, Stmt, DeclareStmt, AssignStmt, CallStmt, ReturnStmt, AssertStmt, BreakStmt, ContinueStmt, SkipStmt, FailStmt, IfStmt, WhileStmt, Stmts, NoStmts, MoreStmts, Param}
use Rattle.wy_term.specs.declared.cond.CondKind.TheVariants as kind
use Rattle.wy_sem.specs.Meter.{Done, Fault, More, Run, ◌>>=◌, spend, check, choose}
use Rattle.wy_sem.specs.Operations.{as_truth, as_fields, needed, indexed, item_at, find, Slot, ItemSlot, FieldSlot, updated}
use Rattle.wy_sem.specs.Expressions.{Store, slot, put, Setting, eval, eval_all, holds_at, clauses}
use Rattle.wy_sem.specs.TypeTests.{Test, set_if}

-- how a statement ends: it went on, left the loop, asked for the loop's next turn (and where), or gave the result
pub data Exit : Type 0 where
  Went : (s : Store) → Exit
  Broke : (s : Store) → Exit
  Continued : (at : ℕ) (s : Store) → Exit
  Gave : (v : Option Datum) → Exit

-- what the statements of one call rest on: the declared types of its variables, what is asked of a value that is given a type, the type and variable of its result, the ensures clauses, and its variables as they were at entry
pub record Frame (N : Type 0) : Type 0 where
  pub types : List Ty
  pub member : Ty → Datum → Test
  pub result : Option tree.Output
  pub postconditions : List (Expr N)
  pub entry : Store

-- the declared type of a variable
abbrev pub type_at : List Ty → ℕ → Ty
type_at [] x = AnyTy
type_at (t ∷ ts) zero = t
type_at (t ∷ ts) (suc x) = type_at ts x

-- the value must be of the type that it is given
abbrev pub given : {X : Type 0} → (Ty → Datum → Test) → ℕ → Ty → Datum → Run X → Run X
given member at t v next m = member t v m >>= (λ b. check b kind.Member at next)

-- the value goes into the variable
abbrev pub stored : {N : Type 0} → Frame N → ℕ → ℕ → Ty → Store → Datum → Run Exit
stored fr at x t s v = given fr.member at t v (Done (Went (put s x (Some v))))

-- the steps of a path into a datum: each index is evaluated and checked before the next
abbrev pub path_of : {N : Type 0} → Setting N → Store → List (Step N) → Datum → Run (List Slot)
path_of w s [] d m = Done [] m
path_of w s (IndexStep at e ∷ steps) d m = eval w true e s m >>= (λ v. indexed at d v (λ ds i k. path_of w s steps (item_at ds i) k >>= (λ slots. Done (ItemSlot i ∷ slots))))
path_of w s (FieldStep at name ∷ steps) d m = as_fields at d (λ fs. needed at (find fs name) (λ part k. path_of w s steps part k >>= (λ slots. Done (FieldSlot name ∷ slots)))) m

abbrev pub assigned : {N : Type 0} → Setting N → Frame N → ℕ → ℕ → List (Step N) → Expr N → Store → Run Exit
assigned w fr at x [] e s = λ m. eval w true e s m >>= stored fr at x (type_at fr.types x) s
assigned w fr at x (step ∷ steps) e s = needed at (slot s x) (λ d m. path_of w s (step ∷ steps) d m >>= (λ slots k. eval w true e s k >>= (λ v. stored fr at x (type_at fr.types x) s (updated d slots v))))

-- the result is given: it must be of its type, and the ensures clauses must hold of it and of the parameters as they were at entry
abbrev pub leave : {N : Type 0} → Setting N → Frame N → ℕ → Option tree.Output → Option Datum → Run Exit
leave w fr at None None = clauses w kind.Ensures at fr.postconditions fr.entry (Done (Gave None))
leave w fr at None (Some v) = Fault kind.Member at
leave w fr at (Some o) None = Fault kind.Member at
leave w fr at (Some o) (Some v) = given fr.member at o.ty v (clauses w kind.Ensures at fr.postconditions (set_if fr.entry o.variable (Some v)) (Done (Gave (Some v))))

-- what follows a statement
abbrev pub go_on : Exit → (Store → Run Exit) → Run Exit
go_on (Went s) next = next s
go_on (Broke s) next = Done (Broke s)
go_on (Continued at s) next = Done (Continued at s)
go_on (Gave v) next = Done (Gave v)

-- what follows the body of a loop at this place: the invariants, and another turn
abbrev pub go_round : ℕ → (ℕ → Store → Run Exit → Run Exit) → (Store → Run Exit) → Exit → Run Exit
go_round at keep next (Went s) = keep at s (next s)
go_round at keep next (Broke s) = Done (Went s)
go_round at keep next (Continued from s) = keep from s (next s)
go_round at keep next (Gave v) = Done (Gave v)

-- the turns of a loop, of which each spends a tick
abbrev pub rounds : ℕ → ℕ → (Store → Run Bool) → (Store → Run Exit) → (ℕ → Store → Run Exit → Run Exit) → Store → Run Exit
rounds zero at test body keep s = More
rounds (suc j) at test body keep s = spend true (λ m. test s m >>= (λ b. choose b (λ k. body s k >>= go_round at keep (rounds j at test body keep)) (Done (Went s))))

abbrev pub tested_truth : {N : Type 0} → Setting N → ℕ → Expr N → Store → Run Bool
tested_truth w at e s m = eval w true e s m >>= (λ v. as_truth at v Done)

abbrev mutual
  -- a statement; each spends a tick
  pub exec : {N : Type 0} → Setting N → Frame N → Stmt N → Store → Run Exit
  exec w fr (DeclareStmt at t x None) s = spend true (Done (Went (put s x None)))
  exec w fr (DeclareStmt at t x (Some e)) s = spend true (λ m. eval w true e s m >>= stored fr at x t s)
  exec w fr (AssignStmt at x path e) s = spend true (assigned w fr at x path e s)
  exec w fr (CallStmt at f es) s = spend true (λ m. eval_all w true es s m >>= (λ vs k. w.call f at vs k >>= (λ v. Done (Went s))))
  exec w fr (ReturnStmt at None) s = spend true (leave w fr at fr.result None)
  exec w fr (ReturnStmt at (Some e)) s = spend true (λ m. eval w true e s m >>= (λ v. leave w fr at fr.result (Some v)))
  exec w fr (AssertStmt at e) s = spend true (λ m. holds_at w at e s m >>= (λ b. check b kind.Assert at (Done (Went s))))
  exec w fr (BreakStmt at) s = spend true (Done (Broke s))
  exec w fr (ContinueStmt at) s = spend true (Done (Continued at s))
  exec w fr (SkipStmt at) s = spend true (Done (Went s))
  exec w fr (FailStmt at) s = spend true (Fault kind.Fail at)
  exec w fr (IfStmt at e first second) s = spend true (λ m. tested_truth w at e s m >>= (λ b. choose b (exec_all w fr first s) (exec_all w fr second s)))
  exec w fr (WhileStmt at e invariants body) s = spend true (clauses w kind.Entry at invariants s
      (λ m. rounds (suc m.ticks) at (tested_truth w at e) (exec_all w fr body) (λ from. clauses w kind.Keep from invariants) s m))

  -- a block
  pub exec_all : {N : Type 0} → Setting N → Frame N → Stmts N → Store → Run Exit
  exec_all w fr NoStmts s = Done (Went s)
  exec_all w fr (MoreStmts first rest) s = λ m. exec w fr first s m >>= (λ x. go_on x (exec_all w fr rest))
