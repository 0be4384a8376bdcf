-- The code of a statement does what the statement does.
use Rattle.std.specs.Prelude.{◌≡◌, ◌≤◌, ◌<◌, ℕ, suc, ◌+◌, List, length, Option, Some, slice_get, Bool, true}
use Rattle.wy_value.specs.Datum.{Datum}
use Rattle.wy_core.specs.CoreTree.{Output, Expr, Stmt, Stmts}
use Rattle.wy_core.specs.formed.Offers.{Offers}
use Rattle.wy_core.specs.formed.Bound.{Scope, Around, BoundStmt, BoundStmts, behind}
use Rattle.wy_core.specs.formed.Wholes.{EachClause}
use Rattle.wy_code_spec.specs.wy_live.Sets.{Variables}
use Rattle.wy_code_spec.specs.wy_live.Walks.{live, live_all}
use Rattle.wy_code_spec.specs.wy_live.declared.walk.Ends.{Ends}
use Rattle.wy_code.specs.declared.routines.Code.{Code}
use Rattle.wy_code.specs.declared.routines.Routine.{Routine}
use Rattle.wy_code_spec.specs.declared.tables.context.Context.{Context}
use Rattle.wy_code_spec.specs.declared.tables.targets.Target.TheVariants.{Declared, Prints, PrintsInt, Nothing}
use Rattle.wy_code_spec.specs.tables.Tables.{target}
use Rattle.wy_code_spec.specs.compiled.Statements.{stmt_code, stmts_code}
use Rattle.wy_vc_spec.specs.wy_sem.kept.Kept.{SlotProper, StoreProper, ListProper}
use Rattle.wy_code_spec.specs.numbered.Numbered.{IsNumber}
use Rattle.wy_vc_spec.specs.wy_sem.Meter.{Meter, Outcome, Fault, More, spend}
use Rattle.wy_vc_spec.specs.wy_sem.Operations.{or_null}
use Rattle.wy_vc_spec.specs.wy_sem.Expressions.{Store, Setting}
use Rattle.wy_vc_spec.specs.wy_sem.Statements as sem
use Rattle.wy_vc_spec.specs.wy_sem.Statements.{Exit, Went, Broke, Continued, Gave, exec, exec_all, type_at}
use Rattle.wy_vc_spec.specs.wy_sem.Evaluation.{print_call, print_int_call}
use Rattle.wy_term.specs.declared.cond.CondKind.TheVariants as kind
use Rattle.wy_code_spec.specs.step.Step.{State, Caller, entered, returned}
use Rattle.wy_gen_laws.specs.Places.{StandAt, IsRoutine}
use Rattle.wy_gen_laws.specs.Follows.{Follows, at_place, Comes}
use Rattle.wy_gen_laws.specs.Registers.{Live}
use Rattle.wy_gen_laws.specs.expressions.Standing.{with_table, AreKnown}
use Rattle.wy_gen_laws.specs.expressions.Evaluated.{IsEvaluated, IsEvaluatedInto, AreEvaluated}
use Rattle.wy_gen_laws.specs.statements.Still.{IsStill, IsStillTy}
use Rattle.wy_gen_laws.specs.statements.Parts.{Asked, EachPartIn, cost, cost_all}

-- ---- registers and places

-- the live variables in scope have their registers, of which there are so many, and the store holds values
pub record Kept (vs : Scope) (s : Variables) (many : ℕ) (store regs : Store) : Type 0 where
  pub live : Live vs s store regs
  pub size : length regs ≡ many
  pub proper : StoreProper store

-- the frame is gone, and its caller has the result
pub record Left (callers : List Caller) (v : Option Datum) (k : Meter) (st : State) : Type 0 where
  pub proper : SlotProper v
  pub is : st ≡ returned (or_null v) callers k.output

-- three places: behind a statement, behind the loop around, and that loop's step back
pub record Places : Type 0 where
  pub after : ℕ
  pub exit : ℕ
  pub again : ℕ

-- where the run of a statement leads: to one of these places, with what is live there of the variables in scope, or out of the routine; ws is the scope behind the statement, and vs that before it
abbrev pub Leads : ℕ → List Caller → ℕ → Places → (ws vs : Scope) → Variables → Ends → Exit → Meter → State → Type 0
Leads f callers size p ws vs s ends (Went t) k st = Comes f p.after callers (Kept ws s size) t k st
Leads f callers size p ws vs s ends (Broke t) k st = Comes f p.exit callers (Kept vs ends.exit size) t k st
Leads f callers size p ws vs s ends (Continued from t) k st = Comes f p.again callers (Kept vs ends.again size) t k st
Leads f callers size p ws vs s ends (Gave v) k st = Left callers v k st

-- the places of code of this length at this place
abbrev pub places : (at long exit again : ℕ) → Places
places at long exit again = record { after = at + long; exit = at + long + exit; again = at + long + again }

-- ---- calls

-- the run of a routine from its first instruction on follows a call whose tick is spent: it may make 4 steps more than other ticks allow, and its body may spend fewer ticks before an instruction than a step stands for
pub record Entered (code : Code) (wide : ℕ) (m : Meter) (st : State) (o : Outcome (Option Datum)) (Q : Option Datum → Meter → State → Type 0) : Type 0 where
  pub low : ℕ
  pub less : low < wide
  pub follows : Follows code wide low 4 m st o Q

-- so of each declared function or method, which gives its callers what the call gives
abbrev pub RoutinesFollow : Context → List Routine → Setting ℕ → (wide most : ℕ) → Type 0
RoutinesFollow c routines w wide most = (g at : ℕ) (gives : Bool) (vs : List Datum) (callers : List Caller) (m : Meter) (t : ℕ) → target c.results g ≡ Declared gives → m.ticks ≡ suc t → m.ticks ≤ most → ListProper vs
    → Entered (with_table c routines) wide (record m { ticks = t }) (entered (slice_get routines g) g vs callers m.output) (w.call g at vs m) (Left callers)

-- calls of each kind; without a tick none goes on
pub record CallsLead (c : Context) (routines : List Routine) (w : Setting ℕ) (wide most : ℕ) : Type 0 where
  pub routines_follow : RoutinesFollow c routines w wide most
  pub none : (g at : ℕ) (vs : List Datum) (m : Meter) → m.ticks ≤ most → m.ticks ≡ 0 → w.call g at vs m ≡ More m
  pub prints : (g at : ℕ) (vs : List Datum) (m : Meter) → target c.results g ≡ Prints → m.ticks ≤ most → w.call g at vs m ≡ spend true (print_call w.limit at vs) m
  pub prints_int : (g at : ℕ) (vs : List Datum) (m : Meter) → target c.results g ≡ PrintsInt → m.ticks ≤ most → w.call g at vs m ≡ spend true (print_int_call at vs) m
  pub nothing : (g at : ℕ) (vs : List Datum) (m : Meter) → target c.results g ≡ Nothing → m.ticks ≤ most → w.call g at vs m ≡ spend true (Fault kind.Member at) m

-- ---- statements

-- the code of an expression does what it does, also where its value comes straight into the register of a variable
abbrev pub IsValued : Context → List Routine → ℕ → Routine → Setting ℕ → (n wide most : ℕ) → Expr ℕ → Type 0
IsValued c routines f r w n wide most e = IsEvaluated c routines f r w n wide most e × IsEvaluatedInto c routines f r w n wide most e

-- what is asked of the parts of statements in a routine
abbrev pub asked : Context → List Routine → ℕ → Routine → Setting ℕ → sem.Frame ℕ → (n wide most : ℕ) → Asked
asked c routines f r w fr n wide most = record {
  value = IsValued c routines f r w n wide most;
  values = AreEvaluated c routines f r w n wide most;
  clause = IsStill w;
  ty = IsStillTy fr.member;
  name = IsNumber c.table;
}

-- what is asked of the frame: its types and its ensures clauses spend nothing
pub record FrameStays (w : Setting ℕ) (fr : sem.Frame ℕ) : Type 0 where
  pub types : (x : ℕ) → IsStillTy fr.member (type_at fr.types x)
  pub result : (o : Output) → fr.result ≡ Some o → IsStillTy fr.member o.ty
  pub clauses : EachClause (IsStill w) fr.postconditions

-- what is live behind, behind the loop around and at its next turn has registers, and so have the variables in scope
pub record EndsKnown (n : ℕ) (vs : Scope) (s : Variables) (ends : Ends) : Type 0 where
  pub after : AreKnown n vs s
  pub exit : AreKnown n vs ends.exit
  pub again : AreKnown n vs ends.again

-- wherever its code stands, with what is live before it in its registers, the run of the code follows the statement
abbrev pub IsLed : Context → List Routine → ℕ → Routine → Setting ℕ → sem.Frame ℕ → (n wide most : ℕ) → Stmt ℕ → Type 0
IsLed c routines f r w fr n wide most st = (o : Offers) (a : Around) (vs : Scope) (s : Variables) (ends : Ends) (exit again at : ℕ) (store regs : Store) (callers : List Caller) (m : Meter)
    → BoundStmt o n a vs st → EndsKnown n vs s ends → StandAt r.body at (stmt_code c st s ends n exit again) → Kept vs (live st s ends) r.registers store regs → m.ticks ≤ most
    → Follows (with_table c routines) wide (cost st) 0 m (at_place f at regs callers m.output) (exec w fr st store m) (Leads f callers r.registers (places at (length (stmt_code c st s ends n exit again)) exit again) (behind vs st) vs s ends)

-- so of a block
abbrev pub AreLed : Context → List Routine → ℕ → Routine → Setting ℕ → sem.Frame ℕ → (n wide most : ℕ) → Stmts ℕ → Type 0
AreLed c routines f r w fr n wide most ss = (o : Offers) (a : Around) (vs : Scope) (s : Variables) (ends : Ends) (exit again at : ℕ) (store regs : Store) (callers : List Caller) (m : Meter)
    → BoundStmts o n a vs ss → EndsKnown n vs s ends → StandAt r.body at (stmts_code c ss s ends n exit again) → Kept vs (live_all ss s ends) r.registers store regs → m.ticks ≤ most
    → Follows (with_table c routines) wide (cost_all ss) 0 m (at_place f at regs callers m.output) (exec_all w fr ss store m) (Leads f callers r.registers (places at (length (stmts_code c ss s ends n exit again)) exit again) vs vs s ends)

-- in each routine: statements whose parts follow, and that have at most so many nodes
abbrev pub StatementsAreLed : Type 0
StatementsAreLed = (c : Context) (routines : List Routine) (f : ℕ) (r : Routine) → IsRoutine (with_table c routines) f r → (w : Setting ℕ) (fr : sem.Frame ℕ) (n wide most : ℕ) → CallsLead c routines w wide most → FrameStays w fr
    → (ss : Stmts ℕ) → EachPartIn (asked c routines f r w fr n wide most) ss → cost_all ss ≤ wide → AreLed c routines f r w fr n wide most ss
