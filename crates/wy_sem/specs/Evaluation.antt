-- What a function or method does on arguments, with so many ticks.
use Rattle.std.specs.Prelude.{ℕ, zero, suc, List, [], ◌∷◌, length, Bool, true, ◌&&◌, Option, Some, None, ℤ, pos, int_le, nat_eq}
use Rattle.std.specs.Fmt.{signed_decimal}
use Rattle.wy_term.specs.wy_value.Datum.{Datum, Data, no_items, item}
use Rattle.wy_types.specs.wy_core.Types.{Ty, AnyTy}
use Rattle.wy_types.specs.wy_core.CoreTree.{Stmt, DeclareStmt, AssignStmt, CallStmt, ReturnStmt, AssertStmt, BreakStmt, ContinueStmt, SkipStmt, FailStmt, IfStmt, WhileStmt, Stmts, NoStmts, MoreStmts, Alias, Routine, Param, Core, aliases_of, routines_of}
use Rattle.wy_term.specs.declared.cond.CondKind.TheVariants as kind
use Rattle.wy_sem.specs.Meter.{Meter, Outcome, Done, Fault, More, Spent, Run, ◌>>=◌, spend, count, check, choose, print}
use Rattle.wy_sem.specs.Operations.{nat_of, as_number, as_items}
use Rattle.wy_sem.specs.Expressions.{Store, put, Setting, clauses}
use Rattle.wy_sem.specs.TypeTests.{Test, answer, tests, member, is_constrained, unset}
use Rattle.wy_sem.specs.Statements.{Exit, Went, Broke, Continued, Gave, Frame, given, leave, exec_all}

-- ---- the two built-in methods

-- a character of ASCII
abbrev pub is_ascii : ℤ → Bool
is_ascii z = int_le (pos 0) z && int_le z (pos 127)

-- the bytes of a text, whose requires clause spends a turn on each
abbrev pub text_of : Option ℕ → ℕ → Data → Run (List ℕ)
text_of limit at no_items = Done []
text_of limit at (item d ds) = count limit (as_number at d (λ z. check (is_ascii z) kind.Requires at (λ m. text_of limit at ds m >>= (λ bytes. Done (nat_of z ∷ bytes)))))

abbrev pub printed : List ℕ → Run (Option Datum)
printed bytes m = Done None (print bytes m)

abbrev pub print_call : Option ℕ → ℕ → List Datum → Run (Option Datum)
print_call limit at [] = Fault kind.Member at
print_call limit at (v ∷ []) = as_items at v (λ ds m. text_of limit at ds m >>= printed)
print_call limit at (v ∷ w ∷ vs) = Fault kind.Member at

abbrev pub print_int_call : ℕ → List Datum → Run (Option Datum)
print_int_call at [] = Fault kind.Member at
print_int_call at (v ∷ []) = as_number at v (λ z. printed (signed_decimal z))
print_int_call at (v ∷ w ∷ vs) = Fault kind.Member at

-- ---- declared functions and methods

-- what a number calls: `print` and `print_int` have the two numbers behind the last declared function or method
pub data Callee (N : Type 0) : Type 0 where
  Declared : (routine : Routine N) → Callee N
  Print : Callee N
  PrintInt : Callee N
  Undeclared : Callee N

abbrev pub callee : {N : Type 0} → List (Routine N) → ℕ → Callee N
callee [] zero = Print
callee [] (suc zero) = PrintInt
callee [] (suc (suc f)) = Undeclared
callee (r ∷ rs) zero = Declared r
callee (r ∷ rs) (suc f) = callee rs f

abbrev pub set_type : List Ty → ℕ → Ty → List Ty
set_type [] x t = []
set_type (s ∷ ts) zero t = t ∷ ts
set_type (s ∷ ts) (suc x) t = s ∷ set_type ts x t

abbrev pub any_types : List (List ℕ) → List Ty
any_types [] = []
any_types (name ∷ names) = AnyTy ∷ any_types names

abbrev pub param_types : List Param → List Ty → List Ty
param_types [] ts = ts
param_types (p ∷ ps) ts = param_types ps (set_type ts p.variable p.ty)

-- the types of the variables that statements declare
abbrev mutual
  pub declared_in : {N : Type 0} → Stmt N → List Ty → List Ty
  declared_in (DeclareStmt at t x value) ts = set_type ts x t
  declared_in (AssignStmt at x path e) ts = ts
  declared_in (CallStmt at f es) ts = ts
  declared_in (ReturnStmt at value) ts = ts
  declared_in (AssertStmt at e) ts = ts
  declared_in (BreakStmt at) ts = ts
  declared_in (ContinueStmt at) ts = ts
  declared_in (SkipStmt at) ts = ts
  declared_in (FailStmt at) ts = ts
  declared_in (IfStmt at e first second) ts = declared_in_all second (declared_in_all first ts)
  declared_in (WhileStmt at e invariants body) ts = declared_in_all body ts

  pub declared_in_all : {N : Type 0} → Stmts N → List Ty → List Ty
  declared_in_all NoStmts ts = ts
  declared_in_all (MoreStmts first rest) ts = declared_in_all rest (declared_in first ts)

-- the declared type of each variable, by its number
abbrev pub types_of : {N : Type 0} → Routine N → List Ty
types_of r = declared_in_all r.body (param_types r.params (any_types r.variables))

-- the parameters have these values
abbrev pub bound : List Param → List Datum → Store → Store
bound [] vs s = s
bound (p ∷ ps) [] s = s
bound (p ∷ ps) (v ∷ vs) s = bound ps vs (put s p.variable (Some v))

abbrev pub entry_of : {N : Type 0} → Routine N → List Datum → Store
entry_of r vs = bound r.params vs (unset r.variables)

-- each argument must be of the type of its parameter
abbrev pub arguments : {X : Type 0} → (Ty → Datum → Test) → ℕ → List Param → List Datum → Run X → Run X
arguments owed at [] vs next = next
arguments owed at (p ∷ ps) [] next = next
arguments owed at (p ∷ ps) (v ∷ vs) next = given owed at p.ty v (arguments owed at ps vs next)

abbrev pub result_given : ℕ → Exit → Run (Option Datum)
result_given at (Gave v) = Done v
result_given at (Went s) = Fault kind.Member at
result_given at (Broke s) = Fault kind.Member at
result_given at (Continued from s) = Fault kind.Member at

-- what a body that ended gives; its end counts as a return without a value
abbrev pub result_of : {N : Type 0} → Setting N → Frame N → ℕ → Exit → Run (Option Datum)
result_of w fr at (Gave v) = Done v
result_of w fr at (Went s) = λ m. leave w fr at fr.result None m >>= result_given at
result_of w fr at (Broke s) = Fault kind.Member at
result_of w fr at (Continued from s) = Fault kind.Member at

-- the member condition, which is owed where the type reaches one with clauses
abbrev pub owed_member : {N : Type 0} → (N → ℕ) → Option ℕ → List (Alias N) → Ty → Datum → Test
owed_member place limit types t d = choose (is_constrained types t) (member place limit types t d) (answer true)

abbrev pub frame_of : {N : Type 0} → (Ty → Datum → Test) → Routine N → List Datum → Frame N
frame_of owed r vs = record { types = types_of r; member = owed; result = r.result; postconditions = r.postconditions; entry = entry_of r vs }

-- a declared function or method is called at a place: its arguments and requires clauses are checked there, and then its body runs
abbrev pub routine_call : {N : Type 0} → Setting N → (Ty → Datum → Test) → Routine N → ℕ → List Datum → Run (Option Datum)
routine_call w owed r at vs = check (nat_eq (length vs) (length r.params)) kind.Member at (arguments owed at r.params vs (clauses w kind.Requires at r.preconditions (entry_of r vs)
    (λ m. exec_all w (frame_of owed r vs) r.body (entry_of r vs) m >>= result_of w (frame_of owed r vs) r.at)))

abbrev pub called : {N : Type 0} → Setting N → (Ty → Datum → Test) → Callee N → ℕ → List Datum → Run (Option Datum)
called w owed (Declared r) at vs = routine_call w owed r at vs
called w owed Print at vs = print_call w.limit at vs
called w owed PrintInt at vs = print_int_call at vs
called w owed Undeclared at vs = Fault kind.Member at

-- a call, which spends a tick; calls nest no deeper than the number says
abbrev pub run : {N : Type 0} → (N → ℕ) → Option ℕ → Core N → ℕ → ℕ → ℕ → List Datum → Run (Option Datum)
run place limit core zero f at vs = More
run place limit core (suc j) f at vs = spend true (called
    (record { place = place; limit = limit; test = tests place limit (aliases_of core) (suc (length (aliases_of core))); call = run place limit core j })
    (owed_member place limit (aliases_of core)) (callee (routines_of core) f) at vs)

-- the place of a declared function or method
abbrev pub place_of : {N : Type 0} → Callee N → ℕ
place_of (Declared r) = r.at
place_of Print = 0
place_of PrintInt = 0
place_of Undeclared = 0

abbrev pub start : ℕ → Meter
start ticks = record { ticks = ticks; turns = 0; output = [] }

-- the function or method with this number on these arguments, with so many ticks and with at most so many turns in contracts
abbrev pub limited_evaluate : {N : Type 0} → (N → ℕ) → Option ℕ → Core N → ℕ → List Datum → ℕ → Outcome (Option Datum)
limited_evaluate place limit core f vs ticks = run place limit core (suc ticks) f (place_of (callee (routines_of core) f)) vs (start ticks)

-- the function or method with this number on these arguments, with so many ticks
abbrev pub evaluate : {N : Type 0} → (N → ℕ) → Core N → ℕ → List Datum → ℕ → Outcome (Option Datum)
evaluate place core f vs ticks = limited_evaluate place None core f vs ticks

-- how many turns an evaluation spent in contracts
abbrev pub turns_of : {X : Type 0} → Outcome X → ℕ
turns_of (Done x m) = m.turns
turns_of (Fault k at m) = m.turns
turns_of (More m) = m.turns
turns_of Spent = 0

-- how many visits and quantifier turns the evaluation spends in contracts
abbrev pub contract_cost : {N : Type 0} → (N → ℕ) → Core N → ℕ → List Datum → ℕ → ℕ
contract_cost place core f vs ticks = turns_of (evaluate place core f vs ticks)
