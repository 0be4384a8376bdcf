-- The code of an expression does what the expression does, where the code of calls and of tests of types does what these do.
use Rattle.std.specs.Prelude.{◌≡◌, ◌≢◌, ◌<◌, ◌≤◌, ℕ, ◌+◌, List, length, true}
use Rattle.wy_value.specs.Datum.{Datum}
use Rattle.wy_core.specs.CoreTree.{Expr, Exprs}
use Rattle.wy_core.specs.formed.Offers.{Offers}
use Rattle.wy_core.specs.formed.Bound.{Scope, BoundExpr, BoundExprs}
use Rattle.wy_core.specs.formed.Calls.{CallsExpr, CallsExprs}
use Rattle.wy_core.specs.formed.Literals.{IntsExpr, IntsExprs}
use Rattle.wy_core.specs.formed.Recursion.{Mentions, MentionsIn}
use Rattle.wy_core.specs.formed.Sizes.{size, sizes}
use Rattle.wy_code_spec.specs.wy_live.Sets.{Variables, has}
use Rattle.wy_code_spec.specs.wy_live.Walks.{before, before_all}
use Rattle.wy_code.specs.declared.routines.Routine.{Routine}
use Rattle.wy_code_spec.specs.declared.tables.context.Context.{Context}
use Rattle.wy_code_spec.specs.compiled.Expressions.{code, codes, count_of}
use Rattle.wy_code_spec.specs.compiled.Straight.{is_straight, into}
use Rattle.wy_code_spec.specs.numbered.Numbered.{NumberedExpr, NumberedExprs}
use Rattle.wy_vc_spec.specs.wy_sem.kept.Kept.{IsProper, StoreProper, ListProper}
use Rattle.wy_vc_spec.specs.wy_sem.Meter.{Meter}
use Rattle.wy_vc_spec.specs.wy_sem.Operations.{longest}
use Rattle.wy_vc_spec.specs.wy_sem.Expressions.{Store, slot, Setting, eval, eval_all}
use Rattle.wy_code_spec.specs.step.Step.{Caller}
use Rattle.wy_gen_laws.specs.Places.{StandAt, IsRoutine}
use Rattle.wy_gen_laws.specs.Follows.{Follows, at_place, Comes}
use Rattle.wy_gen_laws.specs.Registers.{Live, Got, Hold}
use Rattle.wy_gen_laws.specs.expressions.Standing.{with_table, AreKnown}
use Rattle.wy_gen_laws.specs.expressions.Rests.{Rests}

-- the numbers of an expression's names and shapes stand for them, its literals are `int`s, it calls and names only these, and it has at most so many nodes, and no more than arrays may have items
pub record Fits (c : Context) (wide : ℕ) (C P : ℕ → Type 0) (e : Expr ℕ) : Type 0 where
  pub numbered : NumberedExpr c.table e
  pub ints : IntsExpr e
  pub calls : CallsExpr C e
  pub names : (n : ℕ) → Mentions e n → P n
  pub nodes : size e ≤ wide
  pub few : size e ≤ longest

-- so of each of these, together
pub record FitAll (c : Context) (wide : ℕ) (C P : ℕ → Type 0) (es : Exprs ℕ) : Type 0 where
  pub numbered : NumberedExprs c.table es
  pub ints : IntsExprs es
  pub calls : CallsExprs C es
  pub names : (n : ℕ) → MentionsIn es n → P n
  pub nodes : sizes es ≤ wide
  pub few : sizes es ≤ longest

-- a value has come into register d
abbrev pub Gained : Scope → (n d : ℕ) → Variables → (store before : Store) → Datum → Store → Type 0
Gained vs n d s store before v regs = IsProper v × Got vs n d s store before v regs

-- wherever its code stands, with what is live before it in its registers, the run of the code follows the evaluation: it makes at most 16 steps for each tick, never lacks a step unless the evaluation is a fault, and comes behind the code with the value in register d, with the variables in scope that are live behind it and with the values of the registers before d as they were
abbrev pub IsEvaluated : Context → List Routine → ℕ → Routine → Setting ℕ → (n wide most : ℕ) → Expr ℕ → Type 0
IsEvaluated c routines f r w n wide most e = (o : Offers) (k : ℕ) (vs : Scope) (s : Variables) (d at : ℕ) (store regs : Store) (callers : List Caller) (m : Meter)
    → BoundExpr o k vs e → k ≤ n → AreKnown n vs s → n ≤ d → StandAt r.body at (code c e s d) → Live vs (before e s) store regs → StoreProper store → length regs ≡ r.registers → m.ticks ≤ most
    → Follows (with_table c routines) wide (size e) 0 m (at_place f at regs callers m.output) (eval w true e store m) (Comes f (at + length (code c e s d)) callers (Gained vs n d s store regs))

-- so of code whose value comes straight into the register of a variable that isn't live behind it, where the expression is straight: of the registers of values nothing is said
abbrev pub IsEvaluatedInto : Context → List Routine → ℕ → Routine → Setting ℕ → (n wide most : ℕ) → Expr ℕ → Type 0
IsEvaluatedInto c routines f r w n wide most e = (o : Offers) (k : ℕ) (vs : Scope) (s : Variables) (d x at : ℕ) (store regs : Store) (callers : List Caller) (m : Meter)
    → is_straight e s ≡ true → BoundExpr o k vs e → k ≤ n → AreKnown n vs s → n ≤ d → x < n → ((y : ℕ) → has s y ≡ true → y ≢ x) → StandAt r.body at (into c e s d x) → Live vs (before e s) store regs → StoreProper store → length regs ≡ r.registers → m.ticks ≤ most
    → Follows (with_table c routines) wide (size e) 0 m (at_place f at regs callers m.output) (eval w true e store m) (Comes f (at + length (into c e s d x)) callers (Gained vs x x s store regs))

-- ---- values in a row

-- the values have come into the registers from d on
pub record GotAll (vs : Scope) (n d count : ℕ) (s : Variables) (store first : Store) (us : List Datum) (regs : Store) : Type 0 where
  pub values : Hold regs d us
  pub many : length us ≡ count
  pub proper : ListProper us
  pub live : Live vs s store regs
  pub kept : (t : ℕ) → n ≤ t → t < d → slot regs t ≡ slot first t
  pub size : length regs ≡ length first

abbrev pub AreEvaluated : Context → List Routine → ℕ → Routine → Setting ℕ → (n wide most : ℕ) → Exprs ℕ → Type 0
AreEvaluated c routines f r w n wide most es = (o : Offers) (k : ℕ) (vs : Scope) (s : Variables) (d at : ℕ) (store regs : Store) (callers : List Caller) (m : Meter)
    → BoundExprs o k vs es → k ≤ n → AreKnown n vs s → n ≤ d → StandAt r.body at (codes c es s d) → Live vs (before_all es s) store regs → StoreProper store → length regs ≡ r.registers → m.ticks ≤ most
    → Follows (with_table c routines) wide (sizes es) 0 m (at_place f at regs callers m.output) (eval_all w true es store m) (Comes f (at + length (codes c es s d)) callers (GotAll vs n d (count_of es) s store regs))

-- ---- the law

-- whatever is called
abbrev pub Anything : ℕ → Type 0
Anything g = Unit {0}

-- a declared type, where there are so many
abbrev pub IsDeclared : ℕ → ℕ → Type 0
IsDeclared types n = n < types

-- so of each expression, also where its value comes straight into the register of a variable, and of expressions from left to right
pub record ExpressionsAreEvaluated : Type 0 where
  pub one : (c : Context) (routines : List Routine) (f : ℕ) (r : Routine) → IsRoutine (with_table c routines) f r → (w : Setting ℕ) (n wide most types : ℕ) → Rests c routines w wide most Anything (IsDeclared types)
      → (e : Expr ℕ) → Fits c wide Anything (IsDeclared types) e → IsEvaluated c routines f r w n wide most e
  pub straight : (c : Context) (routines : List Routine) (f : ℕ) (r : Routine) → IsRoutine (with_table c routines) f r → (w : Setting ℕ) (n wide most types : ℕ) → Rests c routines w wide most Anything (IsDeclared types)
      → (e : Expr ℕ) → Fits c wide Anything (IsDeclared types) e → IsEvaluatedInto c routines f r w n wide most e
  pub all : (c : Context) (routines : List Routine) (f : ℕ) (r : Routine) → IsRoutine (with_table c routines) f r → (w : Setting ℕ) (n wide most types : ℕ) → Rests c routines w wide most Anything (IsDeclared types)
      → (es : Exprs ℕ) → FitAll c wide Anything (IsDeclared types) es → AreEvaluated c routines f r w n wide most es
