-- What the code of expressions rests on: the code of calls and of tests of types.
use Rattle.std.specs.Prelude.{◌≡◌, ◌≢◌, ◌<◌, ◌≤◌, ℕ, ◌+◌, List, length, Bool, true, Some, Option}
use Rattle.wy_value.specs.Datum.{Datum, Truth}
use Rattle.wy_core.specs.Types.{Ty}
use Rattle.wy_core.specs.formed.Bound.{BoundTy}
use Rattle.wy_core.specs.formed.Recursion.{NamesIn}
use Rattle.wy_core.specs.formed.Sizes.{size_ty}
use Rattle.wy_code.specs.declared.routines.Routine.{Routine}
use Rattle.wy_code_spec.specs.declared.tables.context.Context.{Context}
use Rattle.wy_code_spec.specs.tables.Tables.{target}
use Rattle.wy_code_spec.specs.compiled.TypeTests.{test}
use Rattle.wy_code_spec.specs.compiled.Expressions.{call}
use Rattle.wy_code_spec.specs.numbered.Numbered.{NumberedTy}
use Rattle.wy_vc_spec.specs.wy_sem.kept.Kept.{IsProper, SlotProper, ListProper}
use Rattle.wy_vc_spec.specs.wy_sem.Meter.{Meter}
use Rattle.wy_vc_spec.specs.wy_sem.Operations.{or_null}
use Rattle.wy_vc_spec.specs.wy_sem.Expressions.{Store, slot, Setting}
use Rattle.wy_vc_spec.specs.wy_sem.TypeTests.{Test}
use Rattle.wy_code_spec.specs.step.Step.{Caller}
use Rattle.wy_gen_laws.specs.Places.{StandAt, IsRoutine}
use Rattle.wy_gen_laws.specs.Follows.{Follows, at_place, Comes}
use Rattle.wy_gen_laws.specs.Registers.{Hold}
use Rattle.wy_gen_laws.specs.expressions.Standing.{with_table}

-- ---- calls

-- the result of a call, a value, has come into register d, null where it has none, and the registers before d hold what they held
pub record Called (d : ℕ) (before : Store) (v : Option Datum) (regs : Store) : Type 0 where
  pub proper : SlotProper v
  pub value : slot regs d ≡ Some (or_null v)
  pub kept : (t : ℕ) → t < d → slot regs t ≡ slot before t
  pub size : length regs ≡ length before

-- wherever the code of a call of such a function or method stands, with the arguments in the registers from d on, the run follows the call
abbrev pub CallsFollow : Context → List Routine → Setting ℕ → (wide most : ℕ) → (ℕ → Type 0) → Type 0
CallsFollow c routines w wide most C = (f : ℕ) (r : Routine) → IsRoutine (with_table c routines) f r → (g place d at : ℕ) (vs : List Datum) (regs : Store) (callers : List Caller) (m : Meter)
    → C g → m.ticks ≤ most → ListProper vs → Hold regs d vs → length regs ≡ r.registers → StandAt r.body at (call (target c.results g) g d (length vs))
    → Follows (with_table c routines) wide 0 0 m (at_place f at regs callers m.output) (w.call g place vs m) (Comes f (at + length (call (target c.results g) g d (length vs))) callers (Called d regs))

-- ---- tests of types

-- the answer of a test has come into register q, and the other registers before g hold what they held
pub record Told (q g : ℕ) (before : Store) (b : Bool) (regs : Store) : Type 0 where
  pub value : slot regs q ≡ Some (Truth b)
  pub kept : (t : ℕ) → t < g → t ≢ q → slot regs t ≡ slot before t
  pub size : length regs ≡ length before

-- wherever the code of a test of a type stands that names such types alone, with the datum in register v, the run follows the test
abbrev pub TestsFollow : Context → List Routine → (Ty → Datum → Test) → (wide : ℕ) → (ℕ → Type 0) → Type 0
TestsFollow c routines tested wide P = (f : ℕ) (r : Routine) → IsRoutine (with_table c routines) f r → (t : Ty) (v q g at : ℕ) (d : Datum) (regs : Store) (callers : List Caller) (m : Meter)
    → (types : ℕ) → BoundTy types t → NumberedTy c.table t → ((n : ℕ) → NamesIn true t n → P n) → size_ty t ≤ wide → IsProper d → slot regs v ≡ Some d → v < g → q < g → v ≢ q → length regs ≡ r.registers → StandAt r.body at (test c t v q g)
    → Follows (with_table c routines) wide (size_ty t) 0 m (at_place f at regs callers m.output) (tested t d m) (Comes f (at + length (test c t v q g)) callers (Told q g regs))

-- ---- both

-- calls of these are followed, with so many ticks at most, and so are tests of these types
pub record Rests (c : Context) (routines : List Routine) (w : Setting ℕ) (wide most : ℕ) (C P : ℕ → Type 0) : Type 0 where
  pub calls : CallsFollow c routines w wide most C
  pub tests : TestsFollow c routines (w.test true) wide P
