-- What an instruction does: one step of a machine whose registers hold values.
use Rattle.std.specs.Prelude.{ℕ, zero, suc, ◌+◌, ◌-◌, List, [], ◌∷◌, ◌++◌, length, slice_get, Bool, true, false, cond, not, ◌&&◌, nat_eq, nat_lt, Option, Some, None, is_some, ℤ, pos, ◌+ℤ◌, ◌-ℤ◌, ◌*ℤ◌, int_lt, int_le, bytes_eq}
use Rattle.std.specs.Fmt.{signed_decimal}
use Rattle.std.specs.Int.{int_div_euclid, int_rem_euclid}
pub use Rattle.wy_sem.specs.TypeTests.{is_null}
use Rattle.wy_value.specs.Datum.{Datum, Null, Truth, Whole, Array, Record, Data, no_items, item, Fields, no_fields, field}
use Rattle.wy_value.specs.Numbers.{is_int}
use Rattle.wy_value.specs.Seen.{data_of}
use Rattle.wy_value.specs.Shapes.{named}
use Rattle.wy_value.specs.Values.{length_of}
use Rattle.wy_value.specs.declared.shapes.Shapes.{Shapes}
use Rattle.wy_sem.specs.Operations.{longest, nat_of, same, same_number, item_at, find, copies, is_index, Slot, ItemSlot, FieldSlot, part_at, updated}
use Rattle.wy_sem.specs.Expressions.{Store, slot, put}
use Rattle.wy_sem.specs.Evaluation.{is_ascii}
use Rattle.wy_code.specs.declared.instructions.Scalar.{Scalar}
use Rattle.wy_code.specs.declared.instructions.Scalar.TheVariants as scalar
use Rattle.wy_code.specs.declared.instructions.Arithmetic.{Arithmetic}
use Rattle.wy_code.specs.declared.instructions.Arithmetic.TheVariants.{Add, Sub, Mul, Div, Mod}
use Rattle.wy_code.specs.declared.instructions.Comparison.{Comparison}
use Rattle.wy_code.specs.declared.instructions.Comparison.TheVariants.{Less, LessEqual, Greater, GreaterEqual}
use Rattle.wy_code.specs.declared.instructions.Slot as code
use Rattle.wy_code.specs.declared.instructions.Slot.TheVariants as path_step
use Rattle.wy_code.specs.declared.instructions.Kind.{Kind}
use Rattle.wy_code.specs.declared.instructions.Kind.TheVariants as kind
use Rattle.wy_code.specs.declared.instructions.Instr.{Instr}
use Rattle.wy_code.specs.declared.instructions.Instr.TheVariants as instr
use Rattle.wy_code.specs.declared.routines.Routine.{Routine}
use Rattle.wy_code.specs.declared.routines.Code.{Code}

-- ---- frames and states

-- a frame: its routine, the number of its next instruction, and what its registers hold, None where one is empty
pub record Frame : Type 0 where
  pub routine : ℕ
  pub at : ℕ
  pub registers : Store

-- a frame that waits for the result of a call, and the register into which it comes
pub record Caller : Type 0 where
  pub frame : Frame
  pub target : ℕ

-- a frame runs, with those that wait for it, the last caller first, and what is printed so far; or the run ended with a value; or its next instruction has no step
pub data State : Type 0 where
  Runs : (frame : Frame) (callers : List Caller) (output : List ℕ) → State
  Ended : (value : Datum) (output : List ℕ) → State
  Stuck : State

-- what an instruction does to its frame: it goes on behind with these registers and prints these bytes; it goes to another instruction; it calls a routine, whose result comes into a register; it ends the routine; or it has no step
pub data Effect : Type 0 where
  GoesOn : (registers : Store) (printed : List ℕ) → Effect
  GoesTo : (at : ℕ) → Effect
  Calls : (target routine : ℕ) (arguments : List Datum) (registers : Store) → Effect
  Returns : (value : Datum) → Effect
  Fails : Effect

-- ---- operands, each with what goes on

-- what must be there
abbrev pub there : {X : Type 0} → Option X → (X → Effect) → Effect
there None next = Fails
there (Some x) next = next x

-- what a register holds
abbrev pub held : Store → ℕ → (Datum → Effect) → Effect
held s r next = there (slot s r) next

-- what a register held, and the registers without it
abbrev pub moved : Store → ℕ → (Datum → Store → Effect) → Effect
moved s r next = held s r (λ v. next v (put s r None))

-- what registers held, from left to right, and the registers without it
abbrev pub moved_all : Store → List ℕ → (List Datum → Store → Effect) → Effect
moved_all s [] next = next [] s
moved_all s (r ∷ rs) next = moved s r (λ v rest. moved_all rest rs (λ vs last. next (v ∷ vs) last))

abbrev pub cleared : Store → List ℕ → Store
cleared s [] = s
cleared s (r ∷ rs) = cleared (put s r None) rs

-- a number
abbrev pub as_number : Datum → (ℤ → Effect) → Effect
as_number (Whole z) next = next z
as_number Null next = Fails
as_number (Truth b) next = Fails
as_number (Array ds) next = Fails
as_number (Record fs) next = Fails

-- a truth value
abbrev pub as_truth : Datum → (Bool → Effect) → Effect
as_truth (Truth b) next = next b
as_truth Null next = Fails
as_truth (Whole z) next = Fails
as_truth (Array ds) next = Fails
as_truth (Record fs) next = Fails

-- the items of an array
abbrev pub as_items : Datum → (Data → Effect) → Effect
as_items (Array ds) next = next ds
as_items Null next = Fails
as_items (Truth b) next = Fails
as_items (Whole z) next = Fails
as_items (Record fs) next = Fails

-- the fields of a record
abbrev pub as_fields : Datum → (Fields → Effect) → Effect
as_fields (Record fs) next = next fs
as_fields Null next = Fails
as_fields (Truth b) next = Fails
as_fields (Whole z) next = Fails
as_fields (Array ds) next = Fails

-- where that is so
abbrev pub where_so : Bool → Effect → Effect
where_so true next = next
where_so false next = Fails

-- the register holds this from now on
abbrev pub gives : Store → ℕ → Datum → Effect
gives s d v = GoesOn (put s d (Some v)) []

-- two numbers
abbrev pub numbers : Store → ℕ → ℕ → (ℤ → ℤ → Effect) → Effect
numbers s a b next = held s a (λ v. held s b (λ w. as_number v (λ x. as_number w (λ y. next x y))))

-- ---- what is computed

abbrev pub scalar_of : Scalar → Datum
scalar_of scalar.Null = Null
scalar_of (scalar.Bool b) = Truth b
scalar_of (scalar.Int z) = Whole z

-- a number that is an `int`
abbrev pub gives_int : Store → ℕ → ℤ → Effect
gives_int s d z = where_so (is_int z) (gives s d (Whole z))

abbrev pub computes : Arithmetic → ℤ → ℤ → (ℤ → Effect) → Effect
computes Add x y next = next (x +ℤ y)
computes Sub x y next = next (x -ℤ y)
computes Mul x y next = next (x *ℤ y)
computes Div x y next = where_so (not (same_number y (pos 0))) (next (int_div_euclid x y))
computes Mod x y next = where_so (not (same_number y (pos 0))) (next (int_rem_euclid x y))

abbrev pub compares : Comparison → ℤ → ℤ → Bool
compares Less x y = int_lt x y
compares LessEqual x y = int_le x y
compares Greater x y = int_lt y x
compares GreaterEqual x y = int_le y x

-- ---- records and paths

abbrev pub names_in : List (List ℕ) → Option (List ℕ) → Option (List (List ℕ))
names_in names None = None
names_in names (Some list) = Some (named names list)

-- the names of the fields of a shape, by rising names
abbrev pub shape_names : Shapes → ℕ → Option (List (List ℕ))
shape_names shapes k = names_in shapes.names (slice_get shapes.lists k)

abbrev pub behind_field : List ℕ → Datum → Option Fields → Option Fields
behind_field n v None = None
behind_field n v (Some fs) = Some (field n v fs)

-- the fields with these names and values, where there are as many of both
abbrev pub record_of : List (List ℕ) → List Datum → Option Fields
record_of [] [] = Some no_fields
record_of [] (v ∷ vs) = None
record_of (n ∷ ns) [] = None
record_of (n ∷ ns) (v ∷ vs) = behind_field n v (record_of ns vs)

-- the fields have exactly these names
abbrev pub has_names : Fields → List (List ℕ) → Bool
has_names no_fields [] = true
has_names no_fields (m ∷ ms) = false
has_names (field n d fs) [] = false
has_names (field n d fs) (m ∷ ms) = bytes_eq n m && has_names fs ms

-- the parts that the steps of a path name
abbrev pub slots_of : Shapes → Store → List code.Slot → (List Slot → Effect) → Effect
slots_of shapes s [] next = next []
slots_of shapes s (path_step.Item r ∷ path) next = held s r (λ v. as_number v (λ i. where_so (int_le (pos 0) i) (slots_of shapes s path (λ slots. next (ItemSlot (nat_of i) ∷ slots)))))
slots_of shapes s (path_step.Field f ∷ path) next = there (slice_get shapes.names f) (λ name. slots_of shapes s path (λ slots. next (FieldSlot name ∷ slots)))

-- the value has such a part
abbrev pub has_part : Slot → Datum → Bool
has_part (ItemSlot i) (Array ds) = nat_lt i (length_of ds)
has_part (ItemSlot i) Null = false
has_part (ItemSlot i) (Truth b) = false
has_part (ItemSlot i) (Whole z) = false
has_part (ItemSlot i) (Record fs) = false
has_part (FieldSlot name) (Record fs) = is_some (find fs name)
has_part (FieldSlot name) Null = false
has_part (FieldSlot name) (Truth b) = false
has_part (FieldSlot name) (Whole z) = false
has_part (FieldSlot name) (Array ds) = false

-- each step of the path leads to a part
abbrev pub has_path : List Slot → Datum → Bool
has_path [] d = true
has_path (p ∷ ps) d = has_part p d && has_path ps (part_at p d)

-- ---- kinds

abbrev pub is_array : Datum → Bool
is_array (Array ds) = true
is_array Null = false
is_array (Truth b) = false
is_array (Whole z) = false
is_array (Record fs) = false

abbrev pub is_record : List (List ℕ) → Datum → Bool
is_record names (Record fs) = has_names fs names
is_record names Null = false
is_record names (Truth b) = false
is_record names (Whole z) = false
is_record names (Array ds) = false

abbrev pub is_bool : Datum → Bool
is_bool (Truth b) = true
is_bool Null = false
is_bool (Whole z) = false
is_bool (Array ds) = false
is_bool (Record fs) = false

abbrev pub is_number : Datum → Bool
is_number (Whole z) = true
is_number Null = false
is_number (Truth b) = false
is_number (Array ds) = false
is_number (Record fs) = false

-- whether the value is of this kind
abbrev pub kind_answer : Shapes → Kind → Datum → (Bool → Effect) → Effect
kind_answer shapes kind.Null v next = next (is_null v)
kind_answer shapes kind.Bool v next = next (is_bool v)
kind_answer shapes kind.Int v next = next (is_number v)
kind_answer shapes kind.Array v next = next (is_array v)
kind_answer shapes (kind.Shape k) v next = there (shape_names shapes k) (λ names. next (is_record names v))

-- ---- output

-- the bytes of an array of numbers, each of which must be ASCII
abbrev pub as_bytes : Data → (List ℕ → Effect) → Effect
as_bytes no_items next = next []
as_bytes (item d ds) next = as_number d (λ z. where_so (is_ascii z) (as_bytes ds (λ bytes. next (nat_of z ∷ bytes))))

-- ---- instructions. ORDER Instr

abbrev pub effect : Shapes → Instr → Store → Effect
effect shapes (instr.Const d c) s = gives s d (scalar_of c)
effect shapes (instr.Move d r) s = moved s r (λ v rest. gives rest d v)
effect shapes (instr.Share d r) s = held s r (λ v. gives s d v)
effect shapes (instr.Clear rs) s = GoesOn (cleared s rs) []
effect shapes (instr.Arith d op a b) s = numbers s a b (λ x y. computes op x y (λ z. gives_int s d z))
effect shapes (instr.Compare d op a b) s = numbers s a b (λ x y. gives s d (Truth (compares op x y)))
effect shapes (instr.Equal d a b) s = held s a (λ v. held s b (λ w. gives s d (Truth (same v w))))
effect shapes (instr.Not d a) s = held s a (λ v. as_truth v (λ b. gives s d (Truth (not b))))
effect shapes (instr.Jump t) s = GoesTo t
effect shapes (instr.Branch r t) s = held s r (λ v. as_truth v (λ b. cond b (GoesOn s []) (GoesTo t)))
effect shapes (instr.Array d rs) s = moved_all s rs (λ vs rest. gives rest d (Array (data_of vs)))
effect shapes (instr.Record d k rs) s = there (shape_names shapes k) (λ names. moved_all s rs (λ vs rest. there (record_of names vs) (λ fs. gives rest d (Record fs))))
effect shapes (instr.Fill d v n) s = held s n (λ w. as_number w (λ z. where_so (int_le (pos 0) z && int_le z (pos longest)) (moved s v (λ u rest. gives rest d (Array (copies (nat_of z) u))))))
effect shapes (instr.Len d a) s = held s a (λ v. as_items v (λ ds. gives s d (Whole (pos (length_of ds)))))
effect shapes (instr.Get d a i) s = held s a (λ v. held s i (λ w. as_items v (λ ds. as_number w (λ z. where_so (is_index z ds) (gives s d (item_at ds (nat_of z)))))))
effect shapes (instr.Field d a f) s = held s a (λ v. as_fields v (λ fs. there (slice_get shapes.names f) (λ name. there (find fs name) (λ part. gives s d part))))
effect shapes (instr.Put a path v) s = slots_of shapes s path (λ slots. moved s v (λ u rest. held rest a (λ whole. where_so (has_path slots whole) (gives rest a (updated whole slots u)))))
effect shapes (instr.Kind d a k) s = held s a (λ v. kind_answer shapes k v (λ b. gives s d (Truth b)))
effect shapes (instr.Call d f rs) s = moved_all s rs (λ vs rest. Calls d f vs rest)
effect shapes (instr.Return r) s = held s r Returns
effect shapes (instr.Print a) s = held s a (λ v. as_items v (λ ds. as_bytes ds (λ bytes. GoesOn s bytes)))
effect shapes (instr.PrintInt a) s = held s a (λ v. as_number v (λ z. GoesOn s (signed_decimal z)))

-- ---- steps

-- so many empty registers
abbrev pub empties : ℕ → Store
empties zero = []
empties (suc n) = None ∷ empties n

abbrev pub holding : List Datum → Store
holding [] = []
holding (v ∷ vs) = Some v ∷ holding vs

-- the registers of a routine at entry: the arguments, and behind them empty ones
abbrev pub entry_registers : Routine → List Datum → Store
entry_registers r vs = holding vs ++ empties (r.registers - length vs)

-- the first state of a routine on arguments, of which it takes so many, for these callers
abbrev pub entered : Option Routine → ℕ → List Datum → List Caller → List ℕ → State
entered None f vs callers output = Stuck
entered (Some r) f vs callers output = cond (nat_eq (length vs) r.params) (Runs (record { routine = f; at = 0; registers = entry_registers r vs }) callers output) Stuck

-- the result comes to the last caller, or ends the run
abbrev pub returned : Datum → List Caller → List ℕ → State
returned v [] output = Ended v output
returned v (c ∷ callers) output = Runs (record c.frame { registers = put c.frame.registers c.target (Some v) }) callers output

abbrev pub instr_at : Option Routine → ℕ → Option Instr
instr_at None at = None
instr_at (Some r) at = slice_get r.body at

-- the next instruction of a frame
abbrev pub next_of : List Routine → Frame → Option Instr
next_of routines fr = instr_at (slice_get routines fr.routine) fr.at

-- behind an instruction with this effect
abbrev pub stepped : Code → Frame → List Caller → List ℕ → Effect → State
stepped code fr callers output (GoesOn s printed) = Runs (record fr { at = fr.at + 1; registers = s }) callers (output ++ printed)
stepped code fr callers output (GoesTo t) = Runs (record fr { at = t }) callers output
stepped code fr callers output (Calls d f vs s) = entered (slice_get code.routines f) f vs (record { frame = record fr { at = fr.at + 1; registers = s }; target = d } ∷ callers) output
stepped code fr callers output (Returns v) = returned v callers output
stepped code fr callers output Fails = Stuck

abbrev pub executed : Code → Frame → List Caller → List ℕ → Option Instr → State
executed code fr callers output None = Stuck
executed code fr callers output (Some i) = stepped code fr callers output (effect code.shapes i fr.registers)

-- one step; what ended stays so, and so does what has no step
abbrev pub step : Code → State → State
step code (Runs fr callers output) = executed code fr callers output (next_of code.routines fr)
step code (Ended v output) = Ended v output
step code Stuck = Stuck

-- behind so many steps
abbrev pub after : Code → ℕ → State → State
after code zero st = st
after code (suc n) st = after code n (step code st)

-- the first state of a run of a routine on arguments
abbrev pub start : Code → ℕ → List Datum → State
start code f vs = entered (slice_get code.routines f) f vs [] []
