-- What is asked of operands, and what is computed of them.
use Rattle.std.specs.Prelude.{◌≡◌, ℕ, ℤ, pos, ◌+ℤ◌, ◌-ℤ◌, ◌*ℤ◌, int_lt, int_le, Bool, true, false, not, List, map, Option, Some, None, Result, Ok, Err}
use Rattle.std.specs.Int.{int_div_euclid, int_rem_euclid}
use Rattle.wy_sem.specs.TypeTests.{is_truth}
use Rattle.wy_value.specs.Datum.{Datum, Null, Truth, Whole, Array, Record, Data, Fields}
use Rattle.wy_value.specs.declared.value.Value.{Value}
use Rattle.wy_value.specs.Numbers.{is_int}
use Rattle.wy_value.specs.Seen.{data_of, fields_of, seen}
use Rattle.wy_core.specs.declared.expressions.Op.{Op}
use Rattle.wy_core.specs.declared.expressions.Op.TheVariants.{Add, Sub, Mul, Div, Mod, Equal, Less, LessEqual, Greater, GreaterEqual, And, Or}
use Rattle.wy_term.specs.declared.cond.CondKind.TheVariants.{Divisor, Member}
use Rattle.wy_sem.specs.Meter as sem
use Rattle.wy_sem.specs.Meter.{Run, Done, Fault, check}
use Rattle.wy_sem.specs.Operations.{in_range, operated, same_number, second}
use Rattle.wy_eval_exprs.specs.declared.stop.Stop.{Stop}
use Rattle.wy_eval_exprs.specs.declared.stop.Stop.TheVariants as stop

-- the items of an array
abbrev pub items_of : List Value → Data
items_of vs = data_of (map seen vs)

-- the fields of a record
abbrev pub parts_of : List (List ℕ × Value) → Fields
parts_of fs = fields_of (map (λ f. (f.0, seen f.1)) fs)

-- the datum of a value that may be absent
abbrev pub seen_option : Option Value → Option Datum
seen_option None = None
seen_option (Some v) = Some (seen v)

abbrev pub is_number : Datum → Bool
is_number Null = false
is_number (Truth b) = false
is_number (Whole z) = true
is_number (Array ds) = false
is_number (Record fs) = false

abbrev pub are_numbers : Datum → Datum → Bool
are_numbers Null e = false
are_numbers (Truth b) e = false
are_numbers (Whole z) e = is_number e
are_numbers (Array ds) e = false
are_numbers (Record fs) e = false

abbrev pub is_array : Datum → Bool
is_array Null = false
is_array (Truth b) = false
is_array (Whole z) = false
is_array (Array ds) = true
is_array (Record fs) = false

abbrev pub is_record : Datum → Bool
is_record Null = false
is_record (Truth b) = false
is_record (Whole z) = false
is_record (Array ds) = false
is_record (Record fs) = true

-- the number that the datum is, or a fault
abbrev pub NumberOf : ℕ → Datum → Result ℤ Stop → Type 0
NumberOf at d (Ok z) = d ≡ Whole z
NumberOf at d (Err e) = (e ≡ stop.Fault Member at) × (is_number d ≡ false)

-- the two numbers that the data are, or a fault
abbrev pub NumbersOf : ℕ → Datum → Datum → Result (ℤ × ℤ) Stop → Type 0
NumbersOf at d e (Ok both) = (d ≡ Whole both.0) × (e ≡ Whole both.1)
NumbersOf at d e (Err f) = (f ≡ stop.Fault Member at) × (are_numbers d e ≡ false)

-- the truth value that the datum is, or a fault
abbrev pub TruthOf : ℕ → Datum → Result Bool Stop → Type 0
TruthOf at d (Ok b) = d ≡ Truth b
TruthOf at d (Err e) = (e ≡ stop.Fault Member at) × (is_truth d ≡ false)

-- the items of the array that the datum is, or a fault
abbrev pub ItemsOf : {R : Type 0} → (R → List Value) → ℕ → Datum → Result R Stop → Type 0
ItemsOf view at d (Ok vs) = d ≡ Array (items_of (view vs))
ItemsOf view at d (Err e) = (e ≡ stop.Fault Member at) × (is_array d ≡ false)

-- the fields of the record that the datum is, or a fault
abbrev pub FieldsOf : {R : Type 0} → (R → List (List ℕ × Value)) → ℕ → Datum → Result R Stop → Type 0
FieldsOf view at d (Ok fs) = d ≡ Record (parts_of (view fs))
FieldsOf view at d (Err e) = (e ≡ stop.Fault Member at) × (is_record d ≡ false)

-- what is there, or a fault
abbrev pub NeededOf : ℕ → Option Value → Result Value Stop → Type 0
NeededOf at o (Ok v) = o ≡ Some v
NeededOf at o (Err e) = (e ≡ stop.Fault Member at) × (o ≡ None)

-- the number, or none where it has more than 128 bits and so is no `int`
abbrev pub IsNumber : Option ℤ → ℤ → Type 0
IsNumber (Some n) z = n ≡ z
IsNumber None z = is_int z ≡ false

abbrev pub divided : ℕ → ℤ → ℤ → Run Datum
divided at x y = check (not (same_number y (pos 0))) Divisor at (in_range at (int_div_euclid x y))

abbrev pub left_over : ℕ → ℤ → ℤ → Run Datum
left_over at x y = check (not (same_number y (pos 0))) Divisor at (Done (Whole (int_rem_euclid x y)))

-- the operator on two numbers
abbrev pub computed : Op → ℕ → ℤ → ℤ → Run Datum
computed Add at x y = in_range at (x +ℤ y)
computed Sub at x y = in_range at (x -ℤ y)
computed Mul at x y = in_range at (x *ℤ y)
computed Div at x y = divided at x y
computed Mod at x y = left_over at x y
computed Equal at x y = Done (Truth (same_number x y))
computed Less at x y = Done (Truth (int_lt x y))
computed LessEqual at x y = Done (Truth (int_le x y))
computed Greater at x y = Done (Truth (int_lt y x))
computed GreaterEqual at x y = Done (Truth (int_le y x))
computed And at x y = Fault Member at
computed Or at x y = Fault Member at

-- what an operator says by its first operand alone; none where the second one counts
abbrev pub IsEarly : Op → ℕ → Datum → Result (Option Bool) Stop → Type 0
IsEarly op at v (Ok (Some b)) = (right : Run Datum) (m : sem.Meter) → operated op at right v m ≡ Done (Truth b) m
IsEarly op at v (Ok None) = (right : Run Datum) (m : sem.Meter) → operated op at right v m ≡ second op at right v m
IsEarly op at v (Err e) = (e ≡ stop.Fault Member at) × ((right : Run Datum) (m : sem.Meter) → operated op at right v m ≡ Fault Member at m)
