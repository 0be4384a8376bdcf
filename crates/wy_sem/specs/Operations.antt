-- What is done with data: parts, their kinds, operators and updates.
use Rattle.std.specs.Prelude.{ℕ, zero, suc, ◌-◌, ◌^◌, List, [], ◌∷◌, Bool, true, false, cond, not, ◌&&◌, Option, Some, None, ℤ, pos, negsuc, ◌+ℤ◌, ◌-ℤ◌, ◌*ℤ◌, neg_ℤ, int_lt, int_le, bytes_eq}
use Rattle.std.specs.Int.{int_div_euclid, int_rem_euclid}
use Rattle.wy_term.specs.wy_value.Datum.{Datum, Null, Truth, Whole, Array, Record, Data, no_items, item, Fields, no_fields, field}
use Rattle.wy_term.specs.wy_value.Values.{length_of}
use Rattle.wy_term.specs.wy_value.Numbers.{is_int}
use Rattle.wy_types.specs.wy_core.declared.expressions.Op.{Op}
use Rattle.wy_types.specs.wy_core.declared.expressions.Op.TheVariants.{Add, Sub, Mul, Div, Mod, Equal, Less, LessEqual, Greater, GreaterEqual, And, Or}
use Rattle.wy_term.specs.declared.cond.CondKind.TheVariants.{Range, Divisor, Index, Length, Member}
use Rattle.wy_sem.specs.Meter.{Done, Fault, Run, ◌>>=◌, check, choose}

-- the greatest length of an array
unfoldable pub longest : ℕ
longest = 2 ^ 63 - 1

abbrev pub nat_of : ℤ → ℕ
nat_of (pos n) = n
nat_of (negsuc n) = 0

-- both truths are the same
abbrev pub agrees : Bool → Bool → Bool
agrees true b = b
agrees false b = not b

abbrev pub same_number : ℤ → ℤ → Bool
same_number x y = int_le x y && int_le y x

-- both data are the same, compared by their structure
abbrev mutual
  pub same : Datum → Datum → Bool
  same Null Null = true
  same Null (Truth c) = false
  same Null (Whole y) = false
  same Null (Array es) = false
  same Null (Record gs) = false
  same (Truth b) Null = false
  same (Truth b) (Truth c) = agrees b c
  same (Truth b) (Whole y) = false
  same (Truth b) (Array es) = false
  same (Truth b) (Record gs) = false
  same (Whole x) Null = false
  same (Whole x) (Truth c) = false
  same (Whole x) (Whole y) = same_number x y
  same (Whole x) (Array es) = false
  same (Whole x) (Record gs) = false
  same (Array ds) Null = false
  same (Array ds) (Truth c) = false
  same (Array ds) (Whole y) = false
  same (Array ds) (Array es) = same_items ds es
  same (Array ds) (Record gs) = false
  same (Record fs) Null = false
  same (Record fs) (Truth c) = false
  same (Record fs) (Whole y) = false
  same (Record fs) (Array es) = false
  same (Record fs) (Record gs) = same_fields fs gs

  pub same_items : Data → Data → Bool
  same_items no_items no_items = true
  same_items no_items (item e es) = false
  same_items (item d ds) no_items = false
  same_items (item d ds) (item e es) = same d e && same_items ds es

  pub same_fields : Fields → Fields → Bool
  same_fields no_fields no_fields = true
  same_fields no_fields (field o e gs) = false
  same_fields (field n d fs) no_fields = false
  same_fields (field n d fs) (field o e gs) = bytes_eq n o && (same d e && same_fields fs gs)

-- ---- the parts of data

-- the item with this number, from 0
abbrev pub item_at : Data → ℕ → Datum
item_at no_items i = Null
item_at (item d ds) zero = d
item_at (item d ds) (suc i) = item_at ds i

-- the same items, but for the one with this number
abbrev pub set_item : Data → ℕ → Datum → Data
set_item no_items i v = no_items
set_item (item d ds) zero v = item v ds
set_item (item d ds) (suc i) v = item d (set_item ds i v)

abbrev pub found_field : Bool → Datum → Option Datum → Option Datum
found_field true d rest = Some d
found_field false d rest = rest

-- the datum of the field with this name
abbrev pub find : Fields → List ℕ → Option Datum
find no_fields name = None
find (field n d fs) name = found_field (bytes_eq n name) d (find fs name)

-- the same fields, but for the one with this name
abbrev pub set_field : Fields → List ℕ → Datum → Fields
set_field no_fields name v = no_fields
set_field (field n d fs) name v = cond (bytes_eq n name) (field n v fs) (field n d (set_field fs name v))

-- this many times the same
abbrev pub copies : ℕ → Datum → Data
copies zero v = no_items
copies (suc n) v = item v (copies n v)

-- the number is that of an item
abbrev pub is_index : ℤ → Data → Bool
is_index i ds = int_le (pos 0) i && int_lt i (pos (length_of ds))

-- ---- the kind that an operand must have, else it is a fault of kind member

abbrev pub as_number : {X : Type 0} → ℕ → Datum → (ℤ → Run X) → Run X
as_number at (Whole z) next m = next z m
as_number at Null next m = Fault Member at m
as_number at (Truth b) next m = Fault Member at m
as_number at (Array ds) next m = Fault Member at m
as_number at (Record fs) next m = Fault Member at m

abbrev pub as_truth : {X : Type 0} → ℕ → Datum → (Bool → Run X) → Run X
as_truth at (Truth b) next m = next b m
as_truth at Null next m = Fault Member at m
as_truth at (Whole z) next m = Fault Member at m
as_truth at (Array ds) next m = Fault Member at m
as_truth at (Record fs) next m = Fault Member at m

abbrev pub as_items : {X : Type 0} → ℕ → Datum → (Data → Run X) → Run X
as_items at (Array ds) next m = next ds m
as_items at Null next m = Fault Member at m
as_items at (Truth b) next m = Fault Member at m
as_items at (Whole z) next m = Fault Member at m
as_items at (Record fs) next m = Fault Member at m

abbrev pub as_fields : {X : Type 0} → ℕ → Datum → (Fields → Run X) → Run X
as_fields at (Record fs) next m = next fs m
as_fields at Null next m = Fault Member at m
as_fields at (Truth b) next m = Fault Member at m
as_fields at (Whole z) next m = Fault Member at m
as_fields at (Array ds) next m = Fault Member at m

-- what must be there, else it is a fault of kind member
abbrev pub needed : {X Y : Type 0} → ℕ → Option X → (X → Run Y) → Run Y
needed at None next m = Fault Member at m
needed at (Some x) next m = next x m

-- ---- operators

-- the number, which must be an `int`
abbrev pub in_range : ℕ → ℤ → Run Datum
in_range at z = check (is_int z) Range at (Done (Whole z))

abbrev pub negated : ℕ → Datum → Run Datum
negated at v = as_number at v (λ x. in_range at (neg_ℤ x))

abbrev pub denied : ℕ → Datum → Run Datum
denied at v = as_truth at v (λ b. Done (Truth (not b)))

abbrev pub length_result : ℕ → Datum → Run Datum
length_result at v = as_items at v (λ ds. Done (Whole (pos (length_of ds))))

abbrev pub numbers : {X : Type 0} → ℕ → Datum → Datum → (ℤ → ℤ → Run X) → Run X
numbers at v w next = as_number at v (λ x. as_number at w (λ y. next x y))

-- the operator on two operands that both were evaluated
abbrev pub applied : Op → ℕ → Datum → Datum → Run Datum
applied Add at v w = numbers at v w (λ x y. in_range at (x +ℤ y))
applied Sub at v w = numbers at v w (λ x y. in_range at (x -ℤ y))
applied Mul at v w = numbers at v w (λ x y. in_range at (x *ℤ y))
applied Div at v w = numbers at v w (λ x y. check (not (same_number y (pos 0))) Divisor at (in_range at (int_div_euclid x y)))
applied Mod at v w = numbers at v w (λ x y. check (not (same_number y (pos 0))) Divisor at (Done (Whole (int_rem_euclid x y))))
applied Equal at v w = Done (Truth (same v w))
applied Less at v w = numbers at v w (λ x y. Done (Truth (int_lt x y)))
applied LessEqual at v w = numbers at v w (λ x y. Done (Truth (int_le x y)))
applied Greater at v w = numbers at v w (λ x y. Done (Truth (int_lt y x)))
applied GreaterEqual at v w = numbers at v w (λ x y. Done (Truth (int_le y x)))
applied And at v w = as_truth at w (λ b. Done (Truth b))
applied Or at v w = as_truth at w (λ b. Done (Truth b))

-- the second operand, and then the operator
abbrev pub second : Op → ℕ → Run Datum → Datum → Run Datum
second op at right v m = right m >>= (λ w k. applied op at v w k)

-- the operator on its first operand: `&&` and `||` may leave the second out
abbrev pub operated : Op → ℕ → Run Datum → Datum → Run Datum
operated And at right v = as_truth at v (λ b. choose b (second And at right v) (Done (Truth false)))
operated Or at right v = as_truth at v (λ b. choose b (Done (Truth true)) (second Or at right v))
operated Add at right v = second Add at right v
operated Sub at right v = second Sub at right v
operated Mul at right v = second Mul at right v
operated Div at right v = second Div at right v
operated Mod at right v = second Mod at right v
operated Equal at right v = second Equal at right v
operated Less at right v = second Less at right v
operated LessEqual at right v = second LessEqual at right v
operated Greater at right v = second Greater at right v
operated GreaterEqual at right v = second GreaterEqual at right v

-- the item of an array at an index
abbrev pub indexed : {X : Type 0} → ℕ → Datum → Datum → (Data → ℕ → Run X) → Run X
indexed at v w next = as_items at v (λ ds. as_number at w (λ i. check (is_index i ds) Index at (next ds (nat_of i))))

abbrev pub item_of : ℕ → Datum → Datum → Run Datum
item_of at v w = indexed at v w (λ ds i. Done (item_at ds i))

-- the datum of a record's field
abbrev pub field_of : ℕ → Datum → List ℕ → Run Datum
field_of at v name = as_fields at v (λ fs. needed at (find fs name) Done)

-- an array of copies
abbrev pub repeated : ℕ → Datum → Datum → Run Datum
repeated at v w = as_number at w (λ n. check (int_le (pos 0) n) Length at (check (int_le n (pos longest)) Length at (Done (Array (copies (nat_of n) v)))))

-- ---- updates

-- a part of a datum
pub data Slot : Type 0 where
  ItemSlot : (i : ℕ) → Slot
  FieldSlot : (name : List ℕ) → Slot

abbrev pub or_null : Option Datum → Datum
or_null None = Null
or_null (Some d) = d

abbrev pub part_at : Slot → Datum → Datum
part_at (ItemSlot i) (Array ds) = item_at ds i
part_at (ItemSlot i) Null = Null
part_at (ItemSlot i) (Truth b) = Null
part_at (ItemSlot i) (Whole z) = Null
part_at (ItemSlot i) (Record fs) = Null
part_at (FieldSlot name) (Record fs) = or_null (find fs name)
part_at (FieldSlot name) Null = Null
part_at (FieldSlot name) (Truth b) = Null
part_at (FieldSlot name) (Whole z) = Null
part_at (FieldSlot name) (Array ds) = Null

-- the datum with this in the place of that part
abbrev pub with_part : Slot → Datum → Datum → Datum
with_part (ItemSlot i) (Array ds) v = Array (set_item ds i v)
with_part (ItemSlot i) Null v = Null
with_part (ItemSlot i) (Truth b) v = Truth b
with_part (ItemSlot i) (Whole z) v = Whole z
with_part (ItemSlot i) (Record fs) v = Record fs
with_part (FieldSlot name) (Record fs) v = Record (set_field fs name v)
with_part (FieldSlot name) Null v = Null
with_part (FieldSlot name) (Truth b) v = Truth b
with_part (FieldSlot name) (Whole z) v = Whole z
with_part (FieldSlot name) (Array ds) v = Array ds

-- the datum with this at the end of that path
abbrev pub updated : Datum → List Slot → Datum → Datum
updated d [] v = v
updated d (slot ∷ slots) v = with_part slot d (updated (part_at slot d) slots v)
