-- What is done with data keeps each relation of runs.
use Rattle.std.proofs.Common.{ℕ, zero, suc, List, Bool, true, false, ℤ, pos}
use Rattle.std.specs.Prelude.{Option, Some, None, ◌+ℤ◌, ◌-ℤ◌, ◌*ℤ◌, neg_ℤ, not, int_le}
use Rattle.std.specs.Int.{int_div_euclid}
use Rattle.wy_term.specs.wy_value.Datum.{Datum, Null, Truth, Whole, Array, Record, Data, Fields}
use Rattle.wy_types.specs.wy_core.declared.expressions.Op.{Op}
use Rattle.wy_types.specs.wy_core.declared.expressions.Op.TheVariants.{Add, Sub, Mul, Div, Mod, Equal, Less, LessEqual, Greater, GreaterEqual, And, Or}
use Rattle.wy_term.specs.declared.cond.CondKind.{CondKind}
use Rattle.wy_term.specs.declared.cond.CondKind.TheVariants.{Range, Divisor, Index, Length, Member}
use Rattle.wy_sem.specs.Meter.{Run, check, choose}
use Rattle.wy_term.specs.wy_value.Numbers.{is_int}
use Rattle.wy_sem.specs.Operations.{same_number, is_index, nat_of, item_at, find, as_number, as_truth, as_items, as_fields, needed, in_range, negated, denied, length_result, numbers, applied, second, operated, indexed, item_of, field_of, repeated, agrees}
use Rattle.wy_sem.specs.Expressions.{each, quantified, span}
use Rattle.wy_sem.specs.Relation.{Relation}

module _ (q : Relation) where
  pub choose-kept : (X : Type 0) (b : Bool) (f g h k : Run X) → q.Rel X f h → q.Rel X g k → q.Rel X (choose b f g) (choose b h k)
  choose-kept X true f g h k p r = p
  choose-kept X false f g h k p r = r

  pub check-kept : (X : Type 0) (b : Bool) (kind : CondKind) (at : ℕ) (f g : Run X) → q.Rel X f g → q.Rel X (check b kind at f) (check b kind at g)
  check-kept X true kind at f g p = p
  check-kept X false kind at f g p = q.fault X kind at

  pub number-kept : (X : Type 0) (at : ℕ) (v : Datum) (f g : ℤ → Run X) → ((z : ℤ) → q.Rel X (f z) (g z)) → q.Rel X (as_number at v f) (as_number at v g)
  number-kept X at (Whole z) f g p = p z
  number-kept X at Null f g p = q.fault X Member at
  number-kept X at (Truth b) f g p = q.fault X Member at
  number-kept X at (Array ds) f g p = q.fault X Member at
  number-kept X at (Record fs) f g p = q.fault X Member at

  pub truth-kept : (X : Type 0) (at : ℕ) (v : Datum) (f g : Bool → Run X) → ((b : Bool) → q.Rel X (f b) (g b)) → q.Rel X (as_truth at v f) (as_truth at v g)
  truth-kept X at (Truth b) f g p = p b
  truth-kept X at Null f g p = q.fault X Member at
  truth-kept X at (Whole z) f g p = q.fault X Member at
  truth-kept X at (Array ds) f g p = q.fault X Member at
  truth-kept X at (Record fs) f g p = q.fault X Member at

  pub items-kept : (X : Type 0) (at : ℕ) (v : Datum) (f g : Data → Run X) → ((ds : Data) → q.Rel X (f ds) (g ds)) → q.Rel X (as_items at v f) (as_items at v g)
  items-kept X at (Array ds) f g p = p ds
  items-kept X at Null f g p = q.fault X Member at
  items-kept X at (Truth b) f g p = q.fault X Member at
  items-kept X at (Whole z) f g p = q.fault X Member at
  items-kept X at (Record fs) f g p = q.fault X Member at

  pub fields-kept : (X : Type 0) (at : ℕ) (v : Datum) (f g : Fields → Run X) → ((fs : Fields) → q.Rel X (f fs) (g fs)) → q.Rel X (as_fields at v f) (as_fields at v g)
  fields-kept X at (Record fs) f g p = p fs
  fields-kept X at Null f g p = q.fault X Member at
  fields-kept X at (Truth b) f g p = q.fault X Member at
  fields-kept X at (Whole z) f g p = q.fault X Member at
  fields-kept X at (Array ds) f g p = q.fault X Member at

  pub needed-kept : (X Y : Type 0) (at : ℕ) (o : Option X) (f g : X → Run Y) → ((x : X) → q.Rel Y (f x) (g x)) → q.Rel Y (needed at o f) (needed at o g)
  needed-kept X Y at None f g p = q.fault Y Member at
  needed-kept X Y at (Some x) f g p = p x

  numbers-kept : (X : Type 0) (at : ℕ) (v w : Datum) (f g : ℤ → ℤ → Run X) → ((x y : ℤ) → q.Rel X (f x y) (g x y)) → q.Rel X (numbers at v w f) (numbers at v w g)
  numbers-kept X at v w f g p = number-kept X at v _ _ (λ x. number-kept X at w _ _ (λ y. p x y))

  in_range-kept : (at : ℕ) (z : ℤ) → q.Rel Datum (in_range at z) (in_range at z)
  in_range-kept at z = check-kept Datum (is_int z) Range at _ _ (q.done Datum (Whole z))

  pub negated-kept : (at : ℕ) (v : Datum) → q.Rel Datum (negated at v) (negated at v)
  negated-kept at v = number-kept Datum at v _ _ (λ x. in_range-kept at (neg_ℤ x))

  pub denied-kept : (at : ℕ) (v : Datum) → q.Rel Datum (denied at v) (denied at v)
  denied-kept at v = truth-kept Datum at v _ _ (λ b. q.done Datum (Truth (not b)))

  pub length-kept : (at : ℕ) (v : Datum) → q.Rel Datum (length_result at v) (length_result at v)
  length-kept at v = items-kept Datum at v _ _ (λ ds. q.done Datum _)

  applied-kept : (op : Op) (at : ℕ) (v w : Datum) → q.Rel Datum (applied op at v w) (applied op at v w)
  applied-kept Add at v w = numbers-kept Datum at v w _ _ (λ x y. in_range-kept at (x +ℤ y))
  applied-kept Sub at v w = numbers-kept Datum at v w _ _ (λ x y. in_range-kept at (x -ℤ y))
  applied-kept Mul at v w = numbers-kept Datum at v w _ _ (λ x y. in_range-kept at (x *ℤ y))
  applied-kept Div at v w = numbers-kept Datum at v w _ _ (λ x y. check-kept Datum (not (same_number y (pos 0))) Divisor at _ _ (in_range-kept at (int_div_euclid x y)))
  applied-kept Mod at v w = numbers-kept Datum at v w _ _ (λ x y. check-kept Datum (not (same_number y (pos 0))) Divisor at _ _ (q.done Datum _))
  applied-kept Equal at v w = q.done Datum _
  applied-kept Less at v w = numbers-kept Datum at v w _ _ (λ x y. q.done Datum _)
  applied-kept LessEqual at v w = numbers-kept Datum at v w _ _ (λ x y. q.done Datum _)
  applied-kept Greater at v w = numbers-kept Datum at v w _ _ (λ x y. q.done Datum _)
  applied-kept GreaterEqual at v w = numbers-kept Datum at v w _ _ (λ x y. q.done Datum _)
  applied-kept And at v w = truth-kept Datum at w _ _ (λ b. q.done Datum (Truth b))
  applied-kept Or at v w = truth-kept Datum at w _ _ (λ b. q.done Datum (Truth b))

  second-kept : (op : Op) (at : ℕ) (f g : Run Datum) (v : Datum) → q.Rel Datum f g → q.Rel Datum (second op at f v) (second op at g v)
  second-kept op at f g v p = q.bind Datum Datum f g _ _ p (λ w. applied-kept op at v w)

  pub operated-kept : (op : Op) (at : ℕ) (f g : Run Datum) (v : Datum) → q.Rel Datum f g → q.Rel Datum (operated op at f v) (operated op at g v)
  operated-kept And at f g v p = truth-kept Datum at v _ _ (λ b. choose-kept Datum b _ _ _ _ (second-kept And at f g v p) (q.done Datum (Truth false)))
  operated-kept Or at f g v p = truth-kept Datum at v _ _ (λ b. choose-kept Datum b _ _ _ _ (q.done Datum (Truth true)) (second-kept Or at f g v p))
  operated-kept Add at f g v p = second-kept Add at f g v p
  operated-kept Sub at f g v p = second-kept Sub at f g v p
  operated-kept Mul at f g v p = second-kept Mul at f g v p
  operated-kept Div at f g v p = second-kept Div at f g v p
  operated-kept Mod at f g v p = second-kept Mod at f g v p
  operated-kept Equal at f g v p = second-kept Equal at f g v p
  operated-kept Less at f g v p = second-kept Less at f g v p
  operated-kept LessEqual at f g v p = second-kept LessEqual at f g v p
  operated-kept Greater at f g v p = second-kept Greater at f g v p
  operated-kept GreaterEqual at f g v p = second-kept GreaterEqual at f g v p

  pub indexed-kept : (X : Type 0) (at : ℕ) (v w : Datum) (f g : Data → ℕ → Run X) → ((ds : Data) (i : ℕ) → q.Rel X (f ds i) (g ds i)) → q.Rel X (indexed at v w f) (indexed at v w g)
  indexed-kept X at v w f g p = items-kept X at v _ _ (λ ds. number-kept X at w _ _ (λ i. check-kept X (is_index i ds) Index at _ _ (p ds (nat_of i))))

  pub item-kept : (at : ℕ) (v w : Datum) → q.Rel Datum (item_of at v w) (item_of at v w)
  item-kept at v w = indexed-kept Datum at v w _ _ (λ ds i. q.done Datum (item_at ds i))

  pub field-kept : (at : ℕ) (v : Datum) (name : List ℕ) → q.Rel Datum (field_of at v name) (field_of at v name)
  field-kept at v name = fields-kept Datum at v _ _ (λ fs. needed-kept Datum Datum at (find fs name) _ _ (λ d. q.done Datum d))

  pub repeated-kept : (at : ℕ) (v w : Datum) → q.Rel Datum (repeated at v w) (repeated at v w)
  repeated-kept at v w = number-kept Datum at w _ _ (λ n. check-kept Datum (int_le (pos 0) n) Length at _ _ (check-kept Datum _ Length at _ _ (q.done Datum _)))

  each-kept : (all : Bool) (at : ℕ) (f g : ℤ → Run Datum) → ((i : ℤ) → q.Rel Datum (f i) (g i)) → (i : ℤ) (j : ℕ) → q.Rel Datum (each all at f i j) (each all at g i j)
  each-kept all at f g p i zero = q.done Datum (Truth all)
  each-kept all at f g p i (suc j) = q.bind Datum Datum (f i) (g i) _ _ (p i) (λ v. truth-kept Datum at v _ _ (λ b. choose-kept Datum (agrees all b) _ _ _ _ (each-kept all at f g p (i +ℤ pos 1) j) (q.done Datum (Truth b))))

  pub quantified-kept : (all : Bool) (at : ℕ) (f g : ℤ → Run Datum) (v w : Datum) → ((i : ℤ) → q.Rel Datum (f i) (g i)) → q.Rel Datum (quantified all at f v w) (quantified all at g v w)
  quantified-kept all at f g v w p = numbers-kept Datum at v w _ _ (λ x y. each-kept all at f g p x (span x y))
