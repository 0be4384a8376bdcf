-- What is done with data ends.
use Rattle.std.proofs.Common.{ℕ, zero, suc, List, Bool, true, false, ℤ, pos}
use Rattle.std.specs.Prelude.{Option, Some, None, ◌+ℤ◌, ◌-ℤ◌, ◌*ℤ◌, neg_ℤ, not, int_le}
use Rattle.std.specs.Int.{int_div_euclid}
use Rattle.wy_sem.specs.wy_value.Datum.{Datum, Null, Truth, Whole, Array, Record, Data, Fields}
use Rattle.wy_sem.specs.wy_value.Numbers.{is_int}
use Rattle.wy_sem.specs.wy_core.declared.expressions.Op.{Op}
use Rattle.wy_sem.specs.wy_core.declared.expressions.Op.TheVariants.{Add, Sub, Mul, Div, Mod, Equal, Less, LessEqual, Greater, GreaterEqual, And, Or}
use Rattle.wy_sem.specs.wy_term.declared.cond.CondKind.{CondKind}
use Rattle.wy_sem.specs.wy_term.declared.cond.CondKind.TheVariants.{Range, Divisor, Index, Length, Member}
use Rattle.wy_sem.specs.Meter.{Run, check, choose}
use Rattle.wy_sem.specs.Operations.{same_number, is_index, nat_of, item_at, find, as_number, as_truth, as_items, as_fields, needed, in_range, negated, denied, length_result, numbers, applied, second, operated, item_of, field_of, repeated, agrees}
use Rattle.wy_sem.specs.Expressions.{each, quantified, span}
use Rattle.wy_vc_spec.proofs.answered_lemmas.Ends.{Ends, done, faulted, bind}

pub choose-ends : (X : Type 0) (b : Bool) (f g : Run X) → Ends X f → Ends X g → Ends X (choose b f g)
choose-ends X true f g p r = p
choose-ends X false f g p r = r

check-ends : (X : Type 0) (b : Bool) (kind : CondKind) (at : ℕ) (f : Run X) → Ends X f → Ends X (check b kind at f)
check-ends X true kind at f p = p
check-ends X false kind at f p = faulted X kind at

number-ends : (X : Type 0) (at : ℕ) (v : Datum) (f : ℤ → Run X) → ((z : ℤ) → Ends X (f z)) → Ends X (as_number at v f)
number-ends X at (Whole z) f p = p z
number-ends X at Null f p = faulted X Member at
number-ends X at (Truth b) f p = faulted X Member at
number-ends X at (Array ds) f p = faulted X Member at
number-ends X at (Record fs) f p = faulted X Member at

pub truth-ends : (X : Type 0) (at : ℕ) (v : Datum) (f : Bool → Run X) → ((b : Bool) → Ends X (f b)) → Ends X (as_truth at v f)
truth-ends X at (Truth b) f p = p b
truth-ends X at Null f p = faulted X Member at
truth-ends X at (Whole z) f p = faulted X Member at
truth-ends X at (Array ds) f p = faulted X Member at
truth-ends X at (Record fs) f p = faulted X Member at

items-end : (X : Type 0) (at : ℕ) (v : Datum) (f : Data → Run X) → ((ds : Data) → Ends X (f ds)) → Ends X (as_items at v f)
items-end X at (Array ds) f p = p ds
items-end X at Null f p = faulted X Member at
items-end X at (Truth b) f p = faulted X Member at
items-end X at (Whole z) f p = faulted X Member at
items-end X at (Record fs) f p = faulted X Member at

fields-end : (X : Type 0) (at : ℕ) (v : Datum) (f : Fields → Run X) → ((fs : Fields) → Ends X (f fs)) → Ends X (as_fields at v f)
fields-end X at (Record fs) f p = p fs
fields-end X at Null f p = faulted X Member at
fields-end X at (Truth b) f p = faulted X Member at
fields-end X at (Whole z) f p = faulted X Member at
fields-end X at (Array ds) f p = faulted X Member at

pub needed-ends : (X Y : Type 0) (at : ℕ) (o : Option X) (f : X → Run Y) → ((x : X) → Ends Y (f x)) → Ends Y (needed at o f)
needed-ends X Y at None f p = faulted Y Member at
needed-ends X Y at (Some x) f p = p x

numbers-end : (X : Type 0) (at : ℕ) (v w : Datum) (f : ℤ → ℤ → Run X) → ((x y : ℤ) → Ends X (f x y)) → Ends X (numbers at v w f)
numbers-end X at v w f p = number-ends X at v _ (λ x. number-ends X at w _ (λ y. p x y))

in_range-ends : (at : ℕ) (z : ℤ) → Ends Datum (in_range at z)
in_range-ends at z = check-ends Datum (is_int z) Range at _ (done Datum (Whole z))

pub negated-ends : (at : ℕ) (v : Datum) → Ends Datum (negated at v)
negated-ends at v = number-ends Datum at v _ (λ x. in_range-ends at (neg_ℤ x))

pub denied-ends : (at : ℕ) (v : Datum) → Ends Datum (denied at v)
denied-ends at v = truth-ends Datum at v _ (λ b. done Datum (Truth (not b)))

pub length-ends : (at : ℕ) (v : Datum) → Ends Datum (length_result at v)
length-ends at v = items-end Datum at v _ (λ ds. done Datum _)

applied-ends : (op : Op) (at : ℕ) (v w : Datum) → Ends Datum (applied op at v w)
applied-ends Add at v w = numbers-end Datum at v w _ (λ x y. in_range-ends at (x +ℤ y))
applied-ends Sub at v w = numbers-end Datum at v w _ (λ x y. in_range-ends at (x -ℤ y))
applied-ends Mul at v w = numbers-end Datum at v w _ (λ x y. in_range-ends at (x *ℤ y))
applied-ends Div at v w = numbers-end Datum at v w _ (λ x y. check-ends Datum (not (same_number y (pos 0))) Divisor at _ (in_range-ends at (int_div_euclid x y)))
applied-ends Mod at v w = numbers-end Datum at v w _ (λ x y. check-ends Datum (not (same_number y (pos 0))) Divisor at _ (done Datum _))
applied-ends Equal at v w = done Datum _
applied-ends Less at v w = numbers-end Datum at v w _ (λ x y. done Datum _)
applied-ends LessEqual at v w = numbers-end Datum at v w _ (λ x y. done Datum _)
applied-ends Greater at v w = numbers-end Datum at v w _ (λ x y. done Datum _)
applied-ends GreaterEqual at v w = numbers-end Datum at v w _ (λ x y. done Datum _)
applied-ends And at v w = truth-ends Datum at w _ (λ b. done Datum (Truth b))
applied-ends Or at v w = truth-ends Datum at w _ (λ b. done Datum (Truth b))

second-ends : (op : Op) (at : ℕ) (f : Run Datum) (v : Datum) → Ends Datum f → Ends Datum (second op at f v)
second-ends op at f v p = bind Datum Datum f _ p (λ w. applied-ends op at v w)

pub operated-ends : (op : Op) (at : ℕ) (f : Run Datum) (v : Datum) → Ends Datum f → Ends Datum (operated op at f v)
operated-ends And at f v p = truth-ends Datum at v _ (λ b. choose-ends Datum b _ _ (second-ends And at f v p) (done Datum (Truth false)))
operated-ends Or at f v p = truth-ends Datum at v _ (λ b. choose-ends Datum b _ _ (done Datum (Truth true)) (second-ends Or at f v p))
operated-ends Add at f v p = second-ends Add at f v p
operated-ends Sub at f v p = second-ends Sub at f v p
operated-ends Mul at f v p = second-ends Mul at f v p
operated-ends Div at f v p = second-ends Div at f v p
operated-ends Mod at f v p = second-ends Mod at f v p
operated-ends Equal at f v p = second-ends Equal at f v p
operated-ends Less at f v p = second-ends Less at f v p
operated-ends LessEqual at f v p = second-ends LessEqual at f v p
operated-ends Greater at f v p = second-ends Greater at f v p
operated-ends GreaterEqual at f v p = second-ends GreaterEqual at f v p

pub item-ends : (at : ℕ) (v w : Datum) → Ends Datum (item_of at v w)
item-ends at v w = items-end Datum at v _ (λ ds. number-ends Datum at w _ (λ i. check-ends Datum (is_index i ds) Index at _ (done Datum (item_at ds (nat_of i)))))

pub field-ends : (at : ℕ) (v : Datum) (name : List ℕ) → Ends Datum (field_of at v name)
field-ends at v name = fields-end Datum at v _ (λ fs. needed-ends Datum Datum at (find fs name) _ (λ d. done Datum d))

pub repeated-ends : (at : ℕ) (v w : Datum) → Ends Datum (repeated at v w)
repeated-ends at v w = number-ends Datum at w _ (λ n. check-ends Datum (int_le (pos 0) n) Length at _ (check-ends Datum _ Length at _ (done Datum _)))

each-ends : (all : Bool) (at : ℕ) (f : ℤ → Run Datum) → ((i : ℤ) → Ends Datum (f i)) → (i : ℤ) (j : ℕ) → Ends Datum (each all at f i j)
each-ends all at f p i zero = done Datum (Truth all)
each-ends all at f p i (suc j) = bind Datum Datum (f i) _ (p i) (λ v. truth-ends Datum at v _ (λ b. choose-ends Datum (agrees all b) _ _ (each-ends all at f p (i +ℤ pos 1) j) (done Datum (Truth b))))

pub quantified-ends : (all : Bool) (at : ℕ) (f : ℤ → Run Datum) (v w : Datum) → ((i : ℤ) → Ends Datum (f i)) → Ends Datum (quantified all at f v w)
quantified-ends all at f v w p = numbers-end Datum at v w _ (λ x y. each-ends all at f p x (span x y))
