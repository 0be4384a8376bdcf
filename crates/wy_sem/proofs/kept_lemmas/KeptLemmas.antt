-- Expressions give values where their variables hold values.
use Rattle.std.proofs.Common.{◌≡◌, ◌<◌, ◌≤◌, ℕ, zero, suc, ◌+◌, ◌-◌, List, [], ◌∷◌, length, Bool, true, false, Option, Some, None, ℤ, pos, negsuc, refl, ◌∙◌, ap, subst, arith}
use Rattle.std.specs.Prelude.{◌%◌, ◌+ℤ◌, ◌-ℤ◌, ◌*ℤ◌, neg_ℤ, not, int_le, int_lt, unsigned_abs, bytes_eq}
use Rattle.std.specs.Int.{int_div_euclid, int_rem_euclid}
use Rattle.std.proofs.lemmas.Int.{ints}
use Rattle.std.proofs.lemmas.Nat.{mod_below}
use Rattle.std.proofs.lemmas.Bool.{leb-true}
use Rattle.wy_term.proofs.wy_lemmas_proofs.Choices.{and-left as left_of, and-right as right_of, both_true}
use Rattle.wy_term.specs.wy_value.Seen.{data_of}
use Rattle.wy_term.specs.wy_value.declared.bounds.TheConstants.{INT_MIN, INT_MAX}
use Rattle.wy_term.specs.wy_value.Datum.{Datum, Null, Truth, Whole, Array, Record, Data, no_items, item, Fields, no_fields, field}
use Rattle.wy_term.specs.wy_value.Values.{length_of}
use Rattle.wy_term.specs.wy_value.Numbers.{is_int}
use Rattle.wy_types.specs.wy_core.CoreTree as tree
use Rattle.wy_types.specs.wy_core.CoreTree.{Expr, NullExpr, BoolExpr, IntExpr, VarExpr, CallExpr, NegExpr, NotExpr, LenExpr, BinaryExpr, IsExpr, IndexExpr, FieldExpr, ListExpr, RepeatExpr, RecordExpr, QuantExpr, Exprs, NoExprs, MoreExprs, NoFields, MoreFields}
use Rattle.wy_types.specs.wy_core.declared.expressions.Op.{Op}
use Rattle.wy_types.specs.wy_core.declared.expressions.Op.TheVariants as op
use Rattle.wy_types.specs.wy_core.formed.Literals.{IsInt, IntsExpr, IntsExprs, IntsFields}
use Rattle.wy_types.specs.wy_core.formed.Sizes.{size, sizes, field_sizes, size_ty}
use Rattle.wy_term.specs.declared.cond.CondKind.{CondKind}
use Rattle.wy_term.specs.declared.cond.CondKind.TheVariants as kind
use Rattle.wy_sem.specs.Meter.{Meter, Outcome, Done, Fault, More, Spent, Run, ◌>>=◌, tick, spend, count, turn, check, choose}
use Rattle.wy_sem.specs.Operations.{longest, nat_of, agrees, same_number, item_at, found_field, find, copies, is_index, as_number, as_truth, as_items, as_fields, needed, in_range, negated, denied, length_result, applied, second, operated, item_of, field_of, repeated}
use Rattle.wy_sem.specs.Expressions.{Store, slot, put, Setting, span, each, quantified, eval, eval_all, eval_fields}
use Rattle.wy_sem.specs.kept.Kept.{IsProper, AllProper, FieldsProper, SlotProper, StoreProper, ListProper, Gives, CallsGive, ExpressionsGiveValues}

-- ---- outcomes

gives_bind : {X Y : Type 0} (P : X → Type 0) (Q : Y → Type 0) (o : Outcome X) (f : X → Run Y) → Gives P o → ((x : X) (k : Meter) → P x → Gives Q (f x k)) → Gives Q (o >>= f)
gives_bind P Q (Done x k) f h g = g x k h
gives_bind P Q (Fault kind at k) f h g = tt
gives_bind P Q (More k) f h g = tt
gives_bind P Q Spent f h g = tt

gives_tick : {X : Type 0} (P : X → Type 0) (t : ℕ) (next : Run X) (m : Meter) → ((k : Meter) → Gives P (next k)) → Gives P (tick t next m)
gives_tick P zero next m h = tt
gives_tick P (suc t) next m h = h (record m { ticks = t })

gives_spend : {X : Type 0} (P : X → Type 0) (paid : Bool) (next : Run X) (m : Meter) → ((k : Meter) → Gives P (next k)) → Gives P (spend paid next m)
gives_spend P true next m h = gives_tick P m.ticks next m h
gives_spend P false next m h = h m

gives_number : {X : Type 0} (P : X → Type 0) (at : ℕ) (v : Datum) (f : ℤ → Run X) (m : Meter) → ((z : ℤ) → v ≡ Whole z → Gives P (f z m)) → Gives P (as_number at v f m)
gives_number P at (Whole z) f m h = h z refl
gives_number P at Null f m h = tt
gives_number P at (Truth b) f m h = tt
gives_number P at (Array ds) f m h = tt
gives_number P at (Record fs) f m h = tt

gives_truth : {X : Type 0} (P : X → Type 0) (at : ℕ) (v : Datum) (f : Bool → Run X) (m : Meter) → ((b : Bool) → Gives P (f b m)) → Gives P (as_truth at v f m)
gives_truth P at (Truth b) f m h = h b
gives_truth P at Null f m h = tt
gives_truth P at (Whole z) f m h = tt
gives_truth P at (Array ds) f m h = tt
gives_truth P at (Record fs) f m h = tt

gives_items : {X : Type 0} (P : X → Type 0) (at : ℕ) (v : Datum) (f : Data → Run X) (m : Meter) → ((ds : Data) → v ≡ Array ds → Gives P (f ds m)) → Gives P (as_items at v f m)
gives_items P at (Array ds) f m h = h ds refl
gives_items P at Null f m h = tt
gives_items P at (Truth b) f m h = tt
gives_items P at (Whole z) f m h = tt
gives_items P at (Record fs) f m h = tt

gives_fields : {X : Type 0} (P : X → Type 0) (at : ℕ) (v : Datum) (f : Fields → Run X) (m : Meter) → ((fs : Fields) → v ≡ Record fs → Gives P (f fs m)) → Gives P (as_fields at v f m)
gives_fields P at (Record fs) f m h = h fs refl
gives_fields P at Null f m h = tt
gives_fields P at (Truth b) f m h = tt
gives_fields P at (Whole z) f m h = tt
gives_fields P at (Array ds) f m h = tt

gives_needed : {X Y : Type 0} (P : Y → Type 0) (at : ℕ) (o : Option X) (f : X → Run Y) (m : Meter) → ((x : X) → o ≡ Some x → Gives P (f x m)) → Gives P (needed at o f m)
gives_needed P at None f m h = tt
gives_needed P at (Some x) f m h = h x refl

gives_check : {X : Type 0} (P : X → Type 0) (b : Bool) (kind : CondKind) (at : ℕ) (f : Run X) (m : Meter) → (b ≡ true → Gives P (f m)) → Gives P (check b kind at f m)
gives_check P true kind at f m h = h refl
gives_check P false kind at f m h = tt

-- ---- numbers

is_literal : (z : ℤ) → IsInt z → is_int z ≡ true
is_literal z h = both_true (int_le INT_MIN z) (int_le z INT_MAX) (grind (arith, ints, h.least)) (grind (arith, ints, h.greatest))

-- a count that isn't above the greatest `int`
small_count : (n : ℕ) → n ≤ 39614081257132168796771975167 → is_int (pos n) ≡ true
small_count n h = both_true (int_le INT_MIN (pos n)) (int_le (pos n) INT_MAX) (grind (arith, ints)) (grind (arith, ints, h))

length_int : (n : ℕ) → n ≤ longest → is_int (pos n) ≡ true
unfolding longest
length_int n h = small_count n (omega (arith, h))

abs_small : (z : ℤ) → is_int z ≡ true → unsigned_abs z ≤ 39614081257132168796771975168
abs_small (pos n) h = let l = leb-true n 39614081257132168796771975167 (right_of (int_le INT_MIN (pos n)) (int_le (pos n) INT_MAX) h) in omega (arith, l)
abs_small (negsuc n) h = let l = leb-true n 39614081257132168796771975167 (left_of (int_le INT_MIN (negsuc n)) (int_le (negsuc n) INT_MAX) h) in omega (arith, l)

rest_below : (x y : ℤ) → 0 < unsigned_abs y → (n : ℕ) × (int_rem_euclid x y ≡ pos n) × (n < unsigned_abs y)
rest_below (pos a) y some = (a % unsigned_abs y, refl, mod_below a (unsigned_abs y) some)
rest_below (negsuc a) y some = let l = mod_below a (unsigned_abs y) some in (unsigned_abs y - 1 - a % unsigned_abs y, refl, omega (arith, l, some))

nonzero : (y : ℤ) → not (same_number y (pos 0)) ≡ true → 0 < unsigned_abs y
nonzero (pos zero) h = absurd (let e : false ≡ true = h in cc)
nonzero (pos (suc n)) h = omega arith
nonzero (negsuc n) h = omega arith

rest_int : (x y : ℤ) → is_int y ≡ true → not (same_number y (pos 0)) ≡ true → is_int (int_rem_euclid x y) ≡ true
rest_int x y h other =
    let r = rest_below x y (nonzero y other) in
    let a = abs_small y h in
    ap (λ (z : ℤ). is_int z) r.1 ∙ small_count r.0 (let l = r.2 in omega (arith, l, a))

-- ---- parts

pub item_proper : (ds : Data) (i : ℕ) → AllProper ds → IsProper (item_at ds i)
item_proper no_items i h = tt
item_proper (item d ds) zero h = h.0
item_proper (item d ds) (suc i) h = item_proper ds i h.1

some_same : (d v : Datum) → Some d ≡ Some v → d ≡ v
some_same d v e = cc

find_proper : (fs : Fields) (name : List ℕ) (v : Datum) → FieldsProper fs → find fs name ≡ Some v → IsProper v
find_proper no_fields name v h e = absurd cc
find_proper (field n d fs) name v h e = by (bytes_eq n name) e (λ g. find_proper fs name v h.1 g)
  where
    by : (b : Bool) → found_field b d (find fs name) ≡ Some v → (find fs name ≡ Some v → IsProper v) → IsProper v
    by true e f = subst (λ (x : Datum). IsProper x) (some_same d v e) h.0
    by false e f = f e

copies_proper : (n : ℕ) (v : Datum) → IsProper v → AllProper (copies n v)
copies_proper zero v h = tt
copies_proper (suc n) v h = (h, copies_proper n v h)

copies_many : (n : ℕ) (v : Datum) → length_of (copies n v) ≡ n
copies_many zero v = refl
copies_many (suc n) v = let h = copies_many n v in omega (arith, h)

pub data_proper : (vs : List Datum) → ListProper vs → AllProper (data_of vs)
data_proper [] h = tt
data_proper (v ∷ vs) h = (h.0, data_proper vs h.1)

pub data_many : (vs : List Datum) → length_of (data_of vs) ≡ length vs
data_many [] = refl
data_many (v ∷ vs) = let h = data_many vs in omega (arith, h)

slot_proper : (s : Store) (x : ℕ) → StoreProper s → SlotProper (slot s x)
slot_proper [] x h = tt
slot_proper (v ∷ s) zero h = h.0
slot_proper (v ∷ s) (suc x) h = slot_proper s x h.1

array_of : (d : Datum) (ds : Data) → d ≡ Array ds → IsProper d → (length_of ds ≤ longest) × AllProper ds
array_of d ds e h = subst (λ (x : Datum). IsProper x) e h

number_of : (d : Datum) (z : ℤ) → d ≡ Whole z → IsProper d → is_int z ≡ true
number_of d z e h = subst (λ (x : Datum). IsProper x) e h

-- ---- operations

in_range_gives : (at : ℕ) (z : ℤ) (m : Meter) → Gives IsProper (in_range at z m)
in_range_gives at z m = gives_check IsProper (is_int z) kind.Range at (Done (Whole z)) m (λ ok. ok)

applied_gives : (o : Op) (at : ℕ) (v w : Datum) (m : Meter) → IsProper w → Gives IsProper (applied o at v w m)
applied_gives op.Add at v w m h = gives_number IsProper at v (λ x. as_number at w (λ y. in_range at (x +ℤ y))) m (λ x e. gives_number IsProper at w (λ y. in_range at (x +ℤ y)) m (λ y g. in_range_gives at (x +ℤ y) m))
applied_gives op.Sub at v w m h = gives_number IsProper at v (λ x. as_number at w (λ y. in_range at (x -ℤ y))) m (λ x e. gives_number IsProper at w (λ y. in_range at (x -ℤ y)) m (λ y g. in_range_gives at (x -ℤ y) m))
applied_gives op.Mul at v w m h = gives_number IsProper at v (λ x. as_number at w (λ y. in_range at (x *ℤ y))) m (λ x e. gives_number IsProper at w (λ y. in_range at (x *ℤ y)) m (λ y g. in_range_gives at (x *ℤ y) m))
applied_gives op.Div at v w m h = gives_number IsProper at v (λ x. as_number at w (λ y. check (not (same_number y (pos 0))) kind.Divisor at (in_range at (int_div_euclid x y)))) m
    (λ x e. gives_number IsProper at w (λ y. check (not (same_number y (pos 0))) kind.Divisor at (in_range at (int_div_euclid x y))) m
    (λ y g. gives_check IsProper (not (same_number y (pos 0))) kind.Divisor at (in_range at (int_div_euclid x y)) m (λ ok. in_range_gives at (int_div_euclid x y) m)))
applied_gives op.Mod at v w m h = gives_number IsProper at v (λ x. as_number at w (λ y. check (not (same_number y (pos 0))) kind.Divisor at (Done (Whole (int_rem_euclid x y))))) m
    (λ x e. gives_number IsProper at w (λ y. check (not (same_number y (pos 0))) kind.Divisor at (Done (Whole (int_rem_euclid x y)))) m
    (λ y g. gives_check IsProper (not (same_number y (pos 0))) kind.Divisor at (Done (Whole (int_rem_euclid x y))) m (λ ok. rest_int x y (number_of w y g h) ok)))
applied_gives op.Equal at v w m h = tt
applied_gives op.Less at v w m h = gives_number IsProper at v (λ x. as_number at w (λ y. Done (Truth (int_lt x y)))) m (λ x e. gives_number IsProper at w (λ y. Done (Truth (int_lt x y))) m (λ y g. tt))
applied_gives op.LessEqual at v w m h = gives_number IsProper at v (λ x. as_number at w (λ y. Done (Truth (int_le x y)))) m (λ x e. gives_number IsProper at w (λ y. Done (Truth (int_le x y))) m (λ y g. tt))
applied_gives op.Greater at v w m h = gives_number IsProper at v (λ x. as_number at w (λ y. Done (Truth (int_lt y x)))) m (λ x e. gives_number IsProper at w (λ y. Done (Truth (int_lt y x))) m (λ y g. tt))
applied_gives op.GreaterEqual at v w m h = gives_number IsProper at v (λ x. as_number at w (λ y. Done (Truth (int_le y x)))) m (λ x e. gives_number IsProper at w (λ y. Done (Truth (int_le y x))) m (λ y g. tt))
applied_gives op.And at v w m h = gives_truth IsProper at w (λ b. Done (Truth b)) m (λ b. tt)
applied_gives op.Or at v w m h = gives_truth IsProper at w (λ b. Done (Truth b)) m (λ b. tt)

second_gives : (o : Op) (at : ℕ) (right : Run Datum) (v : Datum) (m : Meter) → ((k : Meter) → Gives IsProper (right k)) → Gives IsProper (second o at right v m)
second_gives o at right v m h = gives_bind IsProper IsProper (right m) (λ w k. applied o at v w k) (h m) (λ w k p. applied_gives o at v w k p)

operated_gives : (o : Op) (at : ℕ) (right : Run Datum) (v : Datum) (m : Meter) → ((k : Meter) → Gives IsProper (right k)) → Gives IsProper (operated o at right v m)
operated_gives op.And at right v m h = gives_truth IsProper at v (λ b. choose b (second op.And at right v) (Done (Truth false))) m (λ b. by b)
  where
    by : (b : Bool) → Gives IsProper (choose b (second op.And at right v) (Done (Truth false)) m)
    by true = second_gives op.And at right v m h
    by false = tt
operated_gives op.Or at right v m h = gives_truth IsProper at v (λ b. choose b (Done (Truth true)) (second op.Or at right v)) m (λ b. by b)
  where
    by : (b : Bool) → Gives IsProper (choose b (Done (Truth true)) (second op.Or at right v) m)
    by true = tt
    by false = second_gives op.Or at right v m h
operated_gives op.Add at right v m h = second_gives op.Add at right v m h
operated_gives op.Sub at right v m h = second_gives op.Sub at right v m h
operated_gives op.Mul at right v m h = second_gives op.Mul at right v m h
operated_gives op.Div at right v m h = second_gives op.Div at right v m h
operated_gives op.Mod at right v m h = second_gives op.Mod at right v m h
operated_gives op.Equal at right v m h = second_gives op.Equal at right v m h
operated_gives op.Less at right v m h = second_gives op.Less at right v m h
operated_gives op.LessEqual at right v m h = second_gives op.LessEqual at right v m h
operated_gives op.Greater at right v m h = second_gives op.Greater at right v m h
operated_gives op.GreaterEqual at right v m h = second_gives op.GreaterEqual at right v m h

negated_gives : (at : ℕ) (v : Datum) (m : Meter) → Gives IsProper (negated at v m)
negated_gives at v m = gives_number IsProper at v (λ x. in_range at (neg_ℤ x)) m (λ x e. in_range_gives at (neg_ℤ x) m)

denied_gives : (at : ℕ) (v : Datum) (m : Meter) → Gives IsProper (denied at v m)
denied_gives at v m = gives_truth IsProper at v (λ b. Done (Truth (not b))) m (λ b. tt)

length_gives : (at : ℕ) (v : Datum) (m : Meter) → IsProper v → Gives IsProper (length_result at v m)
length_gives at v m h = gives_items IsProper at v (λ ds. Done (Whole (pos (length_of ds)))) m (λ ds e. length_int (length_of ds) (array_of v ds e h).0)

item_gives : (at : ℕ) (v w : Datum) (m : Meter) → IsProper v → Gives IsProper (item_of at v w m)
item_gives at v w m h = gives_items IsProper at v (λ ds. as_number at w (λ i. check (is_index i ds) kind.Index at (Done (item_at ds (nat_of i))))) m
    (λ ds e. gives_number IsProper at w (λ i. check (is_index i ds) kind.Index at (Done (item_at ds (nat_of i)))) m
    (λ i g. gives_check IsProper (is_index i ds) kind.Index at (Done (item_at ds (nat_of i))) m (λ ok. item_proper ds (nat_of i) (array_of v ds e h).1)))

field_gives : (at : ℕ) (v : Datum) (name : List ℕ) (m : Meter) → IsProper v → Gives IsProper (field_of at v name m)
field_gives at v name m h = gives_fields IsProper at v (λ fs. needed at (find fs name) Done) m
    (λ fs e. gives_needed IsProper at (find fs name) Done m (λ x g. find_proper fs name x (subst (λ (d : Datum). IsProper d) e h) g))

repeated_gives : (at : ℕ) (v w : Datum) (m : Meter) → IsProper v → Gives IsProper (repeated at v w m)
repeated_gives at v w m h = gives_number IsProper at w (λ n. check (int_le (pos 0) n) kind.Length at (check (int_le n (pos longest)) kind.Length at (Done (Array (copies (nat_of n) v))))) m
    (λ n e. gives_check IsProper (int_le (pos 0) n) kind.Length at (check (int_le n (pos longest)) kind.Length at (Done (Array (copies (nat_of n) v)))) m
    (λ low. gives_check IsProper (int_le n (pos longest)) kind.Length at (Done (Array (copies (nat_of n) v))) m
    (λ high. (let l = few n high in let c = copies_many (nat_of n) v in omega (arith, l, c), copies_proper (nat_of n) v h))))
  where
    few : (n : ℤ) → int_le n (pos longest) ≡ true → nat_of n ≤ longest
    few (pos k) e = leb-true k longest e
    few (negsuc k) e = omega arith

each_gives : (all : Bool) (at : ℕ) (body : ℤ → Run Datum) (i : ℤ) (j : ℕ) (m : Meter) → Gives IsProper (each all at body i j m)
each_gives all at body i zero m = tt
each_gives all at body i (suc j) m = gives_bind (λ (d : Datum). Unit {0}) IsProper (body i m) (λ v. as_truth at v (λ b. choose (agrees all b) (each all at body (i +ℤ pos 1) j) (Done (Truth b)))) (anything (body i m))
    (λ v k p. gives_truth IsProper at v (λ b. choose (agrees all b) (each all at body (i +ℤ pos 1) j) (Done (Truth b))) k (λ b. by b (agrees all b) k (each_gives all at body (i +ℤ pos 1) j k)))
  where
    anything : (o : Outcome Datum) → Gives (λ (d : Datum). Unit {0}) o
    anything (Done x k) = tt
    anything (Fault kind at k) = tt
    anything (More k) = tt
    anything Spent = tt

    by : (b on : Bool) (k : Meter) → Gives IsProper (each all at body (i +ℤ pos 1) j k) → Gives IsProper (choose on (each all at body (i +ℤ pos 1) j) (Done (Truth b)) k)
    by b true k g = g
    by b false k g = tt

quantified_gives : (all : Bool) (at : ℕ) (body : ℤ → Run Datum) (v w : Datum) (m : Meter) → Gives IsProper (quantified all at body v w m)
quantified_gives all at body v w m = gives_number IsProper at v (λ x. as_number at w (λ y. each all at body x (span x y))) m (λ x e. gives_number IsProper at w (λ y. each all at body x (span x y)) m (λ y g. each_gives all at body x (span x y) m))

-- ---- expressions

-- a part is no larger
left_small : (a b c : ℕ) → a + b + 1 ≤ c → a ≤ c
left_small a b c h = omega (arith, h)

right_small : (a b c : ℕ) → a + b + 1 ≤ c → b ≤ c
right_small a b c h = omega (arith, h)

record Given (count : ℕ) (vs : List Datum) : Type 0 where
  pub many : length vs ≤ count
  pub proper : ListProper vs

-- an expression has a node
some_size : (e : Expr ℕ) → 1 ≤ size e
some_size (NullExpr n) = omega arith
some_size (BoolExpr n b) = omega arith
some_size (IntExpr n z) = omega arith
some_size (VarExpr n x) = omega arith
some_size (CallExpr n f es) = omega arith
some_size (NegExpr n a) = omega arith
some_size (NotExpr n a) = omega arith
some_size (LenExpr n a) = omega arith
some_size (BinaryExpr n o a b) = omega arith
some_size (IsExpr n a t) = omega arith
some_size (IndexExpr n a b) = omega arith
some_size (FieldExpr n a name) = omega arith
some_size (ListExpr n es) = omega arith
some_size (RepeatExpr n a b) = omega arith
some_size (RecordExpr n fs) = omega arith
some_size (QuantExpr n all x a b body) = omega arith

whatever : (o : Outcome Bool) → Gives (λ (b : Bool). Unit {0}) o
whatever (Done x k) = tt
whatever (Fault kind at k) = tt
whatever (More k) = tt
whatever Spent = tt

any_datum : (o : Outcome Datum) → Gives (λ (d : Datum). Unit {0}) o
any_datum (Done x k) = tt
any_datum (Fault kind at k) = tt
any_datum (More k) = tt
any_datum Spent = tt

module _ (w : Setting ℕ) (paid : Bool) (calls : CallsGive w) (s : Store) (held : StoreProper s) where
  mutual
    value : (e : Expr ℕ) → IntsExpr e → size e ≤ longest → (m : Meter) → Gives IsProper (eval w paid e s m)
    value (NullExpr n) i l m = gives_spend IsProper paid (Done Null) m (λ k. tt)
    value (BoolExpr n b) i l m = gives_spend IsProper paid (Done (Truth b)) m (λ k. tt)
    value (IntExpr n z) i l m = gives_spend IsProper paid (Done (Whole z)) m (λ k. is_literal z i)
    value (VarExpr n x) i l m = gives_spend IsProper paid (needed (w.place n) (slot s x) Done) m (λ k. gives_needed IsProper (w.place n) (slot s x) Done k (λ d e. subst (λ (o : Option Datum). SlotProper o) e (slot_proper s x held)))
    value (CallExpr n f es) i l m = gives_spend IsProper paid _ m
        (λ k. gives_bind (Given (sizes es)) IsProper (eval_all w paid es s k) _ (values es i (omega (arith, l)) k)
        (λ vs j g. gives_bind SlotProper IsProper (w.call f (w.place n) vs j) _ (calls f (w.place n) vs j g.proper)
        (λ o t p. gives_needed IsProper (w.place n) o Done t (λ d e. subst (λ (x : Option Datum). SlotProper x) e p))))
    value (NegExpr n a) i l m = gives_spend IsProper paid _ m (λ k. gives_bind IsProper IsProper (eval w paid a s k) (negated (w.place n)) (value a i (omega (arith, l)) k) (λ v j p. negated_gives (w.place n) v j))
    value (NotExpr n a) i l m = gives_spend IsProper paid _ m (λ k. gives_bind IsProper IsProper (eval w paid a s k) (denied (w.place n)) (value a i (omega (arith, l)) k) (λ v j p. denied_gives (w.place n) v j))
    value (LenExpr n a) i l m = gives_spend IsProper paid _ m (λ k. gives_bind IsProper IsProper (eval w paid a s k) (length_result (w.place n)) (value a i (omega (arith, l)) k) (λ v j p. length_gives (w.place n) v j p))
    value (BinaryExpr n o a b) i l m = gives_spend IsProper paid _ m
        (λ k. gives_bind IsProper IsProper (eval w paid a s k) (operated o (w.place n) (eval w paid b s)) (value a i.0 (left_small (size a) (size b) longest l) k)
        (λ v j p. operated_gives o (w.place n) (eval w paid b s) v j (λ t. value b i.1 (right_small (size a) (size b) longest l) t)))
    value (IsExpr n a t) i l m = gives_spend IsProper paid _ m
        (λ k. gives_bind IsProper IsProper (eval w paid a s k) (λ v j. w.test paid t v j >>= (λ b. Done (Truth b))) (value a i (left_small (size a) (size_ty t) longest l) k)
        (λ v j p. gives_bind (λ (b : Bool). Unit {0}) IsProper (w.test paid t v j) (λ b. Done (Truth b)) (whatever (w.test paid t v j)) (λ b q g. tt)))
    value (IndexExpr n a b) i l m = gives_spend IsProper paid _ m
        (λ k. gives_bind IsProper IsProper (eval w paid a s k) (λ v j. eval w paid b s j >>= item_of (w.place n) v) (value a i.0 (left_small (size a) (size b) longest l) k)
        (λ v j p. gives_bind IsProper IsProper (eval w paid b s j) (item_of (w.place n) v) (value b i.1 (right_small (size a) (size b) longest l) j) (λ u t g. item_gives (w.place n) v u t p)))
    value (FieldExpr n a name) i l m = gives_spend IsProper paid _ m (λ k. gives_bind IsProper IsProper (eval w paid a s k) (λ v. field_of (w.place n) v name) (value a i (omega (arith, l)) k) (λ v j p. field_gives (w.place n) v name j p))
    value (ListExpr n es) i l m = gives_spend IsProper paid _ m
        (λ k. gives_bind (Given (sizes es)) IsProper (eval_all w paid es s k) (λ vs. Done (Array (data_of vs))) (values es i (omega (arith, l)) k)
        (λ vs j g. (let c = data_many vs in let d = g.many in omega (arith, l, c, d), data_proper vs g.proper)))
    value (RepeatExpr n a b) i l m = gives_spend IsProper paid _ m
        (λ k. gives_bind IsProper IsProper (eval w paid a s k) (λ v j. eval w paid b s j >>= repeated (w.place n) v) (value a i.0 (left_small (size a) (size b) longest l) k)
        (λ v j p. gives_bind IsProper IsProper (eval w paid b s j) (repeated (w.place n) v) (value b i.1 (right_small (size a) (size b) longest l) j) (λ u t g. repeated_gives (w.place n) v u t p)))
    value (RecordExpr n fs) i l m = gives_spend IsProper paid _ m
        (λ k. gives_bind FieldsProper IsProper (eval_fields w paid fs s k) (λ ds. Done (Record ds)) (fields fs i (omega (arith, l)) k) (λ ds j p. p))
    value (QuantExpr n all x a b body) i l m = gives_spend IsProper paid _ m
        (λ k. gives_bind (λ (d : Datum). Unit {0}) IsProper (eval w paid a s k) _ (any_datum (eval w paid a s k))
        (λ v j p. gives_bind (λ (d : Datum). Unit {0}) IsProper (eval w paid b s j) _ (any_datum (eval w paid b s j))
        (λ u t g. quantified_gives all (w.place n) (λ y. turn w.limit paid (eval w paid body (put s x (Some (Whole y))))) v u t)))

    values : (es : Exprs ℕ) → IntsExprs es → sizes es ≤ longest → (m : Meter) → Gives (Given (sizes es)) (eval_all w paid es s m)
    values NoExprs i l m = record { many = omega arith; proper = tt }
    values (MoreExprs e es) i l m = gives_bind IsProper (Given (size e + sizes es)) (eval w paid e s m) _ (value e i.0 (omega (arith, l)) m)
        (λ v k p. gives_bind (Given (sizes es)) (Given (size e + sizes es)) (eval_all w paid es s k) _ (values es i.1 (omega (arith, l)) k)
        (λ vs j g. record { many = let c = g.many in let o = some_size e in omega (arith, c, o); proper = (p, g.proper) }))

    fields : (fs : tree.Fields ℕ) → IntsFields fs → field_sizes fs ≤ longest → (m : Meter) → Gives FieldsProper (eval_fields w paid fs s m)
    fields NoFields i l m = tt
    fields (MoreFields name e fs) i l m = gives_bind IsProper FieldsProper (eval w paid e s m) _ (value e i.0 (omega (arith, l)) m)
        (λ v k p. gives_bind FieldsProper FieldsProper (eval_fields w paid fs s k) _ (fields fs i.1 (omega (arith, l)) k) (λ ds j g. (p, g)))

pub values_kept : ExpressionsGiveValues
values_kept w paid calls e i l s held m = value w paid calls s held e i l m
