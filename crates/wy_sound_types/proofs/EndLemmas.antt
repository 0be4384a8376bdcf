-- The evaluation of a contract ends: it spends no ticks, and calls nothing.
use Rattle.std.proofs.Common.{ℕ, zero, suc, ◌+◌, List, [], ◌∷◌, Bool, true, false, ℤ, pos}
use Rattle.std.specs.Prelude.{Option, Some, None, ◌+ℤ◌, ◌-ℤ◌, ◌*ℤ◌, neg_ℤ, not, int_le}
use Rattle.std.specs.Int.{int_div_euclid}
use Rattle.wy_value.specs.Datum.{Datum, Null, Truth, Whole, Array, Record, Data, Fields, no_fields, field}
use Rattle.wy_value.specs.Numbers.{is_int}
use Rattle.wy_core.specs.Types.{Ty}
use Rattle.wy_core.specs.CoreTree as tree
use Rattle.wy_core.specs.CoreTree.{Expr, NullExpr, BoolExpr, IntExpr, VarExpr, CallExpr, NegExpr, NotExpr, LenExpr, BinaryExpr, IsExpr, IndexExpr, FieldExpr, ListExpr, RepeatExpr, RecordExpr, QuantExpr, Exprs, NoExprs, MoreExprs, NoFields, MoreFields}
use Rattle.wy_core.specs.declared.expressions.Op.{Op}
use Rattle.wy_core.specs.declared.expressions.Op.TheVariants.{Add, Sub, Mul, Div, Mod, Equal, Less, LessEqual, Greater, GreaterEqual, And, Or}
use Rattle.wy_term.specs.declared.cond.CondKind.{CondKind}
use Rattle.wy_term.specs.declared.cond.CondKind.TheVariants.{Range, Divisor, Index, Length}
use Rattle.wy_sem.specs.Meter.{Meter, Outcome, Done, Fault, More, Spent, Run, ◌>>=◌, check, choose}
use Rattle.wy_sem.specs.Operations.{same_number, is_index, nat_of, item_at, find, agrees, as_number, as_truth, as_items, as_fields, needed, in_range, negated, denied, length_result, numbers, applied, second, operated, item_of, field_of, repeated}
use Rattle.wy_sem.specs.Expressions.{Store, slot, put, Setting, no_calls, span, each, quantified, eval, eval_all, eval_fields}
use Rattle.wy_vc_laws.specs.grounded.Uses.{NamesAll, TestsAll, AllTestAll, FieldsTestAll}
use Rattle.wy_sound_statements.specs.wy_sound_walks.clauses.Quiet.{CallsNothing, AllCallNothing, FieldsCallNothing}
use Rattle.wy_value.specs.Seen.{data_of}

-- the run ended, with an answer or with a fault
abbrev pub Ends : {X : Type 0} → Outcome X → Type 0
Ends (Done x m) = Unit {0}
Ends (Fault kind at m) = Unit {0}
Ends (More m) = ⊥
Ends Spent = ⊥

pub record Ended (X : Type 0) (r : Run X) : Type 0 where
  pub ends : (m : Meter) → Ends (r m)

ends_bind : {X Y : Type 0} (o : Outcome X) (f : X → Run Y) → Ends o → ((x : X) → Ended Y (f x)) → Ends (o >>= f)
ends_bind (Done x m) f h g = (g x).ends m
ends_bind (Fault kind at m) f h g = tt
ends_bind (More m) f h g = absurd h
ends_bind Spent f h g = absurd h

pub bound : (X Y : Type 0) (r : Run X) (f : X → Run Y) → Ended X r → ((x : X) → Ended Y (f x)) → Ended Y (λ m. r m >>= f)
bound X Y r f h g = record { ends = λ m. ends_bind (r m) f (h.ends m) g }

pub done : (X : Type 0) (x : X) → Ended X (Done x)
done X x = record { ends = λ m. tt }

pub chosen : (X : Type 0) (b : Bool) (f g : Run X) → Ended X f → Ended X g → Ended X (choose b f g)
chosen X true f g p r = record { ends = λ m. p.ends m }
chosen X false f g p r = record { ends = λ m. r.ends m }

-- ---- operations

checked : (X : Type 0) (b : Bool) (kind : CondKind) (at : ℕ) (f : Run X) → Ended X f → Ended X (check b kind at f)
checked X true kind at f p = record { ends = λ m. p.ends m }
checked X false kind at f p = record { ends = λ m. tt }

with_number : (X : Type 0) (at : ℕ) (v : Datum) (f : ℤ → Run X) → ((z : ℤ) → Ended X (f z)) → Ended X (as_number at v f)
with_number X at (Whole z) f p = record { ends = λ m. (p z).ends m }
with_number X at Null f p = record { ends = λ m. tt }
with_number X at (Truth b) f p = record { ends = λ m. tt }
with_number X at (Array ds) f p = record { ends = λ m. tt }
with_number X at (Record fs) f p = record { ends = λ m. tt }

pub with_truth : (X : Type 0) (at : ℕ) (v : Datum) (f : Bool → Run X) → ((b : Bool) → Ended X (f b)) → Ended X (as_truth at v f)
with_truth X at (Truth b) f p = record { ends = λ m. (p b).ends m }
with_truth X at Null f p = record { ends = λ m. tt }
with_truth X at (Whole z) f p = record { ends = λ m. tt }
with_truth X at (Array ds) f p = record { ends = λ m. tt }
with_truth X at (Record fs) f p = record { ends = λ m. tt }

with_items : (X : Type 0) (at : ℕ) (v : Datum) (f : Data → Run X) → ((ds : Data) → Ended X (f ds)) → Ended X (as_items at v f)
with_items X at (Array ds) f p = record { ends = λ m. (p ds).ends m }
with_items X at Null f p = record { ends = λ m. tt }
with_items X at (Truth b) f p = record { ends = λ m. tt }
with_items X at (Whole z) f p = record { ends = λ m. tt }
with_items X at (Record fs) f p = record { ends = λ m. tt }

with_fields : (X : Type 0) (at : ℕ) (v : Datum) (f : Fields → Run X) → ((fs : Fields) → Ended X (f fs)) → Ended X (as_fields at v f)
with_fields X at (Record fs) f p = record { ends = λ m. (p fs).ends m }
with_fields X at Null f p = record { ends = λ m. tt }
with_fields X at (Truth b) f p = record { ends = λ m. tt }
with_fields X at (Whole z) f p = record { ends = λ m. tt }
with_fields X at (Array ds) f p = record { ends = λ m. tt }

with_needed : (X Y : Type 0) (at : ℕ) (o : Option X) (f : X → Run Y) → ((x : X) → Ended Y (f x)) → Ended Y (needed at o f)
with_needed X Y at None f p = record { ends = λ m. tt }
with_needed X Y at (Some x) f p = record { ends = λ m. (p x).ends m }

with_numbers : (X : Type 0) (at : ℕ) (v w : Datum) (f : ℤ → ℤ → Run X) → ((x y : ℤ) → Ended X (f x y)) → Ended X (numbers at v w f)
with_numbers X at v w f p = with_number X at v _ (λ x. with_number X at w _ (λ y. p x y))

ranged : (at : ℕ) (z : ℤ) → Ended Datum (in_range at z)
ranged at z = checked Datum (is_int z) Range at _ (done Datum (Whole z))

negation_ends : (at : ℕ) (v : Datum) → Ended Datum (negated at v)
negation_ends at v = with_number Datum at v _ (λ x. ranged at (neg_ℤ x))

denial_ends : (at : ℕ) (v : Datum) → Ended Datum (denied at v)
denial_ends at v = with_truth Datum at v _ (λ b. done Datum (Truth (not b)))

length_ends : (at : ℕ) (v : Datum) → Ended Datum (length_result at v)
length_ends at v = with_items Datum at v _ (λ ds. done Datum _)

applied_ends : (op : Op) (at : ℕ) (v w : Datum) → Ended Datum (applied op at v w)
applied_ends Add at v w = with_numbers Datum at v w _ (λ x y. ranged at (x +ℤ y))
applied_ends Sub at v w = with_numbers Datum at v w _ (λ x y. ranged at (x -ℤ y))
applied_ends Mul at v w = with_numbers Datum at v w _ (λ x y. ranged at (x *ℤ y))
applied_ends Div at v w = with_numbers Datum at v w _ (λ x y. checked Datum (not (same_number y (pos 0))) Divisor at _ (ranged at (int_div_euclid x y)))
applied_ends Mod at v w = with_numbers Datum at v w _ (λ x y. checked Datum (not (same_number y (pos 0))) Divisor at _ (done Datum _))
applied_ends Equal at v w = done Datum _
applied_ends Less at v w = with_numbers Datum at v w _ (λ x y. done Datum _)
applied_ends LessEqual at v w = with_numbers Datum at v w _ (λ x y. done Datum _)
applied_ends Greater at v w = with_numbers Datum at v w _ (λ x y. done Datum _)
applied_ends GreaterEqual at v w = with_numbers Datum at v w _ (λ x y. done Datum _)
applied_ends And at v w = with_truth Datum at w _ (λ b. done Datum (Truth b))
applied_ends Or at v w = with_truth Datum at w _ (λ b. done Datum (Truth b))

second_ends : (op : Op) (at : ℕ) (f : Run Datum) (v : Datum) → Ended Datum f → Ended Datum (second op at f v)
second_ends op at f v p = bound Datum Datum f _ p (λ w. applied_ends op at v w)

operated_ends : (op : Op) (at : ℕ) (f : Run Datum) (v : Datum) → Ended Datum f → Ended Datum (operated op at f v)
operated_ends And at f v p = with_truth Datum at v _ (λ b. chosen Datum b _ _ (second_ends And at f v p) (done Datum (Truth false)))
operated_ends Or at f v p = with_truth Datum at v _ (λ b. chosen Datum b _ _ (done Datum (Truth true)) (second_ends Or at f v p))
operated_ends Add at f v p = second_ends Add at f v p
operated_ends Sub at f v p = second_ends Sub at f v p
operated_ends Mul at f v p = second_ends Mul at f v p
operated_ends Div at f v p = second_ends Div at f v p
operated_ends Mod at f v p = second_ends Mod at f v p
operated_ends Equal at f v p = second_ends Equal at f v p
operated_ends Less at f v p = second_ends Less at f v p
operated_ends LessEqual at f v p = second_ends LessEqual at f v p
operated_ends Greater at f v p = second_ends Greater at f v p
operated_ends GreaterEqual at f v p = second_ends GreaterEqual at f v p

item_ends : (at : ℕ) (v w : Datum) → Ended Datum (item_of at v w)
item_ends at v w = with_items Datum at v _ (λ ds. with_number Datum at w _ (λ i. checked Datum (is_index i ds) Index at _ (done Datum (item_at ds (nat_of i)))))

field_ends : (at : ℕ) (v : Datum) (name : List ℕ) → Ended Datum (field_of at v name)
field_ends at v name = with_fields Datum at v _ (λ fs. with_needed Datum Datum at (find fs name) _ (λ d. done Datum d))

repeated_ends : (at : ℕ) (v w : Datum) → Ended Datum (repeated at v w)
repeated_ends at v w = with_number Datum at w _ (λ n. checked Datum (int_le (pos 0) n) Length at _ (checked Datum _ Length at _ (done Datum _)))

each_ends : (all : Bool) (at : ℕ) (f : ℤ → Run Datum) → ((i : ℤ) → Ended Datum (f i)) → (i : ℤ) (j : ℕ) → Ended Datum (each all at f i j)
each_ends all at f p i zero = done Datum (Truth all)
each_ends all at f p i (suc j) = bound Datum Datum (f i) _ (p i) (λ v. with_truth Datum at v _ (λ b. chosen Datum (agrees all b) _ _ (each_ends all at f p (i +ℤ pos 1) j) (done Datum (Truth b))))

quantified_ends : (all : Bool) (at : ℕ) (f : ℤ → Run Datum) (v w : Datum) → ((i : ℤ) → Ended Datum (f i)) → Ended Datum (quantified all at f v w)
quantified_ends all at f v w p = with_numbers Datum at v w _ (λ x y. each_ends all at f p x (span x y))

pub counted : (X : Type 0) (f : Run X) → Ended X f → Ended X (λ m. f (record m { turns = m.turns + 1 }))
counted X f p = record { ends = λ m. p.ends (record m { turns = m.turns + 1 }) }

-- ---- expressions

module _ {N : Type 0} (place : N → ℕ) (test : Bool → Ty → Datum → Run Bool) (P : ℕ → Type 0) (tests : (t : Ty) → NamesAll P t → (d : Datum) → Ended Bool (test false t d)) where
  abbrev w : Setting N
  w = record { place = place; limit = None; test = test; call = no_calls }

  mutual
    pub eval_ends : (e : Expr N) → CallsNothing e → TestsAll P e → (s : Store) → Ended Datum (eval w false e s)
    eval_ends (NullExpr n) q f s = done Datum Null
    eval_ends (BoolExpr n b) q f s = done Datum (Truth b)
    eval_ends (IntExpr n z) q f s = done Datum (Whole z)
    eval_ends (VarExpr n x) q f s = with_needed Datum Datum (place n) (slot s x) _ (λ d. done Datum d)
    eval_ends (CallExpr n g es) q f s = absurd q
    eval_ends (NegExpr n a) q f s = bound Datum Datum _ _ (eval_ends a q f s) (λ v. negation_ends (place n) v)
    eval_ends (NotExpr n a) q f s = bound Datum Datum _ _ (eval_ends a q f s) (λ v. denial_ends (place n) v)
    eval_ends (LenExpr n a) q f s = bound Datum Datum _ _ (eval_ends a q f s) (λ v. length_ends (place n) v)
    eval_ends (BinaryExpr n op a b) q f s = bound Datum Datum _ _ (eval_ends a q.0 f.0 s) (λ v. operated_ends op (place n) _ v (eval_ends b q.1 f.1 s))
    eval_ends (IsExpr n a t) q f s = bound Datum Datum _ _ (eval_ends a q f.0 s) (λ v. bound Bool Datum _ _ (tests t f.1 v) (λ b. done Datum (Truth b)))
    eval_ends (IndexExpr n a i) q f s = bound Datum Datum _ _ (eval_ends a q.0 f.0 s) (λ v. bound Datum Datum _ _ (eval_ends i q.1 f.1 s) (λ u. item_ends (place n) v u))
    eval_ends (FieldExpr n a name) q f s = bound Datum Datum _ _ (eval_ends a q f s) (λ v. field_ends (place n) v name)
    eval_ends (ListExpr n es) q f s = bound (List Datum) Datum _ _ (all_end es q f s) (λ vs. done Datum (Array (data_of vs)))
    eval_ends (RepeatExpr n a c) q f s = bound Datum Datum _ _ (eval_ends a q.0 f.0 s) (λ v. bound Datum Datum _ _ (eval_ends c q.1 f.1 s) (λ u. repeated_ends (place n) v u))
    eval_ends (RecordExpr n fs) q f s = bound Fields Datum _ _ (parts_end fs q f s) (λ ds. done Datum (Record ds))
    eval_ends (QuantExpr n all x a b body) q f s =
        bound Datum Datum _ _ (eval_ends a q.0 f.0 s) (λ v. bound Datum Datum _ _ (eval_ends b q.1 f.1 s) (λ u.
        quantified_ends all (place n) _ v u (λ i. counted Datum _ (eval_ends body q.2 f.2 (put s x (Some (Whole i)))))))

    all_end : (es : Exprs N) → AllCallNothing es → AllTestAll P es → (s : Store) → Ended (List Datum) (eval_all w false es s)
    all_end NoExprs q f s = done (List Datum) []
    all_end (MoreExprs e es) q f s = bound Datum (List Datum) _ _ (eval_ends e q.0 f.0 s) (λ v. bound (List Datum) (List Datum) _ _ (all_end es q.1 f.1 s) (λ vs. done (List Datum) (v ∷ vs)))

    parts_end : (fs : tree.Fields N) → FieldsCallNothing fs → FieldsTestAll P fs → (s : Store) → Ended Fields (eval_fields w false fs s)
    parts_end NoFields q f s = done Fields no_fields
    parts_end (MoreFields name e es) q f s = bound Datum Fields _ _ (eval_ends e q.0 f.0 s) (λ v. bound Fields Fields _ _ (parts_end es q.1 f.1 s) (λ ds. done Fields (field name v ds)))
