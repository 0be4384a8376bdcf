-- What follows a question about an operand: its answer is handed on, and so is its fault.
use Rattle.std.proofs.Common.{◌≡◌, ◌≢◌, ℕ, ◌+◌, Bool, true, false, List, [], ◌∷◌, map, length, Option, Some, None, Result, Ok, Err, refl, sym, ap, ◌∙◌, subst, arith}
use Rattle.std.specs.Prelude.{IsErrAnd, pos}
use Rattle.wy_sem.specs.TypeTests.{is_truth}
use Rattle.wy_value.specs.Datum.{Datum, Null, Truth, Whole, Array, Record, Data}
use Rattle.wy_value.specs.declared.value.Value.{Value}
use Rattle.wy_value.specs.Values.{length_of}
use Rattle.wy_term.specs.declared.cond.CondKind.TheVariants.{Member}
use Rattle.wy_sem.specs.Meter as sem
use Rattle.wy_sem.specs.Meter.{Outcome, Done, Fault, More, Spent, Run, ◌>>=◌}
use Rattle.wy_sem.specs.Operations as spec
use Rattle.wy_eval_exprs.specs.declared.stop.Stop.{Stop}
use Rattle.wy_eval_exprs.specs.declared.stop.Stop.TheVariants as stop
use Rattle.wy_eval_exprs.specs.Outcomes.{Gives, stopped}
use Rattle.wy_core.specs.declared.expressions.Op.{Op}
use Rattle.wy_core.specs.declared.expressions.Op.TheVariants.{Add, Sub, Mul, Div, Mod, Equal, Less, LessEqual, Greater, GreaterEqual, And, Or}
use Rattle.wy_eval_exprs.specs.Operands.{computed, items_of}

pub not_truth : {X : Type 0} (at : ℕ) (d : Datum) (next : Bool → Run X) (m : sem.Meter) → is_truth d ≡ false → spec.as_truth at d next m ≡ Fault Member at m
not_truth at Null next m h = refl
not_truth at (Truth b) next m h = absurd cc
not_truth at (Whole z) next m h = refl
not_truth at (Array ds) next m h = refl
not_truth at (Record fs) next m h = refl

pub are_the_items : {X : Type 0} (at : ℕ) (d : Datum) (next : Data → Run X) (m : sem.Meter) (ds : Data) → d ≡ Array ds → spec.as_items at d next m ≡ next ds m
are_the_items at d next m ds h = ap (λ v. spec.as_items at v next m) h

-- an outcome that is another one gives what that gives
pub gives_as : {X Y : Type 0} (view : Y → X) (o p : Outcome X) (r : Result Y Stop) (m : sem.Meter) → o ≡ p → Gives view p r m → Gives view o r m
gives_as view o p r m h g = subst (λ q. Gives view q r m) (sym h) g

-- what stopped a part stops the whole
pub refused : {X Y : Type 0} (view : Y → X) (o : Outcome X) (m : sem.Meter) (e : Stop) (r : Result Y Stop) → (e ≢ stop.NoMemory → o ≡ stopped e m) → IsErrAnd r (λ f. f ≡ e) → Gives view o r m
refused view o m e (Ok y) h handed = absurd handed
refused view o m e (Err f) h handed = λ n. h (λ q. n (handed ∙ q)) ∙ sym (ap (λ g. stopped g m) handed)

-- an array has as many items as the list of its values
pub length_items : (vs : List Value) → length_of (items_of vs) ≡ length vs
length_items [] = refl
length_items (v ∷ vs) = let e : length vs + 1 ≡ length (v ∷ vs) = omega arith in ap (λ n. n + 1) (length_items vs) ∙ e

-- the operator asks for two numbers
abbrev pub is_on_numbers : Op → Bool
is_on_numbers Add = true
is_on_numbers Sub = true
is_on_numbers Mul = true
is_on_numbers Div = true
is_on_numbers Mod = true
is_on_numbers Equal = false
is_on_numbers Less = true
is_on_numbers LessEqual = true
is_on_numbers Greater = true
is_on_numbers GreaterEqual = true
is_on_numbers And = false
is_on_numbers Or = false

pub on_numbers_as : (o : Op) (at : ℕ) (d e : Datum) (m : sem.Meter) → is_on_numbers o ≡ true → spec.applied o at d e m ≡ spec.numbers at d e (computed o at) m
on_numbers_as Add at d e m h = refl
on_numbers_as Sub at d e m h = refl
on_numbers_as Mul at d e m h = refl
on_numbers_as Div at d e m h = refl
on_numbers_as Mod at d e m h = refl
on_numbers_as Equal at d e m h = absurd cc
on_numbers_as Less at d e m h = refl
on_numbers_as LessEqual at d e m h = refl
on_numbers_as Greater at d e m h = refl
on_numbers_as GreaterEqual at d e m h = refl
on_numbers_as And at d e m h = absurd cc
on_numbers_as Or at d e m h = absurd cc
