-- The term of each operation on data.
use Rattle.std.specs.Prelude.{ℕ, List, [], ◌∷◌, Bool, true, false}
use Rattle.wy_sem.specs.wy_core.declared.expressions.Op.{Op}
use Rattle.wy_sem.specs.wy_core.declared.expressions.Op.TheVariants.{Add, Sub, Mul, Div, Mod, Equal, Less, LessEqual, Greater, GreaterEqual, And, Or}
use Rattle.wy_sem.specs.wy_term.Term.{Term}
use Rattle.wy_sem.specs.wy_term.Term as term
use Rattle.wy_vc_spec.specs.Making.{of_one, of_two, of_three, of_all, num, int, len, get, value_of, all_of, any_of, denied, at_most, less_than, equal, formula, bound}

abbrev pub negated : Term → Term
negated v = int (of_one term.neg (num v))

abbrev pub with_denial : Term → Term
with_denial v = value_of (denied (formula v))

abbrev pub length : Term → Term
length v = int (len v)

abbrev pub element : Term → Term → Term
element v i = get v (num i)

abbrev pub repeated : Term → Term → Term
repeated v n = of_two term.repeat v (num n)

abbrev pub with_element : Term → Term → Term → Term
with_element v i w = of_three term.update v (num i) w

abbrev pub with_field : List ℕ → Term → Term → Term
with_field name v w = of_two (term.set_field name) v w

abbrev pub list : List Term → Term
list vs = of_all term.array vs

abbrev pub record_of : List (List ℕ) → List Term → Term
record_of names vs = of_all (term.fields names) vs

-- numbers are equal where each is at most the other
abbrev pub equality : Bool → Term → Term → Term
equality true v w = value_of (all_of (at_most (num v) (num w) ∷ at_most (num w) (num v) ∷ []))
equality false v w = value_of (equal v w)

-- an operator, of which it is known whether its operands are numbers
abbrev pub operated : Op → Bool → Term → Term → Term
operated Add numbers v w = int (of_two term.add (num v) (num w))
operated Sub numbers v w = int (of_two term.sub (num v) (num w))
operated Mul numbers v w = int (of_two term.mul (num v) (num w))
operated Div numbers v w = int (of_two term.div (num v) (num w))
operated Mod numbers v w = int (of_two term.rem (num v) (num w))
operated Equal numbers v w = equality numbers v w
operated Less numbers v w = value_of (less_than (num v) (num w))
operated LessEqual numbers v w = value_of (at_most (num v) (num w))
operated Greater numbers v w = value_of (less_than (num w) (num v))
operated GreaterEqual numbers v w = value_of (at_most (num w) (num v))
operated And numbers v w = value_of (all_of (formula v ∷ formula w ∷ []))
operated Or numbers v w = value_of (any_of (formula v ∷ formula w ∷ []))

-- `all` or `some` of a new name, whose bounds and body are data
abbrev pub quantified : Bool → List ℕ → ℕ → Term → Term → Term → Term
quantified all word n v w u = value_of (bound all word n (num v) (num w) (formula u))
