-- What an expression sees: a store, and over it the numbers that quantifiers bind, the innermost first.
use Rattle.std.specs.Prelude.{ℕ, ℤ, List, [], ◌∷◌, map, cond, nat_eq, Option, Some, None}
use Rattle.wy_value.specs.Datum.{Whole}
use Rattle.wy_value.specs.declared.value.Value.{Value}
use Rattle.wy_sem.specs.Expressions.{Store, put}
use Rattle.wy_eval_exprs.specs.Operands.{seen_option}

-- the data of the variables
abbrev pub store_of : List (Option Value) → Store
store_of vs = map seen_option vs

-- the store under these numbers
abbrev pub scope : Store → List (ℕ × ℤ) → Store
scope s [] = s
scope s (b ∷ bs) = put (scope s bs) b.0 (Some (Whole b.1))

-- the number that the innermost quantifier binds to the variable
abbrev pub number_at : List (ℕ × ℤ) → ℕ → Option ℤ
number_at [] x = None
number_at (b ∷ bs) x = cond (nat_eq b.0 x) (Some b.1) (number_at bs x)
