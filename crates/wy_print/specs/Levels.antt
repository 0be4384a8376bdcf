-- The levels of the grammar of expressions, by which brackets are needed.
--   expr       = logic [ '==>' expr ]
--   logic      = comparison { '&&' comparison } | comparison { '||' comparison }
--   comparison = sum [ ( '==' | '!=' | '<' | '<=' | '>' | '>=' ) sum | 'is' type ]
--   sum        = product { ( '+' | '-' ) product }
--   product    = unary { ( '*' | '/' | '%' ) unary }
--   unary      = '!' unary | '-' unary | postfix
--   postfix    = primary { '[' expr ']' | '.' NAME }
use Rattle.std.specs.Prelude.{ℕ, ◌==◌, ◌&&◌, ◌||◌, nat_lt, Bool, true, false, List, codes}
use Rattle.wy_ast.specs.declared.expressions.Op.{Op}
use Rattle.wy_ast.specs.declared.expressions.Op.TheVariants as op
use Rattle.wy_print.specs.declared.levels.TheConstants.{IMPLICATION, DISJUNCTION, CONJUNCTION, COMPARISON, SUM, PRODUCT, UNARY}

-- the level of what the operator makes
abbrev pub level_of : Op → ℕ
level_of op.Add = SUM
level_of op.Sub = SUM
level_of op.Mul = PRODUCT
level_of op.Div = PRODUCT
level_of op.Mod = PRODUCT
level_of op.Equal = COMPARISON
level_of op.NotEqual = COMPARISON
level_of op.Less = COMPARISON
level_of op.LessEqual = COMPARISON
level_of op.Greater = COMPARISON
level_of op.GreaterEqual = COMPARISON
level_of op.And = CONJUNCTION
level_of op.Or = DISJUNCTION
level_of op.Implies = IMPLICATION

-- the lowest level that may stand on its left: chains go on there, comparisons don't
abbrev pub lowest_left : Op → ℕ
lowest_left op.Add = SUM
lowest_left op.Sub = SUM
lowest_left op.Mul = PRODUCT
lowest_left op.Div = PRODUCT
lowest_left op.Mod = PRODUCT
lowest_left op.Equal = SUM
lowest_left op.NotEqual = SUM
lowest_left op.Less = SUM
lowest_left op.LessEqual = SUM
lowest_left op.Greater = SUM
lowest_left op.GreaterEqual = SUM
lowest_left op.And = CONJUNCTION
lowest_left op.Or = DISJUNCTION
lowest_left op.Implies = DISJUNCTION

-- the lowest level that may stand on its right: an implication goes on there
abbrev pub lowest_right : Op → ℕ
lowest_right op.Add = PRODUCT
lowest_right op.Sub = PRODUCT
lowest_right op.Mul = UNARY
lowest_right op.Div = UNARY
lowest_right op.Mod = UNARY
lowest_right op.Equal = SUM
lowest_right op.NotEqual = SUM
lowest_right op.Less = SUM
lowest_right op.LessEqual = SUM
lowest_right op.Greater = SUM
lowest_right op.GreaterEqual = SUM
lowest_right op.And = COMPARISON
lowest_right op.Or = COMPARISON
lowest_right op.Implies = IMPLICATION

abbrev pub is_or : Op → Bool
is_or op.Add = false
is_or op.Sub = false
is_or op.Mul = false
is_or op.Div = false
is_or op.Mod = false
is_or op.Equal = false
is_or op.NotEqual = false
is_or op.Less = false
is_or op.LessEqual = false
is_or op.Greater = false
is_or op.GreaterEqual = false
is_or op.And = false
is_or op.Or = true
is_or op.Implies = false

-- what has the level needs brackets on the left of the operator: it is too low, or would mix && with ||
abbrev pub needs_left : Op → ℕ → Bool
needs_left o level = nat_lt level (lowest_left o) || (is_or o && (level == CONJUNCTION))

-- it needs them on the right
abbrev pub needs_right : Op → ℕ → Bool
needs_right o level = nat_lt level (lowest_right o)

-- how the operator is written
abbrev pub symbol : Op → List ℕ
symbol op.Add = codes "+"
symbol op.Sub = codes "-"
symbol op.Mul = codes "*"
symbol op.Div = codes "/"
symbol op.Mod = codes "%"
symbol op.Equal = codes "=="
symbol op.NotEqual = codes "!="
symbol op.Less = codes "<"
symbol op.LessEqual = codes "<="
symbol op.Greater = codes ">"
symbol op.GreaterEqual = codes ">="
symbol op.And = codes "&&"
symbol op.Or = codes "||"
symbol op.Implies = codes "==>"
