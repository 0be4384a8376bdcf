-- Which variable a test by `is` is of.
use Rattle.std.specs.Prelude.{ℕ, Option, Some, None}
use Rattle.wy_core.specs.CoreTree.{Expr, VarExpr}

-- the variable, where the operand is one
abbrev pub tested : Expr ℕ → Option ℕ
tested (VarExpr at x) = Some x
tested e = None
