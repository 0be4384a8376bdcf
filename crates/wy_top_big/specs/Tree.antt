-- A large program as a tree, which `print` writes as the source.
use Rattle.std.specs.Prelude.{◌≡◌, ℕ, zero, suc, pos, ◌==◌, List, [], ◌∷◌, ◌++◌, Option, Some, codes, if◌then◌else◌}
use Rattle.std.specs.Fmt.{decimal}
use Rattle.wy_ast.specs.declared.declarations.Decl.{Decl}
use Rattle.wy_ast.specs.declared.declarations.Decl.TheVariants as decl
use Rattle.wy_ast.specs.declared.declarations.Program.{Program}
use Rattle.wy_ast.specs.declared.expressions.Expr.{Expr}
use Rattle.wy_ast.specs.declared.expressions.ExprKind.{ExprKind}
use Rattle.wy_ast.specs.declared.expressions.ExprKind.TheVariants as expr
use Rattle.wy_ast.specs.declared.expressions.Op.{Op}
use Rattle.wy_ast.specs.declared.expressions.Op.TheVariants as op
use Rattle.wy_ast.specs.declared.statements.Step.{Step}
use Rattle.wy_ast.specs.declared.statements.StepKind.TheVariants as step
use Rattle.wy_ast.specs.declared.statements.Stmt.{Stmt}
use Rattle.wy_ast.specs.declared.statements.StmtKind.{StmtKind}
use Rattle.wy_ast.specs.declared.statements.StmtKind.TheVariants as stmt
use Rattle.wy_ast.specs.declared.types.Ty.{Ty}
use Rattle.wy_ast.specs.declared.types.TyKind.{TyKind}
use Rattle.wy_ast.specs.declared.types.TyKind.TheVariants as ty
use Rattle.wy_print.specs.ProgramText.{program_text}
use Rattle.wy_top_big.specs.Draws.{constant, state_after, template}
use Rattle.wy_top_big.specs.Source.{entry, source_of}

-- ---- nodes, of which no place is said

abbrev pub typed : TyKind → Ty
typed kind = record { at = 0; kind = kind }

abbrev pub int : Ty
int = typed ty.Int

abbrev pub made : ExprKind → Expr
made kind = record { at = 0; kind = kind }

abbrev pub variable : List ℕ → Expr
variable name = made (expr.Var name)

abbrev pub number : ℕ → Expr
number n = made (expr.Int (pos n))

abbrev pub both : Op → Expr → Expr → Expr
both o left right = made (expr.Binary o left right)

-- a number from 0 to this
abbrev pub up_to : List ℕ → Expr → Expr
up_to name most = both op.And (both op.LessEqual (number 0) (variable name)) (both op.LessEqual (variable name) most)

abbrev pub done : StmtKind → Stmt
done kind = record { at = 0; kind = kind }

abbrev pub declares : Ty → List ℕ → Expr → Stmt
declares t name value = done (stmt.Declare t name (Some value))

abbrev pub assigns : List ℕ → Expr → Stmt
assigns name value = done (stmt.Assign name [] value)

-- one more
abbrev pub counts : List ℕ → Stmt
counts name = assigns name (both op.Add (variable name) (number 1))

abbrev pub returns : Expr → Stmt
returns value = done (stmt.Return (Some value))

-- ---- bodies

abbrev pub choice : ℕ → List Stmt
choice c =
    done (stmt.If (both op.Less (variable (codes "x")) (number c)) (returns (both op.Add (variable (codes "x")) (number 1)) ∷ []) [])
    ∷ returns (both op.Sub (variable (codes "x")) (number c)) ∷ []

abbrev pub mean : ℕ → List Stmt
mean c = returns (both op.Div (both op.Add (variable (codes "x")) (number c)) (number 2)) ∷ []

abbrev pub count_up : ℕ → List Stmt
count_up c =
    declares int (codes "s") (number 0)
    ∷ declares int (codes "i") (number 0)
    ∷ done (stmt.While (both op.Less (variable (codes "i")) (number c))
    (up_to (codes "i") (number c) ∷ both op.Equal (variable (codes "s")) (variable (codes "i")) ∷ []) (counts (codes "s") ∷ counts (codes "i") ∷ []))
    ∷ returns (variable (codes "s")) ∷ []

abbrev pub measure : ℕ → List Stmt
measure c =
    declares (typed (ty.Array int)) (codes "a") (made (expr.Repeat (variable (codes "x")) (number c)))
    ∷ done (stmt.Assign (codes "a") (record { at = 0; kind = step.Index (number 0) } ∷ []) (number c))
    ∷ returns (made (expr.Len (variable (codes "a")))) ∷ []

abbrev pub body : ℕ → ℕ → List Stmt
body kind c =
    if kind == 0 then choice c else (if kind == 1 then mean c else (if kind == 2 then count_up c else measure c))

-- ---- functions

-- a function from a number of 0 to 1000 to such a number
abbrev pub function : List ℕ → List Stmt → Decl
function name stmts = decl.Function (record {
  at = 0;
  name = name;
  params = record { ty = int; name = codes "x" } ∷ [];
  result = int;
  result_name = Some (codes "r");
  preconditions = up_to (codes "x") (number 1000) ∷ [];
  postconditions = up_to (codes "r") (number 1000) ∷ [];
  body = stmts;
})

-- the name of the function of a number
abbrev pub name_of : ℕ → List ℕ
name_of n = codes "f" ++ decimal n

abbrev pub numbered : ℕ → ℕ → Decl
numbered n state = function (name_of n) (body (template state) (constant state))

-- so many functions, each from the state behind that of the one before it
abbrev pub functions : ℕ → ℕ → List Decl
functions zero seed = []
functions (suc n) seed = functions n seed ++ numbered n (state_after (suc n) seed) ∷ []

-- the call of the function of a number
abbrev pub call : ℕ → Stmt
call n = assigns (codes "y") (made (expr.Call (name_of n) (variable (codes "y") ∷ [])))

-- so many calls, in order
abbrev pub calls : ℕ → List Stmt
calls zero = []
calls (suc n) = calls n ++ call n ∷ []

-- the function that calls so many others
abbrev pub main_function : ℕ → Decl
main_function count = function entry (declares int (codes "y") (variable (codes "x")) ∷ (calls count ++ returns (variable (codes "y")) ∷ []))

abbrev pub program : ℕ → ℕ → Program
program count seed = record { imports = []; decls = functions count seed ++ main_function count ∷ [] }

-- ---- the law

-- the source is what `print` writes of the tree
abbrev pub IsPrinted : Type 0
IsPrinted = (count seed : ℕ) → source_of count seed ≡ program_text (program count seed)
