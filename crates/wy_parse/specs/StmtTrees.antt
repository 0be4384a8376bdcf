-- Nodes of statements, of measured parts. A statement has no height of its own.
use Rattle.std.specs.Prelude.{ℕ, List, Option}
use Rattle.wy_ast.specs.declared.types.Ty.{Ty}
use Rattle.wy_ast.specs.declared.expressions.Expr.{Expr}
use Rattle.wy_ast.specs.declared.statements.Stmt.{Stmt}
use Rattle.wy_ast.specs.declared.statements.StmtKind.{StmtKind}
use Rattle.wy_ast.specs.declared.statements.StmtKind.TheVariants as stmt
use Rattle.wy_ast.specs.declared.statements.Case.{Case, roll-Case}
use Rattle.wy_ast.specs.declared.statements.Step.{Step}
use Rattle.wy_ast.specs.declared.statements.StepKind.TheVariants as step
use Rattle.wy_parse_grammar.specs.declared.measured.Measured.{Measured}
use Rattle.wy_parse_grammar.specs.declared.measured.Measured.TheVariants.{Low, High}
use Rattle.wy_parse_grammar.specs.Trees.{both, made}

abbrev pub S : Type 0
S = Measured Stmt

abbrev pub Stmts : Type 0
Stmts = Measured (List Stmt)

abbrev pub Path : Type 0
Path = Measured (List Step)

-- the cases of a switch and its default
abbrev pub Cases : Type 0
Cases = Measured (List Case × Option (List Stmt))

abbrev pub stmt_node : ℕ → Measured StmtKind → S
stmt_node at (Low kind h) = Low (record { at = at; kind = kind }) 0
stmt_node at (High other) = High other

abbrev pub return_node : ℕ → Measured (Option Expr) → S
return_node at value = stmt_node at (made stmt.Return value)

abbrev pub assert_node : ℕ → Measured Expr → S
assert_node at test = stmt_node at (made stmt.Assert test)

abbrev pub declare_node : ℕ → Measured Ty → List ℕ → Measured (Option Expr) → S
declare_node at ty name value = stmt_node at (made (λ p. stmt.Declare p.0 name p.1) (both ty value))

abbrev pub call_node : ℕ → List ℕ → Measured (List Expr) → S
call_node at name args = stmt_node at (made (λ es. stmt.Call name es) args)

abbrev pub assign_node : ℕ → List ℕ → Path → Measured Expr → S
assign_node at name path value = stmt_node at (made (λ p. stmt.Assign name p.0 p.1) (both path value))

abbrev pub index_step : ℕ → Measured Expr → Measured Step
index_step at index = made (λ i. record { at = at; kind = step.Index i }) index

abbrev pub field_step : ℕ → List ℕ → Measured Step
field_step at name = Low (record { at = at; kind = step.Field name }) 0

abbrev pub if_node : ℕ → Measured Expr → Stmts → Stmts → S
if_node at test first second = stmt_node at (made (λ p. stmt.If p.0 p.1.0 p.1.1) (both test (both first second)))

abbrev pub while_node : ℕ → Measured Expr → Measured (List Expr) → Stmts → S
while_node at test invariants body = stmt_node at (made (λ p. stmt.While p.0 p.1.0 p.1.1) (both test (both invariants body)))

abbrev pub do_node : ℕ → Stmts → Measured Expr → Measured (List Expr) → S
do_node at body test invariants = stmt_node at (made (λ p. stmt.Do p.0 p.1.0 p.1.1) (both body (both test invariants)))

abbrev pub for_node : ℕ → List ℕ → Measured (Expr × Expr) → Measured (List Expr) → Stmts → S
for_node at name ends invariants body = stmt_node at (made (λ p. stmt.For name p.0.0 p.0.1 p.1.0 p.1.1) (both ends (both invariants body)))

abbrev pub case_node : List Expr → Stmts → Measured Case
case_node labels body = made (λ b. roll-Case (record { labels = labels; body = b })) body

abbrev pub switch_node : ℕ → Measured Expr → Cases → S
switch_node at value cases = stmt_node at (made (λ p. stmt.Switch p.0 p.1.0 p.1.1) (both value cases))
