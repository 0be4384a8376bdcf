-- Declarations and programs, of measured parts.
use Rattle.std.specs.Prelude.{ℕ, List, Option}
use Rattle.wy_ast.specs.declared.types.Ty.{Ty}
use Rattle.wy_ast.specs.declared.expressions.Expr.{Expr}
use Rattle.wy_ast.specs.declared.declarations.Param.{Param}
use Rattle.wy_ast.specs.declared.declarations.Decl.{Decl}
use Rattle.wy_ast.specs.declared.declarations.Decl.TheVariants as decl
use Rattle.wy_ast.specs.declared.declarations.Program.{Program}
use Rattle.wy_parse_grammar.specs.declared.measured.Measured.{Measured}
use Rattle.wy_parse_grammar.specs.Trees.{both, made}
use Rattle.wy_parse.specs.StmtTrees.{Stmts}

abbrev pub Params : Type 0
Params = Measured (List Param)

abbrev pub Clauses : Type 0
Clauses = Measured (List Expr)

-- the clauses before and after a call
abbrev pub Contract : Type 0
Contract = Clauses × Clauses

-- a result, and its name where it has one
abbrev pub Given : Type 0
Given = Measured (Ty × Option (List ℕ))

abbrev pub D : Type 0
D = Measured Decl

abbrev pub param : Measured Ty → List ℕ → Measured Param
param ty name = made (λ t. record { ty = t; name = name }) ty

abbrev pub given : Measured Ty → Option (List ℕ) → Given
given ty name = made (λ t. (t, name)) ty

abbrev pub alias_node : ℕ → List ℕ → Measured Ty → Option (List ℕ) → Clauses → D
alias_node at name ty variable clauses =
    made (λ p. decl.Alias (record { at = at; name = name; ty = p.0; variable = variable; clauses = p.1 })) (both ty clauses)

abbrev pub function_node : ℕ → List ℕ → Params → Given → Contract → Stmts → D
function_node at name params res contract body =
    made (λ p. decl.Function (record {
      at = at;
      name = name;
      params = p.0.0;
      result = p.0.1.0;
      result_name = p.0.1.1;
      preconditions = p.1.0.0;
      postconditions = p.1.0.1;
      body = p.1.1;
    }))
    (both (both params res) (both (both contract.0 contract.1) body))

abbrev pub method_node : ℕ → List ℕ → Params → Measured (Option (Ty × Option (List ℕ))) → Contract → Stmts → D
method_node at name params res contract body =
    made (λ p. decl.Method (record {
      at = at;
      name = name;
      params = p.0.0;
      result = p.0.1;
      preconditions = p.1.0.0;
      postconditions = p.1.0.1;
      body = p.1.1;
    }))
    (both (both params res) (both (both contract.0 contract.1) body))

abbrev pub property_node : ℕ → List ℕ → Params → Clauses → D
property_node at name params clauses =
    made (λ p. decl.Property (record { at = at; name = name; params = p.0; clauses = p.1 })) (both params clauses)

abbrev pub program_node : List (List ℕ × ℕ) → Measured (List Decl) → Measured Program
program_node imports decls = made (λ ds. record { imports = imports; decls = ds }) decls
