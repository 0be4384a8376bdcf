-- A program with its places aside: as plain data in which each place is 0.
use Rattle.std.specs.Prelude.{ℕ, List, map, Option, Some, None}
use Rattle.wy_ast.specs.SurfaceTree as tree
use Rattle.wy_ast.specs.declared.types.Ty.{Ty}
use Rattle.wy_ast.specs.declared.expressions.Expr.{Expr}
use Rattle.wy_ast.specs.declared.statements.Stmt.{Stmt}
use Rattle.wy_ast.specs.declared.declarations.Param.{Param}
use Rattle.wy_ast.specs.declared.declarations.Decl.{Decl}
use Rattle.wy_ast.specs.declared.declarations.Decl.TheVariants as decl
use Rattle.wy_ast.specs.declared.declarations.Program.{Program}
use Rattle.wy_print_laws.specs.round.Bare.{bare_ty, bare_expr}
use Rattle.wy_print_laws.specs.round.BareStmt.{bare_stmt}

abbrev pub bare_exprs : List Expr → List tree.Expr
bare_exprs es = map bare_expr es

-- the block of these statements
abbrev pub bare_block : List Stmt → tree.Stmts
bare_block ss = tree.stmts_of (map bare_stmt ss)

abbrev pub bare_param : Param → tree.Param
bare_param p = record { ty = bare_ty p.ty; name = p.name }

-- the result of a method
abbrev pub bare_result : Option (Ty × Option (List ℕ)) → Option (tree.Ty × Option (List ℕ))
bare_result None = None
bare_result (Some r) = Some (bare_ty r.0, r.1)

-- the declaration
abbrev pub bare_decl : Decl → tree.Decl
bare_decl (decl.Alias a) = tree.AliasDecl (record { at = 0; name = a.name; ty = bare_ty a.ty; variable = a.variable; clauses = bare_exprs a.clauses })
bare_decl (decl.Function f) = tree.FunctionDecl (record {
  at = 0;
  name = f.name;
  params = map bare_param f.params;
  result = bare_ty f.result;
  result_name = f.result_name;
  preconditions = bare_exprs f.preconditions;
  postconditions = bare_exprs f.postconditions;
  body = bare_block f.body;
})
bare_decl (decl.Method m) = tree.MethodDecl (record {
  at = 0;
  name = m.name;
  params = map bare_param m.params;
  result = bare_result m.result;
  preconditions = bare_exprs m.preconditions;
  postconditions = bare_exprs m.postconditions;
  body = bare_block m.body;
})
bare_decl (decl.Property p) = tree.PropertyDecl (record { at = 0; name = p.name; params = map bare_param p.params; clauses = bare_exprs p.clauses })

-- an import: its name
abbrev pub bare_import : List ℕ × ℕ → List ℕ × ℕ
bare_import m = (m.0, 0)

-- the program
abbrev pub bare_program : Program → tree.Program
bare_program p = record { imports = map bare_import p.imports; decls = map bare_decl p.decls }
