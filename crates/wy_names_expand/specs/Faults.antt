-- The faults that expansions bring to declarations.
use Rattle.std.specs.Prelude.{false, List, [], ◌∷◌}
use Rattle.wy_ast.specs.SurfaceTree.{Expr, Stmts, Param, Decl, AliasDecl, FunctionDecl, MethodDecl, PropertyDecl}
use Rattle.wy_names_scope.specs.Faults.{Found}
use Rattle.wy_names_scope.specs.Scope.{Scope}
use Rattle.wy_names_expand.specs.declared.measure.Expansion.{Expansion}
use Rattle.wy_names_expand.specs.Sizes.{Known, known}
use Rattle.wy_names_expand.specs.Wholes.{each_whole, in_stmts}
use Rattle.wy_names_expand.specs.Summaries.{params_of}

-- preconditions, postconditions and body
abbrev pub in_routine : Known → List Expr → List Expr → Stmts → Found → Found
in_routine k before after body found = in_stmts k body (each_whole k false after (each_whole k false before found))

-- a property's own clauses, its parameters being variables
abbrev pub in_property : Scope → List Expansion → List Param → List Expr → Found → Found
in_property scope x params clauses found = each_whole (known scope (params_of params) x) false clauses found

abbrev pub in_decl : Scope → List Expansion → Decl → Found → Found
in_decl scope x (AliasDecl a) found = each_whole (known scope [] x) false a.clauses found
in_decl scope x (FunctionDecl f) found = in_routine (known scope [] x) f.preconditions f.postconditions f.body found
in_decl scope x (MethodDecl m) found = in_routine (known scope [] x) m.preconditions m.postconditions m.body found
in_decl scope x (PropertyDecl p) found = in_property scope x p.params p.clauses found

-- the fault to be given, of those found before and those that expansions bring
abbrev pub in_decls : Scope → List Expansion → List Decl → Found → Found
in_decls scope x [] found = found
in_decls scope x (d ∷ ds) found = in_decls scope x ds (in_decl scope x d found)
