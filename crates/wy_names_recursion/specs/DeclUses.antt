-- The uses in declarations.
use Rattle.std.specs.Prelude.{ℕ, ◌+◌, List, [], ◌∷◌}
use Rattle.wy_ast.specs.SurfaceTree.{Decl, AliasDecl, FunctionDecl, MethodDecl, PropertyDecl, exprs_of}
use Rattle.wy_names_scope.specs.Scope.{Scope}
use Rattle.wy_names_recursion.specs.declared.edges.Way.TheVariants as way
use Rattle.wy_names_recursion.specs.Uses.{Edges}
use Rattle.wy_names_recursion.specs.TypeUses.{in_ty}
use Rattle.wy_names_recursion.specs.ExprUses.{in_exprs}

abbrev pub in_decl : Scope → ℕ → Decl → Edges → Edges
in_decl s from (AliasDecl a) edges = in_exprs s from (exprs_of a.clauses) (in_ty s from way.Bare a.ty edges)
in_decl s from (FunctionDecl f) edges = edges
in_decl s from (MethodDecl m) edges = edges
in_decl s from (PropertyDecl p) edges = in_exprs s from (exprs_of p.clauses) edges

-- the uses in declarations from this index on
abbrev pub in_decls : Scope → ℕ → List Decl → Edges → Edges
in_decls s from [] edges = edges
in_decls s from (d ∷ ds) edges = in_decls s (from + 1) ds (in_decl s from d edges)

abbrev pub edges_of : Scope → List Decl → Edges
edges_of s ds = in_decls s 0 ds []
