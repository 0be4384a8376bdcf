-- What properties come to, summed up.
use Rattle.std.specs.Prelude.{ℕ, ◌+◌, min, Bool, true, false, List, [], ◌∷◌, length, Option, Some, None, nat_lt, if◌then◌else◌, slice_get, slice_set}
use Rattle.wy_ast.specs.SurfaceTree.{Expr, Param, Decl, AliasDecl, FunctionDecl, MethodDecl, PropertyDecl}
use Rattle.wy_names_scope.specs.Scope.{Scope, with_name}
use Rattle.wy_names_scope.specs.declared.table.Entry.TheVariants as entry
use Rattle.wy_names_expand.specs.declared.measure.Measure.{Measure}
use Rattle.wy_names_expand.specs.declared.measure.Summary.{Summary}
use Rattle.wy_names_expand.specs.declared.measure.Use.{Use}
use Rattle.wy_names_expand.specs.declared.measure.Expansion.{Expansion}
use Rattle.wy_names_expand.specs.declared.measure.Expansion.TheVariants as expansion
use Rattle.wy_names_expand.specs.Measures.{nothing, root, deeper, inside, counted}
use Rattle.wy_names_expand.specs.Sizes.{Known, known, in_expr}

-- parameters by number, from this one on
abbrev pub params_from : Scope → ℕ → List Param → Scope
params_from table number [] = table
params_from table number (p ∷ ps) = params_from (with_name table p.name (entry.Variable number)) (number + 1) ps

abbrev pub params_of : List Param → Scope
params_of ps = params_from [] 0 ps

-- no parameter is used yet
abbrev pub no_uses : List Param → List Use
no_uses [] = []
no_uses (p ∷ ps) = record { times = 0; depth = 0; quantified = false } ∷ no_uses ps

-- a clause before this many others, the first or a further one
abbrev pub one_clause : Known → Bool → ℕ → Expr → Measure → Measure
one_clause k true left e m = in_expr k (deeper (root false) (min 4097 left)) e m
one_clause k false left e m = in_expr k (inside (deeper (root false) (min 4097 left))) e (counted m (deeper (root false) (min 4097 left)))

-- clauses joined by `&&` from the left
abbrev pub in_joined : Known → Bool → List Expr → Measure → Measure
in_joined k is_first [] m = m
in_joined k is_first (e ∷ es) m = in_joined k false es (one_clause k is_first (length es) e m)

abbrev pub summed : Measure → Summary
summed m = record { nodes = m.fixed; height = m.height; uses = m.uses }

-- what a property with these parameters and clauses comes to
abbrev pub summary : Scope → List Expansion → List Param → List Expr → Summary
summary scope x params clauses = summed (in_joined (known scope (params_of params) x) true clauses (nothing None (no_uses params)))

abbrev pub set_at : List Expansion → ℕ → Expansion → List Expansion
set_at x i e = if nat_lt i (length x) then slice_set x i e else x

abbrev pub with_decl : Scope → List Expansion → ℕ → Decl → List Expansion
with_decl scope x i (AliasDecl a) = x
with_decl scope x i (FunctionDecl f) = x
with_decl scope x i (MethodDecl m) = x
with_decl scope x i (PropertyDecl p) = set_at x i (expansion.Finite (summary scope x p.params p.clauses))

abbrev pub with_option : Scope → List Expansion → ℕ → Option Decl → List Expansion
with_option scope x i None = x
with_option scope x i (Some d) = with_decl scope x i d

-- with the summaries of the properties with these indices, one after the other
abbrev pub summed_up : Scope → List Decl → List Expansion → List ℕ → List Expansion
summed_up scope ds x [] = x
summed_up scope ds x (i ∷ is) = summed_up scope ds (with_option scope x i (slice_get ds i)) is

abbrev pub without_end : List Decl → List Expansion
without_end [] = []
without_end (d ∷ ds) = expansion.Endless ∷ without_end ds

-- what each declaration expands to
abbrev pub summaries : Scope → List Decl → List ℕ → List Expansion
summaries scope ds order = summed_up scope ds (without_end ds) order
