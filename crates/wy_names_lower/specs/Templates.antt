-- The templates of properties, those that they use first.
use Rattle.std.specs.Prelude.{ℕ, Bool, not, ◌==◌, List, [], ◌∷◌, length, drop, map, Option, Some, None, nat_lt, if◌then◌else◌, slice_get, slice_set}
use Rattle.wy_ast.specs.SurfaceTree.{Expr, Param, Decl, AliasDecl, FunctionDecl, MethodDecl, PropertyDecl}
use Rattle.wy_core.specs.CoreTree as core
use Rattle.wy_names_scope.specs.Scope.{Scope}
use Rattle.wy_names_expand.specs.declared.measure.Use.{Use}
use Rattle.wy_names_expand.specs.declared.measure.Expansion.{Expansion}
use Rattle.wy_names_expand.specs.declared.measure.Expansion.TheVariants as expansion
use Rattle.wy_names_lower.specs.Variables.{Variables, named, declared}
use Rattle.wy_names_lower.specs.Uses.{With, Template}
use Rattle.wy_names_lower.specs.StmtsLowered.{in_clauses}

-- the scope and the variables behind parameters
abbrev pub params_scope : Scope → Variables → List Param → Scope
params_scope s vs [] = s
params_scope s vs (p ∷ ps) = params_scope (declared s vs p.name) (named vs p.name) ps

abbrev pub params_named : Variables → List Param → Variables
params_named vs [] = vs
params_named vs (p ∷ ps) = params_named (named vs p.name) ps

-- a parameter that stands somewhere in the clauses
abbrev pub stands : Use → Bool
stands u = not (u.times == 0)

-- which parameters the clauses use
abbrev pub used_of : Option Expansion → List Bool
used_of None = []
used_of (Some expansion.Endless) = []
used_of (Some (expansion.Finite summary)) = map stands summary.uses

-- the clauses behind the parameters, and what they declare
abbrev pub clauses_of : List Template → Scope → List Param → List Expr → With (List (core.Expr ℕ))
clauses_of ts s ps clauses = in_clauses ts (params_scope s [] ps) (params_named [] ps) clauses

-- the template of a property with these parameters and clauses
abbrev pub template : List Template → Scope → List Bool → List Param → List Expr → Template
template ts s used ps clauses = record { used = used; clauses = (clauses_of ts s ps clauses).1; names = drop (length ps) (clauses_of ts s ps clauses).0 }

abbrev pub set_at : List Template → ℕ → Template → List Template
set_at ts i t = if nat_lt i (length ts) then slice_set ts i t else ts

abbrev pub with_decl : Scope → List Template → List Bool → ℕ → Decl → List Template
with_decl s ts used i (AliasDecl a) = ts
with_decl s ts used i (FunctionDecl f) = ts
with_decl s ts used i (MethodDecl m) = ts
with_decl s ts used i (PropertyDecl p) = set_at ts i (template ts s used p.params p.clauses)

abbrev pub with_option : Scope → List Template → List Bool → ℕ → Option Decl → List Template
with_option s ts used i None = ts
with_option s ts used i (Some d) = with_decl s ts used i d

-- with the templates of the properties with these indices, one after the other
abbrev pub filled : Scope → List Decl → List Expansion → List Template → List ℕ → List Template
filled s ds x ts [] = ts
filled s ds x ts (i ∷ is) = filled s ds x (with_option s ts (used_of (slice_get x i)) i (slice_get ds i)) is

abbrev pub nothing_used : Template
nothing_used = record { used = []; clauses = []; names = [] }

abbrev pub without_uses : List Decl → List Template
without_uses [] = []
without_uses (d ∷ ds) = nothing_used ∷ without_uses ds

-- the template of each declaration, by its index; one that is no property has none
abbrev pub templates : Scope → List Decl → List Expansion → List ℕ → List Template
templates s ds x order = filled s ds x (without_uses ds) order
