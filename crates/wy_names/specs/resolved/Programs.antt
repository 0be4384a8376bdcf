-- Which faults a program shows, and which of them it is refused for.
use Rattle.std.specs.Prelude.{◌≡◌, ℕ, List, [], ◌∷◌, Some, slice_get}
use Rattle.wy_ast.specs.SurfaceTree.{Decl}
use Rattle.wy_names_scope.specs.Declarations.{behind, builtins, entry_of, name_of, place_of, routine_count}
use Rattle.wy_names_scope.specs.declared.table.Entry.{Entry}
use Rattle.wy_names_scope.specs.declared.fault.Cause.TheVariants as cause
use Rattle.wy_names_scope.specs.declared.fault.Fault.{Fault}
use Rattle.wy_names_scope.specs.Scope.{Scope, has, with_name}
use Rattle.wy_names_recursion.specs.declared.edges.Edge.{Edge}
use Rattle.wy_names_recursion.specs.Uses.{Edges}
use Rattle.wy_names_recursion.specs.Recursion.{Recurs}
use Rattle.wy_names.specs.Named.{expansions_of, scope_of, uses_of}
use Rattle.wy_names.specs.NameFaults.{fault_named}
use Rattle.wy_names.specs.declared.name_fault.NameFault.{NameFault}
use Rattle.wy_names.specs.resolved.Expansions as expansions
use Rattle.wy_names.specs.resolved.Nodes as nodes
use Rattle.wy_names.specs.resolved.Shown.{IsNoLater, Stands, Never, Either}

-- at a declaration whose name came before, of another one or of a built-in method. What a name stands for is told by what came before it
abbrev pub NamedTwice : {N : Type 0} → (Decl → N → Entry) → (Decl → N → N) → Scope → N → List Decl → Fault → Type 0
NamedTwice entry next s n [] = Never
NamedTwice entry next s n (d ∷ ds) = Either (Stands (has s (name_of d)) (place_of d) cause.Twice) (NamedTwice entry next (with_name s (name_of d) (entry d n)) (next d n) ds)

abbrev pub AtName : List Decl → Fault → Type 0
AtName ds = NamedTwice entry_of behind (builtins (routine_count ds)) (record { types = 0; routines = 0; decls = 0 }) ds

-- at a use by which a type recurs
pub record AtRecursion (ds : List Decl) (es : Edges) (f : Fault) : Type 0 where
  pub place : ℕ
  pub edge : Edge
  pub listed : slice_get es place ≡ Some edge
  pub recurs : Recurs ds es edge
  pub is : f ≡ record { at = edge.at; cause = cause.BareRecursion }

-- the program shows the fault: at a declaration, at a node, at an expression once properties are expanded, or at a use by which a type recurs. The order has the properties whose expansion ends, each behind those that it uses
abbrev pub Shows : List Decl → List ℕ → Fault → Type 0
Shows ds order =
    Either (AtName ds)
    (Either (nodes.InDecls (scope_of ds) ds)
    (Either (expansions.InDecls (scope_of ds) (expansions_of ds order) ds)
    (AtRecursion ds (uses_of ds))))

-- the fault that is given is the first of those that the program shows
pub record IsFirst (ds : List Decl) (order : List ℕ) (given : NameFault) : Type 0 where
  pub fault : Fault
  pub named : given ≡ fault_named fault
  pub shown : Shows ds order fault
  pub first : (f : Fault) → Shows ds order f → IsNoLater fault f
