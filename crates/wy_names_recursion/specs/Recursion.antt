-- Which uses recur where they may not.
use Rattle.std.specs.Prelude.{◌≡◌, ◌↔◌, ℕ, Bool, true, false, ◌&&◌, ◌==◌, List, [], ◌∷◌, Option, Some, None, slice_get}
use Rattle.wy_ast.specs.SurfaceTree.{Decl, AliasDecl, FunctionDecl, MethodDecl, PropertyDecl}
use Rattle.wy_graph.specs.cycles.Cycles as cycles
use Rattle.wy_graph.specs.cycles.Cycles.{Leads}
use Rattle.wy_names_scope.specs.declared.fault.Cause.TheVariants as cause
use Rattle.wy_names_scope.specs.Faults.{Found, noted_where}
use Rattle.wy_names_recursion.specs.declared.edges.Edge.{Edge}
use Rattle.wy_names_recursion.specs.declared.edges.Way.{Way}
use Rattle.wy_names_recursion.specs.declared.edges.Way.TheVariants as way
use Rattle.wy_names_recursion.specs.Uses.{Edges}
use Rattle.wy_names_recursion.specs.Arrows.{arrows_of}

-- the declaration is a type
abbrev pub is_type : Option Decl → Bool
is_type None = false
is_type (Some (AliasDecl a)) = true
is_type (Some (FunctionDecl f)) = false
is_type (Some (MethodDecl m)) = false
is_type (Some (PropertyDecl p)) = false

-- the use lies on a cycle of all uses, or of all but those inside of records and arrays: what it uses leads back to where it stands
abbrev pub OnCycle : Bool → Edges → Edge → Type 0
OnCycle all es e = Leads (arrows_of all es) e.to e.from

-- a mention or the use of a property in a type's clause, on any cycle
abbrev pub InClause : List Decl → Edges → Edge → Type 0
InClause ds es e = (is_type (slice_get ds e.from) ≡ true) × OnCycle true es e

abbrev pub recurs_in : Way → List Decl → Edges → Edge → Type 0
recurs_in way.Bare ds es e = OnCycle false es e
recurs_in way.Guarded ds es e = ⊥
recurs_in way.Mention ds es e = InClause ds es e
recurs_in way.Use ds es e = InClause ds es e

-- the use is one by which a type recurs: a bare use on a cycle of bare uses, mentions and properties; a mention, or the use of a property, in a type's clause on any cycle
abbrev pub Recurs : List Decl → Edges → Edge → Type 0
Recurs ds es e = recurs_in e.way ds es e

-- the faults of the uses that the mark picks
abbrev pub noted_marked : (Edge → Bool) → Edges → Found → Found
noted_marked mark [] found = found
noted_marked mark (e ∷ es) found = noted_marked mark es (noted_where (mark e) found e.at cause.BareRecursion)

-- f is the fault to be given, of the one found before and those at the uses by which a type recurs
pub record NotesRecursion (ds : List Decl) (es : Edges) (found f : Found) : Type 0 where
  pub mark : Edge → Bool
  pub exact : (i : ℕ) (e : Edge) → slice_get es i ≡ Some e → (mark e ≡ true) ↔ Recurs ds es e
  pub noted : f ≡ noted_marked mark es found

-- the same by labels of the declarations

abbrev pub label : List ℕ → ℕ → ℕ
label labels v = cycles.label labels v

-- both ends have one label
abbrev pub has_one_label : List ℕ → Edge → Bool
has_one_label labels e = label labels e.from == label labels e.to

abbrev pub recurs_by_way : Way → List ℕ → List ℕ → List Decl → Edge → Bool
recurs_by_way way.Bare bare all ds e = has_one_label bare e
recurs_by_way way.Guarded bare all ds e = false
recurs_by_way way.Mention bare all ds e = is_type (slice_get ds e.from) && has_one_label all e
recurs_by_way way.Use bare all ds e = is_type (slice_get ds e.from) && has_one_label all e

abbrev pub recurs_by : List ℕ → List ℕ → List Decl → Edge → Bool
recurs_by bare all ds e = recurs_by_way e.way bare all ds e

abbrev pub noted_by : List ℕ → List ℕ → List Decl → Edges → Found → Found
noted_by bare all ds es found = noted_marked (recurs_by bare all ds) es found
