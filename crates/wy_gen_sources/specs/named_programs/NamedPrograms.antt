-- What the code of a program asks of its core, and that the core of a program with names has it.
use Rattle.std.specs.Prelude.{◌≡◌, ℕ, List, [], ◌∷◌, Option, Some, None}
use Rattle.wy_ast.specs.SurfaceTree.{Expr, Decl, AliasDecl, FunctionDecl, MethodDecl, PropertyDecl}
use Rattle.wy_core.specs.CoreTree.{routines_of}
use Rattle.wy_core.specs.CoreSeen.{seen_core}
use Rattle.wy_core.specs.declared.declarations.Core.{Core}
use Rattle.wy_names.specs.Named.{IsNamed}
use Rattle.wy_gen_laws.specs.tests.Tested.{ClausesNameTheirs}
use Rattle.wy_gen_laws.specs.programs.Programs.{AllInOrder}

-- what clauses speak of, as it is written: without a variable there are none
abbrev pub SpeaksOf : Option (List ℕ) → List Expr → Type 0
SpeaksOf None clauses = clauses ≡ []
SpeaksOf (Some name) clauses = Unit {0}

-- a type as it is written has a variable where it has clauses
abbrev pub SourceNames : Decl → Type 0
SourceNames (AliasDecl a) = SpeaksOf a.variable a.clauses
SourceNames (FunctionDecl f) = Unit {0}
SourceNames (MethodDecl m) = Unit {0}
SourceNames (PropertyDecl p) = Unit {0}

abbrev pub SourcesName : List Decl → Type 0
SourcesName [] = Unit {0}
SourcesName (d ∷ ds) = SourceNames d × SourcesName ds

-- the parameters of each function and method of the core have the first numbers, in order
abbrev pub NamedAreInOrder : Type 0
NamedAreInOrder = (ds : List Decl) (core : Core) → IsNamed ds core → AllInOrder (routines_of (seen_core core))

-- each type of the core has a variable where it has clauses, where each as it is written does
abbrev pub NamedNameTheirs : Type 0
NamedNameTheirs = (ds : List Decl) (core : Core) → SourcesName ds → IsNamed ds core → ClausesNameTheirs (seen_core core)
