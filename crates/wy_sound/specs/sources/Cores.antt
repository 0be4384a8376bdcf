-- What the cores of programs with names have besides being formed, and so the core of each source.
use Rattle.std.specs.Prelude.{ℕ, List, map}
use Rattle.wy_ast.specs.SurfaceTree.{Decl}
use Rattle.wy_ast.specs.SurfaceSeen.{seen_decl}
use Rattle.wy_ast.specs.declared.declarations.Program.{Program}
use Rattle.wy_core.specs.CoreTree.{aliases_of}
use Rattle.wy_core.specs.CoreSeen.{seen_core}
use Rattle.wy_core.specs.declared.declarations.Core.{Core}
use Rattle.wy_names.specs.Named.{IsNamed}
use Rattle.wy_print_laws.specs.wy_parse_front.Front.{Spells}
use Rattle.wy_print_laws.specs.spelled_types.SourceVariables.{HaveOwnVariables}
use Rattle.wy_sound_types.specs.Tests.{HaveVariables}
use Rattle.wy_sound.specs.typing.Sources.{EachOnce, Sourced}

-- each function and method declares each of its variables once
abbrev pub NamedDeclareOnce : Type 0
NamedDeclareOnce = (ds : List Decl) (core : Core) → IsNamed ds core → EachOnce (seen_core core)

-- each type of the core has a variable exactly where it has clauses, where each as it is written does
abbrev pub NamedHaveVariables : Type 0
NamedHaveVariables = (ds : List Decl) (core : Core) → HaveOwnVariables ds → IsNamed ds core → HaveVariables (aliases_of (seen_core core))

-- so the core of each program that bytes spell has both
abbrev pub SpelledAreSourced : Type 0
SpelledAreSourced = (bytes : List ℕ) (program : Program) (core : Core) → Spells bytes program → IsNamed (map seen_decl program.decls) core → Sourced (seen_core core)
