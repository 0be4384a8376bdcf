-- What the law on code asks of a core besides that it is formed, of the core of each source.
use Rattle.std.specs.Prelude.{ℕ, List, map}
use Rattle.wy_ast.specs.SurfaceSeen.{seen_decl}
use Rattle.wy_ast.specs.declared.declarations.Program.{Program}
use Rattle.wy_core.specs.CoreTree.{Core, routines_of}
use Rattle.wy_core.specs.CoreSeen.{seen_core}
use Rattle.wy_core.specs.declared.declarations.Core as rust
use Rattle.wy_names.specs.Named.{IsNamed}
use Rattle.wy_print_laws.specs.wy_parse_front.Front.{Spells}
use Rattle.wy_gen_laws.specs.tests.Tested.{ClausesNameTheirs}
use Rattle.wy_gen_laws.specs.programs.Programs.{AllInOrder}

-- parameters have the first numbers, in order, and a type without a variable has no clauses
pub record AsCodeAsks (core : Core ℕ) : Type 0 where
  pub order : AllInOrder (routines_of core)
  pub theirs : ClausesNameTheirs core

abbrev pub SpelledAreAsCodeAsks : Type 0
SpelledAreAsCodeAsks = (bytes : List ℕ) (program : Program) (core : rust.Core) → Spells bytes program → IsNamed (map seen_decl program.decls) core → AsCodeAsks (seen_core core)
