-- The core of a source is formed.
use Rattle.std.proofs.Common.{ℕ, List, map}
use Rattle.wy_ast.specs.SurfaceSeen.{seen_decl}
use Rattle.wy_ast.specs.declared.declarations.Program.{Program}
use Rattle.wy_core.specs.CoreSeen.{seen_core}
use Rattle.wy_core.specs.declared.declarations.Core.{Core}
use Rattle.wy_core.specs.formed.Formed.{Formed}
use Rattle.wy_print_laws.specs.wy_parse_front.Front.{Spells}
use Rattle.wy_names.specs.Named.{IsNamed}
use Rattle.wy_gen_sources.proofs.source_ints_lemmas.ProgramLeaves.{read-ints}
use Rattle.wy_gen_sources.proofs.source_ints_lemmas.SpelledLemmas.{text_formed}

pub source-formed : (bytes : List ℕ) (program : Program) (core : Core) → Spells bytes program → IsNamed (map seen_decl program.decls) core → Formed (seen_core core)
source-formed bytes program core s n = text_formed bytes program core s (read-ints bytes program s) n
