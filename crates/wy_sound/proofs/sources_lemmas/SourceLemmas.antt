-- The core of each source has both.
use Rattle.std.proofs.Common.{map}
use Rattle.wy_ast.specs.SurfaceSeen.{seen_decl}
use Rattle.wy_print_laws.proofs.spelled_types_lemmas.SpelledLemmas.{spelled_variables}
use Rattle.wy_sound.specs.sources.Cores.{SpelledAreSourced}
use Rattle.wy_sound.proofs.sources_lemmas.OnceLemmas.{named_once}
use Rattle.wy_sound.proofs.sources_lemmas.VariableLemmas.{named_variables}

pub spelled_sourced : SpelledAreSourced
spelled_sourced bytes program core s n =
    record {
      variables = named_variables (map seen_decl program.decls) core (spelled_variables bytes program s) n;
      once = named_once (map seen_decl program.decls) core n;
    }
