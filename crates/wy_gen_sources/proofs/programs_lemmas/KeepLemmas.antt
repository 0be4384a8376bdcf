-- The core of a program with names is such as the law on registers asks.
use Rattle.std.specs.Prelude.{List}
use Rattle.wy_ast.specs.SurfaceTree.{Decl}
use Rattle.wy_core.specs.CoreSeen.{seen_core}
use Rattle.wy_core.specs.declared.declarations.Core.{Core}
use Rattle.wy_names.specs.Named.{IsNamed}
use Rattle.wy_names.proofs.resolved_lemmas.FormedLemmas.{named_formed}
use Rattle.wy_gen_sources.proofs.named_programs_lemmas.NamedLemmas.{named_in_order, named_name_theirs}
use Rattle.wy_gen_sources.specs.code.Dead.{Asked}
use Rattle.wy_gen_sources.proofs.code_lemmas.ProgramLemmas.{nothing_dead}
use Rattle.wy_gen_sources.specs.programs.NamedKeep.{IsSource, NamedKeepNothingDead}
use Rattle.wy_gen_sources.proofs.programs_lemmas.DeclLemmas.{named_own}

asked : (ds : List Decl) (core : Core) → IsSource ds → IsNamed ds core → Asked (seen_core core)
asked ds core source h =
    record { formed = named_formed ds core source.few source.ints source.clauses h; order = named_in_order ds core h; names = named_name_theirs ds core source.names h; counters = named_own ds core h }

pub named_nothing_dead : NamedKeepNothingDead
named_nothing_dead ds core source h = nothing_dead (seen_core core) (asked ds core source h)
