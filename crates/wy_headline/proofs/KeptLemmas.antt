-- Nothing dead is kept in the code of a source.
use Rattle.std.proofs.Common.{map, subst}
use Rattle.wy_top.specs.wy_top_source.wy_ast.SurfaceSeen.{seen_decl}
use Rattle.wy_core.specs.CoreSeen.{seen_core}
use Rattle.wy_gen_sources.specs.code.Dead.{Asked, RunsKeep}
use Rattle.wy_gen_sources.proofs.code_lemmas.ProgramLemmas.{nothing_dead}
use Rattle.wy_gen_sources.proofs.programs_lemmas.DeclLemmas.{named_own}
use Rattle.wy_top.proofs.wy_gen_sources_proofs.source_ints_lemmas.FormedInts.{source-formed}
use Rattle.wy_top.proofs.wy_gen_sources_proofs.sourced_code_lemmas.SourceLemmas.{spelled_as_asked}
use Rattle.wy_headline.specs.Sources.{SourcesKeepNothingDead}

pub sources_keep : SourcesKeepNothingDead
sources_keep bytes core flow p =
    let program = p.named.program in
    let spelled = p.named.spelled in
    let named = p.named.holds in
    let own = spelled_as_asked bytes program p.core spelled named in
    let asked : Asked (seen_core p.core) = record {
      formed = source-formed bytes program p.core spelled named;
      order = own.order;
      names = own.theirs;
      counters = named_own (map seen_decl program.decls) p.core named;
    } in
    subst RunsKeep p.holds.0 (nothing_dead (seen_core p.core) asked)
