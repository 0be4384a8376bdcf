-- The code of the program that a source has is such as a machine takes.
use Rattle.std.proofs.Common.{ℕ, List, map, subst}
use Rattle.wy_top_probe.specs.wy_top_source.wy_ast.SurfaceSeen.{seen_decl}
use Rattle.wy_gen_sources.specs.wy_code_spec.ints.Loadable.{IsLoadable}
use Rattle.wy_gen_sources.proofs.wy_code_spec_proofs.ints_lemmas.LoadableLemmas.{loadable}
use Rattle.wy_gen_sources.specs.wy_code_spec.compiled.Fields.{HasFields}
use Rattle.wy_gen_sources.specs.wy_code_spec.compiled.Programs.{code_of}
use Rattle.wy_core.specs.CoreSeen.{seen_core}
use Rattle.wy_core.specs.CoreTree.{Core}
use Rattle.wy_core.specs.Types.{Ty}
use Rattle.wy_gen_sources.proofs.source_ints_lemmas.FieldNameLemmas.{named_fields}
use Rattle.wy_core.specs.formed.Literals.{Ints}
use Rattle.wy_gen_sources.proofs.wy_names_proofs.resolved_lemmas.LiteralLemmas.{named_ints_alone}
use Rattle.wy_top_probe.specs.wy_top_source.texts.Sources.{IsProgram}
use Rattle.wy_gen_sources.proofs.source_ints_lemmas.ProgramLeaves.{read-fields}
use Rattle.wy_gen_sources.proofs.source_ints_lemmas.ProgramLeaves.{read-ints}

pub source_loadable : (bytes : List ℕ) (core : Core ℕ) (flow : List Ty) → IsProgram bytes core flow → IsLoadable (code_of core)
source_loadable bytes core flow p =
    let program = p.named.program in
    let ds = map seen_decl program.decls in
    let fields : HasFields (seen_core p.core) = named_fields ds p.core (read-fields bytes program p.named.spelled) p.named.holds in
    let ints : Ints (seen_core p.core) = named_ints_alone ds p.core (read-ints bytes program p.named.spelled) p.named.holds in
    subst (λ (c : Core ℕ). IsLoadable (code_of c)) p.holds.0 (loadable (seen_core p.core) fields ints)
