use Rattle.wy_core.specs.CoreSeen.{seen_core}
use Rattle.wy_gen_laws.proofs.wy_code_spec_proofs.compiled_lemmas.CallRoutineLemmas.{all_call}
use Rattle.wy_gen_laws.proofs.wy_code_spec_proofs.compiled_lemmas.ShapeLemmas.{core_shapes}
use Rattle.wy_names.proofs.resolved_lemmas.ResolvedCoreLemmas.{named_bound}
use Rattle.wy_gen_sources.proofs.source_ints_lemmas.FieldNameLemmas.{named_fields}
use Rattle.wy_gen_sources.proofs.source_ints.named_code_laws.the_code_of_a_named_core_is_whole.Goals as goal

pub returns : goal.returns
returns c = record {
  calls = λ ds core named. all_call (seen_core core) (named_bound ds core named);
  shapes = λ ds core fields named. core_shapes (seen_core core) (named_fields ds core fields named);
}
