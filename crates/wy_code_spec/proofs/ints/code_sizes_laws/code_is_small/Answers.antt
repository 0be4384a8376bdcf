use Rattle.wy_code_spec.proofs.ints_lemmas.ProgramLemmas.{body_small, type_small, code_small}
use Rattle.wy_code_spec.proofs.ints.code_sizes_laws.code_is_small.Goals as goal

pub returns : goal.returns
returns c = record { bodies = body_small; types = type_small; programs = code_small }
