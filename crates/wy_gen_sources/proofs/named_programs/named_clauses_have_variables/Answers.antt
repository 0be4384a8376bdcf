use Rattle.wy_gen_sources.proofs.named_programs_lemmas.NamedLemmas.{named_name_theirs}
use Rattle.wy_gen_sources.proofs.named_programs.named_clauses_have_variables.Goals as goal

pub returns : goal.returns
returns c = record { theirs = named_name_theirs }
