use Rattle.wy_gen_sources.proofs.named_programs_lemmas.NamedLemmas.{named_in_order}
use Rattle.wy_gen_sources.proofs.named_programs.named_parameters_are_in_order.Goals as goal

pub returns : goal.returns
returns c = record { order = named_in_order }
