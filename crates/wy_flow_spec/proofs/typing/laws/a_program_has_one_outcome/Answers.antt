use Rattle.wy_flow_spec.proofs.typing_lemmas.StatementLemmas.{single_core}
use Rattle.wy_flow_spec.proofs.typing.laws.a_program_has_one_outcome.Goals as goal

pub returns : goal.returns
returns c = λ core a b p q. single_core core a b p q
