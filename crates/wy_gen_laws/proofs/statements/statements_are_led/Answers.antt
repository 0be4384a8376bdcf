use Rattle.wy_gen_laws.proofs.statements_lemmas.StatementLemmas.{statements_led}
use Rattle.wy_gen_laws.proofs.statements.statements_are_led.Goals as goal

pub returns : goal.returns
returns c = record { led = statements_led }
