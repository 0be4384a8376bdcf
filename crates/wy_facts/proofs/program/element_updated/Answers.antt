use Rattle.std.proofs.Common.{refl}
use Rattle.wy_facts.specs.declared.schema.Schema.TheVariants.{ElementUpdated}
use Rattle.wy_facts.proofs.PartsLemmas.{states_of_five}
use Rattle.wy_facts.proofs.program.element_updated.Goals as goal

pub returns : goal.returns
returns c = record { states = states_of_five c.from_slice.result _ ElementUpdated c.from_slice.ensures.items refl (λ a b d e f. refl) }
