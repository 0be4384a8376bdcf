use Rattle.std.proofs.Common.{refl}
use Rattle.wy_facts.specs.declared.schema.Schema.TheVariants.{EqualNumbers}
use Rattle.wy_facts.proofs.PartsLemmas.{states_of_three}
use Rattle.wy_facts.proofs.program.equal_numbers.Goals as goal

pub returns : goal.returns
returns c = record { states = states_of_three c.from_slice.result _ EqualNumbers c.from_slice.ensures.items refl (λ a b d. refl) }
