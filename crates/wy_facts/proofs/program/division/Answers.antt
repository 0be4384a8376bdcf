use Rattle.std.proofs.Common.{refl}
use Rattle.wy_facts.specs.declared.schema.Schema.TheVariants.{Division}
use Rattle.wy_facts.proofs.PartsLemmas.{states_of_four}
use Rattle.wy_facts.proofs.program.division.Goals as goal

pub returns : goal.returns
returns c = record { states = states_of_four c.from_slice.result _ Division c.from_slice.ensures.items refl (λ a b d e. refl) }
