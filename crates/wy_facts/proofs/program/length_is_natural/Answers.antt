use Rattle.std.proofs.Common.{refl}
use Rattle.wy_facts.specs.declared.schema.Schema.TheVariants.{LengthIsNatural}
use Rattle.wy_facts.proofs.PartsLemmas.{states_of_one}
use Rattle.wy_facts.proofs.program.length_is_natural.Goals as goal

pub returns : goal.returns
returns c = record { states = states_of_one c.from_slice.result _ LengthIsNatural c.from_slice.ensures.items refl (λ a. refl) }
