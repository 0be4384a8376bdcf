use Rattle.std.proofs.Common.{refl}
use Rattle.wy_facts.specs.declared.schema.Schema.TheVariants.{ElementOfCopies}
use Rattle.wy_facts.proofs.PartsLemmas.{states_of_four}
use Rattle.wy_facts.proofs.program.element_of_copies.Goals as goal

pub returns : goal.returns
returns c = record { states = states_of_four c.from_slice.result _ ElementOfCopies c.from_slice.ensures.items refl (λ a b d e. refl) }
