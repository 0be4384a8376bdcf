use Rattle.std.proofs.Common.{refl}
use Rattle.wy_facts.specs.declared.schema.Schema.TheVariants.{FieldUpdated}
use Rattle.wy_facts.proofs.PartsLemmas.{states_of_two}
use Rattle.wy_facts.proofs.program.field_updated.Goals as goal

pub returns : goal.returns
returns c = record { states = states_of_two c.from_slice.result _ FieldUpdated c.from_slice.ensures.items refl (λ a b. refl) }
