use Rattle.std.proofs.Common.{refl}
use Rattle.wy_facts.specs.declared.schema.Schema.TheVariants.{KindOfFieldUpdated}
use Rattle.wy_facts.proofs.PartsLemmas.{states_of_two}
use Rattle.wy_facts.proofs.program.kind_of_field_updated.Goals as goal

pub returns : goal.returns
returns c = record { states = states_of_two c.from_slice.result _ KindOfFieldUpdated c.from_slice.ensures.items refl (λ a b. refl) }
