use Rattle.std.proofs.Common.{refl}
use Rattle.wy_facts.specs.declared.schema.Schema.TheVariants.{DatumByKind}
use Rattle.wy_facts.proofs.PartsLemmas.{states_of_one}
use Rattle.wy_facts.proofs.program.datum_by_kind.Goals as goal

pub returns : goal.returns
returns c = record { states = states_of_one c.from_slice.result _ DatumByKind c.from_slice.ensures.items refl (λ a. refl) }
