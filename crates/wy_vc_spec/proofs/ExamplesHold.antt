-- Each line holds by computing.
use Rattle.std.proofs.Common.{refl}
use Rattle.wy_vc_spec.specs.Examples.{SmallProgramsOwe}

pub programs_owe : SmallProgramsOwe
programs_owe = record {
  inc_owes = refl;
  again_owes = refl;
  divided_owes = refl;
  push_owes = refl;
  lazy_owes = refl;
  twice_owes = refl;
  quantified_owes = refl;
  nested_owes = refl;
  shift_owes = refl;
  narrowed_owes = refl;
  push_unfolds = refl;
  nested_unfolds = refl;
  push_mentions = refl;
  inc_is_within = refl;
}
