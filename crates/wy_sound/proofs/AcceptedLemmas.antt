-- What is known of accepted programs and of values.
use Rattle.std.proofs.Common.{[], ◌∷◌}
use Rattle.wy_sound_programs.proofs.wy_sound_kinds_proofs.DatumLemmas.{values_are_bounded}
use Rattle.wy_value.specs.Seen.{seen}
use Rattle.wy_sound.specs.Accepted.{AcceptedAreShown, ValuesAreHeld}

pub accepted_shown : AcceptedAreShown
accepted_shown t whole accepted formed sourced = record {
  formed = formed;
  typed = whole.1;
  assigned = accepted.assigned;
  sourced = sourced;
  holds = accepted.holds;
}

pub values_held : ValuesAreHeld
values_held [] h = tt
values_held (v ∷ vs) h = (values_are_bounded (seen v) h.0, values_held vs h.1)
