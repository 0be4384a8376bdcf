use Rattle.wy_sound_types.proofs.MembershipLemmas.{membership_said}
use Rattle.wy_sound_types.proofs.law.membership_is_said.Goals as goal

pub returns : goal.returns
returns c = record { said = membership_said }
