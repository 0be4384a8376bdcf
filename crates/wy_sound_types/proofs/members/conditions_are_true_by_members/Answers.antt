use Rattle.wy_sound_types.proofs.members_lemmas.MemberLemmas.{are_true_by}
use Rattle.wy_sound_types.proofs.members.conditions_are_true_by_members.Goals as goal

pub returns : goal.returns
returns c = record { truth = are_true_by }
