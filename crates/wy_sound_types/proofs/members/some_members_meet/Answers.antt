use Rattle.wy_sound_types.proofs.members_lemmas.MemberLemmas.{some_meet}
use Rattle.wy_sound_types.proofs.members.some_members_meet.Goals as goal

pub returns : goal.returns
returns c = record { meet = some_meet }
