use Rattle.wy_mach.proofs.sharing_laws_lemmas.RoomLemmas.{room_below}
use Rattle.wy_mach.proofs.sharing_laws.below_the_cap_there_is_room.Goals as goal

pub returns : goal.returns
returns c = record { room = room_below }
