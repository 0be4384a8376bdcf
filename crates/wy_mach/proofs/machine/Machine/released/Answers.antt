use Rattle.wy_mach.specs.States.{places_below, callers_of}
use Rattle.wy_mach.proofs.machine.Machine.released.Goals as goal

pub leave-requires : goal.leave-requires
leave-requires c = record { held = (places_below (callers_of c.args.self), c.requires.stands) }

pub leave_all-requires : goal.leave_all-requires
leave_all-requires c = record { held = (c.leave.ensures.acts (places_below (callers_of c.args.self)) c.requires.stands).stands }
