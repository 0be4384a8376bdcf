use Rattle.std.proofs.Common.{◌≡◌, take}
use Rattle.wy_mach.proofs.starting.copied_names.Given as goal

abbrev pub invariant-loop-i : goal.invariant-loop-i
invariant-loop-i l = l.made ≡ take l.i l.names
