use Rattle.std.proofs.Common.{take}
use Rattle.wy_subtype.specs.Numbers.{AreAllAt}
use Rattle.wy_subtype.specs.Known.{IsKnown, Grows}
use Rattle.wy_subtype.proofs.reach.add_options.Given as goal

abbrev pub invariant-loop-each : goal.invariant-loop-each
invariant-loop-each l = record { known : IsKnown l.table l.depth l.first l.reach; grows : Grows l.fn.reach l.reach; at : AreAllAt l.reach.parts l.numbers (take l.each-index l.options) }
