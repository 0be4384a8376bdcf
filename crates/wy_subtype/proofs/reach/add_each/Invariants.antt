use Rattle.std.proofs.Common.{take}
use Rattle.wy_subtype.specs.Numbers.{AreEachAt}
use Rattle.wy_subtype.specs.Known.{IsKnown, Grows}
use Rattle.wy_subtype.proofs.reach.add_each.Given as goal

abbrev pub invariant-loop-list : goal.invariant-loop-list
invariant-loop-list l = record { known : IsKnown l.table l.depth l.first l.reach; grows : Grows l.fn.reach l.reach; at : AreEachAt l.reach.parts l.numbers (take l.list-index l.lists) }
