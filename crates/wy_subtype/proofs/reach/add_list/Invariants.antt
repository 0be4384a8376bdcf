use Rattle.std.proofs.Common.{take}
use Rattle.wy_subtype.specs.Numbers.{AreAt}
use Rattle.wy_subtype.specs.Known.{IsKnown, Grows}
use Rattle.wy_subtype.proofs.reach.add_list.Given as goal

abbrev pub invariant-loop-part : goal.invariant-loop-part
invariant-loop-part l = record { known : IsKnown l.table l.depth l.first l.reach; grows : Grows l.fn.reach l.reach; at : AreAt l.reach.parts l.numbers (take l.part-index l.list) }
