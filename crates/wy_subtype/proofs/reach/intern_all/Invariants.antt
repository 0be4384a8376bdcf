use Rattle.std.proofs.Common.{take}
use Rattle.wy_subtype.specs.Numbers.{Keeps, AreAt}
use Rattle.wy_canon.specs.wy_types.Claims.{AreDifferent, EachOf}
use Rattle.wy_canon.specs.wy_types.Reach.{Reaches}
use Rattle.wy_subtype.proofs.reach.intern_all.Given as goal

abbrev pub invariant-loop-c : goal.invariant-loop-c
invariant-loop-c l = record { keeps : Keeps l.fn.conjuncts l.conjuncts; at : AreAt l.conjuncts l.numbers (take l.c-index l.list); different : AreDifferent l.conjuncts; reached : EachOf (Reaches l.table l.depth l.first) l.conjuncts }
