use Rattle.std.proofs.Common.{◌≡◌, ◌++◌, drop}
use Rattle.wy_vc.specs.Told.{entries_by}
use Rattle.wy_vc.proofs.telling.entries.Given as goal

abbrev pub invariant-loop-number : goal.invariant-loop-number
invariant-loop-number l = l.made.items ++ entries_by l.marks l.number (drop l.number l.meanings) ≡ entries_by l.marks 0 l.meanings
