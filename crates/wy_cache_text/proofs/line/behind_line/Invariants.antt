use Rattle.std.proofs.Common.{take}
use Rattle.wy_data.specs.scan.Front.{AllPass}
use Rattle.wy_cache_text.specs.Lines.{is_inside}
use Rattle.wy_cache_text.proofs.line.behind_line.Given as goal

abbrev pub invariant-loop-end : goal.invariant-loop-end
invariant-loop-end l = AllPass is_inside (take l.end l.text)
