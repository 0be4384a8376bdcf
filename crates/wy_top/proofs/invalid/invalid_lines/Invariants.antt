use Rattle.std.proofs.Common.{◌≡◌, ◌++◌, suc, drop, map}
use Rattle.wy_top.specs.Refusals.{invalid_from, invalid_lines}
use Rattle.wy_batch.specs.Seen.{known}
use Rattle.wy_top.proofs.invalid.invalid_lines.Given as goal

-- the text so far, and that of what is left
abbrev pub invariant-loop-i : goal.invariant-loop-i
invariant-loop-i l = l.text.items ++ invalid_from l.file (suc l.i) (map known (drop l.i l.verdicts)) ≡ invalid_lines l.file (map known l.verdicts)
