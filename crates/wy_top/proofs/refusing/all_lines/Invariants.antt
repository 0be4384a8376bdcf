use Rattle.std.proofs.Common.{◌≡◌, ◌++◌, [], suc, drop, map}
use Rattle.wy_top.specs.Refusals.{lines_from}
use Rattle.wy_vc.specs.Told.{seen_cond}
use Rattle.wy_batch.specs.Seen.{known}
use Rattle.wy_top.proofs.refusing.all_lines.Given as goal

-- the text so far, and that of what is left
abbrev pub invariant-loop-i : goal.invariant-loop-i
invariant-loop-i l = l.text.items ++ lines_from l.file l.source l.budget (suc l.i) (map (seen_cond []) (drop l.i l.conds)) (map known (drop l.i l.verdicts)) ≡ lines_from l.file l.source l.budget 1 (map (seen_cond []) l.conds) (map known l.verdicts)
