use Rattle.std.proofs.Common.{◌≡◌, ◌++◌, suc, drop, map}
use Rattle.wy_top_probe.specs.wy_top_answers.report.Shown.{AreShown}
use Rattle.wy_vc.specs.Told.{seen_cond}
use Rattle.wy_top.specs.Owed.{conditions_text}
use Rattle.wy_top.proofs.listing.conditions_text.Given as goal

-- the text so far, and that of what is left; and the texts that are kept are those of the formulas
abbrev pub invariant-loop-i : goal.invariant-loop-i
invariant-loop-i l =
    (l.text.items ++ conditions_text l.source (suc l.i) (map (seen_cond l.conds.terms) (drop l.i l.conds.list.items)) ≡ conditions_text l.source 1 (map (seen_cond l.conds.terms) l.conds.list.items))
    × AreShown l.conds.terms l.shown
