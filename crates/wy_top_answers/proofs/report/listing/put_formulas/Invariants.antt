use Rattle.std.proofs.Common.{◌≡◌, ◌++◌, drop, map}
use Rattle.wy_term.specs.Nodes.{tree_at}
use Rattle.wy_top_answers.specs.report.Listing.{formula_lines}
use Rattle.wy_top_answers.specs.report.Shown.{AreShown}
use Rattle.wy_top_answers.proofs.report.listing.put_formulas.Given as goal

abbrev pub invariant-loop-formula : goal.invariant-loop-formula
invariant-loop-formula l = (l.out.items ++ formula_lines (map (tree_at l.terms) (drop l.formula-index l.formulas)) ≡ l.initial.out.items ++ formula_lines (map (tree_at l.terms) l.formulas)) × AreShown l.terms l.shown
