use Rattle.std.proofs.Common.{◌≡◌, ◌++◌, drop}
use Rattle.wy_term.specs.Nodes.{tree_at}
use Rattle.wy_cert.specs.writing.Text.{texts}
use Rattle.wy_cache.specs.Key.{line_of}
use Rattle.wy_cache.specs.Shown.{AreShown}
use Rattle.wy_cache.proofs.keys.put_lines.Given as goal

abbrev pub invariant-loop-formula : goal.invariant-loop-formula
invariant-loop-formula l = record {
  value : l.out.items ++ texts (λ f. line_of (tree_at l.terms f)) (drop l.formula-index l.formulas) ≡ l.initial.out.items ++ texts (λ f. line_of (tree_at l.terms f)) l.formulas;
  shown : AreShown l.terms l.shown;
}
