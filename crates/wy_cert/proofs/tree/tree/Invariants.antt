use Rattle.std.proofs.Common.{◌≤◌, ◌<◌, ◌+◌, All, [], length, map}
use Rattle.wy_term_text.specs.wy_term.Nodes.{tree_at}
use Rattle.wy_cert.specs.Only.{AreSame}
use Rattle.wy_cert.specs.Steps.{written, IsBelow}
use Rattle.wy_cert.specs.File.{ReadsTree}
use Rattle.wy_cert.proofs.tree.tree.Given as goal

abbrev pub invariant-loop-turn : goal.invariant-loop-turn
invariant-loop-turn l = record {
  same : AreSame (ReadsTree l.fn.products (map (written (tree_at l.terms)) l.steps.items) l.lacking l.line l.rest) (ReadsTree l.fn.products [] 1 l.fn.line l.fn.text);
  below : All (IsBelow (length l.terms)) l.steps.items;
  room : l.line + length l.rest ≤ l.fn.line + length l.fn.text;
  some : 0 < l.line;
  trees : l.lacking + length l.rest ≤ 1 + length l.fn.text;
}
