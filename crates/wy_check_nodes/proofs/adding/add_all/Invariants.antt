use Rattle.std.proofs.Common.{◌≡◌, map, drop}
use Rattle.wy_check_spec.specs.wy_term.Nodes.{tree_at}
use Rattle.wy_check_spec.specs.judge.Node.{with_formulas}
use Rattle.wy_check_nodes.specs.Seen.{seen_branch, IsBranch, Extends}
use Rattle.wy_check_nodes.proofs.adding.add_all.Given as goal

-- what is left leads to what all formulas lead to
abbrev pub invariant-loop-f : goal.invariant-loop-f
invariant-loop-f l = record {
  leads : with_formulas (seen_branch (tree_at l.terms) l.branch) (map (tree_at l.terms) (drop l.f-index l.formulas)) ≡ with_formulas (seen_branch (tree_at l.terms) l.fn.branch) (map (tree_at l.terms) l.formulas);
  branch : IsBranch l.terms l.branch;
  grows : Extends l.fn.branch l.branch;
}
