use Rattle.std.proofs.Common.{◌≡◌, drop, map}
use Rattle.wy_search_facts.proofs.indices.is_among.Given as goal
use Rattle.wy_cong.specs.wy_check_spec.judge.Node.{has_formula}
use Rattle.wy_term.specs.Nodes.{tree_at}

-- none so far is the term
abbrev pub invariant-loop-x : goal.invariant-loop-x
invariant-loop-x l = has_formula (map (tree_at l.terms) (drop l.x-index l.names)) (tree_at l.terms l.t) ≡ has_formula (map (tree_at l.terms) l.names) (tree_at l.terms l.t)
