use Rattle.std.proofs.Common.{◌≡◌, ◌<◌, List, length, drop}
use Rattle.wy_check_nodes.specs.wy_term.Nodes.{tree_at}
use Rattle.wy_check_nodes.specs.wy_check_spec.judge.Node.{Literal}
use Rattle.wy_check_nodes.specs.wy_facts.Seen.{terms_at}
use Rattle.wy_check_nodes.specs.wy_check_spec.valid.Literals.{is_chain}
use Rattle.wy_check_splits.specs.Joined.{Notes}
use Rattle.wy_check_splits.proofs.chain.is_chain.Given as goal

-- each so far is joined with the one before it, or alike
abbrev pub invariant-loop-t : goal.invariant-loop-t
invariant-loop-t l = record {
  so_far : (ls : List Literal) → Notes (tree_at l.terms) (length l.terms) ls l.joined → is_chain ls (tree_at l.terms l.last) (terms_at l.terms (drop l.t-index l.rest)) ≡ is_chain ls (tree_at l.terms l.first) (terms_at l.terms l.rest);
  within : l.last < length l.terms;
}
