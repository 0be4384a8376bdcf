use Rattle.std.proofs.Common.{◌≡◌, ◌<◌, length, drop}
use Rattle.wy_check_nodes.specs.wy_term.Nodes.{tree_at}
use Rattle.wy_check_nodes.specs.wy_facts.Seen.{terms_at}
use Rattle.wy_check_nodes.specs.wy_check_spec.valid.Literals.{last_of}
use Rattle.wy_check_splits.proofs.chain.last_of.Given as goal

abbrev pub invariant-loop-t : goal.invariant-loop-t
invariant-loop-t l = record {
  so_far : last_of (tree_at l.terms l.last) (terms_at l.terms (drop l.t-index l.rest)) ≡ last_of (tree_at l.terms l.first) (terms_at l.terms l.rest);
  within : l.last < length l.terms;
}
