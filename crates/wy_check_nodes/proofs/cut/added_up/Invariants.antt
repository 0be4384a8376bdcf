use Rattle.std.proofs.Common.{◌≡◌, ◌<◌, length, drop}
use Rattle.wy_check_spec.specs.wy_term.Nodes.{tree_at}
use Rattle.wy_check_spec.specs.wy_facts.Seen.{terms_at, Stays}
use Rattle.wy_check_spec.specs.valid.Sums.{added_up}
use Rattle.wy_check_nodes.proofs.cut.added_up.Given as goal

-- the sum so far, and what is left, lead to the whole sum
abbrev pub invariant-loop-t : goal.invariant-loop-t
invariant-loop-t l = record {
  so_far : added_up (tree_at l.terms l.sum) (terms_at l.fn.terms (drop l.t-index l.rest)) ≡ added_up (tree_at l.fn.terms l.first) (terms_at l.fn.terms l.rest);
  within : l.sum < length l.terms;
  stays : Stays l.fn.terms l.terms;
}
