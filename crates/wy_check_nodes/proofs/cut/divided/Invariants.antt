use Rattle.std.proofs.Common.{◌≡◌, ◌++◌, length, drop, map}
use Rattle.wy_check_spec.specs.wy_term.Nodes.{tree_at}
use Rattle.wy_check_spec.specs.wy_lin.Seen.{seen_part}
use Rattle.wy_check_spec.specs.wy_facts.Seen.{terms_at, AreBelow, Stays}
use Rattle.wy_check_spec.specs.valid.Sums.{divided}
use Rattle.wy_check_nodes.proofs.cut.divided.Given as goal

-- the products so far, and those of what is left, are all
abbrev pub invariant-loop-part : goal.invariant-loop-part
invariant-loop-part l = record {
  so_far : terms_at l.terms l.products.items ++ divided l.d (map (seen_part (tree_at l.fn.terms)) (drop l.part-index l.parts)) ≡ divided l.d (map (seen_part (tree_at l.fn.terms)) l.parts);
  below : AreBelow (length l.terms) l.products.items;
  stays : Stays l.fn.terms l.terms;
}
