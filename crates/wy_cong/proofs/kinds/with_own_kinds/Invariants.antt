use Rattle.std.proofs.Common.{◌≡◌, ◌++◌, drop, map, length}
use Rattle.wy_search_spec.specs.Classes.{own_kinds}
use Rattle.wy_term.specs.Nodes.{tree_at}
use Rattle.wy_cong.specs.Seen.{terms_of}
use Rattle.wy_cong.specs.Kinded.{kinded, AreKinded}
use Rattle.wy_cong.proofs.kinds.with_own_kinds.Given as goal

abbrev pub invariant-loop-i : goal.invariant-loop-i
invariant-loop-i l = record {
  left : kinded (tree_at l.terms) l.kinds.items ++ own_kinds (map (tree_at l.terms) (drop l.i l.present.numbers.items)) ≡ kinded (tree_at l.terms) l.fn.kinds.items ++ own_kinds (terms_of (tree_at l.terms) l.present);
  below : AreKinded (length l.terms) l.kinds.items;
}
