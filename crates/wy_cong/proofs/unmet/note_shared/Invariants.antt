use Rattle.std.proofs.Common.{drop, length, map}
use Rattle.wy_cong.proofs.UnmetLemmas.{Leads}
use Rattle.wy_cong.proofs.unmet.note_shared.Given as goal
use Rattle.wy_cong.specs.Reached.{AreWithin}
use Rattle.wy_check_splits.specs.wy_check_nodes.Seen.{seen_formula}
use Rattle.wy_term.specs.Nodes.{tree_at}

-- the atoms so far that stand in both lists are noted
abbrev pub invariant-loop-i : goal.invariant-loop-i
invariant-loop-i l = record {
  leads : Leads (tree_at l.terms) (seen_formula (tree_at l.terms) (l.formula, l.holds)) (map (tree_at l.terms) l.found.list.items) (map (tree_at l.terms) l.also.list.items) (map (tree_at l.terms) (drop l.i l.found.list.items)) l.fn.left.items l.left.items;
  within : AreWithin (length l.terms) l.left.items;
}
