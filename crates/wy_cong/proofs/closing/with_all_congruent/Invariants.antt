use Rattle.std.proofs.Common.{◌≡◌, drop, map}
use Rattle.wy_search_spec.specs.Classes.{with_all_congruent}
use Rattle.wy_term.specs.Nodes.{tree_at}
use Rattle.wy_cong.specs.Seen.{terms_of}
use Rattle.wy_cong.specs.Signatures.{AreGrouped}
use Rattle.wy_cong.proofs.closing.with_all_congruent.Given as goal

abbrev pub invariant-loop-i : goal.invariant-loop-i
invariant-loop-i l = record {
  left : with_all_congruent (terms_of (tree_at l.terms) l.present) l.labels.items (map (tree_at l.terms) (drop l.i l.present.numbers.items)) ≡ with_all_congruent (terms_of (tree_at l.terms) l.present) l.fn.labels.items (terms_of (tree_at l.terms) l.present);
  groups : AreGrouped l.terms (terms_of (tree_at l.terms) l.present) l.labels.items l.present.numbers.items l.groups;
}
