use Rattle.std.proofs.Common.{◌≡◌, drop, map}
use Rattle.wy_search_spec.specs.Classes.{with_congruent}
use Rattle.wy_term.specs.Nodes.{tree_at}
use Rattle.wy_cong.specs.Seen.{terms_of}
use Rattle.wy_cong.proofs.closing.with_congruent.Given as goal

abbrev pub invariant-loop-i : goal.invariant-loop-i
invariant-loop-i l = with_congruent (terms_of (tree_at l.terms) l.present) l.labels.items (tree_at l.terms l.s) (map (tree_at l.terms) (drop l.i l.present.numbers.items)) ≡ with_congruent (terms_of (tree_at l.terms) l.present) l.fn.labels.items (tree_at l.terms l.s) (terms_of (tree_at l.terms) l.present)
