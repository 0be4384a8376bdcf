use Rattle.std.proofs.Common.{◌≡◌, length}
use Rattle.wy_search_spec.specs.Classes.{rounds}
use Rattle.wy_term.specs.Nodes.{tree_at}
use Rattle.wy_cong.specs.Seen.{terms_of}
use Rattle.wy_cong.proofs.closing.rounds.Given as goal

abbrev pub invariant-loop-left : goal.invariant-loop-left
invariant-loop-left l = rounds l.left (terms_of (tree_at l.terms) l.present) l.labels.items ≡ rounds (length (terms_of (tree_at l.terms) l.present)) (terms_of (tree_at l.terms) l.present) l.fn.labels.items

abbrev pub decreases-loop-left : goal.decreases-loop-left
decreases-loop-left l = l.left
