use Rattle.std.proofs.Common.{◌≡◌, drop}
use Rattle.wy_term.specs.Nodes.{tree_at, parts_at}
use Rattle.wy_search_spec.specs.Classes.{arguments_equal}
use Rattle.wy_cong.specs.Seen.{terms_of}
use Rattle.wy_cong.proofs.congruent.arguments_equal.Given as goal

-- all so far are in one class
abbrev pub invariant-loop-i : goal.invariant-loop-i
invariant-loop-i l = arguments_equal (terms_of (tree_at l.terms) l.present) l.labels (parts_at (tree_at l.terms) (drop l.i l.ss)) (parts_at (tree_at l.terms) (drop l.i l.ts)) ≡ arguments_equal (terms_of (tree_at l.terms) l.present) l.labels (parts_at (tree_at l.terms) l.ss) (parts_at (tree_at l.terms) l.ts)
