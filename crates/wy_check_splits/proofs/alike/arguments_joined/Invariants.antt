use Rattle.std.proofs.Common.{◌≡◌, List, length, drop}
use Rattle.wy_check_nodes.specs.wy_term.Nodes.{tree_at, parts_at}
use Rattle.wy_check_nodes.specs.wy_check_spec.judge.Node.{Literal}
use Rattle.wy_check_nodes.specs.wy_check_spec.valid.Literals.{arguments_joined}
use Rattle.wy_check_splits.specs.Joined.{Notes}
use Rattle.wy_check_splits.proofs.alike.arguments_joined.Given as goal

-- all so far are the same or joined
abbrev pub invariant-loop-i : goal.invariant-loop-i
invariant-loop-i l = (ls : List Literal) → Notes (tree_at l.terms) (length l.terms) ls l.joined → arguments_joined ls (parts_at (tree_at l.terms) (drop l.i l.ss)) (parts_at (tree_at l.terms) (drop l.i l.ts)) ≡ arguments_joined ls (parts_at (tree_at l.terms) l.ss) (parts_at (tree_at l.terms) l.ts)
