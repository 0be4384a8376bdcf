use Rattle.std.proofs.Common.{◌≡◌, drop}
use Rattle.wy_term.specs.Nodes.{tree_at, parts_at}
use Rattle.wy_term.specs.Rewriting.{has_false}
use Rattle.wy_term.proofs.fold.has_false.Given as goal

abbrev pub invariant-loop-member : goal.invariant-loop-member
invariant-loop-member l = has_false (parts_at (tree_at l.terms) (drop l.member-index l.members)) ≡ has_false (parts_at (tree_at l.terms) l.members)
