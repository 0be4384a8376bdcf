use Rattle.std.proofs.Common.{take}
use Rattle.wy_term.specs.Nodes.{tree_at, parts_at}
use Rattle.wy_vc_terms.specs.wy_vc_spec.Owed.{members_of}
use Rattle.wy_vc_exprs.specs.Numbered.{Grown}
use Rattle.wy_vc_exprs.proofs.walk.+add_members.Given as goal

abbrev pub decreases-add_members : goal.decreases-add_members
decreases-add_members l = l.formula

abbrev pub invariant-loop-member : goal.invariant-loop-member
invariant-loop-member l = Grown l.terms l.fn.hyps.items l.hyps.items (members_of (parts_at (tree_at l.terms) (take l.member-index l.member-items)))
