use Rattle.std.proofs.Common.{◌≡◌, ℕ, take, nat_eq}
use Rattle.std.specs.HashSet.{contains}
use Rattle.wy_check_nodes.specs.wy_term_subst.Names.{is_in}
use Rattle.wy_check_splits.proofs.meeting.set_of.Given as goal

abbrev pub invariant-loop-t : goal.invariant-loop-t
invariant-loop-t l = (t : ℕ) → contains nat_eq l.set t ≡ is_in t (take l.t-index l.ts)
