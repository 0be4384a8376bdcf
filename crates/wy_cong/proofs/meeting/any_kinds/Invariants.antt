use Rattle.std.proofs.Common.{◌≡◌, drop}
use Rattle.wy_check_splits.specs.Groups.{in_kinds}
use Rattle.wy_search_spec.specs.Classes.{any_kinds}
use Rattle.wy_term.specs.Nodes.{tree_at}
use Rattle.wy_cong.specs.Seen.{terms_of}
use Rattle.wy_cong.specs.Kinded.{kinded}
use Rattle.wy_cong.proofs.meeting.any_kinds.Given as goal

abbrev pub invariant-loop-p : goal.invariant-loop-p
invariant-loop-p l = any_kinds (in_kinds l.same) (terms_of (tree_at l.terms) l.present) l.labels (kinded (tree_at l.terms) (drop l.p-index l.ps)) (kinded (tree_at l.terms) l.qs) ≡ any_kinds (in_kinds l.same) (terms_of (tree_at l.terms) l.present) l.labels (kinded (tree_at l.terms) l.ps) (kinded (tree_at l.terms) l.qs)
