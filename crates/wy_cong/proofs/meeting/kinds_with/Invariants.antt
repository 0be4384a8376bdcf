use Rattle.std.proofs.Common.{◌≡◌, drop}
use Rattle.wy_check_splits.specs.Groups.{in_kinds}
use Rattle.wy_search_spec.specs.Classes.{kinds_with}
use Rattle.wy_term.specs.Nodes.{tree_at}
use Rattle.wy_cong.specs.Seen.{terms_of}
use Rattle.wy_cong.specs.Kinded.{kinded, seen_kinded}
use Rattle.wy_cong.proofs.meeting.kinds_with.Given as goal

abbrev pub invariant-loop-q : goal.invariant-loop-q
invariant-loop-q l = kinds_with (in_kinds l.same) (terms_of (tree_at l.terms) l.present) l.labels (seen_kinded (tree_at l.terms) l.p) (kinded (tree_at l.terms) (drop l.q-index l.qs)) ≡ kinds_with (in_kinds l.same) (terms_of (tree_at l.terms) l.present) l.labels (seen_kinded (tree_at l.terms) l.p) (kinded (tree_at l.terms) l.qs)
