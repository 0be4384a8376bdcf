use Rattle.std.proofs.Common.{◌≡◌, ◌≤◌, length, drop}
use Rattle.wy_core.specs.CoreSeen.{seen_exprs, seen_fields}
use Rattle.wy_core.specs.CoreTree.{exprs_of}
use Rattle.wy_live.specs.Walks as spec
use Rattle.wy_live.proofs.uses.+mark.Given as goal

-- what is behind has been gone through
abbrev pub invariant-mark_all-loop-left : goal.invariant-mark_all-loop-left
invariant-mark_all-loop-left l = record {
  within : l.left ≤ length l.exprs;
  value : l.walk ≡ spec.marked_all (exprs_of (seen_exprs (drop l.left l.exprs))) l.fn.walk;
}

abbrev pub decreases-mark_all-loop-left : goal.decreases-mark_all-loop-left
decreases-mark_all-loop-left l = l.left

abbrev pub invariant-mark_fields-loop-left : goal.invariant-mark_fields-loop-left
invariant-mark_fields-loop-left l = record {
  within : l.left ≤ length l.fields;
  value : l.walk ≡ spec.marked_fields (seen_fields (drop l.left l.fields)) l.fn.walk;
}

abbrev pub decreases-mark_fields-loop-left : goal.decreases-mark_fields-loop-left
decreases-mark_fields-loop-left l = l.left
