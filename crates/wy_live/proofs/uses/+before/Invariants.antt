use Rattle.std.proofs.Common.{◌≡◌, ◌≤◌, length, drop}
use Rattle.wy_core.specs.CoreSeen.{seen_exprs, seen_fields}
use Rattle.wy_core.specs.CoreTree.{exprs_of}
use Rattle.wy_live.specs.Walks as spec
use Rattle.wy_live.proofs.uses.+before.Given as goal

-- what is behind has been gone through
abbrev pub invariant-before_all-loop-left : goal.invariant-before_all-loop-left
invariant-before_all-loop-left l = record {
  within : l.left ≤ length l.exprs;
  value : l.live ≡ spec.before_all (exprs_of (seen_exprs (drop l.left l.exprs))) l.fn.live;
}

abbrev pub decreases-before_all-loop-left : goal.decreases-before_all-loop-left
decreases-before_all-loop-left l = l.left

abbrev pub invariant-before_fields-loop-left : goal.invariant-before_fields-loop-left
invariant-before_fields-loop-left l = record {
  within : l.left ≤ length l.fields;
  value : l.live ≡ spec.before_fields (seen_fields (drop l.left l.fields)) l.fn.live;
}

abbrev pub decreases-before_fields-loop-left : goal.decreases-before_fields-loop-left
decreases-before_fields-loop-left l = l.left
