use Rattle.std.proofs.Common.{◌≡◌, ◌≤◌, length, drop}
use Rattle.wy_core.specs.CoreSeen.{seen_exprs, seen_fields}
use Rattle.wy_core.specs.CoreTree.{exprs_of}
use Rattle.wy_live.specs.LastUses as definition
use Rattle.wy_live.proofs.uses.+skip.Given as goal

-- what is behind has been gone through
abbrev pub invariant-skip_all-loop-left : goal.invariant-skip_all-loop-left
invariant-skip_all-loop-left l = record {
  within : l.left ≤ length l.exprs;
  value : l.marks ≡ definition.all_unused (exprs_of (seen_exprs (drop l.left l.exprs))) l.fn.marks;
}

abbrev pub decreases-skip_all-loop-left : goal.decreases-skip_all-loop-left
decreases-skip_all-loop-left l = l.left

abbrev pub invariant-skip_fields-loop-left : goal.invariant-skip_fields-loop-left
invariant-skip_fields-loop-left l = record {
  within : l.left ≤ length l.fields;
  value : l.marks ≡ definition.fields_unused (seen_fields (drop l.left l.fields)) l.fn.marks;
}

abbrev pub decreases-skip_fields-loop-left : goal.decreases-skip_fields-loop-left
decreases-skip_fields-loop-left l = l.left
