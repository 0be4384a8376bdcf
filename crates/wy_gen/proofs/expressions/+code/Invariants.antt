use Rattle.std.proofs.Common.{◌≡◌, ◌≤◌, ◌+◌, ◌++◌, length, drop}
use Rattle.wy_core.specs.CoreSeen.{seen_exprs, seen_fields}
use Rattle.wy_core.specs.CoreTree.{exprs_of}
use Rattle.wy_live.specs.Walks as lives
use Rattle.wy_code_spec.specs.compiled.Expressions as spec
use Rattle.wy_gen.proofs.expressions.+code.Given as goal

-- what is behind has been gone through
abbrev pub invariant-codes-loop-left : goal.invariant-codes-loop-left
invariant-codes-loop-left l = record {
  within : l.left ≤ length l.exprs;
  place : l.here ≡ l.register + l.left;
  live : l.made.live ≡ lives.before_all (exprs_of (seen_exprs (drop l.left l.exprs))) l.fn.behind.live;
  value : l.made.steps ≡ spec.codes l.context (exprs_of (seen_exprs (drop l.left l.exprs))) l.fn.behind.live l.here ++ l.fn.behind.steps;
}

abbrev pub decreases-codes-loop-left : goal.decreases-codes-loop-left
decreases-codes-loop-left l = l.left

abbrev pub invariant-field_codes-loop-left : goal.invariant-field_codes-loop-left
invariant-field_codes-loop-left l = record {
  within : l.left ≤ length l.fields;
  place : l.here ≡ l.register + l.left;
  live : l.made.live ≡ lives.before_fields (seen_fields (drop l.left l.fields)) l.fn.behind.live;
  value : l.made.steps ≡ spec.field_codes l.context (seen_fields (drop l.left l.fields)) l.fn.behind.live l.here ++ l.fn.behind.steps;
}

abbrev pub decreases-field_codes-loop-left : goal.decreases-field_codes-loop-left
decreases-field_codes-loop-left l = l.left
