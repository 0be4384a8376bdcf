use Rattle.std.proofs.Common.{◌≡◌, drop}
use Rattle.wy_core.specs.CoreSeen.{seen_exprs, seen_fields}
use Rattle.wy_core.specs.CoreTree.{exprs_of}
use Rattle.wy_assign.specs.Faults.{exprs_faults, fields_faults}
use Rattle.wy_assign.proofs.uses.+expr.Given as goal

-- what is left completes what is found
abbrev pub invariant-in_exprs-loop-expr : goal.invariant-in_exprs-loop-expr
invariant-in_exprs-loop-expr l = record {
  kept : l.bound.items ≡ l.fn.bound.items;
  value : exprs_faults l.marks l.fn.bound.items (exprs_of (seen_exprs (drop l.expr-index l.exprs))) l.found ≡ exprs_faults l.marks l.fn.bound.items (exprs_of (seen_exprs l.exprs)) l.fn.found;
}

abbrev pub invariant-in_fields-loop-field : goal.invariant-in_fields-loop-field
invariant-in_fields-loop-field l = record {
  kept : l.bound.items ≡ l.fn.bound.items;
  value : fields_faults l.marks l.fn.bound.items (seen_fields (drop l.field-index l.fields)) l.found ≡ fields_faults l.marks l.fn.bound.items (seen_fields l.fields) l.fn.found;
}
