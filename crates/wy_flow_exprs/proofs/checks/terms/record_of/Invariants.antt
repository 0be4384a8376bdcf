use Rattle.std.proofs.Common.{◌≡◌, ◌++◌, drop}
use Rattle.wy_flow_exprs.proofs.checks.terms.record_of.Given as goal

abbrev pub invariant-loop-field : goal.invariant-loop-field
invariant-loop-field l = l.made ++ drop l.field-index l.fields ≡ l.fields
