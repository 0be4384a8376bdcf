use Rattle.std.proofs.Common.{◌≡◌, drop}
use Rattle.wy_core.specs.CoreSeen.{seen_ty}
use Rattle.wy_flow_exprs.specs.Seen.{seen_types}
use Rattle.wy_flow_spec.specs.typing.Parts.{union_with}
use Rattle.wy_flow_exprs.proofs.parts.union_behind.Given as goal

abbrev pub invariant-loop-item : goal.invariant-loop-item
invariant-loop-item l = union_with (seen_ty l.union) (seen_types (drop l.item-index l.rest)) ≡ union_with (seen_ty l.fn.first) (seen_types l.rest)
