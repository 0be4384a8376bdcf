use Rattle.std.proofs.Common.{◌≡◌, drop, map}
use Rattle.wy_core.specs.CoreSeen.{field_tys_of, seen_ty}
use Rattle.wy_sem.specs.TypeTests as spec
use Rattle.wy_eval_exprs.specs.Operands.{parts_of}
use Rattle.wy_eval_exprs.proofs.kinds.same_names.Given as goal

abbrev pub invariant-loop-field : goal.invariant-loop-field
invariant-loop-field l = record {
  place : l.number ≡ l.field-index;
  left : spec.same_names (parts_of (drop l.field-index l.fields)) (field_tys_of (map (λ f. (f.0, seen_ty f.1)) (drop l.field-index l.tys))) ≡ spec.same_names (parts_of l.fields) (field_tys_of (map (λ f. (f.0, seen_ty f.1)) l.tys));
}
