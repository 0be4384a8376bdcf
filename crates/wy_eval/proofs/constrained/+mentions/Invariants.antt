use Rattle.std.proofs.Common.{◌≡◌, drop, map}
use Rattle.wy_core.specs.CoreSeen.{field_tys_of, seen_ty}
use Rattle.wy_sem.specs.TypeTests.{mentions_fields}
use Rattle.wy_eval.specs.Marks.{marked}
use Rattle.wy_eval.proofs.constrained.+mentions.Given as goal

abbrev pub invariant-mentioned_in-loop-field : goal.invariant-mentioned_in-loop-field
invariant-mentioned_in-loop-field l = mentions_fields (marked l.marks) (field_tys_of (map (λ f. (f.0, seen_ty f.1)) (drop l.field-index l.fields))) ≡ mentions_fields (marked l.marks) (field_tys_of (map (λ f. (f.0, seen_ty f.1)) l.fields))
