use Rattle.std.proofs.Common.{◌≡◌, drop, map}
use Rattle.wy_core.specs.CoreSeen.{field_tys_of, seen_ty}
use Rattle.wy_vc_spec.specs.wy_sem.TypeTests.{mentions_fields}
use Rattle.wy_vc_tables.specs.sizes.Marks.{mark_at}
use Rattle.wy_vc_tables.proofs.sizes.mentions.+mentions.Given as goal

-- those passed mention none
abbrev pub invariant-fields_mention-loop-field : goal.invariant-fields_mention-loop-field
invariant-fields_mention-loop-field l =
    mentions_fields (mark_at l.marks) (field_tys_of (map (λ f. (f.0, seen_ty f.1)) (drop l.field-index l.fields))) ≡ mentions_fields (mark_at l.marks) (field_tys_of (map (λ f. (f.0, seen_ty f.1)) l.fields))
