use Rattle.std.proofs.Common.{◌≡◌, drop, map}
use Rattle.wy_cong.specs.Signatures.{mixed_names}
use Rattle.wy_cong.proofs.signature.mixed_fields.Given as goal

abbrev pub invariant-loop-field : goal.invariant-loop-field
invariant-loop-field l = mixed_names l.key (map (λ p. p.0) (drop l.field-index l.fields)) ≡ mixed_names l.fn.key (map (λ p. p.0) l.fields)
