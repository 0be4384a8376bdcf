use Rattle.std.proofs.Common.{◌≡◌, map, take}
use Rattle.wy_term_subst.proofs.parts.field_parts.Given as goal

abbrev pub invariant-loop-field : goal.invariant-loop-field
invariant-loop-field l = l.parts.items ≡ map (λ p. p.1) (take l.field-index l.fields)
