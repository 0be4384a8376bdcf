use Rattle.std.proofs.Common.{◌≡◌, map, take}
use Rattle.wy_vc_terms.proofs.parts.names_of.Given as goal

-- the names so far
abbrev pub invariant-loop-field : goal.invariant-loop-field
invariant-loop-field l = l.names.items ≡ map (λ f. f.0) (take l.field-index l.fields)
