use Rattle.std.proofs.Common.{◌≡◌, map, take}
use Rattle.wy_prove_writable.proofs.ranges.names_of.Given as goal

-- the names that were passed
abbrev pub invariant-loop-field : goal.invariant-loop-field
invariant-loop-field l = l.names.items ≡ map (λ p. p.0) (take l.field-index l.fields)
