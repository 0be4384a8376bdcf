use Rattle.std.proofs.Common.{◌≡◌, map, take}
use Rattle.wy_term_subst.proofs.parts.with_field_parts.Given as goal

abbrev pub invariant-loop-k : goal.invariant-loop-k
invariant-loop-k l = record {
  names : map (λ p. p.0) l.made.items ≡ map (λ p. p.0) (take l.k l.fields);
  parts : map (λ p. p.1) l.made.items ≡ take l.k l.parts;
}
