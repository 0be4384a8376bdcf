use Rattle.std.proofs.Common.{◌≡◌, map, take}
use Rattle.wy_term_text.proofs.spell.root.fields.Given as goal

abbrev pub invariant-loop-k : goal.invariant-loop-k
invariant-loop-k l = record {
  names : map (λ p. p.0) l.fields.items ≡ take l.k l.names;
  parts : map (λ p. p.1) l.fields.items ≡ take l.k l.parts;
}
