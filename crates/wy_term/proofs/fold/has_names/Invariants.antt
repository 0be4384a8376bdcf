use Rattle.std.proofs.Common.{◌≡◌, ◌≤◌, length, map, drop}
use Rattle.wy_term.specs.Same.{same_names}
use Rattle.wy_term.proofs.fold.has_names.Given as goal

abbrev pub invariant-loop-k : goal.invariant-loop-k
invariant-loop-k l = record {
  so_far : same_names (map (λ p. p.0) (drop l.k l.fields)) (drop l.k l.names) ≡ same_names (map (λ p. p.0) l.fields) l.names;
  within : l.k ≤ length l.names;
}
