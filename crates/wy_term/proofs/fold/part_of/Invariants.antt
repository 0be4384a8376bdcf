use Rattle.std.proofs.Common.{◌≡◌, map, drop}
use Rattle.wy_term.specs.Nodes.{tree_at, parts_at}
use Rattle.wy_term.specs.Rewriting.{field_part}
use Rattle.wy_term.proofs.fold.part_of.Given as goal

abbrev pub invariant-loop-field : goal.invariant-loop-field
invariant-loop-field l = field_part (map (λ p. p.0) (drop l.field-index l.fields)) (parts_at (tree_at l._terms) (map (λ p. p.1) (drop l.field-index l.fields))) l.name ≡ field_part (map (λ p. p.0) l.fields) (parts_at (tree_at l._terms) (map (λ p. p.1) l.fields)) l.name
