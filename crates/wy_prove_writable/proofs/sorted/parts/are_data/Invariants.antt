use Rattle.std.proofs.Common.{◌↔◌, drop, map}
use Rattle.wy_term_subst.specs.sorted.Sorted.{AreSorted, each}
use Rattle.wy_term.specs.Nodes.{parts_at, tree_at}
use Rattle.wy_term.specs.Sorts.{val_sort}
use Rattle.wy_prove_writable.proofs.sorted.parts.are_data.Given as goal

-- all are as they have to be exactly where those are that are left
abbrev pub invariant-loop-field : goal.invariant-loop-field
invariant-loop-field l =
    AreSorted (parts_at (tree_at l.terms) (map (λ p. p.1) (drop l.field-index l.fields))) (each val_sort)
    ↔ AreSorted (parts_at (tree_at l.terms) (map (λ p. p.1) l.fields)) (each val_sort)
