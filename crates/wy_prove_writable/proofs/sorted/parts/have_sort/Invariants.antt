use Rattle.std.proofs.Common.{◌↔◌, drop}
use Rattle.wy_term_subst.specs.sorted.Sorted.{AreSorted, each}
use Rattle.wy_term.specs.Nodes.{parts_at, tree_at}
use Rattle.wy_prove_writable.specs.sorted.Sorts.{seen_sort}
use Rattle.wy_prove_writable.proofs.sorted.parts.have_sort.Given as goal

-- all are as they have to be exactly where those are that are left
abbrev pub invariant-loop-part : goal.invariant-loop-part
invariant-loop-part l =
    AreSorted (parts_at (tree_at l.terms) (drop l.part-index l.parts)) (each (seen_sort l.sort))
    ↔ AreSorted (parts_at (tree_at l.terms) l.parts) (each (seen_sort l.sort))
