use Rattle.std.proofs.Common.{◌↔◌, drop, map}
use Rattle.wy_term_subst.specs.sorted.Sorted.{AreSorted, these}
use Rattle.wy_term.specs.Nodes.{parts_at, tree_at}
use Rattle.wy_prove_writable.specs.sorted.Sorts.{seen_sort}
use Rattle.wy_prove_writable.proofs.sorted.parts.have_sorts.Given as goal

-- all are as they have to be exactly where those are that are left
abbrev pub invariant-loop-part : goal.invariant-loop-part
invariant-loop-part l =
    AreSorted (parts_at (tree_at l.terms) (map (λ p. p.0) (drop l.part-index l.parts))) (these (map (λ p. seen_sort p.1) (drop l.part-index l.parts)))
    ↔ AreSorted (parts_at (tree_at l.terms) (map (λ p. p.0) l.parts)) (these (map (λ p. seen_sort p.1) l.parts))
