use Rattle.std.proofs.Common.{◌≡◌, ◌<◌, All, length, drop}
use Rattle.wy_term.specs.Nodes.{tree_at, parts_at}
use Rattle.wy_term.specs.Rewriting.{without_false}
use Rattle.wy_term.proofs.FoldLemmas.{followed}
use Rattle.wy_term.proofs.fold.without_false.Given as goal

abbrev pub invariant-loop-member : goal.invariant-loop-member
invariant-loop-member l = record {
  so_far : followed (parts_at (tree_at l.terms) l.rest.items) (without_false (parts_at (tree_at l.terms) (drop l.member-index l.members))) ≡ without_false (parts_at (tree_at l.terms) l.members);
  within : All (λ k. k < length l.terms) l.rest.items;
}
