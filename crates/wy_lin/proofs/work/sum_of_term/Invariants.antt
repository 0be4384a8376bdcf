use Rattle.std.proofs.Common.{◌≡◌, [], ◌∷◌, length}
use Rattle.wy_term.specs.Nodes.{tree_at}
use Rattle.wy_lin.specs.declared.work.Task.TheVariants.{Term}
use Rattle.wy_lin.specs.Work.{run, outcome, IsWorkOver}
use Rattle.wy_lin.proofs.work.sum_of_term.Given as goal

abbrev pub invariant-loop-turn : goal.invariant-loop-turn
invariant-loop-turn l = record {
  leads : outcome (tree_at l.terms) l.work ≡ run (tree_at l.terms) (Term l.t ∷ []) [];
  over : IsWorkOver (length l.terms) l.work;
}
