use Rattle.std.proofs.Common.{◌≡◌, drop, map}
use Rattle.wy_cong.proofs.caught.is_caught.Given as goal
use Rattle.wy_cong.specs.Marks.{is_any_bound}
use Rattle.wy_term.specs.Nodes.{tree_at}
use Rattle.wy_term.specs.Scope.{free_names}

-- none so far binds a name of it
abbrev pub invariant-loop-i : goal.invariant-loop-i
invariant-loop-i l = is_any_bound (map (tree_at l.terms) (drop l.i l.around)) (free_names (tree_at l.terms l.t)) ≡ is_any_bound (map (tree_at l.terms) l.around) (free_names (tree_at l.terms l.t))
