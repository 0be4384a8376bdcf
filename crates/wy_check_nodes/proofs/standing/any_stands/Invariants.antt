use Rattle.wy_check_nodes.proofs.standing.any_stands.Given as goal

abbrev pub invariant-loop-i : goal.invariant-loop-i
invariant-loop-i l = Unit {0}
