use Rattle.std.proofs.Common.{◌++◌, ℕ, List, take}
use Rattle.wy_check_nodes.specs.wy_term.Nodes.{tree_at}
use Rattle.wy_check_nodes.specs.wy_term_subst.View.{Counts}
use Rattle.wy_check_splits.specs.Numbers.{numbers_of}
use Rattle.wy_check_splits.proofs.numbers.take_all.Given as goal

-- the numbers of the terms so far are noted
abbrev pub invariant-loop-i : goal.invariant-loop-i
invariant-loop-i l = (ns : List ℕ) → Counts l.fn.taken ns → Counts l.taken (numbers_of (tree_at l.terms) (take l.i l.signed.keys) ++ ns)
