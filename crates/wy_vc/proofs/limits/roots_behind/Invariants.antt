use Rattle.std.proofs.Common.{◌≡◌, ◌++◌, drop}
use Rattle.wy_vc.specs.Counted.{roots_of_entries, roots_of_goal}
use Rattle.wy_vc.proofs.limits.roots_behind.Given as goal

abbrev pub invariant-loop-index : goal.invariant-loop-index
invariant-loop-index l = l.roots.items ++ drop l.index l.cond.hyps.items ≡ drop l.front l.cond.hyps.items

abbrev pub invariant-loop-entry : goal.invariant-loop-entry
invariant-loop-entry l = l.roots.items ++ roots_of_entries (drop l.entry-index l.cond.unfold.list.items) ≡ drop l.front l.cond.hyps.items ++ roots_of_goal l.cond
