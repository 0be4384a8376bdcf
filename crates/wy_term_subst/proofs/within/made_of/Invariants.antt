use Rattle.std.proofs.Common.{nat_eq}
use Rattle.std.specs.HashSet.{contains}
use Rattle.wy_term_subst.specs.View.{IsListed}
use Rattle.wy_term_subst.proofs.within.made_of.Given as goal

abbrev pub invariant-loop-turn : goal.invariant-loop-turn
invariant-loop-turn l = IsListed l.terms l.root l.all.items (contains nat_eq l.noted) l.todo.items
