use Rattle.wy_term.specs.Nodes.{tree_at}
use Rattle.wy_term.specs.Condition.{condition_of}
use Rattle.wy_search_bounds.specs.Known.{AreKnown}
use Rattle.wy_facts.specs.Seen.{Stays}
use Rattle.wy_check_nodes.specs.fronts.Front.{IsFront}
use Rattle.wy_search.specs.Walks.{Comes, IsTurnedOver}
use Rattle.wy_search.proofs.walk.searched.Given as goal

-- what the last turn ended in is the verdict of the condition, or the walk comes to that from here
abbrev pub invariant-loop-turn : goal.invariant-loop-turn
invariant-loop-turn l = record {
  comes : Comes (condition_of l.fn.terms l.cond) l.budget (tree_at l.terms) l.turned;
  over : IsTurnedOver l.terms l.budget l.turned;
  forms : AreKnown l.terms l.carried.forms;
  front : IsFront l.fn.terms l.carried.front;
  stays : Stays l.fn.terms l.terms;
}
