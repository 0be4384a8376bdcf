use Rattle.std.proofs.Common.{arith, subst}
use Rattle.wy_term.specs.Nodes.{tree_at}
use Rattle.wy_prove.specs.Turns.{IsJudged, IsNext}
use Rattle.wy_prove.proofs.walking.behind.Goals as goal

pub returns-in-Shut-clause-value : goal.returns-in-Shut-clause-value
returns-in-Shut-clause-value c = λ k v p same h judged. c.on_shut.ensures.value k v p h (subst (IsJudged (tree_at c.args.terms.now) p) c.in-Shut.is judged)

pub on_leaf-requires-clause-leaf : goal.on_leaf-requires-clause-leaf
on_leaf-requires-clause-leaf c = subst (IsNext c.args.terms.now) c.in-Closes.is c.requires.next

pub returns-in-Closes-clause-value : goal.returns-in-Closes-clause-value
returns-in-Closes-clause-value c = λ k v p same h judged. c.on_leaf.ensures.value k v p h (subst (IsJudged (tree_at c.args.terms.now) p) c.in-Closes.is judged)

pub fork-requires-clause-atom : goal.fork-requires-clause-atom
fork-requires-clause-atom c = (subst (IsNext c.args.terms.now) c.in-Splits.is c.requires.next).0

pub fork-requires-clause-left : goal.fork-requires-clause-left
fork-requires-clause-left c = (subst (IsNext c.args.terms.now) c.in-Splits.is c.requires.next).1

pub fork-requires-clause-right : goal.fork-requires-clause-right
fork-requires-clause-right c = (subst (IsNext c.args.terms.now) c.in-Splits.is c.requires.next).2

pub returns-in-Splits-clause-value : goal.returns-in-Splits-clause-value
returns-in-Splits-clause-value c = λ k v p same h judged. c.fork.ensures.value k c.args.budget v p c.requires.leaves h (subst (IsJudged (tree_at c.args.terms.now) p) c.in-Splits.is judged)

pub returns-in-Splits-clause-turned : goal.returns-in-Splits-clause-turned
returns-in-Splits-clause-turned c = let lt = c.requires.leaves in c.fork.ensures.turned c.args.budget (omega (arith, lt))

pub on_round-requires-clause-spot : goal.on_round-requires-clause-spot
on_round-requires-clause-spot c = subst (IsNext c.args.terms.now) c.in-Stays.is c.requires.next

pub returns-in-Stays-clause-value : goal.returns-in-Stays-clause-value
returns-in-Stays-clause-value c = λ k v p same h judged. c.on_round.ensures.value k c.args.budget v p same c.requires.leaves h (subst (IsJudged (tree_at c.args.terms.now) p) c.in-Stays.is judged)

pub returns-in-Stays-clause-turned : goal.returns-in-Stays-clause-turned
returns-in-Stays-clause-turned c = let lt = c.requires.leaves in c.on_round.ensures.turned c.args.budget (omega (arith, lt))
