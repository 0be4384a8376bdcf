use Rattle.std.proofs.Common.{nat_eq}
use Rattle.std.specs.HashSet.{contains}
use Rattle.wy_term_subst.proofs.WithinLemmas.{below_from_inside, taken_inside, rest_listed}
use Rattle.wy_term_subst.proofs.within.made_of.Goals as goal

pub returns-then-contains-clause-below : goal.returns-then-contains-clause-below
returns-then-contains-clause-below c = below_from_inside c.args.terms.now c.args.root c.loop-turn.all.items c.loop-turn.invariant.below

pub loop-turn-preserved-then-contains-2 : goal.loop-turn-preserved-then-contains-2
loop-turn-preserved-then-contains-2 c = rest_listed c.args.terms.now c.args.root c.loop-turn.all.items (contains nat_eq c.loop-turn.noted) c.loop-turn.todo.items c.pop.new.self.items c.pop.result c.pop.ensures.items c.loop-turn.invariant

pub list-requires-clause-within : goal.list-requires-clause-within
list-requires-clause-within c = (taken_inside c.args.terms.now c.args.root c.unwrap_or-t.result c.loop-turn.todo.items c.pop.new.self.items c.pop.result c.requires c.loop-turn.invariant.left c.pop.ensures.items c.unwrap_or-t.ensures).0

pub list-requires-clause-inside : goal.list-requires-clause-inside
list-requires-clause-inside c = (taken_inside c.args.terms.now c.args.root c.unwrap_or-t.result c.loop-turn.todo.items c.pop.new.self.items c.pop.result c.requires c.loop-turn.invariant.left c.pop.ensures.items c.unwrap_or-t.ensures).1

pub list-requires-clause-listed : goal.list-requires-clause-listed
list-requires-clause-listed c = rest_listed c.args.terms.now c.args.root c.loop-turn.all.items (contains nat_eq c.loop-turn.noted) c.loop-turn.todo.items c.pop.new.self.items c.pop.result c.pop.ensures.items c.loop-turn.invariant
