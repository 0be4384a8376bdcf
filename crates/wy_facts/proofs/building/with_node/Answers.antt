use Rattle.wy_facts.proofs.StepLemmas.{node_put}
use Rattle.wy_facts.proofs.building.with_node.Goals as goal

pub returns-clause-value : goal.returns-clause-value
returns-clause-value c = node_put c.args.terms.now c.intern.new.self c.in_ok-t.t c.args.made.items c.push_front.new.self.items _ c.intern.ensures.grows c.intern.ensures.kept c.requires.made c.in_ok-t.ensures.tree c.in_ok-push_front.ensures.items
