use Rattle.std.proofs.Common.{length}
use Rattle.wy_term.specs.Nodes.{tree_at}
use Rattle.wy_search.proofs.WalkLemmas.{pushed_copy, pushed_over}
use Rattle.wy_search.proofs.walk.push_copy.Goals as goal

pub returns-clause-value : goal.returns-clause-value
returns-clause-value c =
    pushed_copy (tree_at c.args.own.now) (tree_at c.copy.new.self) (length c.args.own.now) c.args.literals.now.items c.push.new.self.items c.in_ok-copy.copy c.args.holds (tree_at c.args.terms.now c.args.atom) c.in_ok-copy.ensures.kept c.requires.literals c.in_ok-push.ensures.items c.in_ok-copy.ensures.tree

pub returns-clause-literals : goal.returns-clause-literals
returns-clause-literals c =
    pushed_over (length c.args.own.now) (length c.copy.new.self) c.args.literals.now.items c.push.new.self.items c.in_ok-copy.copy c.args.holds c.in_ok-copy.ensures.grows c.in_ok-copy.ensures.within c.requires.literals c.in_ok-push.ensures.items
