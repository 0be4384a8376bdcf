use Rattle.std.proofs.Common.{◌∷◌, [], subst}
use Rattle.wy_term.specs.Nodes.{tree_at}
use Rattle.wy_term.specs.Condition.{condition_of}
use Rattle.wy_search_facts.specs.wy_check_spec.judge.Node.{Node}
use Rattle.wy_search_facts.specs.wy_search_spec.Tree as tree
use Rattle.wy_search.specs.Turns.{begun}
use Rattle.wy_search.specs.Walks.{Leads}
use Rattle.wy_search.proofs.walk.begin.Goals as goal

pub returns-clause-value : goal.returns-clause-value
returns-clause-value c =
    subst (λ (n : Node). Leads (tree.one_turn (condition_of c.args.terms.now c.args.cond.now).types c.args.budget 0 (begun n ∷ [])) (tree_at c.first_turn.new.terms) c.in_ok-turned.turned)
    c.in_ok-size.ensures.value c.in_ok-turned.ensures.value

pub returns-clause-front : goal.returns-clause-front
returns-clause-front c = c.to_hypotheses.ensures c.args.terms.now c.in_ok-size.ensures.first
