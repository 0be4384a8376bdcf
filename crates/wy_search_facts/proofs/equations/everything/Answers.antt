use Rattle.wy_search_facts.proofs.EquationLemmas.{all_told}
use Rattle.wy_search_facts.proofs.equations.everything.Goals as goal
use Rattle.wy_search_facts.specs.About.{equates_in}
use Rattle.wy_term.specs.Nodes.{tree_at}

pub returns-clause-value : goal.returns-clause-value
returns-clause-value c = λ v.
    let at = tree_at c.args.terms.now in
    all_told at v c.args.branch.now.literals.keys c.args.branch.now.pending.keys c.new-todo.result.keys c.put_members.new.todo.keys c.put_members-2.new.todo.keys c.new-todo.ensures.empty (c.in_ok-put_members.ensures.value (equates_in at v)) (c.in_ok-put_members-2.ensures.value (equates_in at v))
