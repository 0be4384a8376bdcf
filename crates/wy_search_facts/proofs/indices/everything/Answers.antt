use Rattle.wy_search_facts.proofs.IndexLemmas.{all_told}
use Rattle.wy_search_facts.proofs.indices.everything.Goals as goal
use Rattle.wy_search_facts.specs.Indices.{indexes}
use Rattle.wy_term.specs.Nodes.{tree_at}

pub returns-clause-value : goal.returns-clause-value
returns-clause-value c = λ t.
    let at = tree_at c.args.terms.now in
    all_told at t c.args.branch.now.literals.keys c.args.branch.now.pending.keys c.new-todo.result.keys c.put_members.new.todo.keys c.put_members-2.new.todo.keys c.new-todo.ensures.empty (c.in_ok-put_members.ensures.value (indexes at t)) (c.in_ok-put_members-2.ensures.value (indexes at t))
