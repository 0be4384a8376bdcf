use Rattle.std.proofs.Common.{◌∙◌, ◌||◌, ◌≤◌, ap, sym, arith, length, Bool}
use Rattle.wy_search_facts.proofs.IndexLemmas.{indexes_by_parts, open_below}
use Rattle.wy_search_facts.proofs.indices.look.Goals as goal
use Rattle.wy_search_facts.specs.Indices.{catches, indexes, open_of}
use Rattle.wy_check_splits.proofs.WalkLemmas.{look_told}
use Rattle.wy_check_splits.specs.Walk.{any_over}
use Rattle.wy_term.specs.Nodes.{plain, tree_at}

pub returns-clause-value : goal.returns-clause-value
returns-clause-value c =
    let at = tree_at c.args.terms.now in
    let t = at c.args.t in
    let n = c.node-node.result.now in
    let ks = open_of (catches t (plain n).symbol) (plain n).parts in
    look_told (indexes at t) _ (indexes at t c.args.k) c.deref.result.now ks c.args.todo.now.keys c.put_all.new.todo.keys
    (indexes_by_parts at t c.args.k n c.node-node.ensures.tree ∙ ap (λ (b : Bool). b || any_over (indexes at t) ks) (sym c.is_index_of.ensures))
    (c.deref.ensures.value ∙ c.in_ok-parts.ensures)
    (c.in_ok-put_all.ensures.value (indexes at t))

pub returns-clause-todo : goal.returns-clause-todo
returns-clause-todo c =
    let n = length c.args.terms.now in
    let p = plain c.node-node.result.now in
    let lt = c.requires.whole in
    c.in_ok-put_all.ensures.below n (open_below c.args.k n (catches (tree_at c.args.terms.now c.args.t) p.symbol) p.parts c.deref.result.now (omega (arith, lt)) c.node-node.ensures.within (c.deref.ensures.value ∙ c.in_ok-parts.ensures)) c.requires.todo
