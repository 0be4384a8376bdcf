use Rattle.std.proofs.Common.{◌∙◌, ◌<◌, ℕ, Option, Some, None, nat_eq, length, ap, false, arith, subst}
use Rattle.std.specs.HashSet.{contains}
use Rattle.std.specs.Prelude.{IfSome}
use Rattle.wy_lemmas.proofs.Options.{on_ok}
use Rattle.wy_search_facts.proofs.IndexLemmas.{note_one, open_below}
use Rattle.wy_search_facts.proofs.indices.note_index.Goals as goal
use Rattle.wy_search_facts.specs.Indices.{is_numbered}
use Rattle.wy_term.specs.Nodes.{plain, tree_at}

pub returns-in-Some-clause-told : goal.returns-in-Some-clause-told
returns-in-Some-clause-told c = λ ss will.
    let at = tree_at c.args.terms.now in
    let n = length c.args.terms.now in
    let i = c.in-Some.i in
    on_ok c.note.result _ _ (λ notes.
    note_one at n c.args.k c.node-node.result.now (Some i) (contains nat_eq c.args.noted.now) (contains nat_eq c.note.new.noted) c.deref.result.now c.args.todo.now.keys c.put_all.new.todo.keys ss
    (λ s t ls lt e. (c.one_number_for_each_term.ensures.one s t ls lt).1 e) c.node-node.ensures.tree
    (λ t. c.index_of.ensures.value t ∙ ap (λ (o : Option ℕ). is_numbered at o t) c.in-Some.is)
    (subst (λ (o : Option ℕ). IfSome o (λ j. j < n)) c.in-Some.is c.index_of.ensures.within) notes.here notes.kept (c.deref.ensures.value ∙ c.in_ok-parts.ensures.value) c.in_ok-put_all.ensures.value will) c.note.ensures

pub returns-clause-told : goal.returns-clause-told
returns-clause-told c = λ ss will.
    let at = tree_at c.args.terms.now in
    let n = length c.args.terms.now in
    note_one at n c.args.k c.node-node.result.now None (contains nat_eq c.args.noted.now) (contains nat_eq c.args.noted.now) c.deref.result.now c.args.todo.now.keys c.put_all.new.todo.keys ss
    (λ s t ls lt e. (c.one_number_for_each_term.ensures.one s t ls lt).1 e) c.node-node.ensures.tree
    (λ t. c.index_of.ensures.value t ∙ ap (λ (o : Option ℕ). is_numbered at o t) c.in-None.is)
    tt tt (λ t e. e) (c.deref.ensures.value ∙ c.in_ok-parts.ensures.value) c.in_ok-put_all.ensures.value will

pub returns-in-Some-clause-todo : goal.returns-in-Some-clause-todo
returns-in-Some-clause-todo c =
    let n = length c.args.terms.now in
    let p = plain c.node-node.result.now in
    let lt = c.requires.whole in
    on_ok c.note.result _ _ (λ notes. c.in_ok-put_all.ensures.below n (open_below c.args.k n false p.parts c.deref.result.now (omega (arith, lt)) c.node-node.ensures.within (c.deref.ensures.value ∙ c.in_ok-parts.ensures.value)) c.requires.todo) c.note.ensures

pub returns-clause-todo : goal.returns-clause-todo
returns-clause-todo c =
    let n = length c.args.terms.now in
    let p = plain c.node-node.result.now in
    let lt = c.requires.whole in
    c.in_ok-put_all.ensures.below n (open_below c.args.k n false p.parts c.deref.result.now (omega (arith, lt)) c.node-node.ensures.within (c.deref.ensures.value ∙ c.in_ok-parts.ensures.value)) c.requires.todo
