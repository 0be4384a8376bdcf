use Rattle.std.proofs.Common.{◌∙◌, ◌||◌, ap, sym, Bool}
use Rattle.wy_check_splits.proofs.WalkLemmas.{look_told}
use Rattle.wy_check_splits.specs.Walk.{any_over}
use Rattle.wy_search_facts.proofs.EquationLemmas.{equates_by_parts}
use Rattle.wy_search_facts.proofs.equations.look_for_equation.Goals as goal
use Rattle.wy_search_facts.specs.About.{equates_in}
use Rattle.wy_term.specs.Nodes.{plain, tree_at}

pub returns-clause-value : goal.returns-clause-value
returns-clause-value c =
    let at = tree_at c.args.terms.now in
    let v = at c.args.v in
    let n = c.node-node.result.now in
    look_told (equates_in at v) c.in_ok-is_one.is_one (equates_in at v c.args.k) c.deref.result.now (plain n).parts c.args.todo.now.keys c.put_all.new.todo.keys
    (equates_by_parts at v c.args.k n c.node-node.ensures.tree ∙ ap (λ (b : Bool). b || any_over (equates_in at v) (plain n).parts) (sym c.in_ok-is_one.ensures))
    (c.deref.ensures.value ∙ c.in_ok-parts.ensures.value)
    (c.in_ok-put_all.ensures.value (equates_in at v))
