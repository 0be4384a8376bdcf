use Rattle.std.proofs.Common.{◌∙◌, ◌||◌, ap, sym, Bool}
use Rattle.wy_check_nodes.specs.wy_term.Nodes.{plain, tree_at}
use Rattle.wy_check_splits.specs.Free.{stands_free, open_parts}
use Rattle.wy_check_splits.specs.Walk.{any_over, free_in}
use Rattle.wy_check_splits.proofs.WalkLemmas.{look_told}
use Rattle.wy_check_splits.proofs.FreeLemmas.{free_by_parts}
use Rattle.wy_check_splits.proofs.free.look.Goals as goal

pub returns-clause-value : goal.returns-clause-value
returns-clause-value c =
    let at = tree_at c.args.terms.now in
    let w = c.args.word.now in
    let n = c.args.number in
    let a = c.node-node.result.now in
    look_told (free_in at w n) c.is_name.result (stands_free w n (at c.args.t)) c.deref.result.now (open_parts w n (plain a)) c.args.todo.now.keys c.put_all.new.todo.keys
    (free_by_parts at w n (at c.args.t) a c.node-node.ensures.tree ∙ ap (λ (b : Bool). b || any_over (free_in at w n) (open_parts w n (plain a))) (sym c.is_name.ensures))
    (c.deref.ensures.value ∙ c.in_ok-parts.ensures)
    (c.in_ok-put_all.ensures.value (free_in at w n))
