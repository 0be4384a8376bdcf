use Rattle.std.proofs.Common.{◌∙◌, ℕ, List, ap, map}
use Rattle.wy_check_nodes.proofs.fronts_lemmas.FrontLemmas.{made_whole}
use Rattle.wy_check_spec.specs.judge.Node.{Node, bare, denied_one, with_formulas}
use Rattle.wy_check_spec.specs.wy_term.Nodes.{tree_at}
use Rattle.wy_check_nodes.proofs.fronts.front.to_first_node.Goals as goal

pub returns-clause-value : goal.returns-clause-value
returns-clause-value c =
    let at = tree_at c.args.terms.now in
    let f = c.go_to.new.front in
    c.in_ok-add.ensures.value
    ∙ ap (λ (n : Node). denied_one n (at c.args.cond.now.goal))
    (made_whole at f.branch.literals.keys f.branch.pending.keys f.hyps.items f.sizes.items c.in_ok-go_to.ensures.front.made
    ∙ ap (λ (hs : List ℕ). with_formulas bare (map at hs)) (c.in_ok-go_to.ensures.hyps ∙ c.deref.ensures.value))
