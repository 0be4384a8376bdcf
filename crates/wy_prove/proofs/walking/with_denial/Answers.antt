use Rattle.std.proofs.Common.{◌∙◌, ap}
use Rattle.wy_term.specs.Nodes.{tree_at}
use Rattle.wy_prove_rounds.specs.wy_check_spec.judge.Node.{Node, denied_one}
use Rattle.wy_prove_rounds.proofs.wy_search_proofs.SpotLemmas.{copy_over, same_node}
use Rattle.wy_prove.proofs.walking.with_denial.Goals as goal

pub add-requires-clause-branch : goal.add-requires-clause-branch
add-requires-clause-branch c = copy_over c.args.terms.now c.args.branch.now c.in_ok-copy.copy c.in_ok-copy.ensures.literals c.in_ok-copy.ensures.pending c.requires.branch

pub returns-clause-value : goal.returns-clause-value
returns-clause-value c =
    let at = tree_at c.args.terms.now in
    c.in_ok-add.ensures.value ∙ ap (λ (n : Node). denied_one n (at c.args.atom)) (same_node at c.args.branch.now c.in_ok-copy.copy c.in_ok-copy.ensures.literals c.in_ok-copy.ensures.pending)
