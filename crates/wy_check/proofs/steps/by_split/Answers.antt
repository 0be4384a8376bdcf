use Rattle.std.proofs.Common.{◌≡◌, true, false, rules}
use Rattle.wy_term.specs.Nodes.{tree_at}
use Rattle.wy_check.proofs.StepLemmas.{split_yes, split_no}
use Rattle.wy_check.proofs.steps.by_split.Goals as goal

pub returns-then-is_atom-clause-value : goal.returns-then-is_atom-clause-value
returns-then-is_atom-clause-value c = λ types node.
    let up : c.is_atom.result ≡ true = search rules in
    split_yes types node (tree_at c.brought.new.terms c.in_ok-atom.atom) (tree_at c.args.from.now c.args.f) c.is_atom.result c.in_ok-atom.ensures.value c.is_atom.ensures up

pub returns-else-is_atom-clause-value : goal.returns-else-is_atom-clause-value
returns-else-is_atom-clause-value c = λ types node.
    let un : c.is_atom.result ≡ false = search rules in
    split_no types node (tree_at c.brought.new.terms c.in_ok-atom.atom) (tree_at c.args.from.now c.args.f) c.is_atom.result c.in_ok-atom.ensures.value c.is_atom.ensures un
