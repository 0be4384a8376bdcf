use Rattle.std.proofs.Common.{length}
use Rattle.std.specs.Prelude.{option_map}
use Rattle.wy_term.specs.Nodes.{tree_at}
use Rattle.wy_check_splits.specs.wy_check_nodes.Seen.{seen_branch}
use Rattle.wy_check.proofs.StepLemmas.{ok_with, cut_led}
use Rattle.wy_check.proofs.steps.by_cut.Goals as goal

pub returns-clause-value : goal.returns-clause-value
returns-clause-value c = λ types.
    let node = seen_branch (tree_at c.args.terms.now) c.args.branch.now in
    let at = tree_at c.cut_stated.new.terms in
    ok_with at node c.adds_one.result _ _ (c.adds_one.ensures.value at node) (cut_led types node c.args.d c.args.pairs.now (option_map at c.in_ok-stated.stated) c.in_ok-stated.ensures.value)

pub returns-clause-within : goal.returns-clause-within
returns-clause-within c = c.adds_one.ensures.within (length c.cut_stated.new.terms) c.in_ok-stated.ensures.within
