use Rattle.std.proofs.Common.{[]}
use Rattle.wy_check_nodes.specs.wy_term.Nodes.{tree_at}
use Rattle.wy_check_splits.proofs.NumbersLemmas.{counts_node}
use Rattle.wy_check_splits.proofs.numbers.fresh_number.Goals as goal

pub returns : goal.returns
returns c =
    let at = tree_at c.args.terms.now in
    let first = c.in_ok-take_all.ensures [] c.none_taken-taken.ensures in
    let second = c.in_ok-take_all-2.ensures _ first in
    (c.in_ok-number.ensures _ (counts_node c.take_all-2.new.taken at c.args.branch.now.literals.keys c.args.branch.now.pending.keys second)).0
