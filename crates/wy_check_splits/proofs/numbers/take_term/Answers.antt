use Rattle.std.proofs.Common.{ℕ, List, subst}
use Rattle.wy_check_nodes.specs.wy_term.Nodes.{tree_at}
use Rattle.wy_check_nodes.specs.wy_term_subst.View.{Counts, noted_numbers}
use Rattle.wy_check_splits.proofs.NumbersLemmas.{counts_term}
use Rattle.wy_check_splits.proofs.numbers.take_term.Goals as goal

pub returns : goal.returns
returns c = λ ns counts.
    let nodes = c.args.terms.now in
    let noted = subst (λ (ks : List ℕ). Counts c.take_numbers.new.taken (noted_numbers nodes ks ns)) c.deref.ensures.value (c.in_ok-take_numbers.ensures ns counts) in
    counts_term c.take_numbers.new.taken nodes (tree_at nodes c.args.t) c.in_ok-all.all.items ns c.in_ok-all.ensures.value noted
