use Rattle.wy_term.specs.Nodes.{tree_at}
use Rattle.wy_cong.specs.Seen.{terms_of}
use Rattle.wy_cong.proofs.ClosingLemmas.{equations_next}
use Rattle.wy_cong.proofs.closing.with_equations.Goals as goal

pub loop-i-preserved : goal.loop-i-preserved
loop-i-preserved c =
    let at = tree_at c.args.terms.now in
    equations_next (terms_of at c.args.present.now) at c.args.branch.now.literals.keys c.loop-i.i c.nth_literal-atom.result c.loop-i.labels.items _ _ c.nth_literal-atom.ensures.value c.in_ok-labels.ensures c.loop-i.invariant
