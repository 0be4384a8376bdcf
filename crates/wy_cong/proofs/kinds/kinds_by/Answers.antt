use Rattle.wy_term.specs.Nodes.{tree_at}
use Rattle.wy_cong.specs.Kinded.{kinded}
use Rattle.wy_cong.proofs.KindLemmas.{kinds_next}
use Rattle.wy_cong.proofs.kinds.kinds_by.Goals as goal

pub loop-i-preserved : goal.loop-i-preserved
loop-i-preserved c =
    let at = tree_at c.args.terms.now in
    record {
      left = kinds_next at c.args.sign c.args.branch.now.literals.keys c.loop-i.i c.nth_literal-atom.result (kinded at c.loop-i.kinds.items) (kinded at c.push_kind.new.kinds.items) _ c.nth_literal-atom.ensures.value c.in_ok-push_kind.ensures.value c.loop-i.invariant.left;
      below = c.in_ok-push_kind.ensures.kinds;
    }
