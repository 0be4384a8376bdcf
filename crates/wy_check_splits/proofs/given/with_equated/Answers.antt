use Rattle.wy_check_nodes.specs.wy_term.Nodes.{tree_at}
use Rattle.wy_check_nodes.specs.wy_facts.Seen.{terms_at}
use Rattle.wy_check_splits.proofs.GivenLemmas.{equated_more}
use Rattle.wy_check_splits.proofs.given.with_equated.Goals as goal

pub loop-i-preserved : goal.loop-i-preserved
loop-i-preserved c =
    let at = tree_at c.args.terms.now in
    record {
      so_far = equated_more at (at c.args.s) c.args.branch.now.literals.keys c.loop-i.i c.nth_literal-atom.result (terms_at c.args.terms.now c.loop-i.all.items) (terms_at c.args.terms.now c.push_sides.new.all.items) _ c.nth_literal-atom.ensures.value c.in_ok-push_sides.ensures.value c.loop-i.invariant.so_far;
      below = c.in_ok-push_sides.ensures.all;
    }
