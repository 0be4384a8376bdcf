use Rattle.std.proofs.Common.{◌≤◌, map, length, arith}
use Rattle.wy_term.specs.Nodes.{tree_at}
use Rattle.wy_check_nodes.specs.Seen.{seen_literal}
use Rattle.wy_search.proofs.WalkLemmas.{copied_more, copied_all}
use Rattle.wy_search.proofs.walk.open_leaf.Goals as goal

pub loop-i-preserved : goal.loop-i-preserved
loop-i-preserved c =
    let at = tree_at c.args.terms.now in
    record {
      copied = copied_more (seen_literal at) c.args.branch.now.literals.keys c.loop-i.i c.nth_literal-atom.result (map (seen_literal (tree_at c.loop-i.own)) c.loop-i.literals.items) _ c.nth_literal-atom.ensures.value c.in_ok-push_copy.ensures.value c.loop-i.invariant.copied;
      over = c.in_ok-push_copy.ensures.literals;
    }

pub returns-clause-literals : goal.returns-clause-literals
returns-clause-literals c =
    let le : length c.args.branch.now.literals.keys ≤ c.loop-i.i = omega arith in
    copied_all (seen_literal (tree_at c.args.terms.now)) c.args.branch.now.literals.keys c.loop-i.i _ le c.loop-i.invariant.copied
