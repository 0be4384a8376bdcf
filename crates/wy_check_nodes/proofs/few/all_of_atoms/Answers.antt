use Rattle.std.proofs.Common.{◌≡◌, ◌<◌, ◌+◌, ◌-◌, length, get_or, true, rules, arith}
use Rattle.wy_check_spec.specs.wy_term.Nodes.{tree_at}
use Rattle.wy_check_spec.specs.judge.Judgement.{judged}
use Rattle.wy_check_nodes.specs.Judged.{fails}
use Rattle.wy_check_nodes.specs.Seen.{seen_branch}
use Rattle.wy_check_nodes.proofs.JudgingLemmas.{all_no, all_on, all_end}
use Rattle.wy_check_nodes.proofs.few.all_of_atoms.Goals as goal

pub returns-then-fails : goal.returns-then-fails
returns-then-fails c =
    let at = tree_at c.args.terms.now in
    let ls = (seen_branch at c.args.branch.now).literals in
    let left = c.loop-left.left in
    let lt : left - 1 < length c.args.members.now = omega (arith, c.loop-left.invariant.within, c.loop-left-test.true) in
    let e : c.in-Some.v ≡ judged ls (at (get_or c.args.members.now (left - 1) 0)) = search rules in
    let stop : fails c.in-Some.v true ≡ true = search rules in
    all_no at ls c.args.members.now (left - 1) c.in-Some.v lt e stop

pub loop-left-preserved : goal.loop-left-preserved
loop-left-preserved c =
    let at = tree_at c.args.terms.now in
    let ls = (seen_branch at c.args.branch.now).literals in
    let left = c.loop-left.left in
    let lt : left - 1 < length c.args.members.now = omega (arith, c.loop-left.invariant.within, c.loop-left-test.true) in
    let next : left ≡ left - 1 + 1 = omega (arith, c.loop-left-test.true) in
    let e : c.in-Some.v ≡ judged ls (at (get_or c.args.members.now (left - 1) 0)) = search rules in
    record {
      within = omega (arith, c.loop-left.invariant.within);
      value = all_on at ls c.args.members.now (left - 1) left c.in-Some.v c.loop-left.verdict c.meet-verdict.result lt next e c.loop-left.invariant.value c.meet-verdict.ensures;
    }

pub returns : goal.returns
returns c = all_end (tree_at c.args.terms.now) (seen_branch (tree_at c.args.terms.now) c.args.branch.now).literals c.args.members.now c.loop-left.left c.loop-left.verdict c.loop-left-test.false c.loop-left.invariant.value
