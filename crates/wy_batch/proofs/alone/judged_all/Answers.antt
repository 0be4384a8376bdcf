use Rattle.std.proofs.Common.{◌<◌, ◌∙◌, length, map, rules, arith}
use Rattle.wy_cert.specs.Steps.{certificates_of}
use Rattle.wy_term.specs.Condition.{condition_of}
use Rattle.wy_batch.proofs.JudgedLemmas.{judged_none, judged_turn, judged_whole, same_within, within_at}
use Rattle.wy_batch.proofs.alone.judged_all.Goals as goal

pub loop-i-init : goal.loop-i-init
loop-i-init c = record {
  judged = judged_none (certificates_of c.args.certs.now) c.args.budget (map (condition_of c.args.terms.now) c.args.conds.now) c.new-judged.result.items c.new-judged.ensures.items;
  same = c.in_ok-given.ensures.length;
  carried = c.nothing_carried-carried.ensures c.supplied.new.terms (omega arith);
  kept = c.in_ok-given.ensures.kept;
}

pub judged_one-requires : goal.judged_one-requires
judged_one-requires c =
    let lt : c.loop-i.i < length c.args.conds.now = search rules in
    record {
      cond = same_within c.args.terms.now c.loop-i.terms c.index-conds-i.result c.loop-i.invariant.same (within_at (length c.args.terms.now) c.args.conds.now c.loop-i.i c.index-conds-i.result c.requires.conds lt c.index-conds-i.is);
      carried = c.loop-i.invariant.carried;
    }

pub loop-i-preserved : goal.loop-i-preserved
loop-i-preserved c =
    let lt : c.loop-i.i < length c.args.conds.now = search rules in
    record {
      judged = judged_turn (certificates_of c.args.certs.now) c.args.budget c.args.terms.now c.loop-i.terms c.args.conds.now c.loop-i.i c.loop-i.judged.items c.push.new.self.items c.index-conds-i.result c.in_ok-verdict.verdict c.in_ok-given.given.items c.index.result.now
          c.loop-i.invariant.same c.loop-i.invariant.kept c.requires.conds lt c.index-conds-i.is c.in_ok-given.ensures.value c.index.ensures c.in_ok-verdict.ensures.value c.in_ok-push.ensures.items c.loop-i.invariant.judged;
      same = c.in_ok-verdict.ensures.length ∙ c.loop-i.invariant.same;
      carried = c.in_ok-verdict.ensures.carried;
      kept = λ t lt. c.in_ok-verdict.ensures.kept t (omega (arith, lt, c.loop-i.invariant.same)) ∙ c.loop-i.invariant.kept t lt;
    }

pub returns-clause-judged : goal.returns-clause-judged
returns-clause-judged c = judged_whole (certificates_of c.args.certs.now) c.args.budget (condition_of c.args.terms.now) c.args.conds.now c.loop-i.i c.loop-i.judged.items (search rules) c.loop-i.invariant.judged
