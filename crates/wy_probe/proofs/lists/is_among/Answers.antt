use Rattle.std.proofs.Common.{◌∙◌, false, true}
use Rattle.wy_value.specs.Seen.{seen}
use Rattle.wy_probe.specs.Candidates.{is_among}
use Rattle.wy_probe.specs.Tables.{data_in}
use Rattle.wy_probe.proofs.ListLemmas.{among_ends, among_turn}
use Rattle.wy_eval_exprs.proofs.SameLemmas.{same_as}
use Rattle.wy_probe.proofs.lists.is_among.Goals as goal

pub loop-other-preserved : goal.loop-other-preserved
loop-other-preserved c =
    let v = c.args.value.now in
    let others = c.args.others.now in
    let x = c.other-item.result in
    among_turn others c.loop-other.other-index v x false (is_among (seen v) (data_in others)) c.loop-other-test.true c.other-item.is
    (same_as c.is.result v x c.is.ensures.complete ∙ c.if-is.false) c.loop-other.invariant

pub returns-then-is : goal.returns-then-is
returns-then-is c =
    let v = c.args.value.now in
    let others = c.args.others.now in
    let x = c.other-item.result in
    record {
      value = among_turn others c.loop-other.other-index v x true (is_among (seen v) (data_in others)) c.loop-other-test.true c.other-item.is
          (same_as c.is.result v x c.is.ensures.complete ∙ c.if-is.true) c.loop-other.invariant;
    }

pub returns : goal.returns
returns c =
    let v = c.args.value.now in
    let others = c.args.others.now in
    record { value = among_ends others c.loop-other.other-index v (is_among (seen v) (data_in others)) c.loop-other-test.false c.loop-other.invariant }
