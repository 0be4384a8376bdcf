use Rattle.std.proofs.lemmas.Result.{IfOk-weaker}
use Rattle.wy_batch.proofs.OrderLemmas.{in_their_order}
use Rattle.wy_batch.specs.Judged.{AreJudged}
use Rattle.wy_batch.proofs.ordering.in_order.Goals as goal

pub returns : goal.returns
returns c = record {
  judged = λ certs budget cs many all. IfOk-weaker c.unwrapped.result _ (λ vs. AreJudged certs budget 1 cs vs.items)
      (λ vs is. in_their_order certs budget c.args.count cs c.in_ok-slots.slots.items vs.items many c.in_ok-slots.ensures.count is (c.in_ok-slots.ensures.placed certs budget cs all)) c.unwrapped.ensures.value;
}
