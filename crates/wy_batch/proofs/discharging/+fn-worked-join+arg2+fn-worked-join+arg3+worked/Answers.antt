use Rattle.std.proofs.Common.{◌-◌, ◌/◌, Result, Ok, Err, arith}
use Rattle.std.proofs.lemmas.Result.{IfOk-at_ok}
use Rattle.std.specs.Prelude.{IfOk}
use Rattle.wy_batch.proofs.WorkLemmas.{done_both}
use Rattle.wy_batch.specs.Working.{IsDone}
use Rattle.wy_batch.proofs.discharging.+fn-worked-join+arg2+fn-worked-join+arg3+worked.Goals as goal

-- of two facts about one answer a third one
both_ok : {X E : Type 0} (r : Result X E) (P Q S : X → Type 0) → ((x : X) → P x → Q x → S x) → IfOk r P → IfOk r Q → IfOk r S
both_ok (Ok x) P Q S then p q = then x p q
both_ok (Err e) P Q S then p q = tt

pub returns : goal.returns
returns g t c =
    let conds = c.args.conds.now in
    let certs = c.args.certs.now in
    let counter = c.args.claims.now in
    let left = IfOk-at_ok _ c.in_ok-seat.was c.join-first.ensures.first in
    let right = IfOk-at_ok _ c.in_ok-other.was c.join-first.ensures.second in
    record {
      done = both_ok c.both.result _ _ (λ done. IsDone conds certs c.args.budget counter c.args.workers done.0 done.1.items)
          (λ done seat all. done_both conds certs c.args.budget counter (c.args.workers - c.args.workers / 2) (c.args.workers / 2) c.args.workers c.in_ok-seat.seat c.in_ok-other.other done.0 c.in_ok-seat.verdicts.items c.in_ok-other.more.items done.1.items (omega arith) left right seat all)
          c.both.ensures.seat c.both.ensures.verdicts;
    }
