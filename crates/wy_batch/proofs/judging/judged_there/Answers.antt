use Rattle.std.proofs.Common.{◌∙◌, nat_eq, sym, ap, subst}
use Rattle.std.proofs.lemmas.Result.{on_ok_weaker}
use Rattle.std.specs.HashMap.{get}
use Rattle.std.specs.Prelude.{IfOk}
use Rattle.wy_batch.proofs.BenchLemmas.{carried_stays, copied_stays, stays_on}
use Rattle.wy_batch.proofs.JudgedLemmas.{same_condition, same_within}
use Rattle.wy_batch.specs.Judged.{IsJudged}
use Rattle.wy_cert.specs.Steps.{certificates_of}
use Rattle.wy_check.proofs.StayLemmas.{as_before}
use Rattle.wy_check.specs.Verdicts.{certificate_for, verdict_on}
use Rattle.wy_term.specs.Condition.{Condition}
use Rattle.wy_batch.proofs.judging.judged_there.Goals as goal

pub judged_one-requires : goal.judged_one-requires
judged_one-requires c =
    let old = c.args.bench.now in
    let mid = c.given_for.new.terms in
    record {
      cond = same_within old.terms mid c.args.cond.now c.in_ok-given.ensures.length c.requires.cond;
      carried = carried_stays old.terms mid old.carried (as_before old.terms mid c.in_ok-given.ensures.length c.in_ok-given.ensures.kept) c.requires.carried;
    }

pub returns-clause-value : goal.returns-clause-value
returns-clause-value c =
    let old = c.args.bench.now.terms in
    let mid = c.given_for.new.terms in
    let certs = certificates_of c.args.certs.now in
    let n = c.args.number in
    let same = same_condition old mid c.args.cond.now c.in_ok-given.ensures.length c.in_ok-given.ensures.kept c.requires.cond in
    let told = c.in_ok-given.ensures.value ∙ ap (λ (x : Condition). verdict_on x (certificate_for certs n)) (sym same) in
    subst (λ (x : Condition). IfOk c.judged_one.result (IsJudged certs c.args.budget n x)) same (c.judged_one.ensures.value certs n told)

pub returns-clause-bench : goal.returns-clause-bench
returns-clause-bench c = λ from is.
    let old = c.args.bench.now in
    let mid = c.given_for.new.terms in
    let new = c.judged_one.new.terms in
    let stays = stays_on old.terms mid new (as_before old.terms mid c.in_ok-given.ensures.length c.in_ok-given.ensures.kept) (as_before mid new c.judged_one.ensures.length c.judged_one.ensures.kept) in
    on_ok_weaker c.judged_one.result (λ h. record { copied = copied_stays from old.terms new (get nat_eq old.images) stays is.copied; carried = h }) c.judged_one.ensures.carried
