use Rattle.std.proofs.Common.{◌∙◌, ◌+◌, length, refl, subst, ap}
use Rattle.std.proofs.lemmas.Option.{slice_get-map, slice_get_read}
use Rattle.std.proofs.lemmas.Result.{IfOk-weaker}
use Rattle.std.specs.Prelude.{option_map}
use Rattle.wy_batch.proofs.JudgedLemmas.{within_at}
use Rattle.wy_batch.specs.Judged.{IsJudged, IsVerdictAt, conditions_in}
use Rattle.wy_cert.specs.Steps.{certificates_of}
use Rattle.wy_term.specs.Condition.{Condition, condition_of}
use Rattle.wy_batch.proofs.judging.judged.Goals as goal

pub brought-requires : goal.brought-requires
brought-requires c = record {
  bench = c.requires.bench;
  cond = within_at (length c.args.conds.now.terms) c.args.conds.now.list.items c.args.place c.index.result.now c.requires.conds c.requires.place c.index.ensures;
}

pub returns-clause-value : goal.returns-clause-value
returns-clause-value c =
    let certs = certificates_of c.args.certs.now in
    let budget = c.args.budget in
    let conds = c.args.conds.now in
    let list = conds.list.items in
    let place = c.args.place in
    let cond = c.index.result.now in
    let here = slice_get-map (condition_of conds.terms) list place ∙ ap (option_map (condition_of conds.terms)) (slice_get_read list (length list) place cond refl c.requires.place c.index.ensures) in
    IfOk-weaker c.judged_there.result (IsJudged certs budget (place + 1) (condition_of c.brought.new.bench.terms c.in_ok-cond.cond)) (IsVerdictAt certs budget (conditions_in conds) place)
    (λ v h. record { condition = condition_of conds.terms cond; here = here; judged = subst (λ (x : Condition). IsJudged certs budget (place + 1) x v) c.in_ok-cond.ensures.same h }) c.judged_there.ensures.value
