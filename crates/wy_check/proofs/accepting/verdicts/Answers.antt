use Rattle.std.proofs.Common.{◌≡◌, ◌∙◌, ◌<◌, ◌++◌, ◌∷◌, [], ℕ, List, length, map, take, refl, sym, ap, arith}
use Rattle.std.proofs.lemmas.List.{length-map}
use Rattle.wy_term.specs.Condition.{Condition, condition_of}
use Rattle.wy_cert.specs.declared.step.Cert.{Cert}
use Rattle.wy_cert.specs.Steps.{Written, Certificates, steps_of, certificates_of}
use Rattle.wy_check.specs.declared.verdict.Verdict.{Verdict}
use Rattle.wy_check.specs.declared.verdict.Verdict.TheVariants.{Missing}
use Rattle.wy_check.specs.Verdicts.{verdicts_on}
use Rattle.wy_check.proofs.PlaceLemmas.{none_supplied}
use Rattle.wy_check.proofs.StayLemmas.{as_before, conditions_stay, within_as_before, more_taken, item_of, all_taken}
use Rattle.wy_check.proofs.accepting.verdicts.Goals as goal

pub loop-number-init : goal.loop-number-init
loop-number-init c = record {
  so_far = none_supplied 1 (map (condition_of c.args.terms.now) c.args.conds.now) c.in_ok-verdicts.verdicts.items
      (c.in_ok-verdicts.ensures.length ∙ sym (length-map c.args.conds.now (condition_of c.args.terms.now)))
      (λ k lt. c.in_ok-verdicts.ensures.each k Missing lt);
  count = c.in_ok-verdicts.ensures.length;
  same = refl;
  kept = λ t lt. refl;
}

pub supply-requires-clause-conds : goal.supply-requires-clause-conds
supply-requires-clause-conds c = within_as_before c.args.terms.now c.loop-number.terms c.args.conds.now c.loop-number.invariant.same c.requires.conds

pub supply-requires-clause-verdicts : goal.supply-requires-clause-verdicts
supply-requires-clause-verdicts c = c.loop-number.invariant.count

pub returns-in_err-supply-clause-length : goal.returns-in_err-supply-clause-length
returns-in_err-supply-clause-length c = c.supply.ensures.length ∙ c.loop-number.invariant.same

pub returns-in_err-supply-clause-kept : goal.returns-in_err-supply-clause-kept
returns-in_err-supply-clause-kept c = λ t lt. c.supply.ensures.kept t (omega (arith, lt, c.loop-number.invariant.same)) ∙ c.loop-number.invariant.kept t lt

pub loop-number-preserved : goal.loop-number-preserved
loop-number-preserved c =
    let old = c.args.terms.now in
    let now = c.loop-number.terms in
    let items = c.args.certs.now.list.items in
    let i = c.loop-number.number-index in
    let e = c.loop-number-item.result in
    let pair : ℕ × Cert → ℕ × List Written = λ (p : ℕ × Cert). (p.0, steps_of p.1) in
    let done : Certificates = map pair (take i items) in
    let here : i < length c.deref-number-items.result.now = c.loop-number-test.true in
    let item = item_of items c.deref-number-items.result.now i e c.deref-number-items.ensures.value here c.loop-number-item.is in
    let stay = conditions_stay old now c.args.conds.now (as_before old now c.loop-number.invariant.same c.loop-number.invariant.kept) c.requires.conds in
    let so = c.loop-number.invariant.so_far ∙ ap (verdicts_on done 1) (sym stay) in
    let more = more_taken pair items i e item.0 item.1 in
    record {
      so_far = c.in_ok-supply.ensures.value done so
          ∙ (ap (verdicts_on (done ++ pair e ∷ []) 1) stay ∙ ap (λ (cs : Certificates). verdicts_on cs 1 (map (condition_of old) c.args.conds.now)) (sym more));
      count = c.in_ok-supply.ensures.verdicts;
      same = c.in_ok-supply.ensures.length ∙ c.loop-number.invariant.same;
      kept = λ t lt. c.in_ok-supply.ensures.kept t (omega (arith, lt, c.loop-number.invariant.same)) ∙ c.loop-number.invariant.kept t lt;
    }

pub returns-clause-value : goal.returns-clause-value
returns-clause-value c =
    let items = c.args.certs.now.list.items in
    let pair : ℕ × Cert → ℕ × List Written = λ (p : ℕ × Cert). (p.0, steps_of p.1) in
    let all = all_taken items c.deref-number-items.result.now c.loop-number.number-index c.deref-number-items.ensures.value c.loop-number-test.false in
    c.loop-number.invariant.so_far ∙ ap (λ (es : List (ℕ × Cert)). verdicts_on (map pair es) 1 (map (condition_of c.args.terms.now) c.args.conds.now)) all

pub returns-clause-length : goal.returns-clause-length
returns-clause-length c = c.loop-number.invariant.same

pub returns-clause-kept : goal.returns-clause-kept
returns-clause-kept c = c.loop-number.invariant.kept
