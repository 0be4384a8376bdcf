use Rattle.std.proofs.Common.{rules, ◌∙◌, ◌<◌, ◌^◌, ap, length, sym}
use Rattle.wy_term.specs.Condition.{condition_of}
use Rattle.wy_cert.specs.Only.{IsTheOne, HasNone}
use Rattle.wy_cert.specs.Steps.{steps_of}
use Rattle.wy_check.specs.wy_vc_laws.wy_check_spec.valid.Validity.{IsValid}
use Rattle.wy_cache_text.specs.Found.{steps_for}
use Rattle.wy_cache.specs.Kept.{IsSteps}
use Rattle.wy_cache.proofs.WritableLemmas.{read_is_writable}
use Rattle.wy_cache.proofs.KeptLemmas.{no_steps, not_valid, kept_here, no_certificate}
use Rattle.wy_cache.proofs.keeping.kept_one.Goals as goal

pub returns-in_default-2-clause-value : goal.returns-in_default-2-clause-value
returns-in_default-2-clause-value c = λ es found.
    let never : HasNone (IsSteps c.in-Some.steps.now) = search rules in
    no_steps es (condition_of c.args.terms.now c.args.cond.now) c.in_ok-text.text.items c.in-Some.steps.now c.in_ok-text.ensures.value (ap (steps_for es) (sym c.as_slice.ensures.value) ∙ sym (c.in-Some.ensures.value es found)) never

pub returns-in-Yes-clause-value : goal.returns-in-Yes-clause-value
returns-in-Yes-clause-value c = λ es found.
    let the : IsTheOne (IsSteps c.in-Some.steps.now) (steps_of c.in-Some-2.cert) = search rules in
    let good : IsValid (condition_of c.args.terms.now c.args.cond.now) (steps_of c.in-Some-2.cert) = search rules in
    kept_here es (condition_of c.args.terms.now c.args.cond.now) c.in_ok-text.text.items c.in-Some.steps.now c.in_ok-text.ensures.value (ap (steps_for es) (sym c.as_slice.ensures.value) ∙ sym (c.in-Some.ensures.value es found))
    (steps_of c.in-Some-2.cert) the good

pub returns-clause-value : goal.returns-clause-value
returns-clause-value c = λ es found.
    let the : IsTheOne (IsSteps c.in-Some.steps.now) (steps_of c.in-Some-2.cert) = search rules in
    no_certificate es (condition_of c.args.terms.now c.args.cond.now) (steps_of c.in-Some-2.cert) c.in_ok-check.field-0 c.in-No.field-0 c.in-No.is c.in_ok-check.ensures.valid
    (not_valid es (condition_of c.args.terms.now c.args.cond.now) c.in_ok-text.text.items c.in-Some.steps.now c.in_ok-text.ensures.value (ap (steps_for es) (sym c.as_slice.ensures.value) ∙ sym (c.in-Some.ensures.value es found))
    (steps_of c.in-Some-2.cert) the)

pub returns-in-Yes-clause-writable : goal.returns-in-Yes-clause-writable
returns-in-Yes-clause-writable c =
    let the : IsTheOne (IsSteps c.in-Some.steps.now) (steps_of c.in-Some-2.cert) = search rules in
    let good : IsValid (condition_of c.args.terms.now c.args.cond.now) (steps_of c.in-Some-2.cert) = search rules in
    let few : length c.in-Some.steps.now < 2 ^ 125 = search rules in
    read_is_writable c.in-Some.steps.now (condition_of c.args.terms.now c.args.cond.now) (steps_of c.in-Some-2.cert) few the.holds good
