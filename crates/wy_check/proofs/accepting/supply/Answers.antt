use Rattle.wy_term.specs.Condition.{condition_of}
use Rattle.wy_cert.specs.Steps.{steps_of}
use Rattle.wy_check.proofs.PlaceLemmas.{for_none, for_later, for_given, for_first}
use Rattle.wy_check.proofs.accepting.supply.Goals as goal

pub returns-then-number-lt1-clause-value : goal.returns-then-number-lt1-clause-value
returns-then-number-lt1-clause-value c =
    for_none (condition_of c.args.terms.now) c.args.conds.now c.args.verdicts.now.items c.args.number (steps_of c.args.cert.now) c.if-number-lt1.true

pub returns-then-conds-number-clause-value : goal.returns-then-conds-number-clause-value
returns-then-conds-number-clause-value c =
    for_later (condition_of c.args.terms.now) c.args.conds.now c.args.verdicts.now.items c.args.number (steps_of c.args.cert.now) c.if-conds-number.true

pub returns-then-not-is_missing-clause-value : goal.returns-then-not-is_missing-clause-value
returns-then-not-is_missing-clause-value c =
    for_given (condition_of c.args.terms.now) c.args.conds.now c.args.verdicts.now.items c.args.number (steps_of c.args.cert.now) c.is_missing.result c.index.result.now
    c.if-number-lt1.false c.if-conds-number.false c.requires.verdicts c.index.ensures c.if-not-is_missing.true c.is_missing.ensures.value

pub returns-clause-value : goal.returns-clause-value
returns-clause-value c =
    for_first (condition_of c.args.terms.now) c.args.conds.now c.args.verdicts.now.items c.args.number (steps_of c.args.cert.now) c.is_missing.result c.index.result.now c.in_ok-verdicts.field-0 c.index-conds-place.result
    c.if-number-lt1.false c.if-conds-number.false c.requires.verdicts c.index.ensures c.if-not-is_missing.false c.is_missing.ensures.value c.index-conds-place.is c.in_ok-verdicts.ensures.value
