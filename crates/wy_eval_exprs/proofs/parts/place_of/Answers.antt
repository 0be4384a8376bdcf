use Rattle.std.proofs.Common.{sym, ◌∙◌}
use Rattle.wy_eval_exprs.proofs.PartLemmas.{behind_none, place_goes_on, place_is_here, place_is_none}
use Rattle.wy_eval_exprs.proofs.parts.place_of.Goals as goal

pub loop-i-init : goal.loop-i-init
loop-i-init c = behind_none _

pub returns-then-is-clause-value : goal.returns-then-is-clause-value
returns-then-is-clause-value c = sym (place_is_here c.args.fields.now c.loop-i.i c.index-fields-i.result c.args.name.now c.loop-i-test.true c.index-fields-i.is c.if-is.ensures.value) ∙ c.loop-i.invariant

pub loop-i-preserved : goal.loop-i-preserved
loop-i-preserved c = sym (place_goes_on c.args.fields.now c.loop-i.i c.index-fields-i.result c.args.name.now c.loop-i-test.true c.index-fields-i.is c.if-is.ensures.value) ∙ c.loop-i.invariant

pub returns-clause-value : goal.returns-clause-value
returns-clause-value c = sym (place_is_none c.args.fields.now c.loop-i.i c.args.name.now c.loop-i-test.false) ∙ c.loop-i.invariant
