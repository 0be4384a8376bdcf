use Rattle.std.proofs.Common.{◌≡◌, Some, rules}
use Rattle.wy_facts.specs.Program.{after}
use Rattle.wy_facts.specs.Seen.{terms_at}
use Rattle.wy_facts.proofs.StepLemmas.{no_terms, step_goes, step_stops, stays_on}
use Rattle.wy_facts.proofs.building.made_of.Goals as goal

pub returns-in-None-clause-value : goal.returns-in-None-clause-value
returns-in-None-clause-value c =
    let gave : no_terms ≡ after (terms_at c.loop-k.terms c.args.parts.now) c.instruction_at.result (terms_at c.loop-k.terms c.loop-k.made.items) = search rules in
    step_stops c.args.terms.now c.loop-k.terms c.args.parts.now c.loop-k.made.items c.args.program.now c.loop-k.k c.instruction_at.result c.loop-k-test.true c.loop-k.invariant.stays c.requires.parts c.loop-k.invariant.so_far c.instruction_at.ensures.value gave

pub loop-k-preserved : goal.loop-k-preserved
loop-k-preserved c =
    let gave : Some (terms_at c.step.new.terms c.in-Some.more.items) ≡ after (terms_at c.loop-k.terms c.args.parts.now) c.instruction_at.result (terms_at c.loop-k.terms c.loop-k.made.items) = search rules in
    record {
      so_far = step_goes c.args.terms.now c.loop-k.terms c.args.parts.now c.loop-k.made.items c.args.program.now c.loop-k.k c.instruction_at.result _ c.loop-k-test.true c.loop-k.invariant.stays c.requires.parts c.loop-k.invariant.so_far c.instruction_at.ensures.value gave;
      below = search rules;
      stays = stays_on c.args.terms.now c.loop-k.terms c.step.new.terms c.loop-k.invariant.stays c.step.ensures.stays;
    }
