use Rattle.wy_facts.proofs.StepLemmas.{below_kept}
use Rattle.wy_search_facts.proofs.AddingLemmas.{some_led}
use Rattle.wy_search_facts.proofs.made.push_fact.Goals as goal

pub returns-clause-value : goal.returns-clause-value
returns-clause-value c =
    let old = c.args.terms.now in
    let new = c.fact_stated.new.terms in
    some_led c.push_some.result old new c.args.facts.now.items c.push_some.new.facts.items c.in_ok-made.made _ c.in_ok-made.ensures.stays c.requires.facts (below_kept old new c.args.facts.now.items c.in_ok-made.ensures.stays c.requires.facts) c.in_ok-made.ensures.within c.in_ok-made.ensures.value c.push_some.ensures.value c.push_some.ensures.below
