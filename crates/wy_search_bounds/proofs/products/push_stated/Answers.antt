use Rattle.wy_search_bounds.proofs.AddingLemmas.{some_led}
use Rattle.wy_search_bounds.proofs.products.push_stated.Goals as goal
use Rattle.wy_cong.proofs.wy_facts_proofs.StepLemmas.{below_kept}

pub returns-clause-value : goal.returns-clause-value
returns-clause-value c =
    let old = c.args.terms.now in
    let new = c.product_stated.new.terms in
    some_led c.push_some.result old new c.args.stated.now.items c.push_some.new.stated.items c.in_ok-made.made _ c.in_ok-made.ensures.stays c.requires.stated (below_kept old new c.args.stated.now.items c.in_ok-made.ensures.stays c.requires.stated) c.in_ok-made.ensures.within c.in_ok-made.ensures.value c.push_some.ensures.value c.push_some.ensures.below
