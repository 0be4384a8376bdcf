use Rattle.std.proofs.Common.{ap, length, ◌∙◌}
use Rattle.std.specs.Prelude.{option_map}
use Rattle.wy_facts.proofs.SharedLemmas.{types_stay}
use Rattle.wy_term.specs.Condition.{condition_of}
use Rattle.wy_term.specs.Nodes.{tree_at}
use Rattle.wy_facts.specs.Seen.{terms_at}
use Rattle.wy_facts.proofs.StepLemmas.{stays_on}
use Rattle.wy_check_splits.specs.wy_check_nodes.Seen.{seen_branch}
use Rattle.wy_check.proofs.TrailLemmas.{types_up}
use Rattle.wy_check.proofs.StepLemmas.{ok_with, fact_led}
use Rattle.wy_check.proofs.steps.by_fact.Goals as goal

pub fact_stated-requires-clause-types : goal.fact_stated-requires-clause-types
fact_stated-requires-clause-types c = types_up (length c.args.terms.now) (length c.all_brought.new.terms) c.args.cond.now c.in_ok-arguments.ensures.stays.grows c.requires.types

pub returns-clause-value : goal.returns-clause-value
returns-clause-value c =
    let old = c.args.terms.now in
    let mid = c.all_brought.new.terms in
    let at = tree_at c.fact_stated.new.terms in
    let cond = c.args.cond.now in
    let node = seen_branch (tree_at old) c.args.branch.now in
    let same = types_stay old mid cond c.in_ok-arguments.ensures.stays c.requires.types in
    ok_with at node c.adds_one.result _ _ (c.adds_one.ensures.value at node) (fact_led (condition_of old cond).types (condition_of mid cond).types node c.args.n (terms_at mid c.deref.result.now) (terms_at c.args.from.now c.args.all.now) (option_map at c.in_ok-stated.stated) same (ap (terms_at mid) c.deref.ensures.value ∙ c.in_ok-arguments.ensures.value) c.in_ok-stated.ensures.value)

pub returns-clause-stays : goal.returns-clause-stays
returns-clause-stays c = stays_on c.args.terms.now c.all_brought.new.terms c.fact_stated.new.terms c.in_ok-arguments.ensures.stays c.in_ok-stated.ensures.stays

pub returns-clause-within : goal.returns-clause-within
returns-clause-within c = c.adds_one.ensures.within (length c.fact_stated.new.terms) c.in_ok-stated.ensures.within
