use Rattle.std.proofs.Common.{◌≡◌, map}
use Rattle.std.proofs.lemmas.Result.{IfOk-weaker}
use Rattle.wy_search_bounds.proofs.KnownLemmas.{known_stays}
use Rattle.wy_facts.proofs.SharedLemmas.{types_stay}
use Rattle.wy_search_facts.proofs.AddingLemmas.{types_up}
use Rattle.wy_term.specs.Nodes.{tree_at}
use Rattle.wy_term.specs.Condition.{condition_of}
use Rattle.wy_facts.proofs.StepLemmas.{stays_on}
use Rattle.wy_check_nodes.specs.Seen.{seen_branch}
use Rattle.wy_search_facts.specs.wy_search_spec.Expansion.{with_instances, with_facts, with_products}
use Rattle.wy_search.specs.Turns.{index_terms_in}
use Rattle.wy_search.proofs.RoundLemmas.{grown}
use Rattle.wy_search.proofs.expanding.grow.Goals as goal

pub add_facts-requires-clause-types : goal.add_facts-requires-clause-types
add_facts-requires-clause-types c = types_up c.args.terms.now c.add_instances.new.terms c.args.cond.now c.in_ok-add_instances.ensures.stays c.requires.types

pub add_products-requires-clause-known : goal.add_products-requires-clause-known
add_products-requires-clause-known c =
    known_stays c.args.terms.now c.add_facts.new.terms c.args.known.now (stays_on c.args.terms.now c.add_instances.new.terms c.add_facts.new.terms c.in_ok-add_instances.ensures.stays c.in_ok-add_facts.ensures.stays) c.requires.known

pub returns-clause-value : goal.returns-clause-value
returns-clause-value c =
    let old = c.args.terms.now in
    let first = c.add_instances.new.terms in
    let second = c.add_facts.new.terms in
    let es = (condition_of old c.args.cond.now).types in
    let start = seen_branch (tree_at old) c.args.branch.now in
    let names = map (tree_at old) c.args.names.now in
    let two = seen_branch (tree_at second) c.add_facts.new.branch in
    let three = seen_branch (tree_at c.add_products.new.terms) c.add_products.new.branch in
    IfOk-weaker c.add_products.result (λ u. three ≡ with_products two) (λ u. three ≡ with_products (with_facts es (with_instances start start.literals (index_terms_in start names)))) (λ u is.
    grown es (condition_of first c.args.cond.now).types start (seen_branch (tree_at first) c.add_instances.new.branch) two three names
    (types_stay old first c.args.cond.now c.in_ok-add_instances.ensures.stays c.requires.types)
    c.in_ok-add_instances.ensures.value c.in_ok-add_facts.ensures.value is) c.add_products.ensures.value

pub returns-clause-stays : goal.returns-clause-stays
returns-clause-stays c =
    stays_on c.args.terms.now c.add_facts.new.terms c.add_products.new.terms (stays_on c.args.terms.now c.add_instances.new.terms c.add_facts.new.terms c.in_ok-add_instances.ensures.stays c.in_ok-add_facts.ensures.stays) c.add_products.ensures.stays
