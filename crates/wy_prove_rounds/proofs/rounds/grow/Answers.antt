use Rattle.std.proofs.Common.{◌≡◌, List, map, subst, sym}
use Rattle.wy_prove_drafts.specs.Draft.{seen_draft}
use Rattle.wy_facts.proofs.SharedLemmas.{types_stay}
use Rattle.wy_facts.proofs.StepLemmas.{stays_on}
use Rattle.wy_prove_drafts.specs.wy_check_nodes.Seen.{seen_branch}
use Rattle.wy_lemmas.proofs.Options.{on_ok}
use Rattle.wy_prove_drafts.specs.wy_search_spec.Expansion.{with_facts, with_instances, with_products}
use Rattle.wy_search.specs.Turns.{begun, index_terms_in}
use Rattle.wy_search.proofs.RoundLemmas.{grown}
use Rattle.wy_search.proofs.wy_search_facts_proofs.AddingLemmas.{types_up}
use Rattle.wy_term.specs.Condition.{Entry, condition_of}
use Rattle.wy_term.specs.Nodes.{tree_at}
use Rattle.wy_prove_rounds.specs.Moving.{Reaches}
use Rattle.wy_prove_rounds.specs.Rounds.{IsBeside}
use Rattle.wy_prove_rounds.proofs.RoundLemmas.{reaches_on}
use Rattle.wy_prove_rounds.proofs.rounds.grow.Goals as goal

pub add_facts-requires-clause-types : goal.add_facts-requires-clause-types
add_facts-requires-clause-types c = types_up c.args.terms.now c.add_instances.new.terms c.args.cond.now c.in_ok-add_instances.ensures.stays c.requires.types

pub returns-clause-seen : goal.returns-clause-seen
returns-clause-seen c =
    let old = c.args.terms.now in
    let first = c.add_instances.new.terms in
    let second = c.add_facts.new.terms in
    let es = (condition_of old c.args.cond.now).types in
    let start = seen_branch (tree_at old) c.args.branch.now in
    let names = map (tree_at old) c.args.names.now in
    let two = seen_branch (tree_at second) c.add_facts.new.branch in
    let three = seen_branch (tree_at c.add_products.new.terms) c.add_products.new.branch in
    on_ok c.add_products.result (three ≡ with_products two) (three ≡ with_products (with_facts es (with_instances start start.literals (index_terms_in start names)))) (λ is.
    grown es (condition_of first c.args.cond.now).types start (seen_branch (tree_at first) c.add_instances.new.branch) two three names
    (types_stay old first c.args.cond.now c.in_ok-add_instances.ensures.stays c.requires.types)
    c.in_ok-add_instances.ensures.seen c.in_ok-add_facts.ensures.seen is) c.add_products.ensures.seen

pub returns-clause-value : goal.returns-clause-value
returns-clause-value c = λ beside.
    let old = c.args.terms.now in
    let first = c.add_instances.new.terms in
    let second = c.add_facts.new.terms in
    let es = (condition_of old c.args.cond.now).types in
    let fs = (condition_of first c.args.cond.now).types in
    let same = types_stay old first c.args.cond.now c.in_ok-add_instances.ensures.stays c.requires.types in
    let one = seen_branch (tree_at first) c.add_instances.new.branch in
    let two = seen_branch (tree_at second) c.add_facts.new.branch in
    let d1 = seen_draft (tree_at old) c.args.draft.now in
    let d2 = seen_draft (tree_at first) c.add_instances.new.draft in
    let d3 = seen_draft (tree_at second) c.add_facts.new.draft in
    let r1 = c.in_ok-add_instances.ensures.value es beside in
    let r2 : Reaches es (begun two) d2 d3 = subst (λ (ts : List Entry). Reaches ts (begun two) d2 d3) same (c.in_ok-add_facts.ensures.value (subst (λ (ts : List Entry). IsBeside ts (begun one) d2) (sym same) r1.beside)) in
    on_ok c.add_products.result _ _ (λ r. reaches_on es (begun two) _ d1 d3 _ (reaches_on es (begun one) (begun two) d1 d2 d3 r1 r2) r) (c.add_products.ensures.value es r2.beside)

pub returns-clause-stays : goal.returns-clause-stays
returns-clause-stays c =
    stays_on c.args.terms.now c.add_facts.new.terms c.add_products.new.terms (stays_on c.args.terms.now c.add_instances.new.terms c.add_facts.new.terms c.in_ok-add_instances.ensures.stays c.in_ok-add_facts.ensures.stays) c.add_products.ensures.stays
