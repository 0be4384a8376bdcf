use Rattle.std.proofs.Common.{◌≡◌, ◌≤◌, ◌∙◌, [], ◌∷◌, ℕ, List, length, ap, ap₂, arith}
use Rattle.wy_facts.proofs.StepLemmas.{below_kept}
use Rattle.wy_cong.specs.wy_check_spec.judge.Node.{Node}
use Rattle.wy_cong.specs.wy_search_spec.Expansion.{with_some}
use Rattle.wy_search_facts.proofs.AddingLemmas.{led_from, types_up}
use Rattle.wy_search_facts.proofs.elements.push_numbered.Goals as goal
use Rattle.wy_term.specs.Nodes.{tree_at}
use Rattle.wy_term.specs.Term.{Term}
use Rattle.wy_cong.specs.wy_check_spec.valid.Membership.{fact_among}

pub push_fact-requires-clause-types : goal.push_fact-requires-clause-types
push_fact-requires-clause-types c = types_up c.args.terms.now c.number.new.terms c.args.cond.now c.in_ok-i.ensures.stays c.requires.types

pub push_fact-requires-clause-facts : goal.push_fact-requires-clause-facts
push_fact-requires-clause-facts c = below_kept c.args.terms.now c.number.new.terms c.args.facts.now.items c.in_ok-i.ensures.stays c.requires.facts

pub returns-clause-value : goal.returns-clause-value
returns-clause-value c =
    let old = c.args.terms.now in
    let now = c.number.new.terms in
    led_from c.push_fact.result old now c.args.facts.now.items c.push_fact.new.terms c.push_fact.new.facts.items _ _ c.in_ok-i.ensures.stays c.requires.facts
    (λ (node : Node). ap₂ (λ (t k : Term). with_some node (fact_among [] 4 (t ∷ k ∷ []))) (c.in_ok-i.ensures.stays.trees c.args.t c.requires.term) c.in_ok-i.ensures.value) c.push_fact.ensures.value
