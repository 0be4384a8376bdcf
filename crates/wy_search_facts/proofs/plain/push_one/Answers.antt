use Rattle.std.proofs.Common.{◌≡◌, [], ◌∷◌, Bool, true, false, ap, rules, sym}
use Rattle.wy_cong.specs.wy_check_spec.judge.Node.{Node}
use Rattle.wy_check_nodes.specs.Seen.{signed}
use Rattle.wy_cong.specs.wy_search_spec.Expansion.{with_some}
use Rattle.wy_search_facts.proofs.AddingLemmas.{led_if, unmoved}
use Rattle.wy_search_facts.proofs.DenialLemmas.{none_more, no_fact_of}
use Rattle.wy_search_facts.proofs.plain.push_one.Goals as goal
use Rattle.wy_term.specs.Condition.{condition_of}
use Rattle.wy_term.specs.Nodes.{tree_at}
use Rattle.wy_cong.specs.wy_check_spec.valid.Membership.{fact_among}

pub returns-then-holds-clause-value : goal.returns-then-holds-clause-value
returns-then-holds-clause-value c =
    let t = tree_at c.args.terms.now c.args.t in
    let types = (condition_of c.args.terms.now c.args.cond.now).types in
    let up : c.args.holds ≡ true = search rules in
    led_if c.push_fact.result c.args.terms.now c.args.facts.now.items c.push_fact.new.terms c.push_fact.new.facts.items _ _
    (λ (node : Node). ap (λ (b : Bool). with_some node (fact_among types c.args.schema (signed t b ∷ []))) (sym up)) c.push_fact.ensures.value

pub returns-else-holds-clause-value : goal.returns-else-holds-clause-value
returns-else-holds-clause-value c =
    let t = tree_at c.args.terms.now c.args.t in
    let types = (condition_of c.args.terms.now c.args.cond.now).types in
    let un : c.args.holds ≡ false = search rules in
    unmoved c.args.terms.now c.args.facts.now.items _ c.requires.facts (λ (node : Node). none_more node _ (no_fact_of types c.args.schema t c.args.holds un))
