use Rattle.std.proofs.Common.{◌≡◌, ◌∙◌, List, [], ◌∷◌, Bool, true, false, ap, rules, sym}
use Rattle.wy_cong.specs.wy_check_spec.judge.Node.{Node}
use Rattle.wy_check_nodes.specs.Seen.{signed}
use Rattle.wy_cong.specs.wy_search_spec.Expansion.{measured, with_facts_of_one}
use Rattle.wy_search_facts.proofs.AddingLemmas.{led_if, unmoved}
use Rattle.wy_search_facts.proofs.plain.push_length.Goals as goal
use Rattle.wy_term.specs.Condition.{condition_of}
use Rattle.wy_term.specs.Nodes.{tree_at}
use Rattle.wy_term.specs.Term.{Term}

pub returns-then-not-holds-clause-value : goal.returns-then-not-holds-clause-value
returns-then-not-holds-clause-value c =
    let t = tree_at c.args.terms.now c.args.t in
    let types = (condition_of c.args.terms.now c.args.cond.now).types in
    let un : c.args.holds ≡ false = search rules in
    unmoved c.args.terms.now c.args.facts.now.items _ c.requires.facts (λ (node : Node). ap (λ (b : Bool). with_facts_of_one types 1 node (measured (signed t b))) (sym un))

pub returns-in-Some-clause-value : goal.returns-in-Some-clause-value
returns-in-Some-clause-value c =
    let at = tree_at c.args.terms.now in
    let t = at c.args.t in
    let types = (condition_of c.args.terms.now c.args.cond.now).types in
    let up : c.args.holds ≡ true = search rules in
    let is : measured t ≡ at c.in-Some.v ∷ [] = c.in-Some.ensures.value in
    led_if c.push_fact.result c.args.terms.now c.args.facts.now.items c.push_fact.new.terms c.push_fact.new.facts.items _ _
    (λ (node : Node). ap (λ (ts : List Term). with_facts_of_one types 1 node ts) (sym is) ∙ ap (λ (b : Bool). with_facts_of_one types 1 node (measured (signed t b))) (sym up)) c.push_fact.ensures.value

pub returns-in-None-clause-value : goal.returns-in-None-clause-value
returns-in-None-clause-value c =
    let at = tree_at c.args.terms.now in
    let t = at c.args.t in
    let types = (condition_of c.args.terms.now c.args.cond.now).types in
    let up : c.args.holds ≡ true = search rules in
    let is : measured t ≡ [] = c.in-None.ensures.value in
    unmoved c.args.terms.now c.args.facts.now.items _ c.requires.facts
    (λ (node : Node). ap (λ (ts : List Term). with_facts_of_one types 1 node ts) (sym is) ∙ ap (λ (b : Bool). with_facts_of_one types 1 node (measured (signed t b))) (sym up))
