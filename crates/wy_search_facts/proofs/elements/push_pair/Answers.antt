use Rattle.std.proofs.Common.{◌≡◌, ◌∙◌, [], ◌∷◌, Bool, true, false, cond, ap, refl, rules, sym}
use Rattle.wy_cong.specs.wy_check_spec.judge.Node.{Node}
use Rattle.wy_check_nodes.specs.Seen.{signed}
use Rattle.wy_cong.specs.wy_search_spec.Expansion.{with_pairs_of, with_some}
use Rattle.wy_search_facts.proofs.AddingLemmas.{led_if, unmoved}
use Rattle.wy_search_facts.proofs.DenialLemmas.{no_pair, pair_none}
use Rattle.wy_search_facts.proofs.elements.push_pair.Goals as goal
use Rattle.wy_term.specs.Nodes.{tree_at}
use Rattle.wy_term.specs.Same.{same_term}
use Rattle.wy_term.specs.Term.{Term, Not}
use Rattle.wy_cong.specs.wy_check_spec.valid.Membership.{fact_among}

pub returns-then-not-holds-clause-value : goal.returns-then-not-holds-clause-value
returns-then-not-holds-clause-value c =
    let t = tree_at c.args.terms.now c.args.t in
    let u = tree_at c.args.terms.now c.args.u in
    let un : c.args.holds ≡ false = search rules in
    unmoved c.args.terms.now c.args.facts.now.items _ c.requires.facts
    (λ (node : Node). pair_none node t (Not u) (same_term t (Not u)) refl (no_pair t u) ∙ ap (λ (b : Bool). with_pairs_of node t (signed u b ∷ [])) (sym un))

pub returns-then-same-clause-value : goal.returns-then-same-clause-value
returns-then-same-clause-value c =
    let t = tree_at c.args.terms.now c.args.t in
    let u = tree_at c.args.terms.now c.args.u in
    let up : c.args.holds ≡ true = search rules in
    let same : same_term t u ≡ true = search rules in
    unmoved c.args.terms.now c.args.facts.now.items _ c.requires.facts
    (λ (node : Node). sym (ap (λ (b : Bool). cond b node (with_some node (fact_among [] 8 (t ∷ u ∷ [])))) same) ∙ ap (λ (b : Bool). with_pairs_of node t (signed u b ∷ [])) (sym up))

pub returns-clause-value : goal.returns-clause-value
returns-clause-value c =
    let t = tree_at c.args.terms.now c.args.t in
    let u = tree_at c.args.terms.now c.args.u in
    let up : c.args.holds ≡ true = search rules in
    let apart : same_term t u ≡ false = search rules in
    led_if c.push_fact.result c.args.terms.now c.args.facts.now.items c.push_fact.new.terms c.push_fact.new.facts.items _ _
    (λ (node : Node). sym (ap (λ (b : Bool). cond b node (with_some node (fact_among [] 8 (t ∷ u ∷ [])))) apart) ∙ ap (λ (b : Bool). with_pairs_of node t (signed u b ∷ [])) (sym up)) c.push_fact.ensures.value
