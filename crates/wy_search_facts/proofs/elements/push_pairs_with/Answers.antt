use Rattle.std.proofs.Common.{◌≡◌, ◌∙◌, List, Bool, true, false, None, map, ap, refl, rules, sym}
use Rattle.std.specs.Prelude.{is_some}
use Rattle.wy_facts.specs.Schema.{as_element}
use Rattle.wy_cong.specs.wy_check_spec.judge.Node.{Node}
use Rattle.wy_check_nodes.specs.Seen.{seen_formula, signed}
use Rattle.wy_cong.specs.wy_search_spec.Expansion.{with_pairs_of}
use Rattle.wy_search_facts.proofs.AddingLemmas.{led_if, unmoved}
use Rattle.wy_search_facts.proofs.DenialLemmas.{is_none, pairs_none}
use Rattle.wy_search_facts.proofs.elements.push_pairs_with.Goals as goal
use Rattle.wy_term.specs.Nodes.{tree_at}
use Rattle.wy_term.specs.Term.{Term, Not}

pub returns-then-not-holds-clause-value : goal.returns-then-not-holds-clause-value
returns-then-not-holds-clause-value c =
    let at = tree_at c.args.terms.now in
    let us = map (seen_formula at) c.args.found.now.pending.keys in
    let un : c.args.holds ≡ false = search rules in
    unmoved c.args.terms.now c.args.facts.now.items _ c.requires.facts
    (λ (node : Node). pairs_none (Not (at c.args.t)) us refl node ∙ ap (λ (b : Bool). with_pairs_of node (signed (at c.args.t) b) us) (sym un))

pub returns-then-not-is_element-clause-value : goal.returns-then-not-is_element-clause-value
returns-then-not-is_element-clause-value c =
    let at = tree_at c.args.terms.now in
    let us = map (seen_formula at) c.args.found.now.pending.keys in
    let up : c.args.holds ≡ true = search rules in
    let none : is_some (as_element (at c.args.t)) ≡ false = search rules in
    unmoved c.args.terms.now c.args.facts.now.items _ c.requires.facts
    (λ (node : Node). pairs_none (at c.args.t) us (is_none (as_element (at c.args.t)) none) node ∙ ap (λ (b : Bool). with_pairs_of node (signed (at c.args.t) b) us) (sym up))

pub returns-clause-value : goal.returns-clause-value
returns-clause-value c =
    let at = tree_at c.args.terms.now in
    let us = map (seen_formula at) c.args.found.now.pending.keys in
    let up : c.args.holds ≡ true = search rules in
    led_if c.push_pairs_of.result c.args.terms.now c.args.facts.now.items c.push_pairs_of.new.terms c.push_pairs_of.new.facts.items _ _
    (λ (node : Node). ap (λ (b : Bool). with_pairs_of node (signed (at c.args.t) b) us) (sym up)) c.push_pairs_of.ensures.value
