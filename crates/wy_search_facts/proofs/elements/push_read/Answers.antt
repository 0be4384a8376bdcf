use Rattle.std.proofs.Common.{◌≡◌, ◌∙◌, Bool, true, false, ap, rules, sym}
use Rattle.wy_cong.specs.wy_check_spec.judge.Node.{Node}
use Rattle.wy_check_nodes.specs.Seen.{signed}
use Rattle.wy_cong.specs.wy_search_spec.Expansion.{read_from, with_elements}
use Rattle.wy_search_facts.proofs.AddingLemmas.{led_if, unmoved}
use Rattle.wy_search_facts.proofs.ElementLemmas.{elements_are}
use Rattle.wy_search_facts.proofs.elements.push_read.Goals as goal
use Rattle.wy_term.specs.Nodes.{tree_at}
use Rattle.wy_term.specs.Term.{Term}

pub returns-then-not-holds-clause-value : goal.returns-then-not-holds-clause-value
returns-then-not-holds-clause-value c =
    let t = tree_at c.args.terms.now c.args.t in
    let un : c.args.holds ≡ false = search rules in
    unmoved c.args.terms.now c.args.facts.now.items _ c.requires.facts (λ (node : Node). ap (λ (b : Bool). with_elements node (signed t b) 0 (read_from (signed t b))) (sym un))

pub returns-clause-value : goal.returns-clause-value
returns-clause-value c =
    let t = tree_at c.args.terms.now c.args.t in
    let up : c.args.holds ≡ true = search rules in
    led_if c.push_all_numbered.result c.args.terms.now c.args.facts.now.items c.push_all_numbered.new.terms c.push_all_numbered.new.facts.items _ _
    (λ (node : Node). elements_are t node (read_from t) c.read_count-many.result c.read_count-many.ensures ∙ ap (λ (b : Bool). with_elements node (signed t b) 0 (read_from (signed t b))) (sym up)) c.push_all_numbered.ensures.value
