use Rattle.std.proofs.Common.{◌≡◌, Bool, true, false, ap, refl, rules, sym}
use Rattle.wy_cong.specs.wy_check_spec.judge.Node.{Node}
use Rattle.wy_check_nodes.specs.Seen.{seen_branch, signed}
use Rattle.wy_cong.specs.wy_search_spec.Expansion.{kind_fact, with_some}
use Rattle.wy_search_facts.proofs.AddingLemmas.{led_if, unmoved}
use Rattle.wy_search_facts.proofs.kinds.push_kind_fact.Goals as goal
use Rattle.wy_term.specs.Nodes.{tree_at}

pub returns-then-holds-clause-value : goal.returns-then-holds-clause-value
returns-then-holds-clause-value c =
    let at = tree_at c.args.terms.now in
    let up : c.args.holds ≡ true = search rules in
    led_if c.push_about.result c.args.terms.now c.args.facts.now.items c.push_about.new.terms c.push_about.new.facts.items _ _
    (λ (done : Node). ap (λ (b : Bool). with_some done (kind_fact (seen_branch at c.args.branch.now) (signed (at c.args.t) b))) (sym up)) c.push_about.ensures.value

pub returns-else-holds-clause-value : goal.returns-else-holds-clause-value
returns-else-holds-clause-value c =
    let at = tree_at c.args.terms.now in
    let un : c.args.holds ≡ false = search rules in
    unmoved c.args.terms.now c.args.facts.now.items _ c.requires.facts
    (λ (done : Node). ap (λ (b : Bool). with_some done (kind_fact (seen_branch at c.args.branch.now) (signed (at c.args.t) b))) (sym un))
