use Rattle.std.proofs.Common.{◌≡◌, ◌∙◌, [], ◌∷◌, Option, Bool, true, false, ap, rules, sym}
use Rattle.wy_facts.proofs.StepLemmas.{below_kept}
use Rattle.wy_cong.specs.wy_check_spec.judge.Node.{Node}
use Rattle.wy_check_nodes.specs.Seen.{seen_branch}
use Rattle.wy_cong.specs.wy_search_spec.Expansion.{kind_fact, with_some}
use Rattle.wy_search_facts.proofs.AddingLemmas.{led_if, some_led}
use Rattle.wy_search_facts.proofs.KindLemmas.{formula_about, other_about}
use Rattle.wy_search_facts.proofs.kinds.push_about.Goals as goal
use Rattle.wy_search_facts.specs.About.{is_formula}
use Rattle.wy_term.specs.Nodes.{tree_at}
use Rattle.wy_term.specs.Term.{Term}

pub returns-then-is_formula-clause-value : goal.returns-then-is_formula-clause-value
returns-then-is_formula-clause-value c =
    let at = tree_at c.args.terms.now in
    let node = seen_branch at c.args.branch.now in
    let up : is_formula c.subject-what.result ≡ true = search rules in
    led_if c.push_fact.result c.args.terms.now c.args.facts.now.items c.push_fact.new.terms c.push_fact.new.facts.items _ _
    (λ (done : Node). ap (with_some done) (sym (c.subject-what.ensures.value node ∙ formula_about node at (at c.args.t) c.subject-what.result up))) c.push_fact.ensures.value

pub returns-clause-value : goal.returns-clause-value
returns-clause-value c =
    let at = tree_at c.args.terms.now in
    let node = seen_branch at c.args.branch.now in
    let un : is_formula c.subject-what.result ≡ false = search rules in
    let old = c.args.terms.now in
    let new = c.literal_said.new.terms in
    some_led c.push_some.result old new c.args.facts.now.items c.push_some.new.facts.items c.in_ok-said.said _ c.in_ok-said.ensures.stays c.requires.facts (below_kept old new c.args.facts.now.items c.in_ok-said.ensures.stays c.requires.facts) c.in_ok-said.ensures.within
    (c.in_ok-said.ensures.value ∙ sym (c.subject-what.ensures.value node ∙ other_about node at (at c.args.t) c.subject-what.result un)) c.push_some.ensures.value c.push_some.ensures.below
