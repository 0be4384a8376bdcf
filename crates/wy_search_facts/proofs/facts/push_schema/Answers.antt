use Rattle.std.proofs.Common.{◌≡◌, ◌≢◌, ℕ, List, map, ap, rules, sym}
use Rattle.wy_cong.specs.wy_check_spec.judge.Node.{Node}
use Rattle.wy_check_nodes.specs.Seen.{seen_branch, seen_formula}
use Rattle.wy_cong.specs.wy_search_spec.Expansion.{with_facts_by}
use Rattle.wy_search_facts.proofs.AddingLemmas.{led_if}
use Rattle.wy_search_facts.proofs.SchemaLemmas.{plain_is}
use Rattle.wy_search_facts.proofs.facts.push_schema.Goals as goal
use Rattle.wy_term.specs.Condition.{condition_of}
use Rattle.wy_term.specs.Nodes.{tree_at}

pub returns-then-schema-eq1-clause-value : goal.returns-then-schema-eq1-clause-value
returns-then-schema-eq1-clause-value c =
    let at = tree_at c.args.terms.now in
    let types = (condition_of c.args.terms.now c.args.cond.now).types in
    let ts = map (seen_formula at) c.args.found.now.pending.keys in
    let is : c.args.schema ≡ 1 = search rules in
    led_if c.push_lengths.result c.args.terms.now c.args.facts.now.items c.push_lengths.new.terms c.push_lengths.new.facts.items _ _
    (λ (done : Node). ap (λ (n : ℕ). with_facts_by types (seen_branch at c.args.branch.now) ts n done) (sym is)) c.push_lengths.ensures.value

pub returns-then-schema-eq4-clause-value : goal.returns-then-schema-eq4-clause-value
returns-then-schema-eq4-clause-value c =
    let at = tree_at c.args.terms.now in
    let types = (condition_of c.args.terms.now c.args.cond.now).types in
    let ts = map (seen_formula at) c.args.found.now.pending.keys in
    let is : c.args.schema ≡ 4 = search rules in
    led_if c.push_elements.result c.args.terms.now c.args.facts.now.items c.push_elements.new.terms c.push_elements.new.facts.items _ _
    (λ (done : Node). ap (λ (n : ℕ). with_facts_by types (seen_branch at c.args.branch.now) ts n done) (sym is)) c.push_elements.ensures.value

pub returns-then-schema-eq8-clause-value : goal.returns-then-schema-eq8-clause-value
returns-then-schema-eq8-clause-value c =
    let at = tree_at c.args.terms.now in
    let types = (condition_of c.args.terms.now c.args.cond.now).types in
    let ts = map (seen_formula at) c.args.found.now.pending.keys in
    let is : c.args.schema ≡ 8 = search rules in
    led_if c.push_pairs.result c.args.terms.now c.args.facts.now.items c.push_pairs.new.terms c.push_pairs.new.facts.items _ _
    (λ (done : Node). ap (λ (n : ℕ). with_facts_by types (seen_branch at c.args.branch.now) ts n done) (sym is)) c.push_pairs.ensures.value

pub returns-then-schema-eq14-clause-value : goal.returns-then-schema-eq14-clause-value
returns-then-schema-eq14-clause-value c =
    let at = tree_at c.args.terms.now in
    let types = (condition_of c.args.terms.now c.args.cond.now).types in
    let ts = map (seen_formula at) c.args.found.now.pending.keys in
    let is : c.args.schema ≡ 14 = search rules in
    led_if c.push_kind_facts.result c.args.terms.now c.args.facts.now.items c.push_kind_facts.new.terms c.push_kind_facts.new.facts.items _ _
    (λ (done : Node). ap (λ (n : ℕ). with_facts_by types (seen_branch at c.args.branch.now) ts n done) (sym is)) c.push_kind_facts.ensures.value

pub returns-clause-value : goal.returns-clause-value
returns-clause-value c =
    let at = tree_at c.args.terms.now in
    let types = (condition_of c.args.terms.now c.args.cond.now).types in
    let ts = map (seen_formula at) c.args.found.now.pending.keys in
    let one : c.args.schema ≢ 1 = search rules in
    let four : c.args.schema ≢ 4 = search rules in
    let eight : c.args.schema ≢ 8 = search rules in
    let fourteen : c.args.schema ≢ 14 = search rules in
    led_if c.push_plain.result c.args.terms.now c.args.facts.now.items c.push_plain.new.terms c.push_plain.new.facts.items _ _
    (λ (done : Node). plain_is types (seen_branch at c.args.branch.now) ts c.args.schema done one four eight fourteen) c.push_plain.ensures.value
