use Rattle.std.proofs.Common.{◌≡◌, ◌≢◌, ℕ, map, ap, rules, sym}
use Rattle.wy_prove_drafts.specs.wy_check_spec.judge.Node.{Node}
use Rattle.wy_prove_drafts.specs.wy_check_nodes.Seen.{seen_branch, seen_formula}
use Rattle.wy_prove_drafts.specs.wy_search_spec.Expansion.{with_facts_by}
use Rattle.wy_search.proofs.wy_search_facts_proofs.SchemaLemmas.{plain_is}
use Rattle.wy_term.specs.Condition.{condition_of}
use Rattle.wy_term.specs.Nodes.{tree_at}
use Rattle.wy_prove_rounds.proofs.MovingLemmas.{if_moves}
use Rattle.wy_prove_rounds.proofs.facts.write_schema.Goals as goal

pub returns-then-schema-eq1-clause-value : goal.returns-then-schema-eq1-clause-value
returns-then-schema-eq1-clause-value c = λ are.
    let at = tree_at c.args.terms.now in
    let types = (condition_of c.args.terms.now c.args.cond.now).types in
    let node = seen_branch at c.args.branch.now in
    let ts = map (seen_formula at) c.args.found.now.pending.keys in
    let is : c.args.schema ≡ 1 = search rules in
    if_moves c.write_lengths.result types node _ _ _ _ (λ (done : Node). ap (λ (n : ℕ). with_facts_by types node ts n done) (sym is)) (c.write_lengths.ensures.value node are)

pub returns-then-schema-eq4-clause-value : goal.returns-then-schema-eq4-clause-value
returns-then-schema-eq4-clause-value c = λ are.
    let at = tree_at c.args.terms.now in
    let types = (condition_of c.args.terms.now c.args.cond.now).types in
    let node = seen_branch at c.args.branch.now in
    let ts = map (seen_formula at) c.args.found.now.pending.keys in
    let is : c.args.schema ≡ 4 = search rules in
    if_moves c.write_elements.result types node _ _ _ _ (λ (done : Node). ap (λ (n : ℕ). with_facts_by types node ts n done) (sym is)) (c.write_elements.ensures.value node are)

pub returns-then-schema-eq8-clause-value : goal.returns-then-schema-eq8-clause-value
returns-then-schema-eq8-clause-value c = λ are.
    let at = tree_at c.args.terms.now in
    let types = (condition_of c.args.terms.now c.args.cond.now).types in
    let node = seen_branch at c.args.branch.now in
    let ts = map (seen_formula at) c.args.found.now.pending.keys in
    let is : c.args.schema ≡ 8 = search rules in
    if_moves c.write_pairs.result types node _ _ _ _ (λ (done : Node). ap (λ (n : ℕ). with_facts_by types node ts n done) (sym is)) (c.write_pairs.ensures.value node are)

pub returns-then-schema-eq14-clause-value : goal.returns-then-schema-eq14-clause-value
returns-then-schema-eq14-clause-value c = λ are.
    let at = tree_at c.args.terms.now in
    let types = (condition_of c.args.terms.now c.args.cond.now).types in
    let node = seen_branch at c.args.branch.now in
    let ts = map (seen_formula at) c.args.found.now.pending.keys in
    let is : c.args.schema ≡ 14 = search rules in
    if_moves c.write_kind_facts.result types node _ _ _ _ (λ (done : Node). ap (λ (n : ℕ). with_facts_by types node ts n done) (sym is)) (c.write_kind_facts.ensures.value are)

pub returns-clause-value : goal.returns-clause-value
returns-clause-value c = λ are.
    let at = tree_at c.args.terms.now in
    let types = (condition_of c.args.terms.now c.args.cond.now).types in
    let node = seen_branch at c.args.branch.now in
    let ts = map (seen_formula at) c.args.found.now.pending.keys in
    let one : c.args.schema ≢ 1 = search rules in
    let four : c.args.schema ≢ 4 = search rules in
    let eight : c.args.schema ≢ 8 = search rules in
    let fourteen : c.args.schema ≢ 14 = search rules in
    if_moves c.write_plain.result types node _ _ _ _ (λ (done : Node). plain_is types node ts c.args.schema done one four eight fourteen) (c.write_plain.ensures.value node are)
