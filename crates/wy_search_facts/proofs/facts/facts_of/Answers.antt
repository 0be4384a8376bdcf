use Rattle.std.proofs.Common.{◌≡◌, ◌≤◌, ◌<◌, ◌∙◌, ℕ, List, [], map, length, ap, ap₂, refl, rules, subst, sym, arith}
use Rattle.wy_facts.proofs.SharedLemmas.{types_stay}
use Rattle.wy_facts.proofs.StepLemmas.{stays_on, stays_same}
use Rattle.wy_facts.specs.Seen.{terms_at, AreBelow}
use Rattle.wy_cong.specs.wy_check_spec.judge.Node.{Node, with_formulas}
use Rattle.wy_check_nodes.specs.Seen.{seen_branch, seen_formula}
use Rattle.wy_cong.specs.wy_search_spec.Expansion.{with_facts_by, with_schemas}
use Rattle.wy_cong.specs.wy_search_spec.Standing.{standing}
use Rattle.wy_search_facts.proofs.AddingLemmas.{types_up}
use Rattle.wy_search_facts.proofs.SchemaLemmas.{schema_led, schemas_end}
use Rattle.wy_search_facts.proofs.facts.facts_of.Goals as goal
use Rattle.wy_check_nodes.proofs.SumsBranchLemmas.{branch_stays, node_stays}
use Rattle.wy_term.specs.Condition.{Entry, condition_of}
use Rattle.wy_term.specs.Nodes.{tree_at}
use Rattle.wy_term.specs.Term.{Term}

pub push_schema-requires-clause-branch : goal.push_schema-requires-clause-branch
push_schema-requires-clause-branch c = branch_stays c.args.terms.now c.loop-schema.terms c.args.branch.now c.loop-schema.invariant.stays c.requires.branch

pub push_schema-requires-clause-found : goal.push_schema-requires-clause-found
push_schema-requires-clause-found c = branch_stays c.args.terms.now c.loop-schema.terms c.in_ok-found.found c.loop-schema.invariant.stays c.in_ok-found.ensures.branch

pub push_schema-requires-clause-types : goal.push_schema-requires-clause-types
push_schema-requires-clause-types c = types_up c.args.terms.now c.loop-schema.terms c.args.cond.now c.loop-schema.invariant.stays c.requires.types

pub loop-schema-init : goal.loop-schema-init
loop-schema-init c =
    let old = c.args.terms.now in
    let types = (condition_of old c.args.cond.now).types in
    let node = seen_branch (tree_at old) c.args.branch.now in
    let none : c.new-facts.result.items ≡ [] = search rules in
    record {
      leads = λ start. ap (λ (ks : List ℕ). with_schemas types node (standing node) 1 16 (with_formulas start (terms_at old ks))) none;
      below = subst (AreBelow (length old)) (sym none) (λ k d lt. absurd (omega (arith, lt)));
      stays = stays_same old;
    }

pub loop-schema-preserved : goal.loop-schema-preserved
loop-schema-preserved c =
    let old = c.args.terms.now in
    let now = c.loop-schema.terms in
    let stays = c.loop-schema.invariant.stays in
    let n = c.loop-schema.schema in
    let types = (condition_of old c.args.cond.now).types in
    let node = seen_branch (tree_at old) c.args.branch.now in
    let ts = standing node in
    let lt : n < 17 = search rules in
    let es = types_stay old now c.args.cond.now stays c.requires.types in
    let is = node_stays old now c.args.branch.now stays c.requires.branch in
    let us : map (seen_formula (tree_at now)) c.in_ok-found.found.pending.keys ≡ ts = ap (λ (m : Node). m.pending) (node_stays old now c.in_ok-found.found stays c.in_ok-found.ensures.branch) ∙ c.in_ok-found.ensures.value in
    record {
      leads = λ start.
          let done = with_formulas start (terms_at now c.loop-schema.facts.items) in
          schema_led types node ts n done _ _ lt
          (c.in_ok-push_schema.ensures.value.value start
          ∙ ap (λ (xs : List Entry). with_facts_by xs (seen_branch (tree_at now) c.args.branch.now) (map (seen_formula (tree_at now)) c.in_ok-found.found.pending.keys) n done) es
          ∙ ap₂ (λ (m : Node) (vs : List Term). with_facts_by types m vs n done) is us)
          (c.loop-schema.invariant.leads start);
      below = c.in_ok-push_schema.ensures.value.below;
      stays = stays_on old now c.push_schema.new.terms stays c.in_ok-push_schema.ensures.stays;
    }

pub returns-clause-value : goal.returns-clause-value
returns-clause-value c =
    let types = (condition_of c.args.terms.now c.args.cond.now).types in
    let node = seen_branch (tree_at c.args.terms.now) c.args.branch.now in
    let le : 17 ≤ c.loop-schema.schema = search rules in
    schemas_end types node (standing node) c.loop-schema.schema _ _ le (c.loop-schema.invariant.leads node)
