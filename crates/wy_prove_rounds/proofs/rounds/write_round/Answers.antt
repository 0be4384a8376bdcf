use Rattle.std.proofs.Common.{◌≡◌, ◌∙◌, ◌+◌, ℕ, suc, List, length, map, sym, ap, subst, arith}
use Rattle.wy_prove_drafts.specs.Draft.{seen_draft}
use Rattle.wy_prove_drafts.proofs.ProgressLemmas.{goes_on}
use Rattle.wy_facts.proofs.SharedLemmas.{types_stay}
use Rattle.wy_facts.proofs.StepLemmas.{stays_on, terms_kept, below_kept}
use Rattle.wy_facts.specs.Seen.{AreBelow}
use Rattle.wy_prove_drafts.specs.wy_check_spec.judge.Node.{Node}
use Rattle.wy_prove_drafts.specs.wy_check_nodes.Seen.{seen_branch}
use Rattle.wy_prove_drafts.proofs.wy_check_nodes_proofs.SumsBranchLemmas.{branch_stays, node_stays}
use Rattle.wy_prove_drafts.specs.wy_search_spec.Expansion.{Spot, expanded, with_instances, with_facts, with_products}
use Rattle.wy_search.specs.Turns.{begun, index_terms_in}
use Rattle.wy_search.proofs.RoundLemmas.{round_made}
use Rattle.wy_search.proofs.wy_search_facts_proofs.AddingLemmas.{types_up}
use Rattle.wy_search.specs.wy_search_facts.Seen.{seen_spot}
use Rattle.wy_term.specs.Condition.{Entry, condition_of}
use Rattle.wy_term.specs.Nodes.{tree_at}
use Rattle.wy_prove_rounds.specs.Moving.{Reaches}
use Rattle.wy_prove_rounds.specs.Rounds.{IsBeside}
use Rattle.wy_prove_rounds.proofs.RoundLemmas.{beside_at}
use Rattle.wy_prove_rounds.proofs.rounds.write_round.Goals as goal

pub grow-requires-clause-types : goal.grow-requires-clause-types
grow-requires-clause-types c = types_up c.args.terms.now c.add_witnesses.new.terms c.args.cond.now c.in_ok-found.ensures.stays c.requires.types

pub grow-requires-clause-names : goal.grow-requires-clause-names
grow-requires-clause-names c = subst (AreBelow (length c.add_witnesses.new.terms)) (sym c.deref.ensures.value) c.in_ok-found.ensures.spot.names

pub returns-clause-seen : goal.returns-clause-seen
returns-clause-seen c =
    let old = c.args.terms.now in
    let first = c.add_witnesses.new.terms in
    let new = c.grow.new.terms in
    let found = c.in_ok-found.found in
    let es = (condition_of old c.args.cond.now).types in
    let fs = (condition_of first c.args.cond.now).types in
    let node = seen_branch (tree_at first) found.branch in
    let next : c.args.spot.rounds + 1 ≡ suc c.args.spot.rounds = omega arith in
    round_made es fs (seen_spot (tree_at old) c.args.spot) (seen_spot (tree_at first) found) (seen_branch (tree_at new) c.grow.new.branch) (seen_branch (tree_at new) found.had).literals (map (tree_at new) found.names.items) (c.args.spot.rounds + 1)
    c.in_ok-found.ensures.seen
    (types_stay old first c.args.cond.now c.in_ok-found.ensures.stays c.requires.types)
    (c.in_ok-grow.ensures.seen ∙ ap (λ (ks : List ℕ). with_products (with_facts fs (with_instances node node.literals (index_terms_in node (map (tree_at first) ks))))) c.deref.ensures.value)
    (ap (λ (n : Node). n.literals) (node_stays first new found.had c.in_ok-grow.ensures.stays c.in_ok-found.ensures.spot.had))
    (terms_kept first new found.names.items c.in_ok-grow.ensures.stays c.in_ok-found.ensures.spot.names)
    next

pub returns-clause-value : goal.returns-clause-value
returns-clause-value c = λ beside.
    let old = c.args.terms.now in
    let first = c.add_witnesses.new.terms in
    let new = c.grow.new.terms in
    let found = c.in_ok-found.found in
    let es = (condition_of old c.args.cond.now).types in
    let fs = (condition_of first c.args.cond.now).types in
    let same = types_stay old first c.args.cond.now c.in_ok-found.ensures.stays c.requires.types in
    let p = seen_spot (tree_at old) c.args.spot in
    let one = seen_branch (tree_at first) found.branch in
    let two = seen_branch (tree_at new) c.grow.new.branch in
    let d1 = seen_draft (tree_at old) c.args.draft.now in
    let d2 = seen_draft (tree_at first) c.add_witnesses.new.draft in
    let d3 = seen_draft (tree_at new) c.grow.new.draft in
    let r1 = c.in_ok-found.ensures.value es beside in
    let start : IsBeside es (begun one) d2 = beside_at es _ (begun one) d2 (sym (ap (λ (q : Spot). q.node) c.in_ok-found.ensures.seen)) r1.beside in
    let r2 : Reaches es (begun two) d2 d3 = subst (λ (ts : List Entry). Reaches ts (begun two) d2 d3) same (c.in_ok-grow.ensures.value (subst (λ (ts : List Entry). IsBeside ts (begun one) d2) (sym same) start)) in
    record {
      goes = goes_on es d1 d2 d3 r1.goes r2.goes;
      beside = beside_at es (begun two) (expanded es p) d3 (ap (λ (q : Spot). q.node) (returns-clause-seen c)) r2.beside;
    }

pub returns-clause-spot : goal.returns-clause-spot
returns-clause-spot c =
    let first = c.add_witnesses.new.terms in
    let new = c.grow.new.terms in
    let found = c.in_ok-found.found in
    record {
      branch = c.in_ok-grow.ensures.branch;
      had = branch_stays first new found.had c.in_ok-grow.ensures.stays c.in_ok-found.ensures.spot.had;
      names = below_kept first new found.names.items c.in_ok-grow.ensures.stays c.in_ok-found.ensures.spot.names;
    }

pub returns-clause-stays : goal.returns-clause-stays
returns-clause-stays c = stays_on c.args.terms.now c.add_witnesses.new.terms c.grow.new.terms c.in_ok-found.ensures.stays c.in_ok-grow.ensures.stays
