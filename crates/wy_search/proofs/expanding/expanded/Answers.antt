use Rattle.std.proofs.Common.{◌≡◌, ◌∙◌, ◌+◌, ℕ, suc, List, length, map, sym, ap, subst, arith}
use Rattle.wy_search_bounds.proofs.KnownLemmas.{known_stays}
use Rattle.wy_facts.proofs.SharedLemmas.{types_stay}
use Rattle.wy_search_facts.proofs.AddingLemmas.{types_up}
use Rattle.wy_term.specs.Nodes.{tree_at}
use Rattle.wy_term.specs.Condition.{condition_of}
use Rattle.wy_facts.specs.Seen.{AreBelow}
use Rattle.wy_facts.proofs.StepLemmas.{stays_on, terms_kept, below_kept}
use Rattle.wy_search_facts.specs.wy_check_spec.judge.Node.{Node}
use Rattle.wy_check_nodes.specs.Seen.{seen_branch}
use Rattle.wy_check_nodes.proofs.SumsBranchLemmas.{branch_stays, node_stays}
use Rattle.wy_search_facts.specs.wy_search_spec.Expansion.{with_instances, with_facts, with_products}
use Rattle.wy_search_facts.specs.Seen.{seen_spot}
use Rattle.wy_search.specs.Turns.{index_terms_in}
use Rattle.wy_search.proofs.RoundLemmas.{round_made}
use Rattle.wy_search.proofs.expanding.expanded.Goals as goal

pub grow-requires-clause-types : goal.grow-requires-clause-types
grow-requires-clause-types c = types_up c.args.terms.now c.with_witnesses.new.terms c.args.cond.now c.in_ok-found.ensures.stays c.requires.types

pub grow-requires-clause-known : goal.grow-requires-clause-known
grow-requires-clause-known c = known_stays c.args.terms.now c.with_witnesses.new.terms c.args.known.now c.in_ok-found.ensures.stays c.requires.known

pub grow-requires-clause-names : goal.grow-requires-clause-names
grow-requires-clause-names c = subst (AreBelow (length c.with_witnesses.new.terms)) (sym c.deref.ensures.value) c.in_ok-found.ensures.spot.names

pub returns-clause-value : goal.returns-clause-value
returns-clause-value c =
    let old = c.args.terms.now in
    let first = c.with_witnesses.new.terms in
    let new = c.grow.new.terms in
    let found = c.in_ok-found.found in
    let es = (condition_of old c.args.cond.now).types in
    let fs = (condition_of first c.args.cond.now).types in
    let node = seen_branch (tree_at first) found.branch in
    let next : c.args.spot.rounds + 1 ≡ suc c.args.spot.rounds = omega arith in
    round_made es fs (seen_spot (tree_at old) c.args.spot) (seen_spot (tree_at first) found) (seen_branch (tree_at new) c.grow.new.branch) (seen_branch (tree_at new) found.had).literals (map (tree_at new) found.names.items) (c.args.spot.rounds + 1)
    c.in_ok-found.ensures.value
    (types_stay old first c.args.cond.now c.in_ok-found.ensures.stays c.requires.types)
    (c.in_ok-grow.ensures.value ∙ ap (λ (ks : List ℕ). with_products (with_facts fs (with_instances node node.literals (index_terms_in node (map (tree_at first) ks))))) c.deref.ensures.value)
    (ap (λ (n : Node). n.literals) (node_stays first new found.had c.in_ok-grow.ensures.stays c.in_ok-found.ensures.spot.had))
    (terms_kept first new found.names.items c.in_ok-grow.ensures.stays c.in_ok-found.ensures.spot.names)
    next

pub returns-clause-spot : goal.returns-clause-spot
returns-clause-spot c =
    let first = c.with_witnesses.new.terms in
    let new = c.grow.new.terms in
    let found = c.in_ok-found.found in
    record {
      branch = c.in_ok-grow.ensures.branch;
      had = branch_stays first new found.had c.in_ok-grow.ensures.stays c.in_ok-found.ensures.spot.had;
      names = below_kept first new found.names.items c.in_ok-grow.ensures.stays c.in_ok-found.ensures.spot.names;
    }

pub returns-clause-stays : goal.returns-clause-stays
returns-clause-stays c = stays_on c.args.terms.now c.with_witnesses.new.terms c.grow.new.terms c.in_ok-found.ensures.stays c.in_ok-grow.ensures.stays
