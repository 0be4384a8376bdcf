use Rattle.std.proofs.Common.{◌≡◌, ◌≤◌, ◌<◌, ◌∙◌, ◌++◌, ◌∷◌, [], ℕ, List, length, map, ap, refl, rules, subst, sym, arith}
use Rattle.wy_facts.specs.Seen.{AreBelow}
use Rattle.wy_search_facts.proofs.IndexLemmas.{index_end, index_step}
use Rattle.wy_search_facts.proofs.indices.index_terms.Goals as goal
use Rattle.wy_check_nodes.specs.Seen.{seen_branch, seen_formula}
use Rattle.wy_cong.specs.wy_search_spec.Expansion.{among, everything, indices_in, only_int}
use Rattle.wy_cong.specs.wy_search_spec.Standing.{standing, with_unbound}
use Rattle.wy_check_splits.proofs.WalkLemmas.{member_below}
use Rattle.wy_term.specs.Nodes.{tree_at}
use Rattle.wy_term.specs.Term.{Term}

pub push_chosen-requires-clause-term : goal.push_chosen-requires-clause-term
push_chosen-requires-clause-term c = member_below (length c.args.terms.now) c.in_ok-found.found.pending.keys c.loop-i.i c.pending_at-t.result c.pending_at-t.ensures c.in_ok-found.ensures.branch.pending

pub loop-i-init : goal.loop-i-init
loop-i-init c =
    let at = tree_at c.args.terms.now in
    let node = seen_branch at c.args.branch.now in
    let us = with_unbound [] (indices_in (everything node)) ++ map at c.args.names.now in
    let none : c.new-made.result.items ≡ [] = search rules in
    record {
      so_far =
          ap (λ (ks : List ℕ). map at ks ++ only_int (among (seen_branch at c.in_ok-found.found).pending us)) none
          ∙ ap (λ (ts : List Term). only_int (among ts us)) c.in_ok-found.ensures.value;
      below = subst (AreBelow (length c.args.terms.now)) (sym none) (λ k d lt. absurd (omega (arith, lt)));
    }

pub loop-i-preserved : goal.loop-i-preserved
loop-i-preserved c =
    let at = tree_at c.args.terms.now in
    let node = seen_branch at c.args.branch.now in
    let us = with_unbound [] (indices_in (everything node)) ++ map at c.args.names.now in
    record {
      so_far = index_step at us c.in_ok-found.found.pending.keys c.loop-i.i c.pending_at-t.result (map at c.loop-i.made.items) _ _ c.pending_at-t.ensures c.in_ok-push_chosen.ensures.value c.loop-i.invariant.so_far;
      below = c.in_ok-push_chosen.ensures.below;
    }

pub returns-clause-value : goal.returns-clause-value
returns-clause-value c =
    let at = tree_at c.args.terms.now in
    let node = seen_branch at c.args.branch.now in
    let us = with_unbound [] (indices_in (everything node)) ++ map at c.args.names.now in
    let le : length c.in_ok-found.found.pending.keys ≤ c.loop-i.i = search rules in
    index_end at us c.in_ok-found.found.pending.keys c.loop-i.i _ _ le c.loop-i.invariant.so_far
