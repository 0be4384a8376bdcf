use Rattle.std.proofs.Common.{◌≡◌, ◌++◌, ◌∷◌, ℕ, Option, false, true, [], length, nat_eq, rules, subst}
use Rattle.std.specs.HashSet.{contains}
use Rattle.std.specs.Prelude.{IsSome}
use Rattle.wy_search_facts.proofs.IndexLemmas.{all_noted, below_front, last_taken, none_left, none_noted}
use Rattle.wy_search_facts.proofs.indices.noted_indices.Goals as goal
use Rattle.wy_check_nodes.specs.Seen.{seen_branch}
use Rattle.wy_cong.specs.wy_search_spec.Expansion.{everything}
use Rattle.wy_term.specs.Nodes.{tree_at}

pub loop-turn-init : goal.loop-turn-init
loop-turn-init c =
    let at = tree_at c.args.terms.now in
    record {
      told = none_noted at (length c.args.terms.now) (contains nat_eq c.new-noted.result) c.in_ok-todo.todo.keys (everything (seen_branch at c.args.branch.now)) c.in_ok-todo.ensures.value;
      below = c.in_ok-todo.ensures.below;
    }

pub loop-turn-preserved : goal.loop-turn-preserved
loop-turn-preserved c =
    let at = tree_at c.args.terms.now in
    let ss = everything (seen_branch at c.args.branch.now) in
    let same : c.loop-turn.todo.keys ≡ c.pop_last.new.self.keys ++ c.in-Some.k ∷ [] = search rules in
    record {
      told = c.in_ok-note_index-in-Some.ensures.told ss (last_taken at (length c.args.terms.now) c.in-Some.k (contains nat_eq c.loop-turn.noted) c.loop-turn.todo.keys c.pop_last.new.self.keys ss same c.loop-turn.invariant.told);
      below = c.in_ok-note_index-in-Some.ensures.todo;
    }

pub note_index-requires-clause-todo : goal.note_index-requires-clause-todo
note_index-requires-clause-todo c =
    let same : c.loop-turn.todo.keys ≡ c.pop_last.new.self.keys ++ c.in-Some.k ∷ [] = search rules in
    below_front (length c.args.terms.now) c.loop-turn.todo.keys c.pop_last.new.self.keys c.in-Some.k same c.loop-turn.invariant.below

pub returns-in-None : goal.returns-in-None
returns-in-None c =
    let at = tree_at c.args.terms.now in
    let none : c.loop-turn.todo.keys ≡ [] = none_left c.loop-turn.todo.keys (λ lt. let so : false ≡ true = subst (λ (o : Option ℕ). IsSome o) c.in-None.is (c.pop_last.ensures.variant.1 lt) in absurd (cc)) in
    all_noted at (length c.args.terms.now) (contains nat_eq c.loop-turn.noted) c.loop-turn.todo.keys (everything (seen_branch at c.args.branch.now)) none c.loop-turn.invariant.told
