use Rattle.std.proofs.Common.{◌≡◌, ◌≤◌, ◌∙◌, ◌++◌, List, true, false, nat_eq, length, map, sym, ap, subst, arith, rules, vec_len}
use Rattle.std.specs.HashSet.{contains}
use Rattle.wy_check_splits.proofs.wy_check_nodes_proofs.JudgingLemmas.{below_up}
use Rattle.wy_check_splits.specs.wy_check_nodes.Seen.{AreBelow}
use Rattle.wy_cong.proofs.BegunLemmas.{LeadsTo, begun_still, begun_with, next_below, none_around, passed_on, visit_on}
use Rattle.wy_cong.proofs.TaskLemmas.{three_parts}
use Rattle.wy_cong.proofs.walk.visit_again.Goals as goal
use Rattle.wy_cong.specs.Begun.{BeginsOne}
use Rattle.wy_cong.specs.Marks.{is_any_bound, listed_unless, with_unmarked}
use Rattle.wy_cong.specs.Walk.{left_at, list_of, next_tasks}
use Rattle.wy_cong.specs.declared.task.Task.{Task}
use Rattle.wy_cong.specs.declared.task.Task.TheVariants.{Visit}
use Rattle.wy_lemmas.proofs.Options.{on_ok}
use Rattle.wy_term.specs.Nodes.{plain, tree_at}
use Rattle.wy_term.specs.Scope.{free_names}
use Rattle.wy_term.specs.Term.{Term}

-- ---- a term that was begun before

pub returns-then-not-more-clause-value : goal.returns-then-not-more-clause-value
returns-then-not-more-clause-value c =
    let at = tree_at c.args.terms.now in
    let ts = c.args.walk.now.tasks.items in
    let un : c.in_ok-more.more ≡ false = search rules in
    (passed_on at c.args.k (list_of at c.args.walk.now) (map at c.args.walk.now.around.items) ts (c.requires.begun.each c.args.k (c.in_ok-more.ensures.known un))).same ts

pub returns-then-not-more-clause-begun : goal.returns-then-not-more-clause-begun
returns-then-not-more-clause-begun c =
    let at = tree_at c.args.terms.now in
    let un : c.in_ok-more.more ≡ false = search rules in
    let met : c.args.walk.now.quantified ≡ true = c.requires.quantified in
    record {
      listed = λ none. absurd (cc);
      outside = λ none. absurd (cc);
      each =
          begun_still at c.args.k (list_of at c.args.walk.now) (map at c.args.walk.now.around.items) c.args.walk.now.tasks.items (contains nat_eq c.args.walk.now.begun) (contains nat_eq c.begin.new.begun) c.is_empty-outside.result
          (c.in_ok-more.ensures.known un) c.in_ok-more.ensures.begun c.requires.begun.each;
    }

-- ---- another

pub returns-clause-value : goal.returns-clause-value
returns-clause-value c =
    let at = tree_at c.args.terms.now in
    let p = plain c.node-node.result.now in
    let around = map at c.args.walk.now.around.items in
    let old = list_of at c.args.walk.now in
    let new = list_of at c.list.new.walk in
    let tasks_are : c.list.new.walk.tasks.items ≡ c.args.walk.now.tasks.items = search rules in
    let around_is : c.list.new.walk.around.items ≡ c.args.walk.now.around.items = search rules in
    let listed : new ≡ listed_unless (is_any_bound around (free_names (at c.args.k))) old (at c.args.k) =
    c.in_ok-list.ensures.value ∙ ap (λ (u : Term). listed_unless (is_any_bound around (free_names u)) old u) c.bare_form-f.ensures.value in
    let leads : LeadsTo at old new around (map at c.list.new.walk.around.items) (Visit c.args.k true) (next_tasks c.args.k p) =
    visit_on at c.args.k p old new c.args.walk.now.around.items c.list.new.walk.around.items c.node-node.ensures.tree (three_parts c.node-node.result.now) listed around_is in
    on_ok c.put_parts.result _ _ (λ put.
    ap (λ (ts : List Task). with_unmarked new (left_at at ts (map at c.list.new.walk.around.items))) (put ∙ ap (λ (ts : List Task). next_tasks c.args.k p ++ ts) tasks_are)
    ∙ leads.same c.args.walk.now.tasks.items) c.put_parts.ensures

pub returns-clause-walk : goal.returns-clause-walk
returns-clause-walk c =
    let n = length c.args.terms.now in
    let p = plain c.node-node.result.now in
    let le : c.args.k ≤ n = omega (arith, c.requires.term) in
    let low : AreBelow n p.parts = below_up c.args.k n p.parts le c.node-node.ensures.within in
    on_ok c.put_parts.result _ _ (λ put. record {
      found = c.in_ok-list.ensures.walk.found;
      around = c.in_ok-list.ensures.walk.around;
      tasks = next_below n c.args.k p c.list.new.walk.tasks.items c.put_parts.new.tasks.items c.requires.term low (three_parts c.node-node.result.now) c.in_ok-list.ensures.walk.tasks put;
    }) c.put_parts.ensures

pub returns-clause-begun : goal.returns-clause-begun
returns-clause-begun c =
    let at = tree_at c.args.terms.now in
    let p = plain c.node-node.result.now in
    let around = map at c.args.walk.now.around.items in
    let now = map at c.list.new.walk.around.items in
    let old = list_of at c.args.walk.now in
    let new = list_of at c.list.new.walk in
    let outside = c.is_empty-outside.result in
    let tasks_are : c.list.new.walk.tasks.items ≡ c.args.walk.now.tasks.items = search rules in
    let around_is : c.list.new.walk.around.items ≡ c.args.walk.now.around.items = search rules in
    let begun_is : c.list.new.walk.begun ≡ c.begin.new.begun = search rules in
    let counts : vec_len c.args.walk.now.around ≡ length c.args.walk.now.around.items = search rules in
    let listed : new ≡ listed_unless (is_any_bound around (free_names (at c.args.k))) old (at c.args.k) =
    c.in_ok-list.ensures.value ∙ ap (λ (u : Term). listed_unless (is_any_bound around (free_names u)) old u) c.bare_form-f.ensures.value in
    let leads : LeadsTo at old new around now (Visit c.args.k true) (next_tasks c.args.k p) =
    visit_on at c.args.k p old new c.args.walk.now.around.items c.list.new.walk.around.items c.node-node.ensures.tree (three_parts c.node-node.result.now) listed around_is in
    let one : BeginsOne (contains nat_eq c.args.walk.now.begun) (contains nat_eq c.list.new.walk.begun) outside c.args.k =
    subst (λ b. BeginsOne (contains nat_eq c.args.walk.now.begun) (contains nat_eq b) outside c.args.k) (sym begun_is) c.in_ok-more.ensures.begun in
    let met : c.list.new.walk.quantified ≡ true = search rules in
    on_ok c.put_parts.result _ _ (λ put. record {
      listed = λ none. absurd (cc);
      outside = λ none. absurd (cc);
      each =
          begun_with at c.args.k p old new around now c.args.walk.now.tasks.items c.put_parts.new.tasks.items (contains nat_eq c.args.walk.now.begun) (contains nat_eq c.list.new.walk.begun) outside c.node-node.ensures.tree
          (three_parts c.node-node.result.now) leads (put ∙ ap (λ (ts : List Task). next_tasks c.args.k p ++ ts) tasks_are)
          (λ e. ap (map at) (none_around c.args.walk.now.around.items (vec_len c.args.walk.now.around) counts (sym c.is_empty-outside.ensures ∙ e))) one c.requires.begun.each;
    }) c.put_parts.ensures
