use Rattle.std.proofs.Common.{◌≡◌, ◌∙◌, ◌∷◌, ℕ, List, Bool, [], true, false, nat_eq, length, map, sym, ap, subst, arith, rules}
use Rattle.std.specs.HashSet.{contains}
use Rattle.wy_search_spec.specs.wy_check_spec.judge.Node.{has_formula}
use Rattle.wy_check_splits.specs.wy_check_nodes.Seen.{AreBare, AreBelow, AreOver, seen_formula}
use Rattle.wy_cong.proofs.StandingLemmas.{all_led, first_below}
use Rattle.wy_cong.proofs.walk.listed.Goals as goal
use Rattle.wy_cong.specs.Marks.{with_unmarked}
use Rattle.wy_cong.specs.Begun.{IsUnderWay}
use Rattle.wy_cong.specs.Walk.{left_at, list_of}
use Rattle.wy_cong.specs.declared.task.Task.{Task}
use Rattle.wy_term.specs.Nodes.{tree_at}

pub loop-turn-init : goal.loop-turn-init
loop-turn-init c =
    let at = tree_at c.args.terms.now in
    let n = length c.args.terms.now in
    let nothing : AreBelow n [] = λ k d lt. absurd (omega (arith, lt)) in
    record {
      leads =
          ap (λ (ps : List (ℕ × Bool)). with_unmarked (map (seen_formula at) ps) (left_at at c.in_ok-first_tasks.field-0.items (map at c.new.result.items))) c.in_ok-no_signed.ensures.keys
          ∙ ap (λ (a : List ℕ). with_unmarked [] (left_at at c.in_ok-first_tasks.field-0.items (map at a))) c.new.ensures.items
          ∙ all_led at c.args.branch.now.literals.keys c.args.branch.now.pending.keys c.in_ok-first_tasks.field-0.items c.in_ok-first_tasks.ensures.value;
      walk = record {
        found = record {
          over = subst (AreOver n) (sym c.in_ok-no_signed.ensures.keys) tt;
          bare = subst (AreBare at) (sym c.in_ok-no_signed.ensures.keys) tt;
          set = c.in_ok-no_signed.ensures.set;
        };
        around = subst (AreBelow n) (sym c.new.ensures.items) nothing;
        tasks = first_below n c.args.branch.now.literals.keys c.args.branch.now.pending.keys c.in_ok-first_tasks.field-0.items c.requires.literals c.requires.pending c.in_ok-first_tasks.ensures.value;
      };
      begun = record {
        each = λ k e. let none : contains nat_eq c.in_ok-with_capacity.field-0 k ≡ false = search rules in absurd (cc);
        listed = λ un t flat e. let nothing_yet : false ≡ true = sym (ap (λ (ps : List (ℕ × Bool)). has_formula (map (seen_formula at) ps) t) c.in_ok-no_signed.ensures.keys) ∙ e in absurd (cc);
        outside = λ un. c.new.ensures.items;
      };
    }

pub step-requires-clause-begun : goal.step-requires-clause-begun
step-requires-clause-begun c =
    let at = tree_at c.args.terms.now in
    let are : c.loop-turn.walk.tasks.items ≡ c.in-Some.task ∷ c.pop_front.new.self.items = search rules in
    record {
      each = λ k e. subst (λ (ts : List Task). IsUnderWay at (list_of at c.loop-turn.walk) ts (map at c.loop-turn.walk.around.items) (at k)) are (c.loop-turn.invariant.begun.each k e);
      listed = λ un t flat e. subst (λ (ts : List Task). IsUnderWay at (list_of at c.loop-turn.walk) ts (map at c.loop-turn.walk.around.items) t) are (c.loop-turn.invariant.begun.listed un t flat e);
      outside = c.loop-turn.invariant.begun.outside;
    }
