use Rattle.std.proofs.Common.{◌≡◌, ◌∙◌, ◌∷◌, [], ℕ, List, true, false, nat_eq, map, refl, sym, ap, rules}
use Rattle.std.specs.HashSet.{contains}
use Rattle.wy_cong.proofs.BegunLemmas.{begun_on, denial_on, listed_on}
use Rattle.wy_cong.proofs.GoneLemmas.{denial_apart}
use Rattle.wy_cong.proofs.TaskLemmas.{denial_led}
use Rattle.wy_cong.proofs.walk.visit_denied.Goals as goal
use Rattle.wy_check_splits.specs.wy_check_nodes.Seen.{signed}
use Rattle.wy_term.specs.Scope.{free_names}
use Rattle.wy_cong.specs.Marks.{is_any_bound, with_unmarked}
use Rattle.wy_cong.specs.Walk.{left_at, list_of}
use Rattle.wy_cong.specs.declared.task.Task.TheVariants.{Visit}
use Rattle.wy_term.specs.Nodes.{tree_at}

pub returns-clause-value : goal.returns-clause-value
returns-clause-value c =
    let at = tree_at c.args.terms.now in
    let around = map at c.args.walk.now.around.items in
    let put : c.push_front.new.self.items ≡ Visit c.args.k true ∷ c.args.walk.now.tasks.items = search rules in
    let around_is : c.list.new.walk.around.items ≡ c.args.walk.now.around.items = search rules in
    ap (λ (a : List ℕ). with_unmarked (list_of at c.list.new.walk) (left_at at c.push_front.new.self.items (map at a))) around_is
    ∙ denial_led at c.args.k (list_of at c.args.walk.now) (list_of at c.list.new.walk) c.args.walk.now.tasks.items c.push_front.new.self.items around c.in_ok-list.ensures.value put

pub returns-clause-begun : goal.returns-clause-begun
returns-clause-begun c =
    let at = tree_at c.args.terms.now in
    let old = list_of at c.args.walk.now in
    let new = list_of at c.list.new.walk in
    let put : c.push_front.new.self.items ≡ Visit c.args.k true ∷ c.args.walk.now.tasks.items = search rules in
    let around_is : c.list.new.walk.around.items ≡ c.args.walk.now.around.items = search rules in
    let quantified_is : c.list.new.walk.quantified ≡ c.args.walk.now.quantified = search rules in
    let begun_is : c.list.new.walk.begun ≡ c.args.walk.now.begun = search rules in
    record {
      each =
          begun_on at old new (map at c.args.walk.now.around.items) (map at c.list.new.walk.around.items) (Visit c.args.k false) (Visit c.args.k true ∷ []) c.args.walk.now.tasks.items c.push_front.new.self.items
          (contains nat_eq c.args.walk.now.begun) (contains nat_eq c.list.new.walk.begun) (denial_on at c.args.k old new c.args.walk.now.around.items c.list.new.walk.around.items c.in_ok-list.ensures.value around_is) put
          (λ j e. ap (λ b. contains nat_eq b j) (sym begun_is) ∙ e) c.requires.begun.each;
      listed =
          λ un. listed_on at old new (map at c.args.walk.now.around.items) (map at c.list.new.walk.around.items) (Visit c.args.k false) (Visit c.args.k true ∷ []) c.args.walk.now.tasks.items c.push_front.new.self.items
          (denial_on at c.args.k old new c.args.walk.now.around.items c.list.new.walk.around.items c.in_ok-list.ensures.value around_is) put
          (λ t flat e. denial_apart (is_any_bound (map at c.args.walk.now.around.items) (free_names (signed (at c.args.k) false))) old new (signed (at c.args.k) false) t c.in_ok-list.ensures.value refl flat e) (c.requires.begun.listed (sym quantified_is ∙ un));
      outside = λ un. around_is ∙ c.requires.begun.outside (sym quantified_is ∙ un);
    }
