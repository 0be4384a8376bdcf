-- What the walk has still to do, and what it leads to.
use Rattle.std.specs.Prelude.{ℕ, suc, ◌<◌, length, map, Option, Some, None, List, [], ◌∷◌, ◌++◌, Bool, true, false, if◌then◌else◌}
use Rattle.wy_items.specs.few.Signed.{IsSignedSet}
use Rattle.wy_items.specs.declared.few.signed.SignedSet.{SignedSet}
use Rattle.wy_check_splits.specs.wy_check_nodes.Seen.{AreBare, AreBelow, AreOver, seen_formula, signed}
use Rattle.wy_search_spec.specs.Standing.{standing_in}
use Rattle.wy_cong.specs.Marks.{all_marked, with_unmarked}
use Rattle.wy_cong.specs.declared.task.Task.{Task}
use Rattle.wy_cong.specs.declared.task.Task.TheVariants.{Visit, Bind, Leave}
use Rattle.wy_cong.specs.declared.walk.Walk.{Walk}
use Rattle.wy_term.specs.Nodes.{Plain, tree_at}
use Rattle.wy_term.specs.Term.{Symbol, Term, every, exists}

abbrev pub is_quantifier : Symbol → Bool
is_quantifier (every word n) = true
is_quantifier (exists word n) = true
is_quantifier symbol = false

-- ---- tasks

abbrev pub visits : List ℕ → List Task
visits [] = []
visits (k ∷ ks) = Visit k true ∷ visits ks

-- the two bounds of a quantifier, and its body under it
abbrev pub tasks_of : ℕ → List ℕ → List Task
tasks_of q (a ∷ b ∷ c ∷ ks) = Visit a true ∷ Visit b true ∷ Bind q ∷ Visit c true ∷ Leave ∷ []
tasks_of q (a ∷ b ∷ []) = []
tasks_of q (a ∷ []) = []
tasks_of q [] = []

-- what stands in the term with this number is next, by its node
abbrev pub next_tasks : ℕ → Plain → List Task
next_tasks k p = if is_quantifier p.symbol then tasks_of k p.parts else visits p.parts

-- the part that is gone into at once, if there is one, and then these
abbrev pub with_next : Option ℕ → List Task → List Task
with_next None ts = ts
with_next (Some k) ts = Visit k true ∷ ts

abbrev pub of_literals : List (ℕ × Bool) → List Task
of_literals [] = []
of_literals (p ∷ ps) = Visit p.0 true ∷ of_literals ps

abbrev pub of_pending : List (ℕ × Bool) → List Task
of_pending [] = []
of_pending (p ∷ ps) = Visit p.0 p.1 ∷ of_pending ps

abbrev pub AreTasks : ℕ → List Task → Type 0
AreTasks n [] = Unit {0}
AreTasks n (Visit k holds ∷ ts) = (k < n) × AreTasks n ts
AreTasks n (Bind q ∷ ts) = (q < n) × AreTasks n ts
AreTasks n (Leave ∷ ts) = AreTasks n ts

-- all but the last
abbrev pub but_last : List Term → List Term
but_last [] = []
but_last (t ∷ []) = []
but_last (t ∷ u ∷ us) = t ∷ but_last (u ∷ us)

-- ---- what is still to come, where the quantifiers around are these

abbrev pub left_at : (ℕ → Term) → List Task → List Term → List (Term × Bool)
left_at at [] around = []
left_at at (Visit k holds ∷ ts) around = all_marked around (standing_in (signed (at k) holds)) ++ left_at at ts around
left_at at (Bind q ∷ ts) around = left_at at ts (around ++ at q ∷ [])
left_at at (Leave ∷ ts) around = left_at at ts (but_last around)

-- what is listed
abbrev pub list_of : (ℕ → Term) → Walk → List Term
list_of at walk = map (seen_formula at) walk.found.keys.items

-- what will be listed in the end, and what that was before a task was taken
abbrev pub leads : (ℕ → Term) → Walk → List Term
leads at walk = with_unmarked (list_of at walk) (left_at at walk.tasks.items (map at walk.around.items))

abbrev pub leads_from : (ℕ → Term) → Walk → Task → List Term
leads_from at walk task = with_unmarked (list_of at walk) (left_at at (task ∷ walk.tasks.items) (map at walk.around.items))

-- what will be listed in the end, where this part is gone into at once
abbrev pub leads_with : (ℕ → Term) → Walk → Option ℕ → List Term
leads_with at walk next = with_unmarked (list_of at walk) (left_at at (with_next next walk.tasks.items) (map at walk.around.items))

-- how far down a part that is gone into at once can lead
abbrev pub depth_of : Option ℕ → ℕ
depth_of None = 0
depth_of (Some k) = suc k

-- the numbers in a list are those of terms, and none of them is given as a denial
pub record AreListed (nodes : List Plain) (s : SignedSet) : Type 0 where
  pub over : AreOver (length nodes) s.keys.items
  pub bare : AreBare (tree_at nodes) s.keys.items
  pub set : IsSignedSet s

-- the numbers in it are those of terms
pub record IsWalk (nodes : List Plain) (walk : Walk) : Type 0 where
  pub found : AreListed nodes walk.found
  pub around : AreBelow (length nodes) walk.around.items
  pub tasks : AreTasks (length nodes) walk.tasks.items
