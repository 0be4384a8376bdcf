-- What a test of sorts answers.
use Rattle.std.specs.Prelude.{ℕ, ◌<◌, ◌≤◌, ◌↔◌, List, Bool, false, IsTrue, length, slice_index_or}
use Rattle.wy_term.specs.Sorts.{Sort, int_sort, val_sort, formula_sort}
use Rattle.wy_term.specs.Nodes.{Plain, tree_at}
use Rattle.wy_term_subst.specs.sorted.Sorted.{IsSorted}
use Rattle.wy_prove_writable.specs.declared.sorted.sorts.Sort.{Sort as CodeSort}
use Rattle.wy_prove_writable.specs.declared.sorted.sorts.Sort.TheVariants.{Int, Val, Formula}

-- the sort that the code's one stands for
abbrev pub seen_sort : CodeSort → Sort
seen_sort Int = int_sort
seen_sort Val = val_sort
seen_sort Formula = formula_sort

-- marks of the first terms of a list: exactly those are marked that have parts of the sorts that their places want
pub record MarkSorted (nodes : List Plain) (marks : List Bool) : Type 0 where
  pub within : length marks ≤ length nodes
  pub tells : (k : ℕ) → k < length marks → IsTrue (slice_index_or marks k false) ↔ IsSorted (tree_at nodes k)
