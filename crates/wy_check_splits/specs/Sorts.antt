-- What the code's sorts stand for.
use Rattle.wy_check_nodes.specs.wy_term.Sorts as sorts
use Rattle.wy_check_splits.specs.declared.sorts.Sort.{Sort}
use Rattle.wy_check_splits.specs.declared.sorts.Sort.TheVariants.{Int, Val, Formula}

abbrev pub seen_sort : Sort → sorts.Sort
seen_sort Int = sorts.int_sort
seen_sort Val = sorts.val_sort
seen_sort Formula = sorts.formula_sort
