-- Which terms are of a sort, with parts of the sorts that their places want.
use Rattle.std.specs.Prelude.{◌≡◌}
use Rattle.wy_term.specs.Term.{Term}
use Rattle.wy_term.specs.Sorts.{Sort, sort_in}
use Rattle.wy_term_subst.specs.sorted.Sorted.{IsSorted}

abbrev pub HasSort : Term → Sort → Type 0
HasSort t sort = IsSorted t × (sort_in t ≡ sort)
