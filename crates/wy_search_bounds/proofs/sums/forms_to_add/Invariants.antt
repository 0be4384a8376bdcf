use Rattle.std.proofs.Common.{◌≡◌, map, take}
use Rattle.wy_lin.specs.Seen.{linear_form}
use Rattle.wy_search_bounds.specs.Seen.{seen_takings, forms_to_add}
use Rattle.wy_search_bounds.proofs.sums.forms_to_add.Given as goal

abbrev pub invariant-loop-taking : goal.invariant-loop-taking
invariant-loop-taking l = map linear_form l.forms.items ≡ forms_to_add (linear_form l.form) (seen_takings (take l.taking-index l.takings))
