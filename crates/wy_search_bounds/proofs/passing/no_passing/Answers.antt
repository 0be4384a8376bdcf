use Rattle.std.proofs.Common.{◌≡◌, None, refl}
use Rattle.std.specs.HashMap.{get}
use Rattle.wy_search_bounds.proofs.KnownLemmas.{none_known}
use Rattle.wy_search_bounds.proofs.passing.no_passing.Goals as goal
use Rattle.wy_cong.specs.wy_check_nodes.Seen.{same_signed}

pub returns : goal.returns
returns c = λ n at l o e.
    let none : get same_signed c.new-places.result l ≡ None = rw c.new-places.ensures.empty refl in
    none_known (get same_signed c.new-places.result l) o none e
