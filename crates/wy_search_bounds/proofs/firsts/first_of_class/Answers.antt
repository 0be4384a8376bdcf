use Rattle.std.proofs.Common.{◌≡◌, Some, rules}
use Rattle.std.specs.Prelude.{slice_get}
use Rattle.wy_search_bounds.proofs.firsts.first_of_class.Goals as goal

pub returns-in-Some : goal.returns-in-Some
returns-in-Some c =
    let here : slice_get c.args.firsts.now c.args.v ≡ Some c.in-Some.first.now = search rules in
    c.requires c.args.v c.in-Some.first.now here
