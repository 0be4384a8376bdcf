use Rattle.std.proofs.Common.{subst, sym}
use Rattle.wy_search_bounds.proofs.replacing.replace.Goals as goal
use Rattle.wy_search_bounds.specs.Firsts.{AreFirsts}

pub replace_by-requires : goal.replace_by-requires
replace_by-requires c = subst (AreFirsts c.args.labels.now) (sym c.deref.ensures.value) c.in_ok-firsts.ensures
