use Rattle.std.proofs.Common.{subst, sym}
use Rattle.wy_search_bounds.proofs.removal.takings.Goals as goal
use Rattle.wy_search_bounds.specs.Firsts.{AreFirsts}

pub takings_by-requires : goal.takings_by-requires
takings_by-requires c = subst (AreFirsts c.args.labels.now) (sym c.deref.ensures.value) c.in_ok-firsts.ensures
