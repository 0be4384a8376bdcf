use Rattle.std.proofs.Common.{◌≡◌, drop}
use Rattle.wy_types.specs.Conjuncts.{same_term}
use Rattle.wy_types.specs.Same as same
use Rattle.wy_canon.proofs.lists.united.Given as goal

abbrev pub invariant-loop-signed : goal.invariant-loop-signed
invariant-loop-signed l = same.united same_term l.all (drop l.signed-index l.more) ≡ same.united same_term l.fn.first l.more
