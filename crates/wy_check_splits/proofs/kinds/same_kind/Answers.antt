use Rattle.std.proofs.Common.{◌∙◌}
use Rattle.wy_check_splits.proofs.KindLemmas.{kind_eq_is}
use Rattle.wy_check_splits.proofs.kinds.same_kind.Goals as goal

pub returns : goal.returns
returns c = c.eq.ensures ∙ kind_eq_is c.args.k.now c.args.l.now
