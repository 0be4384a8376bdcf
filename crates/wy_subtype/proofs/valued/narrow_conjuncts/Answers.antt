use Rattle.wy_subtype.proofs.NarrowLemmas.{reach_narrow}
use Rattle.wy_subtype.proofs.valued.narrow_conjuncts.Goals as goal

pub returns-clause-narrow : goal.returns-clause-narrow
returns-clause-narrow c = reach_narrow c.args.table.now c.args.depth c.args.part.now c.in_ok-_added._added.reach c.in_ok-_added._added.number c.in_ok-_added.ensures.known
