use Rattle.wy_prove_leaves.proofs.stated_sums_lemmas.TakenLemmas.{twice_below}
use Rattle.wy_prove_leaves.proofs.stated_sums.pairs.twice.Goals as goal

pub returns-in-None : goal.returns-in-None
returns-in-None c = λ fits. c.in-None.ensures (twice_below c.args.pairs.now c.loop-pair.pair-index (0, 0) fits c.loop-pair-test.true)
