use Rattle.wy_vc.specs.Tested.{types_at}
use Rattle.wy_vc.proofs.TestedLemmas.{among_at, types_turn}
use Rattle.wy_vc.proofs.tests_of_types.types_at.Goals as goal

pub put_type-requires : goal.put_type-requires
put_type-requires c = c.requires _ (among_at c.args.all.now c.loop-k.k-index c.loop-k-test.true)

pub loop-k-preserved : goal.loop-k-preserved
loop-k-preserved c = types_turn c.args.terms.now c.args.all.now c.loop-k.k-index c.loop-k.types.items c.put_type.new.types.items (types_at c.args.terms.now c.args.all.now) c.loop-k-test.true c.in_ok-put_type.ensures.value c.loop-k.invariant
