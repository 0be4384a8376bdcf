use Rattle.wy_vc.proofs.EntryLemmas.{naming_turn}
use Rattle.wy_vc.proofs.entry.name_params.Goals as goal

pub loop-param-preserved : goal.loop-param-preserved
loop-param-preserved c =
    naming_turn c.args.words.now c.args.walk.now c.loop-param.walk c.name_param.new.walk c.loop-param.here c.name_param.new.here c.args.params.now c.loop-param.param-index c.param-item.result _ c.loop-param-test.true c.param-item.is
    c.loop-param.invariant c.in_ok-name_param.ensures.value c.in_ok-name_param.ensures.node
