use Rattle.wy_vc_tables.specs.program_names.Described.{setting}
use Rattle.wy_vc.proofs.EntryLemmas.{typing_turn}
use Rattle.wy_vc.proofs.entry.assume_params.Goals as goal

pub loop-param-preserved : goal.loop-param-preserved
loop-param-preserved c =
    typing_turn (setting c.args.core.now c.args.program.now) c.args.walk.now c.loop-param.walk c.assume_param.new.walk c.args.here.now c.args.params.now c.loop-param.param-index c.param-item.result _ c.loop-param-test.true c.param-item.is
    c.loop-param.invariant c.in_ok-assume_param.ensures.value c.in_ok-assume_param.ensures.node
