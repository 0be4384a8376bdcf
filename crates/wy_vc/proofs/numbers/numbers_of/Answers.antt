use Rattle.wy_core.specs.CoreSeen.{seen_ty}
use Rattle.wy_flow_spec.specs.typing.TypedPrograms.{flow_of}
use Rattle.wy_vc.proofs.NumberLemmas.{mapped_push}
use Rattle.wy_vc.proofs.numbers.numbers_of.Goals as goal

pub loop-node-preserved : goal.loop-node-preserved
loop-node-preserved c = mapped_push (flow_of c.args.typed.now) c.loop-node.node (seen_ty c.flow.result.now) c.loop-node.marks.items c.push.new.self.items c.is_number.result c.in_ok-push.ensures.items c.loop-node.invariant c.is_number.ensures.value c.flow.ensures.value
