use Rattle.wy_vc_body.specs.Frames.{program_of}
use Rattle.wy_vc_exprs.proofs.SlotLemmas.{slots_on}
use Rattle.wy_vc_body.proofs.LoopLemmas.{nodes_turn, walking_turn}
use Rattle.wy_vc_body.proofs.loops.walk_clauses.Goals as goal

pub walk_clause-requires-clause-slots : goal.walk_clause-requires-clause-slots
walk_clause-requires-clause-slots c = slots_on c.args.walk.now.maker.terms c.loop-clause.walk.maker.terms c.loop-clause.invariant.0.kept c.args.vars.now c.requires.slots

pub loop-clause-preserved : goal.loop-clause-preserved
loop-clause-preserved c = (
  walking_turn (program_of c.args.core.now c.args.program.now) c.args.words.now c.args.vars.now c.args.walk.now c.loop-clause.walk c.walk_clause.new.walk c.args.clauses.now c.loop-clause.clause-index c.clause-item.result _ c.requires.slots c.loop-clause-test.true c.clause-item.is
      c.loop-clause.invariant.0 c.in_ok-walk_clause.ensures.value c.in_ok-walk_clause.ensures.node,
  nodes_turn c.args.clauses.now c.loop-clause.clause-index c.clause-item.result c.loop-clause.walk.maker.node c.walk_clause.new.walk.maker.node _ c.loop-clause-test.true c.clause-item.is c.loop-clause.invariant.1 c.in_ok-walk_clause.ensures.node,
)
