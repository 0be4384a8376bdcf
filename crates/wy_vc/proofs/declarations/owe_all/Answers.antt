use Rattle.wy_vc_body.specs.Frames.{program_of}
use Rattle.wy_vc.proofs.DeclarationLemmas.{owing_begin, owing_end, owing_enough, owing_turn}
use Rattle.wy_vc.proofs.declarations.owe_all.Goals as goal

pub loop-number-init : goal.loop-number-init
loop-number-init c = owing_begin (program_of c.args.core.now c.args.program.now) c.args.walk.now c.args.decls.now c.requires.sound

pub returns-then-past : goal.returns-then-past
returns-then-past c = record {
  value = owing_enough (program_of c.args.core.now c.args.program.now) c.args.most c.args.walk.now c.loop-number.walk c.args.decls.now c.loop-number.number c.loop-number.first _ c.are_past-past.result c.are_past-past.ensures.value c.if-past.true c.loop-number.invariant;
}

pub loop-number-preserved : goal.loop-number-preserved
loop-number-preserved c =
    owing_turn (program_of c.args.core.now c.args.program.now) c.args.walk.now c.loop-number.walk c.owe_declaration.new.walk c.args.decls.now c.loop-number.number c.index-decls-number.result c.loop-number.first c.in_ok-first.first _
    c.loop-number-test.true c.index-decls-number.is c.loop-number.invariant c.in_ok-first.ensures.value c.in_ok-first.ensures.next

pub returns : goal.returns
returns c = record { value = owing_end (program_of c.args.core.now c.args.program.now) c.args.most c.args.walk.now c.loop-number.walk c.args.decls.now c.loop-number.number c.loop-number.first _ c.loop-number-test.false c.loop-number.invariant }
