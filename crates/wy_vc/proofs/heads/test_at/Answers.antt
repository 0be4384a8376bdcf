use Rattle.wy_core.specs.CoreSeen.{seen_expr}
use Rattle.wy_vc_spec.specs.Numbered.{numbered}
use Rattle.wy_vc.proofs.HeadLemmas.{renewed_sound, tested_from}
use Rattle.wy_vc.proofs.heads.test_at.Goals as goal

pub walk_test-requires-clause-sound : goal.walk_test-requires-clause-sound
walk_test-requires-clause-sound c = renewed_sound c.args.number c.args.walk.now c.requires.sound

pub walk_test-requires-clause-frame : goal.walk_test-requires-clause-frame
walk_test-requires-clause-frame c = c.requires.frame

pub returns-clause-value : goal.returns-clause-value
returns-clause-value c =
    tested_from c.args.frame.now (λ k. numbered (seen_expr c.args.test.now) k) c.args.number c.args.walk.now.maker.node c.args.vars.now c.args.walk.now c.walk_test.new.walk c.in_ok-tested.tested c.in_ok-tested.ensures.value
