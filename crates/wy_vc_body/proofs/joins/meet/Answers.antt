use Rattle.wy_vc_body.proofs.MeetLemmas.{cut_sound, many_meets, one_goes}
use Rattle.wy_vc_body.proofs.joins.meet.Goals as goal

pub returns-then-all-gt1-clause-value : goal.returns-then-all-gt1-clause-value
returns-then-all-gt1-clause-value c =
    many_meets c.args.words.now c.args.walk.now c.back_to.new.self c.join.new.walk c.args.base c.in_ok-here.here c.as_slice-all.result.now c.args.paths.items c.requires.base c.back_to.ensures.maker c.back_to.ensures.owed c.back_to.ensures.hyps
    c.as_slice-all.ensures.value c.if-all-gt1.true c.in_ok-here.ensures.value

pub go_on-requires-clause-sound : goal.go_on-requires-clause-sound
go_on-requires-clause-sound c = cut_sound c.args.walk.now c.back_to.new.self c.args.base c.requires.sound c.back_to.ensures.maker c.back_to.ensures.owed c.back_to.ensures.hyps

pub returns-clause-value : goal.returns-clause-value
returns-clause-value c =
    one_goes c.args.words.now c.args.walk.now c.back_to.new.self c.go_on.new.walk c.args.base c.in_ok-here-in-Some.here c.in-Some.path c.as_slice-all.result.now c.args.paths.items _ c.requires.base c.back_to.ensures.maker c.back_to.ensures.owed c.back_to.ensures.hyps
    c.as_slice-all.ensures.value c.if-all-gt1.false c.in-Some.ensures.items c.in_ok-here-in-Some.ensures.value
