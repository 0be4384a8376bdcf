use Rattle.std.proofs.Common.{arith}
use Rattle.wy_vc_body.proofs.PathLemmas.{paths_on}
use Rattle.wy_vc_body.proofs.wy_vc_exprs_proofs.ResultLemmas.{if_ok}
use Rattle.wy_vc.specs.Rounds.{around}
use Rattle.wy_vc.proofs.HeadLemmas.{closes_from}
use Rattle.wy_vc.proofs.MoveLemmas.{front_whole, longer_length}
use Rattle.wy_vc.proofs.heads.end_loop.Goals as goal

pub meet-requires-clause-base : goal.meet-requires-clause-base
meet-requires-clause-base c =
    omega (arith, c.requires.base, longer_length c.args.walk.now.hyps.items c.keep.new.walk.hyps.items (front_whole c.args.walk.now.hyps.items c.keep.new.walk.hyps.items c.in_ok-keep.ensures.value.front))

pub meet-requires-clause-paths : goal.meet-requires-clause-paths
meet-requires-clause-paths c = paths_on c.args.walk.now.maker.terms c.keep.new.walk.maker.terms c.in_ok-keep.ensures.value.kept c.args.breaks.items c.requires.breaks

pub returns-clause-value : goal.returns-clause-value
returns-clause-value c =
    if_ok c.meet.result _ _ c.meet.ensures.value
    (λ h s. closes_from c.args.frame.now c.args.at c.args.round.now.base (around c.args.round.now) c.as_slice-words.result.now c.args.breaks.items c.args.walk.now c.keep.new.walk c.meet.new.walk c.args.end.now h c.requires.sound c.requires.base c.requires.breaks c.as_slice-words.ensures c.in_ok-keep.ensures.value s)
