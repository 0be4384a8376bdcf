use Rattle.std.proofs.Common.{◌∙◌, length}
use Rattle.wy_core.specs.CoreSeen.{seen_block}
use Rattle.wy_vc_body.specs.Frames.{body_at}
use Rattle.wy_vc_body.specs.Paths.{spot_of}
use Rattle.wy_vc_body.proofs.wy_vc_exprs_proofs.ResultLemmas.{if_ok}
use Rattle.wy_vc.proofs.CycleLemmas.{body_went}
use Rattle.wy_vc.proofs.EndLemmas.{paths_none}
use Rattle.wy_vc.proofs.MoveLemmas.{le_from, le_self}
use Rattle.wy_vc.proofs.executing.exec_body.Goals as goal

pub exec_block-requires-clause-base : goal.exec_block-requires-clause-base
exec_block-requires-clause-base c = le_from (length c.args.walk.now.hyps.items) (length c.args.walk.now.hyps.items) c.mark.result (le_self (length c.args.walk.now.hyps.items)) c.mark.ensures.value

pub exec_block-requires-clause-breaks : goal.exec_block-requires-clause-breaks
exec_block-requires-clause-breaks c = paths_none c.args.walk.now.maker.terms c.new-breaks.result.items c.new-breaks.ensures.items

pub returns-clause-value : goal.returns-clause-value
returns-clause-value c =
    let a = c.args.walk.now in
    if_ok c.exec_block.result _ _ c.exec_block.ensures.value
    (λ h s. body_went (body_at a.maker.terms c.args.frame.now) (seen_block c.args.block.now) a.maker.node 0 c.as_slice.result.now (spot_of a c.args.here) a.maker.count a c.exec_block.new.walk c.mark.result c.new-breaks.result.items c.exec_block.new.breaks.items h (c.as_slice.ensures.value ∙ c.new-none.ensures.items) s)
