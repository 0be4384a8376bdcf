use Rattle.wy_vc_body.proofs.wy_vc_exprs_proofs.ResultLemmas.{if_ok}
use Rattle.wy_vc.proofs.BranchLemmas.{meets_by}
use Rattle.wy_vc.proofs.branches.end_if.Goals as goal

pub returns-clause-value : goal.returns-clause-value
returns-clause-value c =
    if_ok c.meet.result _ _ c.meet.ensures.value
    (λ h s. meets_by c.args.frame.now.routine.now.variables c.as_slice-words.result.now c.args.walk.now c.meet.new.walk c.args.base h c.args.end.now c.args.paths.items c.way_to.new.paths.items c.as_slice-words.ensures c.in_ok-way_to.ensures.value s)
