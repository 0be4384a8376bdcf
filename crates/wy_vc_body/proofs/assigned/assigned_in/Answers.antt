use Rattle.std.proofs.Common.{◌∙◌, ap, Bool, List, length}
use Rattle.wy_core.specs.CoreSeen.{seen_block}
use Rattle.wy_vc_exprs.specs.wy_vc_spec.Spots.{is_set}
use Rattle.wy_vc_body.specs.Marked.{marked_in}
use Rattle.wy_vc_body.proofs.AssignedLemmas.{marked_each, marked_count}
use Rattle.wy_vc_body.proofs.assigned.assigned_in.Goals as goal

pub returns-clause-each : goal.returns-clause-each
returns-clause-each c =
    let block = seen_block c.args.block.now in
    λ x. ap (λ (ms : List Bool). is_set ms x) (c.in_ok-mark_block.ensures.value ∙ ap (λ (ms : List Bool). marked_in block ms) c.new-marks.ensures.items) ∙ marked_each block x

pub returns-clause-count : goal.returns-clause-count
returns-clause-count c =
    let block = seen_block c.args.block.now in
    ap (λ (ms : List Bool). length ms) (c.in_ok-mark_block.ensures.value ∙ ap (λ (ms : List Bool). marked_in block ms) c.new-marks.ensures.items) ∙ marked_count block
