use Rattle.std.proofs.Common.{◌≡◌, drop}
use Rattle.wy_core.specs.CoreSeen.{seen_block}
use Rattle.wy_vc_body.specs.Marked as spec
use Rattle.wy_vc_body.proofs.assigned.+assigned.Given as goal

abbrev pub invariant-mark_block-loop-stmt : goal.invariant-mark_block-loop-stmt
invariant-mark_block-loop-stmt l = spec.marked_in (seen_block (drop l.stmt-index l.block)) l.marks.items ≡ spec.marked_in (seen_block l.block) l.fn.marks.items
