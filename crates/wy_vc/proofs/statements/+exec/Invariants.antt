use Rattle.std.proofs.Common.{drop}
use Rattle.wy_vc.specs.Rounds.{around}
use Rattle.wy_vc.proofs.FlowLemmas.{IsWithin}
use Rattle.wy_vc.proofs.statements.+exec.Given as goal

abbrev pub invariant-exec_block-loop-index : goal.invariant-exec_block-loop-index
invariant-exec_block-loop-index l = IsWithin l.frame (around l.round) l.fn.walk l.walk l.round.base l.fn.breaks.items l.breaks.items l.here l.fn.here (drop l.index l.block) l.block
