use Rattle.std.proofs.Common.{◌∙◌}
use Rattle.wy_mach.proofs.OperandLemmas.{truth_read, truth_beyond}
use Rattle.wy_mach.proofs.operands.truth.Goals as goal

pub returns-in-Some : goal.returns-in-Some
returns-in-Some c s shows =
    c.truth_of.ensures ∙ truth_read c.args.heap.now c.args.registers.now c.args.register c.in-Some.kind c.in-Some.ensures.0 c.in-Some.ensures.1 s shows

pub returns-in-None : goal.returns-in-None
returns-in-None c s shows = truth_beyond c.args.heap.now c.args.registers.now c.args.register c.in-None.ensures s shows
