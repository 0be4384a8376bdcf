use Rattle.std.proofs.Common.{◌∙◌}
use Rattle.wy_mach.proofs.OperandLemmas.{number_read, number_beyond}
use Rattle.wy_mach.proofs.operands.number.Goals as goal

pub returns-in-Some : goal.returns-in-Some
returns-in-Some c s shows =
    c.number_of.ensures ∙ number_read c.args.heap.now c.args.registers.now c.args.register c.in-Some.kind c.in-Some.ensures.0 c.in-Some.ensures.1 s shows

pub returns-in-None : goal.returns-in-None
returns-in-None c s shows = number_beyond c.args.heap.now c.args.registers.now c.args.register c.in-None.ensures s shows
