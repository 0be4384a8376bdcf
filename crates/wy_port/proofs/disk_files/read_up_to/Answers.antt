use Rattle.std.proofs.Common.{arith, length-append, ◌++◌, take}
use Rattle.std.proofs.lemmas.List.{length-take}
use Rattle.std.proofs.KnownBytes.{Consumes-trans}
use Rattle.wy_port.proofs.disk_files.read_up_to.Goals as goal

pub returns-in-Err-clause-longer : goal.returns-in-Err-clause-longer
returns-in-Err-clause-longer g c = λ e. absurd (c.load_fault.ensures.known cc)

pub returns-then-count-limit-clause-most : goal.returns-then-count-limit-clause-most
returns-then-count-limit-clause-most g c = record {
  bytes = c.loop.bytes.items ++ take c.in-Ok.count c.read.new.buf;
  within = omega (arith, length-append c.loop.bytes.items (take c.in-Ok.count c.read.new.buf), length-take c.in-Ok.count c.read.new.buf, c.read.auto.buf, length-take c.min-wanted.result c.loop.piece);
  gave = Consumes-trans _ _ _ _ _ c.loop.invariant.took c.in-Ok.ensures.bytes.0;
}

pub returns-in_err-extend_from_slice-clause-most : goal.returns-in_err-extend_from_slice-clause-most
returns-in_err-extend_from_slice-clause-most g c = record {
  bytes = c.loop.bytes.items ++ take c.in-Ok.count c.read.new.buf;
  within = omega (arith, length-append c.loop.bytes.items (take c.in-Ok.count c.read.new.buf), length-take c.in-Ok.count c.read.new.buf);
  gave = Consumes-trans _ _ _ _ _ c.loop.invariant.took c.in-Ok.ensures.bytes.0;
}
