-- What was read so far is what the reader gave up.
use Rattle.std.proofs.Common.{◌≤◌, vec_len}
use Rattle.std.specs.Io.KnownBytes.{Consumes}
use Rattle.wy_port.proofs.disk_files.read_up_to.Given as goal

abbrev pub invariant-loop : goal.invariant-loop
invariant-loop g l = record {
  within : vec_len l.bytes ≤ l.limit;
  took : Consumes (g.T.Read.remaining l.fn.reader) (g.T.Read.remaining l.reader) l.bytes.items;
}
