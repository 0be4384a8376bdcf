use Rattle.std.proofs.Common.{◌≡◌, drop}
use Rattle.wy_canon.specs.Digests.{with_bytes}
use Rattle.wy_canon.proofs.digests.with_bytes.Given as goal

abbrev pub invariant-loop-byte : goal.invariant-loop-byte
invariant-loop-byte l = with_bytes l.made (drop l.byte-index l.bytes) ≡ with_bytes l.digest l.bytes
