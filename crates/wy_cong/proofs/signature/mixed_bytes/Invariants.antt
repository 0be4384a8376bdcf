use Rattle.std.proofs.Common.{◌≡◌, drop}
use Rattle.wy_cong.specs.Signatures.{mixed_all}
use Rattle.wy_cong.proofs.signature.mixed_bytes.Given as goal

abbrev pub invariant-loop-byte : goal.invariant-loop-byte
invariant-loop-byte l = mixed_all l.key (drop l.byte-index l.bytes) ≡ mixed_all l.fn.key l.bytes
