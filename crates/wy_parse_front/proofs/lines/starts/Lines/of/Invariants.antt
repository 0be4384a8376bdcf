use Rattle.std.proofs.Common.{◌≡◌, ◌++◌, drop}
use Rattle.wy_parse_front.specs.lines.Starts.{starts_from}
use Rattle.wy_parse_front.proofs.lines.starts.Lines.of.Given as goal

-- the starts so far, and those of what is left
abbrev pub invariant-loop-byte : goal.invariant-loop-byte
invariant-loop-byte l = record {
  at : l.at ≡ l.byte-index;
  made : l.starts.items ++ starts_from l.byte-index (drop l.byte-index l.bytes) ≡ starts_from 0 l.bytes;
}
