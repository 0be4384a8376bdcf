use Rattle.std.proofs.Common.{◌≡◌, ◌++◌, drop, map}
use Rattle.wy_core.specs.CoreSeen.{seen_expr}
use Rattle.wy_names_lower.specs.ExprsLowered.{text}
use Rattle.wy_names_lower.proofs.expressions.text.Given as goal

abbrev pub invariant-loop-byte : goal.invariant-loop-byte
invariant-loop-byte l = map seen_expr l.items ++ text l.at (drop l.byte-index l.bytes) ≡ text l.at l.bytes
