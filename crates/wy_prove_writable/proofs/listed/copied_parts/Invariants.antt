use Rattle.std.proofs.Common.{take}
use Rattle.wy_prove_writable.specs.Listed.{ArePartsCopied}
use Rattle.wy_prove_writable.proofs.listed.copied_parts.Given as goal

-- those that were passed have their numbers
abbrev pub invariant-loop-part : goal.invariant-loop-part
invariant-loop-part l = ArePartsCopied l.terms l.again (take l.part-index l.parts) l.numbers.items
