use Rattle.std.proofs.Common.{◌≡◌, ℕ, List, length, take, drop}
use Rattle.wy_mach.specs.Texts.{IsText}
use Rattle.wy_mach.proofs.texts.gather.Given as goal

abbrev pub invariant-loop-k : goal.invariant-loop-k
invariant-loop-k l = record {
  long : length l.piece ≡ length l.fn.piece;
  codes : (bytes : List ℕ) → IsText l.heap l.place bytes → take l.k l.piece ≡ take l.k (drop l.start bytes);
}
