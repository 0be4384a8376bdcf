use Rattle.std.proofs.Common.{◌≡◌, ◌≤◌, ◌+◌, ◌-◌, ◌++◌, length, drop, vec_len}
use Rattle.std.specs.Prelude.{vec_capacity}
use Rattle.wy_mach.specs.Taking.{taken, emptied}
use Rattle.wy_mach.proofs.making.take_all.Given as goal

abbrev pub invariant-loop-number : goal.invariant-loop-number
invariant-loop-number l = record {
  made : l.places.items ++ taken l.registers (drop l.number-index l.numbers) ≡ taken l.fn.registers l.fn.numbers;
  left : emptied l.registers (drop l.number-index l.numbers) ≡ emptied l.fn.registers l.fn.numbers;
  many : length l.registers ≡ length l.fn.registers;
  room : vec_len l.places + (length l.numbers - l.number-index) ≤ vec_capacity l.places;
}
