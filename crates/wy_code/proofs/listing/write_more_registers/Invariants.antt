use Rattle.std.proofs.Common.{◌≡◌, ◌++◌, drop}
use Rattle.wy_code.specs.Listing.{more_registers}
use Rattle.wy_code.proofs.listing.write_more_registers.Given as goal

-- what is left completes what is written
abbrev pub invariant-loop-register : goal.invariant-loop-register
invariant-loop-register l = l.text.items ++ more_registers (drop l.register-index l.registers) ≡ l.fn.text.items ++ more_registers l.fn.registers
