use Rattle.std.proofs.Common.{◌≡◌, ◌≤◌, ◌+◌, ◌*◌, drop}
use Rattle.wy_reading.specs.ListGrammar.{number_from}
use Rattle.wy_value.specs.declared.flat.TheConstants.{FARTHEST}
use Rattle.wy_value.proofs.flat.magnitude.Given as goal

-- the digits that are left complete the number
abbrev pub invariant-loop-digit : goal.invariant-loop-digit
invariant-loop-digit l = (number_from l.number (drop l.digit-index l.digits) ≡ number_from 0 l.digits) × (l.number ≤ FARTHEST * 10 + 1114111)
