use Rattle.std.proofs.Common.{◌≡◌, ◌≤◌, drop}
use Rattle.wy_reading.specs.ListGrammar.{number_from}
use Rattle.wy_reading.proofs.example.small.Given as goal

-- the digits that are left complete the number
abbrev pub invariant-loop-digit : goal.invariant-loop-digit
invariant-loop-digit l = (number_from l.number (drop l.digit-index l.digits) ≡ number_from 0 l.digits) × (l.number ≤ 2805)
