use Rattle.std.proofs.Common.{◌≡◌, ◌≤◌, ◌+◌, ◌*◌, drop, ◌&&◌, nat_le}
use Rattle.wy_lex.specs.Kinds.{all_digits, greatest}
use Rattle.wy_lex.specs.Grammar.{is_number}
use Rattle.wy_lex.specs.Symbols.{codes_of}
use Rattle.wy_lex.proofs.lexeme.number.Given as goal
use Rattle.wy_reading.specs.ListGrammar.{number_from}

-- the digits that are left complete the number
abbrev pub invariant-loop-digit : goal.invariant-loop-digit
invariant-loop-digit l =
    (number_from l.number (codes_of (drop l.digit-index l.digits)) ≡ number_from 0 (codes_of l.digits))
    × ((nat_le (number_from l.number (codes_of (drop l.digit-index l.digits))) greatest && all_digits (codes_of (drop l.digit-index l.digits))) ≡ is_number l.digits)
    × (l.number ≤ greatest * 10 + 1114111)
