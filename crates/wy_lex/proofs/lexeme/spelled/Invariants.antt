use Rattle.std.proofs.Common.{◌≡◌, take, string_bytes}
use Rattle.wy_lex.specs.Symbols.{bytes_of}
use Rattle.wy_lex.proofs.lexeme.spelled.Given as goal

-- the text has the characters that were gone through
abbrev pub invariant-loop-symbol : goal.invariant-loop-symbol
invariant-loop-symbol l = string_bytes l.spelled ≡ bytes_of (take l.symbol-index l.text)
