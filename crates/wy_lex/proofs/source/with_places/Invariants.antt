use Rattle.std.proofs.Common.{◌≡◌, ◌+◌, ◌++◌, length}
use Rattle.std.specs.Str.{encode_utf8_all}
use Rattle.wy_lex.specs.Symbols.{placed_from}
use Rattle.wy_lex.proofs.source.with_places.Given as goal

-- the characters that are left complete the bytes, the list and the count
abbrev pub invariant-loop-turn : goal.invariant-loop-turn
invariant-loop-turn l =
    (l.at + length (encode_utf8_all l.rest) ≡ length (encode_utf8_all l.characters))
    × (l.symbols ++ placed_from l.at l.rest ≡ placed_from 0 l.characters)
    × (length l.rest + l._turn ≡ length l.characters)
