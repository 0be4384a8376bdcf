-- Which program the bytes of a source spell, and why they spell none.
use Rattle.std.specs.Prelude.{ℕ, List, Result, ⊤, ◌⊎◌}
use Rattle.std.specs.Str.{IsValidUpTo}
use Rattle.wy_reading.specs.Places as places
use Rattle.wy_ast.specs.declared.declarations.Program.{Program}
use Rattle.wy_lex.specs.declared.token.Token.{Token}
use Rattle.wy_lex.specs.declared.fault.Kind.TheVariants as lex_kind
use Rattle.wy_lex.specs.declared.fault.LexFault.TheVariants as lex
use Rattle.wy_lex.specs.Source as source_of
use Rattle.wy_parse.specs.wy_parse_grammar.declared.fault.Kind.TheVariants as kind
use Rattle.wy_parse.specs.declared.fault.ParseFault.TheVariants as parse
use Rattle.wy_parse.specs.Derivation as derivation
use Rattle.wy_parse_front.specs.declared.fault.SourceFault.{SourceFault}
use Rattle.wy_parse_front.specs.declared.fault.SourceFault.TheVariants as source

-- the bytes are cut into tokens of which this holds
pub record CutInto (bytes : List ℕ) (P : List Token → Type 0) : Type 0 where
  pub tokens : List Token
  pub cut : source_of.Tokens bytes tokens
  pub holds : P tokens

-- the bytes are cut into tokens, and these derive the program
abbrev pub Spells : List ℕ → Program → Type 0
Spells bytes program = CutInto bytes (λ ts. derivation.Derives ts program)

-- the bytes are refused so
abbrev pub IsRefused : List ℕ → SourceFault → Type 0
IsRefused bytes (source.NotUtf8 at) = source_of.IsRefused bytes (lex.NotUtf8 at)
IsRefused bytes (source.BadChar at) = source_of.IsRefused bytes (lex.BadChar at)
IsRefused bytes (source.BadIndent at) = source_of.IsRefused bytes (lex.BadIndent at)
IsRefused bytes (source.BadNumeral at) = source_of.IsRefused bytes (lex.BadNumeral at)
IsRefused bytes (source.OpenComment at) = source_of.IsRefused bytes (lex.OpenComment at)
IsRefused bytes (source.Unexpected at) = CutInto bytes (λ ts. derivation.IsRefused ts (parse.Unexpected at))
IsRefused bytes (source.Mixed at) = CutInto bytes (λ ts. derivation.IsRefused ts (parse.Mixed at))
IsRefused bytes (source.Deep at) = CutInto bytes (λ ts. derivation.IsRefused ts (parse.Deep at))
IsRefused bytes (source.TooMany at) = CutInto bytes (λ ts. derivation.IsRefused ts (parse.TooMany at))
IsRefused bytes source.NoMemory = ⊤

-- The fault is the one to be given: bytes that aren't UTF-8 go before all others, a fault that is met goes before the first character or token after which nothing goes on, and all faults of the tokens go before those of the program.
abbrev pub IsDue : List ℕ → SourceFault → Type 0
IsDue bytes (source.NotUtf8 at) = IsValidUpTo bytes at
IsDue bytes (source.BadChar at) = (source_of.Leaves bytes at × source_of.MeetsNone bytes) ⊎ source_of.Meets bytes lex_kind.BadEscape at
IsDue bytes (source.BadIndent at) = source_of.Meets bytes lex_kind.BadIndent at
IsDue bytes (source.BadNumeral at) = source_of.Meets bytes lex_kind.BadNumeral at
IsDue bytes (source.OpenComment at) = source_of.Meets bytes lex_kind.OpenComment at
IsDue bytes (source.Unexpected at) = CutInto bytes (λ ts. derivation.Leaves ts at × derivation.MeetsNone ts)
IsDue bytes (source.Mixed at) = CutInto bytes (λ ts. derivation.Meets ts kind.Mixed at)
IsDue bytes (source.Deep at) = CutInto bytes (λ ts. derivation.Meets ts kind.Deep at ⊎ derivation.IsHigh ts at)
IsDue bytes (source.TooMany at) = CutInto bytes (λ ts. derivation.Meets ts kind.TooMany at)
IsDue bytes source.NoMemory = ⊥

-- the answer, or no memory
abbrev pub Answers : Result Program SourceFault → Result Program SourceFault → Type 0
Answers wanted r = places.Answers source.NoMemory wanted r
