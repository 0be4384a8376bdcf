-- What tokens derive, and where they are refused.
use Rattle.std.specs.Prelude.{◌≡◌, ◌-◌, ℕ, List, length, drop, true, ⊤, ◌⊎◌, Result}
use Rattle.wy_reading.specs.Mode.{Mode}
use Rattle.wy_reading.specs.Places as places
use Rattle.wy_ast.specs.declared.declarations.Program.{Program}
use Rattle.wy_lex.specs.declared.token.Token.{Token}
use Rattle.wy_parse_grammar.specs.declared.fault.Kind.{Kind}
use Rattle.wy_parse_grammar.specs.declared.fault.Kind.TheVariants as kind
use Rattle.wy_parse.specs.declared.fault.ParseFault.{ParseFault}
use Rattle.wy_parse.specs.declared.fault.ParseFault.TheVariants.{Unexpected, Mixed, Deep, TooMany, NoMemory}
use Rattle.wy_parse_grammar.specs.declared.measured.Measured.TheVariants.{Low, High}
use Rattle.wy_parse_grammar.specs.Steps.{place}
use Rattle.wy_parse.specs.ProgramGrammar.{Text}

-- what stands in 100 pairs, prefix operators, right sides and blocks stands on the last of these levels; each check is made
abbrev pub profile : Mode
profile = record { depth = 101; strict = true }

-- the tokens derive the program, and none of its expressions and types is too high
pub record Derives (tokens : List Token) (program : Program) : Type 0 where
  pub height : ℕ
  pub text : places.IsText Text profile tokens (Low program height)

-- where the token stands with which so many are left
abbrev pub place_of : List Token → ℕ → ℕ
place_of tokens left = place (drop (length tokens - left) tokens)

-- with all before it well, the fault stands there
pub record Meets (tokens : List Token) (x : Kind) (at : ℕ) : Type 0 where
  pub left : ℕ
  pub place_is : at ≡ place_of tokens left
  pub met : (Text profile).meets tokens x left

-- the first token stands there after which no text goes on, however deep it nests, with operators that mix and any number of declarations
pub record Leaves (tokens : List Token) (at : ℕ) : Type 0 where
  pub left : ℕ
  pub place_is : at ≡ place_of tokens left
  pub bad : places.FirstBad Text profile tokens left

-- no fault is met
abbrev pub MeetsNone : List Token → Type 0
MeetsNone tokens = (x : Kind) (at : ℕ) → Meets tokens x at → ⊥

-- the tokens derive a program in which the first node stands there that is just one too high
abbrev pub IsHigh : List Token → ℕ → Type 0
IsHigh tokens at = places.IsText Text profile tokens (High at)

-- the tokens are refused so
abbrev pub IsRefused : List Token → ParseFault → Type 0
IsRefused tokens (Unexpected at) = Leaves tokens at
IsRefused tokens (Mixed at) = Meets tokens kind.Mixed at
IsRefused tokens (Deep at) = Meets tokens kind.Deep at ⊎ IsHigh tokens at
IsRefused tokens (TooMany at) = Meets tokens kind.TooMany at
IsRefused tokens NoMemory = ⊤

-- the fault of a kind
abbrev pub fault_of : Kind → ℕ → ParseFault
fault_of kind.Mixed at = Mixed at
fault_of kind.Deep at = Deep at
fault_of kind.TooMany at = TooMany at

-- the answer, or no memory
abbrev pub Answers : {A : Type 0} → Result A ParseFault → Result A ParseFault → Type 0
Answers wanted r = places.Answers NoMemory wanted r
