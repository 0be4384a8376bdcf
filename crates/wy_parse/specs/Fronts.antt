-- Where a list of tokens stops being one that a text could begin with.
use Rattle.std.specs.Prelude.{◌≡◌, ℕ, true, false, List, [], ◌∷◌, ◌++◌, ⊤}
use Rattle.wy_reading.specs.Mode.{Mode}
use Rattle.wy_reading.specs.Places as places
use Rattle.wy_ast.specs.declared.declarations.Program.{Program}
use Rattle.wy_lex.specs.declared.token.Token.{Token}
use Rattle.wy_parse_grammar.specs.declared.measured.Measured.{Measured}
use Rattle.wy_parse_grammar.specs.Sorts.{is, END}
use Rattle.wy_parse.specs.ProgramGrammar.{Text}

-- no further checks are made, and what nests may nest so deep
abbrev pub loose : ℕ → Mode
loose depth = record { depth = depth; strict = false }

-- a text of the grammar in which '&&' and '||' mix, and in which nothing is bounded: how deep it nests, how high its trees are and how
-- many declarations it has
pub record IsLoose (tokens : List Token) : Type 0 where
  pub depth : ℕ
  pub spelled : Measured Program
  pub text : places.IsText Text (loose depth) tokens spelled

-- such a text begins with the tokens
pub record IsFront (tokens : List Token) : Type 0 where
  pub more : List Token
  pub text : IsLoose (tokens ++ more)

-- the first token stands there that is in no front: what stands before it is one, and with it is none
pub record FirstImpossible (tokens : List Token) (at : ℕ) : Type 0 where
  pub front : List Token
  pub bad : Token
  pub rest : List Token
  pub cut : tokens ≡ front ++ bad ∷ rest
  pub place_is : at ≡ bad.at
  pub before : IsFront front
  pub none : IsFront (front ++ bad ∷ []) → ⊥

-- none of the tokens is `End`
abbrev pub NoEnd : List Token → Type 0
NoEnd [] = ⊤
NoEnd (s ∷ i) = (is END s ≡ false) × NoEnd i

-- `End` stands as the last token, and nowhere else
pub record IsEnded (tokens : List Token) : Type 0 where
  pub front : List Token
  pub last : Token
  pub cut : tokens ≡ front ++ last ∷ []
  pub is_end : is END last ≡ true
  pub no_end : NoEnd front

-- one of the tokens stands there
pub record IsToken (tokens : List Token) (at : ℕ) : Type 0 where
  pub front : List Token
  pub token : Token
  pub rest : List Token
  pub cut : tokens ≡ front ++ token ∷ rest
  pub place_is : at ≡ token.at

-- one of the tokens stands there, and with it what stands before it is a front still
pub record IsPossible (tokens : List Token) (at : ℕ) : Type 0 where
  pub front : List Token
  pub token : Token
  pub rest : List Token
  pub cut : tokens ≡ front ++ token ∷ rest
  pub place_is : at ≡ token.at
  pub goes_on : IsFront (front ++ token ∷ [])
