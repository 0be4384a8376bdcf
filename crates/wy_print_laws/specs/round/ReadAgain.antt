-- What the text of a program is read as: the same program, but for its places.
use Rattle.std.specs.Prelude.{◌≡◌, ℕ, List}
use Rattle.wy_ast.specs.declared.declarations.Program.{Program}
use Rattle.wy_parse_front.specs.wy_lex.declared.token.Token.{Token}
use Rattle.wy_parse_front.specs.wy_lex.Source.{Tokens}
use Rattle.wy_print.specs.ProgramText.{program_text}
use Rattle.wy_parse_front.specs.wy_parse.Derivation.{Derives}
use Rattle.wy_print_laws.specs.round.BareProgram.{bare_program}

-- the bytes are cut into tokens that derive the program
pub record IsSource (bytes : List ℕ) (program : Program) : Type 0 where
  pub tokens : List Token
  pub cut : Tokens bytes tokens
  pub derives : Derives tokens program

-- two programs are the same but for their places, and have the same text
pub record IsSame (program other : Program) : Type 0 where
  pub same : bare_program program ≡ bare_program other
  pub same_text : program_text program ≡ program_text other

-- the text of the program is a source of one that is the same but for its places
pub record ReadsAgain (program : Program) : Type 0 where
  pub tree : Program
  pub same : IsSame tree program
  pub source : IsSource (program_text program) tree
