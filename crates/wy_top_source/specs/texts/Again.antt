-- What the layout of a source is read as: the program of the source, places aside.
use Rattle.std.specs.Prelude.{◌≡◌, ℕ, List, ⊤}
use Rattle.wy_ast.specs.declared.declarations.Program.{Program}
use Rattle.wy_print_laws.specs.wy_parse_front.Front as front
use Rattle.wy_print.specs.ProgramText.{program_text}
use Rattle.wy_print_laws.specs.round.ReadAgain.{IsSame}
use Rattle.wy_top_source.specs.texts.Texts.{IsLayout}
use Rattle.wy_top_source.specs.declared.texts.kind.Kind.{Kind}
use Rattle.wy_top_source.specs.declared.texts.kind.Kind.TheVariants.{Layout, Listing}

-- the bytes spell a program whose text this is; the text is its own layout; and whatever program it spells is that of the bytes, but for its places
pub record IsReadAgain (bytes text : List ℕ) : Type 0 where
  pub program : Program
  pub spelled : front.Spells bytes program
  pub printed : program_text program ≡ text
  pub own : IsLayout text text
  pub same : (other : Program) → front.Spells text other → IsSame other program

-- a layout is read again; of a listing nothing is said
abbrev pub IsAgain : Kind → List ℕ → List ℕ → Type 0
IsAgain Layout bytes text = IsReadAgain bytes text
IsAgain Listing bytes text = ⊤
