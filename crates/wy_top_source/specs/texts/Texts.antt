-- Which text of a kind a source has, and for what it is refused.
use Rattle.std.specs.Prelude.{◌≡◌, ℕ, List}
use Rattle.wy_ast.specs.declared.declarations.Program.{Program}
use Rattle.wy_code.specs.Listing.{code_text}
use Rattle.wy_gen.specs.wy_code_spec.compiled.Programs.{code_of}
use Rattle.wy_core.specs.CoreTree.{Core}
use Rattle.wy_core.specs.Types.{Ty}
use Rattle.wy_print_laws.specs.wy_parse_front.Front as front
use Rattle.wy_print.specs.ProgramText.{program_text}
use Rattle.wy_top_source.specs.Sources as sources
use Rattle.wy_top_source.specs.declared.refusal.Refusal.{Refusal}
use Rattle.wy_top_source.specs.declared.refusal.Refusal.TheVariants.{Text, Name, Flow, Assign}
use Rattle.wy_top_source.specs.declared.texts.kind.Kind.{Kind}
use Rattle.wy_top_source.specs.declared.texts.kind.Kind.TheVariants.{Layout, Listing}

-- the bytes spell a program, and this is its text
pub record IsLayout (bytes text : List ℕ) : Type 0 where
  pub program : Program
  pub spelled : front.Spells bytes program
  pub printed : program_text program ≡ text

-- the bytes have a typed and assigned program, and this is the listing of its code
pub record IsListing (bytes text : List ℕ) : Type 0 where
  pub core : Core ℕ
  pub flow : List Ty
  pub program : sources.IsProgram bytes core flow
  pub listed : code_text (code_of core) ≡ text

abbrev pub IsText : Kind → List ℕ → List ℕ → Type 0
IsText Layout bytes text = IsLayout bytes text
IsText Listing bytes text = IsListing bytes text

-- only what is read for the text can refuse it
abbrev pub IsRefused : Kind → List ℕ → Refusal → Type 0
IsRefused Layout bytes (Text fault) = sources.IsRefused bytes (Text fault)
IsRefused Layout bytes (Name fault) = ⊥
IsRefused Layout bytes (Flow fault) = ⊥
IsRefused Layout bytes (Assign fault) = ⊥
IsRefused Listing bytes fault = sources.IsRefused bytes fault

-- the refusal is the one to be given
abbrev pub IsDue : Kind → List ℕ → Refusal → Type 0
IsDue Layout bytes (Text fault) = sources.IsDue bytes (Text fault)
IsDue Layout bytes (Name fault) = ⊥
IsDue Layout bytes (Flow fault) = ⊥
IsDue Layout bytes (Assign fault) = ⊥
IsDue Listing bytes fault = sources.IsDue bytes fault
