-- How a line begins: its indentation, the blocks that were open before it and are open in it, and the layout's tokens between.
use Rattle.std.specs.Prelude.{◌≡◌, ℕ, zero, suc, Bool, true, List, [], ◌∷◌, ◌++◌, length, ⊤}
use Rattle.wy_reading.specs.Rule.{Turns}
use Rattle.wy_lex.specs.declared.token.Token.{Token}
use Rattle.wy_lex.specs.declared.token.TokenKind.{TokenKind}
use Rattle.wy_lex.specs.declared.token.TokenKind.TheVariants as k
use Rattle.wy_lex.specs.declared.symbol.Symbol.{Symbol}
use Rattle.wy_lex.specs.declared.layout.State.{State}
use Rattle.wy_lex.specs.Layout.{token, level, innermost, is_deeper, fits, ending, first_state}
use Rattle.wy_lex.specs.Symbols.{symbols, bytes_of}
use Rattle.wy_lex.specs.Grammar.{Blanks, Next}

-- the inner indentation begins with the outer one and is longer
pub record IsDeeper (outer inner : List ℕ) : Type 0 where
  pub first : ℕ
  pub more : List ℕ
  pub whole : inner ≡ outer ++ first ∷ more

-- each is deeper than the one before it, the first than this one
abbrev pub Deepens : List ℕ → List (List ℕ) → Type 0
Deepens outer [] = ⊤
Deepens outer (b ∷ bs) = IsDeeper outer b × Deepens b bs

-- the indentations of open blocks, outermost first: that of the top, which is empty, and each one deeper than the one before it
abbrev pub IsNest : List (List ℕ) → Type 0
IsNest [] = ⊥
IsNest (b ∷ bs) = (b ≡ []) × Deepens b bs

-- OUT, so often
abbrev pub times : ℕ → List TokenKind
times zero = []
times (suc n) = k.BlockOut ∷ times n

-- A line with the indentation begins, behind a line that ends in a colon or doesn't.
pub data Begins (colon : Bool) (indent : List ℕ) (before after : List (List ℕ)) (between : List TokenKind) : Type 0 where
  -- in an open block of this indentation; each deeper block ends with an OUT
  continues : (outer inner : List (List ℕ)) → before ≡ outer ++ indent ∷ inner → after ≡ outer ++ indent ∷ [] → between ≡ times (length inner) → Begins colon indent before after between
  -- in a new block, which may stand behind a colon alone and is deeper than the innermost; IN begins it
  opens : (outer : List (List ℕ)) (innermost : List ℕ) → before ≡ outer ++ innermost ∷ [] → IsDeeper innermost indent → colon ≡ true → after ≡ before ++ indent ∷ [] → between ≡ k.BlockIn ∷ [] → Begins colon indent before after between

-- the tokens, each at the place
abbrev pub all_at : ℕ → List TokenKind → List Token
all_at place [] = []
all_at place (kind ∷ kinds) = token kind place ∷ all_at place kinds

-- what begins behind these blocks, and which tokens the layout has between
abbrev pub MayBegin : Bool → List ℕ → List (List ℕ) → Type 0
MayBegin colon indent before = (after : List (List ℕ)) × (between : List TokenKind) × Begins colon indent before after between

-- whether a token may begin a line here
abbrev pub may_begin : State → Bool
may_begin s = fits (level s.blocks s.indent) s.header (is_deeper (innermost s.blocks) s.indent)

-- these blocks are open then, and LINE, if a line has ended, and the tokens between stand behind those of the lines before
abbrev pub Enters : State → ℕ → List (List ℕ) → List TokenKind → State → Type 0
Enters s place after between t = (t.blocks ≡ after) × (t.made ≡ (s.made ++ ending s.line) ++ all_at place between)

-- a state that is reached within a source: its first blanks and some pieces behind them were read
pub record IsReached (bytes : List ℕ) (s : State) : Type 0 where
  pub blanks : List Symbol
  pub text : List Symbol
  pub rest : List Symbol
  pub first : Blanks.reads (symbols bytes) blanks text
  pub pieces : Turns (Next true) (first_state (bytes_of blanks)) text s rest
