-- Lines and blocks: what a token, a line end and the end of the source make of what was read before.
use Rattle.std.specs.Prelude.{ℕ, zero, suc, ◌-◌, Bool, true, false, ◌&&◌, ◌||◌, ◌==◌, nat_lt, Option, Some, None, List, [], ◌∷◌, ◌++◌, length, take, slice_index_or, if◌then◌else◌}
use Rattle.std.specs.Str.{bytes_eq}
use Rattle.wy_lex.specs.declared.token.Token.{Token}
use Rattle.wy_lex.specs.declared.token.TokenKind.{TokenKind}
use Rattle.wy_lex.specs.declared.token.TokenKind.TheVariants as k
use Rattle.wy_lex.specs.declared.symbol.Character.{Character}
use Rattle.wy_lex.specs.declared.symbol.Character.TheVariants as class
use Rattle.wy_lex.specs.declared.layout.Line.{Line}
use Rattle.wy_lex.specs.declared.layout.Line.TheVariants as line
use Rattle.wy_lex.specs.declared.layout.State.{State}
use Rattle.wy_lex.specs.Kinds.{continues, depth_after, is_colon}

abbrev pub token : TokenKind → ℕ → Token
token kind at = record { kind = kind; at = at }

-- ---- indentations. The open blocks' stand outermost first, and the first is that of the top, which is empty.

-- which of them it is, counted from n
abbrev pub level_from : ℕ → List (List ℕ) → List ℕ → Option ℕ
level_from n [] w = None
level_from n (b ∷ bs) w = if bytes_eq b w then Some n else level_from (suc n) bs w

abbrev pub level : List (List ℕ) → List ℕ → Option ℕ
level blocks w = level_from 0 blocks w

-- that of the innermost block
abbrev pub innermost : List (List ℕ) → List ℕ
innermost blocks = slice_index_or blocks (length blocks - 1) []

-- the one begins the other, which is longer
abbrev pub is_deeper : List ℕ → List ℕ → Bool
is_deeper b w = nat_lt (length b) (length w) && bytes_eq (take (length b) w) b

-- it is an open block's, or behind a colon deeper than the innermost
abbrev pub fits : Option ℕ → Bool → Bool → Bool
fits None header deeper = header && deeper
fits (Some n) header deeper = true

-- whether a token may stand here, unless it continues a line: within a line always, and first in a line where its indentation fits
abbrev pub may_stand_in : Line → Bool → Bool
may_stand_in line.Open fit = true
may_stand_in line.Fresh fit = fit
may_stand_in (line.Ended at) fit = fit

abbrev pub may_stand : State → Bool
may_stand s = may_stand_in s.line (fits (level s.blocks s.indent) s.header (is_deeper (innermost s.blocks) s.indent))

-- ---- tokens of the layout

-- OUT, so often
abbrev pub outs : ℕ → ℕ → List Token
outs zero at = []
outs (suc n) at = token k.BlockOut at ∷ outs n at

-- LINE, where a line has ended
abbrev pub ending : Line → List Token
ending line.Fresh = []
ending line.Open = []
ending (line.Ended at) = token k.LineEnd at ∷ []

-- LINE at the end of the source
abbrev pub last_ending : Line → ℕ → List Token
last_ending line.Fresh size = []
last_ending line.Open size = token k.LineEnd size ∷ []
last_ending (line.Ended at) size = token k.LineEnd at ∷ []

-- ---- the state

-- nothing was read but the first blanks
abbrev pub first_state : List ℕ → State
first_state w = record { made = []; blocks = [] ∷ []; depth = 0; line = line.Fresh; indent = w; header = false; more = class.Blank }

-- a line begins at the offset with the indentation of an open block: deeper blocks end; or a new one begins
abbrev pub entered : Option ℕ → State → ℕ → State
entered (Some n) s at = record {
  made = (s.made ++ ending s.line) ++ outs (length s.blocks - suc n) at;
  blocks = take (suc n) s.blocks;
  depth = s.depth;
  line = line.Open;
  indent = [];
  header = s.header;
  more = s.more;
}
entered None s at = record {
  made = (s.made ++ ending s.line) ++ token k.BlockIn at ∷ [];
  blocks = s.blocks ++ s.indent ∷ [];
  depth = s.depth;
  line = line.Open;
  indent = [];
  header = s.header;
  more = s.more;
}

abbrev pub begun : State → ℕ → State
begun s at = entered (level s.blocks s.indent) s at

-- with one more token, which what is in the class would lengthen
abbrev pub added : State → TokenKind → ℕ → Character → State
added s kind at more = record {
  made = s.made ++ token kind at ∷ [];
  blocks = s.blocks;
  depth = depth_after kind s.depth;
  line = line.Open;
  indent = s.indent;
  header = is_colon kind;
  more = more;
}

abbrev pub is_within : Line → Bool
is_within line.Open = true
is_within line.Fresh = false
is_within (line.Ended at) = false

-- with one more token, where a line begins with it unless it continues one
abbrev pub placed : State → TokenKind → ℕ → Character → State
placed s kind at more = if is_within s.line || continues kind then added s kind at more else added (begun s at) kind at more

-- a line end at the offset, and the blanks that the line behind it begins with; within brackets it is a space
abbrev pub broken : State → ℕ → List ℕ → State
broken s at w = record {
  made = s.made;
  blocks = s.blocks;
  depth = s.depth;
  line = if is_within s.line && (s.depth == 0) then line.Ended at else s.line;
  indent = w;
  header = s.header;
  more = class.Blank;
}

-- what makes no token, and what would lengthen it
abbrev pub passed : State → Character → State
passed s more = record { made = s.made; blocks = s.blocks; depth = s.depth; line = s.line; indent = s.indent; header = s.header; more = more }

-- the tokens of a source of so many bytes
abbrev pub finished : State → ℕ → List Token
finished s size =
    if s.depth == 0 then ((s.made ++ last_ending s.line size) ++ outs (length s.blocks - 1) size) ++ token k.End size ∷ []
    else s.made ++ token k.End size ∷ []
