-- The text of a line as pieces: tokens as they are written, and single spaces between them. What the grammar of sources makes of them.
use Rattle.std.proofs.Common.{◌≡◌, ℕ, ◌+◌, ◌==◌, Bool, true, false, not, ◌&&◌, List, [], ◌∷◌, ◌++◌, length, inl, inr, refl, sym, ap, ◌∙◌, subst, arith, append_assoc, append-nil, length-append}
use Rattle.std.specs.Bool.{⊤}
use Rattle.std.specs.Char.{encode_utf8}
use Rattle.std.specs.Str.{encode_utf8_all}
use Rattle.std.proofs.lemmas.Str.{encodes-append}
use lib.Utf8.{scalar, encode}
use Rattle.wy_reading.specs.Rule.{heads, Turns}
use Rattle.wy_reading.specs.Rule.Turns.{stop, more}
use Rattle.wy_parse_front.specs.wy_lex.declared.fault.Kind.{Kind}
use Rattle.wy_parse_front.specs.wy_lex.declared.token.Token.{Token}
use Rattle.wy_parse_front.specs.wy_lex.declared.token.TokenKind.{TokenKind}
use Rattle.wy_parse_front.specs.wy_lex.declared.symbol.Symbol.{Symbol}
use Rattle.wy_parse_front.specs.wy_lex.declared.symbol.Character.{Character}
use Rattle.wy_parse_front.specs.wy_lex.declared.symbol.Character.TheVariants as class
use Rattle.wy_parse_front.specs.wy_lex.declared.layout.Line.TheVariants as line
use Rattle.wy_parse_front.specs.wy_lex.declared.layout.State.{State}
use Rattle.wy_parse_front.specs.wy_lex.Symbols.{has}
use Rattle.wy_parse_front.specs.wy_lex.Kinds.{depth_after, is_colon}
use Rattle.wy_parse_front.specs.wy_lex.Layout.{token, may_stand, placed}
use Rattle.wy_parse_front.specs.wy_lex.Grammar.{lengthens, Piece as SourcePiece, Next}

-- ---- pieces

-- a single space, or a token: what it is, how it is written, and what would lengthen it
pub data Piece : Type 0 where
  gap : Piece
  mark : (kind : TokenKind) (written : List ℕ) (more : Character) → Piece

-- the characters of pieces
abbrev pub letters : List Piece → List ℕ
letters [] = []
letters (gap ∷ ps) = 32 ∷ letters ps
letters (mark kind cs m ∷ ps) = cs ++ letters ps

-- how many bytes characters have
abbrev pub size : List ℕ → ℕ
size cs = length (encode_utf8_all cs)

-- the tokens, the first of which stands at the offset
abbrev pub tokens_from : ℕ → List Piece → List Token
tokens_from at [] = []
tokens_from at (gap ∷ ps) = tokens_from (at + 1) ps
tokens_from at (mark kind cs m ∷ ps) = token kind at ∷ tokens_from (at + size cs) ps

-- how deep in brackets the next token stands
abbrev pub depth_behind : ℕ → List Piece → ℕ
depth_behind d [] = d
depth_behind d (gap ∷ ps) = depth_behind d ps
depth_behind d (mark kind cs m ∷ ps) = depth_behind (depth_after kind d) ps

-- whether the last token is a colon
abbrev pub colon_behind : Bool → List Piece → Bool
colon_behind h [] = h
colon_behind h (gap ∷ ps) = colon_behind h ps
colon_behind h (mark kind cs m ∷ ps) = colon_behind (is_colon kind) ps

-- what would lengthen the last piece
abbrev pub last_more : Character → List Piece → Character
last_more m [] = m
last_more m (gap ∷ ps) = last_more class.Blank ps
last_more m (mark kind cs n ∷ ps) = last_more n ps

-- whether the character would lengthen a piece
abbrev pub grows : Character → ℕ → Bool
grows class.Blank c = has class.Blank c
grows class.Part c = has class.Part c
grows class.Remark c = has class.Remark c
grows class.NoLineEnd c = has class.NoLineEnd c
grows (class.Is d) c = has (class.Is d) c
grows _ c = false

-- ---- lists put together

pub size-append : (cs ds : List ℕ) → size (cs ++ ds) ≡ size cs + size ds
size-append cs ds = ap length (encodes-append cs ds) ∙ length-append (encode_utf8_all cs) (encode_utf8_all ds)

pub letters-append : (ps qs : List Piece) → letters (ps ++ qs) ≡ letters ps ++ letters qs
letters-append [] qs = refl
letters-append (gap ∷ ps) qs = ap (λ l. 32 ∷ l) (letters-append ps qs)
letters-append (mark kind cs m ∷ ps) qs = ap (λ l. cs ++ l) (letters-append ps qs) ∙ sym (append_assoc cs (letters ps) (letters qs))

size-gap : (l : List ℕ) → size (32 ∷ l) ≡ 1 + size l
unfolding encode
size-gap l = omega arith

pub tokens-append : (at : ℕ) (ps qs : List Piece) → tokens_from at (ps ++ qs) ≡ tokens_from at ps ++ tokens_from (at + size (letters ps)) qs
tokens-append at [] qs = let e : at ≡ at + 0 = omega arith in ap (λ n. tokens_from n qs) e
tokens-append at (gap ∷ ps) qs =
    let e : (at + 1) + size (letters ps) ≡ at + size (32 ∷ letters ps) = omega (arith, size-gap (letters ps)) in
    tokens-append (at + 1) ps qs ∙ ap (λ n. tokens_from (at + 1) ps ++ tokens_from n qs) e
tokens-append at (mark kind cs m ∷ ps) qs =
    let e : (at + size cs) + size (letters ps) ≡ at + size (cs ++ letters ps) = omega (arith, size-append cs (letters ps)) in
    ap (λ l. token kind at ∷ l) (tokens-append (at + size cs) ps qs ∙ ap (λ n. tokens_from (at + size cs) ps ++ tokens_from n qs) e)

pub depth-append : (d : ℕ) (ps qs : List Piece) → depth_behind d (ps ++ qs) ≡ depth_behind (depth_behind d ps) qs
depth-append d [] qs = refl
depth-append d (gap ∷ ps) qs = depth-append d ps qs
depth-append d (mark kind cs m ∷ ps) qs = depth-append (depth_after kind d) ps qs

pub colon-append : (h : Bool) (ps qs : List Piece) → colon_behind h (ps ++ qs) ≡ colon_behind (colon_behind h ps) qs
colon-append h [] qs = refl
colon-append h (gap ∷ ps) qs = colon-append h ps qs
colon-append h (mark kind cs m ∷ ps) qs = colon-append (is_colon kind) ps qs

pub more-append : (m : Character) (ps qs : List Piece) → last_more m (ps ++ qs) ≡ last_more (last_more m ps) qs
more-append m [] qs = refl
more-append m (gap ∷ ps) qs = more-append class.Blank ps qs
more-append m (mark kind cs n ∷ ps) qs = more-append n ps qs

-- ---- characters with their places

-- the first stands at the offset
abbrev pub plain_from : ℕ → List ℕ → List Symbol
plain_from at [] = []
plain_from at (c ∷ cs) = record { character = c; at = at } ∷ plain_from (at + length (encode_utf8 c)) cs

pub plain-append : (at : ℕ) (cs ds : List ℕ) → plain_from at (cs ++ ds) ≡ plain_from at cs ++ plain_from (at + size cs) ds
plain-append at [] ds = let e : at ≡ at + 0 = omega arith in ap (λ n. plain_from n ds) e
plain-append at (c ∷ cs) ds =
    let e : (at + length (encode_utf8 c)) + size cs ≡ at + size (c ∷ cs) = omega (arith, length-append (encode_utf8 c) (encode_utf8_all cs)) in
    ap (λ l. record { character = c; at = at } ∷ l) (plain-append (at + length (encode_utf8 c)) cs ds ∙ ap (λ n. plain_from (at + length (encode_utf8 c)) cs ++ plain_from n ds) e)

pub grows-lengthens : (m : Character) (s : Symbol) → lengthens m s ≡ grows m s.character
grows-lengthens class.Blank s = refl
grows-lengthens class.Part s = refl
grows-lengthens class.Remark s = refl
grows-lengthens class.NoLineEnd s = refl
grows-lengthens (class.Is d) s = refl
grows-lengthens _ s = refl

-- ---- tokens as they are written

-- a character, and no carriage return
abbrev pub is_clean : ℕ → Bool
is_clean c = scalar c && not (c == 13)

abbrev pub all_clean : List ℕ → Bool
all_clean [] = true
all_clean (c ∷ cs) = is_clean c && all_clean cs

-- the characters are the token, wherever one may stand and nothing that would lengthen it follows
pub record IsMark (kind : TokenKind) (written : List ℕ) (more : Character) : Type 0 where
  pub first : ℕ
  pub others : List ℕ
  pub shape : written ≡ first ∷ others
  pub clean : all_clean written ≡ true
  pub reads : (s : State) (at : ℕ) (i : List Symbol) → may_stand s ≡ true → heads (lengthens more) i ≡ false
      → (SourcePiece true s).reads (plain_from at written ++ i) (placed s kind at more) i

-- the pieces are tokens and spaces, none of which lengthens the one before it; the first stands behind what this would lengthen
abbrev pub Linked : Character → List Piece → Type 0
Linked m [] = ⊤
Linked m (gap ∷ ps) = (grows m 32 ≡ false) × Linked class.Blank ps
Linked m (mark kind cs n ∷ ps) = (heads (grows m) cs ≡ false) × IsMark kind cs n × Linked n ps

pub linked-append : (m : Character) (ps qs : List Piece) → Linked m ps → Linked (last_more m ps) qs → Linked m (ps ++ qs)
linked-append m [] qs h g = g
linked-append m (gap ∷ ps) qs h g = (h.0, linked-append class.Blank ps qs h.1 g)
linked-append m (mark kind cs n ∷ ps) qs h g = (h.0, h.1, linked-append n ps qs h.2 g)

pub heads-first : (m : Character) (at : ℕ) (cs : List ℕ) (c : ℕ) (ds : List ℕ) (i : List Symbol) → cs ≡ c ∷ ds → heads (grows m) cs ≡ false → heads (lengthens m) (plain_from at cs ++ i) ≡ false
heads-first m at cs c ds i e h =
    ap (λ l. heads (lengthens m) (plain_from at l ++ i)) e ∙ (grows-lengthens m (record { character = c; at = at }) ∙ (sym (ap (heads (grows m)) e) ∙ h))

-- what stands behind the piece before doesn't lengthen it
pub leads : (m : Character) (ps : List Piece) (at : ℕ) (i : List Symbol) → Linked m ps → heads (lengthens (last_more m ps)) i ≡ false → heads (lengthens m) (plain_from at (letters ps) ++ i) ≡ false
leads m [] at i h g = g
leads m (gap ∷ ps) at i h g = grows-lengthens m (record { character = 32; at = at }) ∙ h.0
leads m (mark kind cs n ∷ ps) at i h g =
    ap (heads (lengthens m)) (ap (λ l. l ++ i) (plain-append at cs (letters ps)) ∙ append_assoc (plain_from at cs) (plain_from (at + size cs) (letters ps)) i)
    ∙ heads-first m at cs h.1.first h.1.others (plain_from (at + size cs) (letters ps) ++ i) h.1.shape h.0

-- ---- within a line

-- a state within a line
abbrev pub within : List Token → List (List ℕ) → ℕ → List ℕ → Bool → Character → State
within made blocks depth indent header m = record { made = made; blocks = blocks; depth = depth; line = line.Open; indent = indent; header = header; more = m }

-- pieces within a line are their tokens
pub runs : (ps : List Piece) (made : List Token) (blocks : List (List ℕ)) (depth : ℕ) (indent : List ℕ) (header : Bool) (m : Character) (at : ℕ) (i : List Symbol)
    → Linked m ps → heads (lengthens (last_more m ps)) i ≡ false
    → Turns {X = Kind} (Next true) (within made blocks depth indent header m) (plain_from at (letters ps) ++ i)
    (within (made ++ tokens_from at ps) blocks (depth_behind depth ps) indent (colon_behind header ps) (last_more m ps)) i
unfolding encode
runs [] made blocks depth indent header m at i h g = stop (ap (λ l. within l blocks depth indent header m) (append-nil made)) refl
runs (gap ∷ ps) made blocks depth indent header m at i h g =
    let s : Symbol = record { character = 32; at = at } in
    let rest : List Symbol = plain_from (at + 1) (letters ps) ++ i in
    more (within made blocks depth indent header class.Blank) rest
    (grows-lengthens m s ∙ h.0, inr (inr (inr (inl (s, rest, (refl, refl), (tt, rest, stop refl refl, (refl, refl)))))))
    (runs ps made blocks depth indent header class.Blank (at + 1) i h.1 g)
runs (mark kind cs n ∷ ps) made blocks depth indent header m at i h g =
    let behind = at + size cs in
    let rest : List Symbol = plain_from behind (letters ps) ++ i in
    let text : plain_from at (cs ++ letters ps) ++ i ≡ plain_from at cs ++ rest = ap (λ l. l ++ i) (plain-append at cs (letters ps)) ∙ append_assoc (plain_from at cs) (plain_from behind (letters ps)) i in
    let all : (made ++ token kind at ∷ []) ++ tokens_from behind ps ≡ made ++ token kind at ∷ tokens_from behind ps = append_assoc made (token kind at ∷ []) (tokens_from behind ps) in
    let last : State = within (made ++ token kind at ∷ tokens_from behind ps) blocks (depth_behind (depth_after kind depth) ps) indent (colon_behind (is_colon kind) ps) (last_more n ps) in
    let follow : heads (lengthens n) rest ≡ false = leads n ps behind i h.2 g in
    let start : State = within made blocks depth indent header m in
    let next : State = within (made ++ token kind at ∷ []) blocks (depth_after kind depth) indent (is_colon kind) n in
    subst (λ l. Turns {X = Kind} (Next true) start l last i) (sym text)
    (more next rest
    (heads-first m at cs h.1.first h.1.others rest h.1.shape h.0, h.1.reads start at rest refl follow)
    (subst (λ l. Turns {X = Kind} (Next true) next rest (within l blocks (depth_behind (depth_after kind depth) ps) indent (colon_behind (is_colon kind) ps) (last_more n ps)) i) all
    (runs ps (made ++ token kind at ∷ []) blocks (depth_after kind depth) indent (is_colon kind) n behind i h.2 g)))
