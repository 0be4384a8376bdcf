-- Lines of a source, each with its level and its pieces, and the tokens that they are cut into.
use Rattle.std.proofs.Common.{◌≡◌, ℕ, zero, suc, ◌+◌, ◌-◌, ◌≤◌, nat_le, nat_lt, Option, Some, None, Bool, true, false, cond, ◌&&◌, true≢false, List, [], ◌∷◌, ◌++◌, length, ◌⊎◌, inl, inr, refl, sym, ap, ap₂, ◌∙◌, subst, arith, append-nil, append_assoc, length-append}
use Rattle.std.specs.Bool.{⊤}
use Rattle.std.specs.Char.{encode_utf8}
use Rattle.wy_reading.specs.Rule.{Turns, Letter}
use Rattle.wy_reading.specs.Rule.Turns.{stop, more}
use Rattle.wy_parse_front.specs.wy_lex.declared.fault.Kind.{Kind}
use Rattle.wy_parse_front.specs.wy_lex.declared.token.Token.{Token}
use Rattle.wy_parse_front.specs.wy_lex.declared.token.TokenKind.{TokenKind}
use Rattle.wy_parse_front.specs.wy_lex.declared.token.TokenKind.TheVariants as k
use Rattle.wy_parse_front.specs.wy_lex.declared.symbol.Symbol.{Symbol}
use Rattle.wy_parse_front.specs.wy_lex.declared.symbol.Character.TheVariants as class
use Rattle.wy_parse_front.specs.wy_lex.declared.layout.Line.TheVariants as line
use Rattle.wy_parse_front.specs.wy_lex.declared.layout.State.{State}
use Rattle.wy_parse_front.specs.wy_lex.Symbols.{has, holds}
use Rattle.wy_parse_front.specs.wy_lex.Kinds.{continues}
use Rattle.wy_parse_front.specs.wy_lex.Layout.{token, level, may_stand, outs, entered, begun}
use Rattle.wy_parse_front.specs.wy_lex.Lines.{IsDeeper, IsNest, Begins, times, all_at}
use Rattle.wy_parse_front.specs.wy_lex.Lines.Begins.{continues as in_block, opens as new_block}
use Rattle.wy_parse_front.proofs.wy_lex_proofs.LineBegins.{begins-fits, begins-entered, begins-nest}
use Rattle.wy_print.specs.Pieces.{step_in}
use Rattle.wy_print_laws.proofs.round_lemmas.Pieces.{Piece, letters, size, tokens_from, depth_behind, colon_behind, last_more, grows, plain_from, is_clean, all_clean, Linked}
use Rattle.wy_print_laws.proofs.round_lemmas.Pieces.Piece.{gap, mark}
use Rattle.wy_print_laws.proofs.round_lemmas.Marks.{all_ascii}
use Rattle.wy_print_laws.proofs.round_lemmas.Segments.{Leads}

-- ---- lines

-- a line of its own, or one that continues the line before it, with its level; or a blank line
pub data Line : Type 0 where
  fresh : (level : ℕ) (ps : List Piece) → Line
  further : (level : ℕ) (ps : List Piece) → Line
  blank : Line

-- the indentation of a level
abbrev pub margin : ℕ → List ℕ
margin zero = []
margin (suc n) = margin n ++ step_in

-- the characters before the first line's pieces
abbrev pub lead : List Line → List ℕ
lead [] = []
lead (fresh l ps ∷ ls) = margin l
lead (further l ps ∷ ls) = margin l
lead (blank ∷ ls) = []

-- all behind them
abbrev pub body : List Line → List ℕ
body [] = []
body (fresh l ps ∷ ls) = letters ps ++ 10 ∷ (lead ls ++ body ls)
body (further l ps ∷ ls) = letters ps ++ 10 ∷ (lead ls ++ body ls)
body (blank ∷ ls) = 10 ∷ (lead ls ++ body ls)

-- ---- tokens

-- before a line of the one level, where blocks are open up to the other: blocks end, or one begins
abbrev pub entry : ℕ → ℕ → ℕ → List Token
entry from to at = cond (nat_le to from) (outs (from - to) at) (token k.BlockIn at ∷ [])

-- where the pieces of the line behind this end of a line begin
abbrev pub next_at : ℕ → List Line → ℕ
next_at end ls = (end + 1) + size (lead ls)

-- the tokens behind a line that ends at the place: the first line's pieces begin at `at`, and blocks are open up to the level
abbrev pub behind : ℕ → ℕ → ℕ → List Line → List Token
behind end at open_level [] = token k.LineEnd end ∷ (outs open_level at ++ token k.End at ∷ [])
behind end at open_level (fresh l ps ∷ ls) = token k.LineEnd end ∷ (entry open_level l at ++ (tokens_from at ps ++ behind (at + size (letters ps)) (next_at (at + size (letters ps)) ls) l ls))
behind end at open_level (further l ps ∷ ls) = tokens_from at ps ++ behind (at + size (letters ps)) (next_at (at + size (letters ps)) ls) open_level ls
behind end at open_level (blank ∷ ls) = behind end (next_at at ls) open_level ls

-- ---- lines that may stand behind one another

-- whether the first piece continues a line
abbrev pub continues_first : List Piece → Bool
continues_first [] = false
continues_first (gap ∷ ps) = false
continues_first (mark kind cs m ∷ ps) = continues kind

-- pieces that are a line by themselves
pub record IsBody (ps : List Piece) : Type 0 where
  pub leads : Leads ps
  pub linked : Linked class.Blank ps
  pub closed : depth_behind 0 ps ≡ 0
  pub last : grows (last_more class.Blank ps) 10 ≡ false

-- a line stands in an open block, or in a new one behind a colon
abbrev pub Good : ℕ → Bool → List Line → Type 0
Good open_level colon [] = ⊤
Good open_level colon (fresh l ps ∷ ls) = IsBody ps × (continues_first ps ≡ false) × ((l ≤ open_level) ⊎ ((l ≡ suc open_level) × (colon ≡ true))) × Good l (colon_behind colon ps) ls
Good open_level colon (further l ps ∷ ls) = IsBody ps × (continues_first ps ≡ true) × (l ≤ open_level) × Good open_level (colon_behind colon ps) ls
Good open_level colon (blank ∷ ls) = Good open_level colon ls

-- ---- indentations

ascii-join : (cs ds : List ℕ) → all_ascii cs ≡ true → all_ascii ds ≡ true → all_ascii (cs ++ ds) ≡ true
ascii-join [] ds h g = g
ascii-join (c ∷ cs) ds h g = by (nat_lt c 128) (all_ascii cs) h (λ x. ascii-join cs ds x g)
  where
    by : (a b : Bool) → (a && b) ≡ true → (b ≡ true → all_ascii (cs ++ ds) ≡ true) → (a && all_ascii (cs ++ ds)) ≡ true
    by true b x f = f x
    by false b x f = absurd (true≢false (sym x))

pub margin-ascii : (n : ℕ) → all_ascii (margin n) ≡ true
margin-ascii zero = refl
margin-ascii (suc n) = ascii-join (margin n) step_in (margin-ascii n) refl

pub clean-join : (cs ds : List ℕ) → all_clean cs ≡ true → all_clean ds ≡ true → all_clean (cs ++ ds) ≡ true
clean-join [] ds h g = g
clean-join (c ∷ cs) ds h g = by (is_clean c) (all_clean cs) h (λ x. clean-join cs ds x g)
  where
    by : (a b : Bool) → (a && b) ≡ true → (b ≡ true → all_clean (cs ++ ds) ≡ true) → (a && all_clean (cs ++ ds)) ≡ true
    by true b x f = f x
    by false b x f = absurd (true≢false (sym x))

margin-clean : (n : ℕ) → all_clean (margin n) ≡ true
margin-clean zero = refl
margin-clean (suc n) = clean-join (margin n) step_in (margin-clean n) refl

-- all are blanks
abbrev all_blank : List ℕ → Bool
all_blank [] = true
all_blank (c ∷ cs) = has class.Blank c && all_blank cs

blank-join : (cs ds : List ℕ) → all_blank cs ≡ true → all_blank ds ≡ true → all_blank (cs ++ ds) ≡ true
blank-join [] ds h g = g
blank-join (c ∷ cs) ds h g = by (has class.Blank c) (all_blank cs) h (λ x. blank-join cs ds x g)
  where
    by : (a b : Bool) → (a && b) ≡ true → (b ≡ true → all_blank (cs ++ ds) ≡ true) → (a && all_blank (cs ++ ds)) ≡ true
    by true b x f = f x
    by false b x f = absurd (true≢false (sym x))

margin-blank : (n : ℕ) → all_blank (margin n) ≡ true
margin-blank zero = refl
margin-blank (suc n) = blank-join (margin n) step_in (margin-blank n) refl

pub lead-blank : (ls : List Line) → all_blank (lead ls) ≡ true
lead-blank [] = refl
lead-blank (fresh l ps ∷ ls) = margin-blank l
lead-blank (further l ps ∷ ls) = margin-blank l
lead-blank (blank ∷ ls) = refl

pub lead-ascii : (ls : List Line) → all_ascii (lead ls) ≡ true
lead-ascii [] = refl
lead-ascii (fresh l ps ∷ ls) = margin-ascii l
lead-ascii (further l ps ∷ ls) = margin-ascii l
lead-ascii (blank ∷ ls) = refl

pub lead-clean : (ls : List Line) → all_clean (lead ls) ≡ true
lead-clean [] = refl
lead-clean (fresh l ps ∷ ls) = margin-clean l
lead-clean (further l ps ∷ ls) = margin-clean l
lead-clean (blank ∷ ls) = refl

-- blanks are read as a word of them
pub blanks-read : (cs : List ℕ) (at : ℕ) (v i : List Symbol) → all_blank cs ≡ true → Turns {X = Kind} (Letter (holds class.Blank)) v (plain_from at cs ++ i) (v ++ plain_from at cs) i
blanks-read [] at v i h = stop (append-nil v) refl
blanks-read (c ∷ cs) at v i h =
    let s : Symbol = record { character = c; at = at } in
    let there = at + length (encode_utf8 c) in
    more (v ++ s ∷ []) (plain_from there cs ++ i) (s, plain_from there cs ++ i, (first (has class.Blank c) (all_blank cs) h, refl), (refl, refl))
    (subst (λ l. Turns {X = Kind} (Letter (holds class.Blank)) (v ++ s ∷ []) (plain_from there cs ++ i) l i) (append_assoc v (s ∷ []) (plain_from there cs)) (blanks-read cs there (v ++ s ∷ []) i (second (has class.Blank c) (all_blank cs) h)))
  where
    first : (a b : Bool) → (a && b) ≡ true → a ≡ true
    first true b x = refl
    first false b x = absurd (true≢false (sym x))

    second : (a b : Bool) → (a && b) ≡ true → b ≡ true
    second true b x = x
    second false b x = absurd (true≢false (sym x))

-- ---- open blocks

-- the indentations of the blocks that are open up to the level
abbrev pub blocks : ℕ → List (List ℕ)
blocks zero = [] ∷ []
blocks (suc n) = blocks n ++ margin (suc n) ∷ []

-- those before the level's
abbrev outer : ℕ → List (List ℕ)
outer zero = []
outer (suc n) = blocks n

blocks-cut : (n : ℕ) → blocks n ≡ outer n ++ margin n ∷ []
blocks-cut zero = refl
blocks-cut (suc n) = refl

deeper : (n : ℕ) → IsDeeper (margin n) (margin (suc n))
deeper n = record { first = 32; more = 32 ∷ 32 ∷ 32 ∷ []; whole = refl }

pub begins-new : (n : ℕ) → Begins true (margin (suc n)) (blocks n) (blocks (suc n)) (k.BlockIn ∷ [])
begins-new n = new_block (outer n) (margin n) (blocks-cut n) (deeper n) refl refl refl

blocks-nest : (n : ℕ) → IsNest (blocks n)
blocks-nest zero = (refl, tt)
blocks-nest (suc n) = begins-nest true (margin (suc n)) (blocks n) (blocks (suc n)) (k.BlockIn ∷ []) (blocks-nest n) (begins-new n)

pub blocks-length : (n : ℕ) → length (blocks n) ≡ suc n
blocks-length zero = refl
blocks-length (suc n) = let h = blocks-length n in omega (arith, h, length-append (blocks n) (margin (suc n) ∷ []))

-- the blocks inside of a level
pub record Inside (l n : ℕ) : Type 0 where
  pub inner : List (List ℕ)
  pub cut : blocks n ≡ outer l ++ margin l ∷ inner
  pub many : length inner ≡ n - l

inside-self : (l n : ℕ) → n ≡ l → Inside l n
inside-self l n e = subst (λ m. Inside l m) (sym e) (record { inner = []; cut = blocks-cut l; many = omega arith })

pub blocks-inside : (n l : ℕ) → l ≤ n → Inside l n
blocks-inside zero l le = let e : zero ≡ l = omega (arith, le) in inside-self l zero e
blocks-inside (suc n) l le = by (λ h. blocks-inside n l h) cases
  where
    cases : (l ≤ n) ⊎ (suc n ≡ l)
    cases = grind (arith, le)

    by : (l ≤ n → Inside l n) → (l ≤ n) ⊎ (suc n ≡ l) → Inside l (suc n)
    by ih (inl h) =
        let d = ih h in
        record {
          inner = d.inner ++ margin (suc n) ∷ [];
          cut = ap (λ b. b ++ margin (suc n) ∷ []) d.cut ∙ append_assoc (outer l) (margin l ∷ d.inner) (margin (suc n) ∷ []);
          many = let m = d.many in omega (arith, m, h, length-append d.inner (margin (suc n) ∷ []));
        }
    by ih (inr e) = inside-self l (suc n) e

pub begins-open : (c : Bool) (n l : ℕ) (d : Inside l n) → Begins c (margin l) (blocks n) (blocks l) (times (length d.inner))
begins-open c n l d = in_block (outer l) d.inner d.cut (blocks-cut l) refl

-- ---- states between lines

-- a line has ended at the place, and the next one's indentation was read
abbrev pub ended : List Token → ℕ → ℕ → List ℕ → Bool → State
ended made open_level end indent colon = record { made = made; blocks = blocks open_level; depth = 0; line = line.Ended end; indent = indent; header = colon; more = class.Blank }

-- a line begins where a token stands
abbrev pub begins_in : List Token → ℕ → Bool → State
begins_in made open_level colon = record { made = made; blocks = blocks open_level; depth = 0; line = line.Open; indent = []; header = colon; more = class.Blank }

entered-parts : (made : List Token) (open_level end : ℕ) (indent : List ℕ) (colon : Bool) (at : ℕ) (o : Option ℕ)
    → (let s = entered o (ended made open_level end indent colon) at in
    s ≡ record { made = s.made; blocks = s.blocks; depth = 0; line = line.Open; indent = []; header = colon; more = class.Blank })
entered-parts made open_level end indent colon at (Some n) = refl
entered-parts made open_level end indent colon at None = refl

pub outs-times : (n at : ℕ) → all_at at (times n) ≡ outs n at
outs-times zero at = refl
outs-times (suc n) at = ap (λ l. token k.BlockOut at ∷ l) (outs-times n at)

pub enters : (made : List Token) (open_level end : ℕ) (indent : List ℕ) (colon : Bool) (at to : ℕ) (between : List TokenKind) → Begins colon indent (blocks open_level) (blocks to) between
    → begun (ended made open_level end indent colon) at ≡ begins_in ((made ++ token k.LineEnd end ∷ []) ++ all_at at between) to colon
enters made open_level end indent colon at to between b =
    let s : State = ended made open_level end indent colon in
    let e = begins-entered s at (blocks to) between (blocks-nest open_level) b in
    entered-parts made open_level end indent colon at (level (blocks open_level) indent)
    ∙ ap₂ (λ (bs : List (List ℕ)) (ts : List Token). record { made = ts; blocks = bs; depth = 0; line = line.Open; indent = []; header = colon; more = class.Blank }) e.0 e.1

-- a token may begin the line
pub may-begin : (made : List Token) (open_level end : ℕ) (indent : List ℕ) (colon : Bool) (to : ℕ) (between : List TokenKind) → Begins colon indent (blocks open_level) (blocks to) between
    → may_stand (ended made open_level end indent colon) ≡ true
may-begin made open_level end indent colon to between b = begins-fits colon indent (blocks open_level) (blocks to) between (blocks-nest open_level) b
