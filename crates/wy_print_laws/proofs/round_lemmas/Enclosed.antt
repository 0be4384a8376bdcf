-- Pieces in brackets, and words, as items.
use Rattle.std.proofs.Common.{◌≡◌, ℕ, zero, suc, ◌+◌, ◌≤◌, ◌<◌, ◌==◌, ◌||◌, Bool, true, false, true≢false, List, [], ◌∷◌, ◌++◌, ◌⊎◌, inl, inr, refl, sym, ap, ◌∙◌, subst, arith, append-nil}
use Rattle.std.specs.Char.{is_ascii_alphabetic}
use Rattle.std.specs.Str.{chars, encode_utf8_all}
use Rattle.std.proofs.lemmas.Str.{encodes-chars}
use lib.Utf8.{encode}
use Rattle.wy_data.specs.Words.{IsName, is_start, is_part, is_word, all_parts}
use Rattle.wy_data.proofs.WordLemmas.{is_start-ascii, is_part-ascii}
use Rattle.wy_lemmas.proofs.Choices.{and-left as and-first, or_left as or-left, or_right as or-right}
use Rattle.wy_reading.specs.Rule.{among}
use Rattle.wy_parse_front.specs.wy_lex.declared.token.Token.{Token}
use Rattle.wy_parse_front.specs.wy_lex.declared.token.TokenKind.{TokenKind}
use Rattle.wy_parse_front.specs.wy_lex.declared.token.TokenKind.TheVariants as k
use Rattle.wy_parse_front.specs.wy_lex.declared.symbol.Character.{Character}
use Rattle.wy_parse_front.specs.wy_lex.declared.symbol.Character.TheVariants as class
use Rattle.wy_parse_front.specs.wy_lex.Symbols.{is_digit}
use Rattle.wy_parse_front.specs.wy_lex.Layout.{token}
use Rattle.wy_parse_front.specs.wy_parse_grammar.Sorts.{is}
use Rattle.wy_parse_front.specs.wy_parse_grammar.Steps.{Inner, Name}
use Rattle.wy_print_laws.proofs.round_lemmas.Pieces.{Piece, letters, size, tokens_from, grows, IsMark}
use Rattle.wy_print_laws.proofs.round_lemmas.Pieces.Piece.{mark}
use Rattle.wy_print_laws.proofs.round_lemmas.Marks.{name-mark}
use Rattle.wy_print_laws.proofs.round_lemmas.Segments.{text_of, text-both, Segment, joined, behind_less, before_more, Just, IsClosed, closed-nil, closed-append, opens, closes, closed-around, begins_item, Before, After, after-item, before-nothing, before-is, Item}
use Rattle.wy_print_laws.proofs.round_lemmas.Marked.{open_paren-mark, close_paren-mark, open_bracket-mark, close_bracket-mark, open_brace-mark, close_brace-mark}
use Rattle.wy_print_laws.proofs.round_lemmas.Commas.{mark-reads, tokens-behind}

-- ---- what begins items

-- a quote, a minus, `[`, `(`, `{` and `!`
pub begins-sign : (c : ℕ) → among (34 ∷ 45 ∷ 91 ∷ 40 ∷ 123 ∷ 33 ∷ []) c ≡ true → begins_item c ≡ true
begins-sign c h = or-right (is_start c) _ (or-right (is_digit c) (among (34 ∷ 45 ∷ 91 ∷ 40 ∷ 123 ∷ 33 ∷ []) c) h)

pub begins-digit : (c : ℕ) → is_digit c ≡ true → begins_item c ≡ true
begins-digit c h = or-right (is_start c) _ (or-left (is_digit c) _ h)

pub begins-letter : (c : ℕ) → c < 128 → (is_ascii_alphabetic c || (c == 95)) ≡ true → begins_item c ≡ true
begins-letter c le h = or-left (is_start c) _ (is_start-ascii c le ∙ h)

-- ---- words

-- a token by itself, which begins an item
pub single-item : (kind : TokenKind) (c : ℕ) (cs : List ℕ) (n : Character) → IsMark kind (c ∷ cs) n → begins_item c ≡ true → After false n → IsClosed (mark kind (c ∷ cs) n ∷ []) → Item false false (mark kind (c ∷ cs) n ∷ [])
single-item kind c cs n h b a f = record {
  segment = record { linked = λ m q. (q.0 c b, h, tt); last = λ m q. a };
  leads = tt;
  closed = f;
}

-- a sign before an item, which that doesn't lengthen
pub prefix-item : (kind : TokenKind) (c d : ℕ) (b e : Bool) (ps : List Piece) → IsMark kind (c ∷ []) (class.Is d) → begins_item c ≡ true → begins_item d ≡ false → (124 == d) ≡ false → IsClosed (mark kind (c ∷ []) (class.Is d) ∷ []) → Item b e ps
    → Item false e (mark kind (c ∷ []) (class.Is d) ∷ ps)
prefix-item kind c d b e ps h g n bar f x = record {
  segment = joined (mark kind (c ∷ []) (class.Is d) ∷ []) ps (record { linked = λ m q. (q.0 c g, h, tt); last = λ m q. (before-is d n, λ y. bar) }) x.segment;
  leads = tt;
  closed = closed-append (mark kind (c ∷ []) (class.Is d) ∷ []) ps f x.closed;
}

-- a name as a piece
abbrev pub name_piece : List ℕ → Piece
name_piece name = mark (k.Name name) (chars name) class.Part

pub name-item : (name : List ℕ) → IsName name → Item false false (name_piece name ∷ [])
name-item name h = by (chars name) h.1 (name-mark name h)
  where
    by : (cs : List ℕ) → is_word cs ≡ true → IsMark (k.Name name) cs class.Part → Item false false (mark (k.Name name) cs class.Part ∷ [])
    by [] w m = absurd (true≢false (sym w))
    by (c ∷ cs) w m = single-item (k.Name name) c cs class.Part m (or-left (is_start c) _ (and-first (is_start c) (all_parts cs) w)) tt (record { closed = λ d. refl })

pub name-text : (name : List ℕ) → IsName name → text_of (name_piece name ∷ []) ≡ name
name-text name h = ap encode_utf8_all (append-nil (chars name)) ∙ encodes-chars name h.0

pub name-reads : (name : List ℕ) (at : ℕ) (j : List Token) → Name.reads (token (k.Name name) at ∷ j) (at, name) j
name-reads name at j = (token (k.Name name) at, j, (refl, refl), (refl, refl))

-- ---- brackets

-- what may be lengthened before a closing bracket: an item, or a space
abbrev pub BeforeClosing : Character → Type 0
BeforeClosing m = (m ≡ class.Blank) ⊎ After true m

-- what stands in brackets
pub record IsInside (ps : List Piece) : Type 0 where
  pub segment : Segment (Just class.Nothing) ps BeforeClosing
  pub closed : IsClosed ps

pub inside-none : IsInside []
inside-none = record { segment = record { linked = λ m q. tt; last = λ m q. inr (subst (After true) (sym q) tt) }; closed = closed-nil }

pub inside-item : (ps : List Piece) → Item true true ps → IsInside ps
inside-item ps h = record {
  segment = before_more ps (λ m q. inr q) (behind_less ps (λ m q. subst (Before true) (sym q) (before-nothing, λ b. refl)) h.segment);
  closed = h.closed;
}

-- a pair of brackets
pub record Pair (o : TokenKind) (x : ℕ) (c : TokenKind) (y : ℕ) : Type 0 where
  pub opening : IsMark o (x ∷ []) class.Nothing
  pub closing : IsMark c (y ∷ []) class.Nothing
  pub opens_one : opens o
  pub closes_one : closes c
  pub begins : begins_item x ≡ true
  pub opening_apart : is_part x ≡ false
  pub opening_no_bar : (x == 124) ≡ false
  pub closing_apart : is_part y ≡ false
  pub closing_no_bar : (y == 124) ≡ false
  pub closing_no_blank : grows class.Blank y ≡ false
  pub opening_code : encode x ≡ x ∷ []
  pub closing_code : encode y ≡ y ∷ []

pub parens : Pair k.OpenParen 40 k.CloseParen 41
unfolding encode
parens = record { opening = open_paren-mark; closing = close_paren-mark; opens_one = λ d. refl; closes_one = λ d. refl; begins = begins-sign 40 refl; opening_apart = is_part-ascii 40 (omega arith); opening_no_bar = refl; closing_apart = is_part-ascii 41 (omega arith); closing_no_bar = refl; closing_no_blank = refl; opening_code = refl; closing_code = refl }

pub square : Pair k.OpenBracket 91 k.CloseBracket 93
unfolding encode
square = record { opening = open_bracket-mark; closing = close_bracket-mark; opens_one = λ d. refl; closes_one = λ d. refl; begins = begins-sign 91 refl; opening_apart = is_part-ascii 91 (omega arith); opening_no_bar = refl; closing_apart = is_part-ascii 93 (omega arith); closing_no_bar = refl; closing_no_blank = refl; opening_code = refl; closing_code = refl }

pub curly : Pair k.OpenBrace 123 k.CloseBrace 125
unfolding encode
curly = record { opening = open_brace-mark; closing = close_brace-mark; opens_one = λ d. refl; closes_one = λ d. refl; begins = begins-sign 123 refl; opening_apart = is_part-ascii 123 (omega arith); opening_no_bar = refl; closing_apart = is_part-ascii 125 (omega arith); closing_no_bar = refl; closing_no_blank = refl; opening_code = refl; closing_code = refl }

abbrev pub enclosed : TokenKind → ℕ → TokenKind → ℕ → List Piece → List Piece
enclosed o x c y ps = mark o (x ∷ []) class.Nothing ∷ (ps ++ mark c (y ∷ []) class.Nothing ∷ [])

pub enclosed-segment : (P : Character → Type 0) (o : TokenKind) (x : ℕ) (c : TokenKind) (y : ℕ) (ps : List Piece) → Pair o x c y → ((m : Character) → P m → grows m x ≡ false) → IsInside ps
    → Segment P (enclosed o x c y ps) (After false)
enclosed-segment P o x c y ps b f h =
    joined (mark o (x ∷ []) class.Nothing ∷ []) (ps ++ mark c (y ∷ []) class.Nothing ∷ [])
    (record { linked = λ m p. (f m p, b.opening, tt); last = λ m p. refl })
    (joined ps (mark c (y ∷ []) class.Nothing ∷ []) h.segment
    (record { linked = λ m p. (closes_there m p, b.closing, tt); last = λ m p. tt }))
  where
    closes_there : (m : Character) → BeforeClosing m → grows m y ≡ false
    closes_there m (inl q) = ap (λ n. grows n y) q ∙ b.closing_no_blank
    closes_there m (inr q) = after-item true m y q b.closing_apart (λ e. b.closing_no_bar)

pub enclosed-closed : (o : TokenKind) (x : ℕ) (c : TokenKind) (y : ℕ) (ps : List Piece) → Pair o x c y → IsInside ps → IsClosed (enclosed o x c y ps)
enclosed-closed o x c y ps b h = closed-around o c (x ∷ []) (y ∷ []) class.Nothing class.Nothing ps b.opens_one b.closes_one h.closed

-- in brackets, as an item
pub enclosed-item : (o : TokenKind) (x : ℕ) (c : TokenKind) (y : ℕ) (ps : List Piece) → Pair o x c y → IsInside ps → Item false false (enclosed o x c y ps)
enclosed-item o x c y ps b h = record {
  segment = enclosed-segment (Before false) o x c y ps b (λ m q. q.0 x b.begins) h;
  leads = tt;
  closed = enclosed-closed o x c y ps b h;
}

pub enclosed-text : (o : TokenKind) (x : ℕ) (c : TokenKind) (y : ℕ) (ps : List Piece) (text : List ℕ) → Pair o x c y → text_of ps ≡ text → text_of (enclosed o x c y ps) ≡ x ∷ (text ++ y ∷ [])
enclosed-text o x c y ps text b e =
    text-both (mark o (x ∷ []) class.Nothing ∷ []) (ps ++ mark c (y ∷ []) class.Nothing ∷ []) (x ∷ []) (text ++ y ∷ []) (code x b.opening_code) (text-both ps (mark c (y ∷ []) class.Nothing ∷ []) text (y ∷ []) e (code y b.closing_code))
  where
    code : (d : ℕ) → encode d ≡ d ∷ [] → encode_utf8_all (d ∷ []) ≡ d ∷ []
    code d e = append-nil (encode d) ∙ e

pub enclosed-tokens : (at : ℕ) (o : TokenKind) (x : ℕ) (c : TokenKind) (y : ℕ) (ps : List Piece) (j : List Token)
    → tokens_from at (enclosed o x c y ps) ++ j ≡ token o at ∷ (tokens_from (at + size (x ∷ [])) ps ++ token c ((at + size (x ∷ [])) + size (letters ps)) ∷ j)
enclosed-tokens at o x c y ps j = ap (λ (l : List Token). token o at ∷ l) (tokens-behind (at + size (x ∷ [])) ps (mark c (y ∷ []) class.Nothing ∷ []) j)

-- a closing bracket inside of which a level is left
pub inner-reads : (levels c : ℕ) (kind : TokenKind) (at : ℕ) (i : List Token) → 1 ≤ levels → is c (token kind at) ≡ true → (Inner levels c).reads (token kind at ∷ i) at i
inner-reads zero c kind at i le e = absurd (omega (arith, le))
inner-reads (suc levels) c kind at i le e = mark-reads c kind at i e
