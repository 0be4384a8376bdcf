-- Pieces as the whole of a source: a single line.
use Rattle.std.proofs.Common.{◌≡◌, ℕ, ◌+◌, ◌==◌, Bool, true, false, cond, not, ◌&&◌, List, [], ◌∷◌, ◌++◌, length, refl, sym, ap, ◌∙◌, subst, append-nil, append_assoc}
use Rattle.std.specs.Char.{encode_utf8}
use Rattle.std.specs.Str.{IsUtf8, encode_utf8_all, all_scalars}
use Rattle.std.proofs.lemmas.Str.{chars-encodes}
use lib.Utf8.{scalar}
use Rattle.wy_lemmas.proofs.Choices.{not_true as not-true, and-left, and-right, both_true as both}
use Rattle.wy_reading.specs.Rule.{heads, Turns}
use Rattle.wy_reading.specs.Rule.Turns.{stop, more}
use Rattle.wy_parse_front.specs.wy_lex.declared.fault.Kind.{Kind}
use Rattle.wy_parse_front.specs.wy_lex.declared.token.Token.{Token}
use Rattle.wy_parse_front.specs.wy_lex.declared.token.TokenKind.{TokenKind}
use Rattle.wy_parse_front.specs.wy_lex.declared.token.TokenKind.TheVariants as k
use Rattle.wy_parse_front.specs.wy_lex.declared.symbol.Symbol.{Symbol}
use Rattle.wy_parse_front.specs.wy_lex.declared.symbol.Character.{Character}
use Rattle.wy_parse_front.specs.wy_lex.declared.symbol.Character.TheVariants as class
use Rattle.wy_parse_front.specs.wy_lex.declared.layout.State.{State}
use Rattle.wy_parse_front.specs.wy_lex.Symbols.{line_end, placed_from, symbols}
use Rattle.wy_parse_front.specs.wy_lex.Kinds.{depth_after, continues, is_colon}
use Rattle.wy_parse_front.specs.wy_lex.Layout.{token, first_state, begun, added, placed, finished}
use Rattle.wy_parse_front.specs.wy_lex.Grammar.{lengthens, Next}
use Rattle.wy_parse_front.specs.wy_lex.Source.{Tokens}
use Rattle.wy_print_laws.proofs.round_lemmas.Pieces.{Piece, letters, size, tokens_from, depth_behind, colon_behind, last_more, plain_from, plain-append, is_clean, all_clean, Linked, leads, heads-first, within, runs}
use Rattle.wy_print_laws.proofs.round_lemmas.Pieces.Piece.{gap, mark}
use Rattle.wy_print_laws.proofs.round_lemmas.Segments.{text_of, Leads}

-- ---- clean characters

clean-append : (cs ds : List ℕ) → all_clean cs ≡ true → all_clean ds ≡ true → all_clean (cs ++ ds) ≡ true
clean-append [] ds h g = g
clean-append (c ∷ cs) ds h g = both (is_clean c) (all_clean (cs ++ ds)) (and-left (is_clean c) (all_clean cs) h) (clean-append cs ds (and-right (is_clean c) (all_clean cs) h) g)

pub linked-clean : (m : Character) (ps : List Piece) → Linked m ps → all_clean (letters ps) ≡ true
linked-clean m [] h = refl
linked-clean m (gap ∷ ps) h = linked-clean class.Blank ps h.1
linked-clean m (mark kind cs n ∷ ps) h = clean-append cs (letters ps) h.1.clean (linked-clean n ps h.2)

clean-scalars : (cs : List ℕ) → all_clean cs ≡ true → all_scalars cs ≡ true
clean-scalars [] h = refl
clean-scalars (c ∷ cs) h =
    both (scalar c) (all_scalars cs) (and-left (scalar c) (not (c == 13)) (and-left (is_clean c) (all_clean cs) h)) (clean-scalars cs (and-right (is_clean c) (all_clean cs) h))

-- no carriage return ends a line
clean-placed : (at : ℕ) (cs : List ℕ) → all_clean cs ≡ true → placed_from at cs ≡ plain_from at cs
clean-placed at [] h = refl
clean-placed at (c ∷ cs) h =
    let here : (c == 13) ≡ false = not-true (c == 13) (and-right (scalar c) (not (c == 13)) (and-left (is_clean c) (all_clean cs) h)) in
    let same : line_end c cs ≡ c = ap (λ b. cond (b && heads (λ d. d == 10) cs) 10 c) here in
    ap (λ (d : ℕ). record { character = d; at = at } ∷ placed_from (at + length (encode_utf8 c)) cs) same
    ∙ ap (λ (l : List Symbol). record { character = c; at = at } ∷ l) (clean-placed (at + length (encode_utf8 c)) cs (and-right (is_clean c) (all_clean cs) h))

pub clean-symbols : (cs : List ℕ) → all_clean cs ≡ true → symbols (encode_utf8_all cs) ≡ plain_from 0 cs
unfolding symbols
clean-symbols cs h = ap (placed_from 0) (chars-encodes cs (clean-scalars cs h)) ∙ clean-placed 0 cs h

pub clean-utf8 : (cs : List ℕ) → all_clean cs ≡ true → IsUtf8 (encode_utf8_all cs)
clean-utf8 cs h = (cs, (clean-scalars cs h, refl))

-- ---- one line

-- the first token of a source
first_within : (kind : TokenKind) (m : Character) → placed (first_state []) kind 0 m ≡ within (token kind 0 ∷ []) ([] ∷ []) (depth_after kind 0) [] (is_colon kind) m
first_within kind m = by (continues kind)
  where
    by : (b : Bool) → cond b (added (first_state []) kind 0 m) (added (begun (first_state []) 0) kind 0 m) ≡ within (token kind 0 ∷ []) ([] ∷ []) (depth_after kind 0) [] (is_colon kind) m
    by true = refl
    by false = refl

finished_line : (made : List Token) (d : ℕ) (h : Bool) (m : Character) (n : ℕ) → d ≡ 0 → finished (within made ([] ∷ []) d [] h m) n ≡ made ++ token k.LineEnd n ∷ token k.End n ∷ []
finished_line made d h m n e =
    ap (λ (f : ℕ). cond (f == 0) (((made ++ token k.LineEnd n ∷ []) ++ []) ++ token k.End n ∷ []) (made ++ token k.End n ∷ [])) e
    ∙ (ap (λ (l : List Token). l ++ token k.End n ∷ []) (append-nil (made ++ token k.LineEnd n ∷ [])) ∙ append_assoc made (token k.LineEnd n ∷ []) (token k.End n ∷ []))

line-turns : (kind : TokenKind) (cs : List ℕ) (m : Character) (qs : List Piece) → Linked class.Blank (mark kind cs m ∷ qs)
    → Turns {X = Kind} (Next true) (first_state []) (plain_from 0 (cs ++ letters qs))
    (within (token kind 0 ∷ tokens_from (0 + size cs) qs) ([] ∷ []) (depth_behind (depth_after kind 0) qs) [] (colon_behind (is_colon kind) qs) (last_more m qs)) []
line-turns kind cs m qs h =
    let behind = 0 + size cs in
    let rest : List Symbol = plain_from behind (letters qs) ++ [] in
    let text : plain_from 0 cs ++ rest ≡ plain_from 0 (cs ++ letters qs) = ap (λ (l : List Symbol). plain_from 0 cs ++ l) (append-nil (plain_from behind (letters qs))) ∙ sym (plain-append 0 cs (letters qs)) in
    let next : State = within (token kind 0 ∷ []) ([] ∷ []) (depth_after kind 0) [] (is_colon kind) m in
    let last : State = within (token kind 0 ∷ tokens_from behind qs) ([] ∷ []) (depth_behind (depth_after kind 0) qs) [] (colon_behind (is_colon kind) qs) (last_more m qs) in
    let follow : heads (lengthens m) rest ≡ false = leads m qs behind [] h.2 refl in
    let piece = h.1.reads (first_state []) 0 rest refl follow in
    subst (λ l. Turns {X = Kind} (Next true) (first_state []) l last []) text
    (more next rest
    (heads-first class.Blank 0 cs h.1.first h.1.others rest h.1.shape h.0, subst (λ s. (Rattle.wy_parse_front.specs.wy_lex.Grammar.Piece true (first_state [])).reads (plain_from 0 cs ++ rest) s rest) (first_within kind m) piece)
    (runs qs (token kind 0 ∷ []) ([] ∷ []) (depth_after kind 0) [] (is_colon kind) m behind [] h.2 refl))

-- pieces that begin with a token are the tokens of a source of one line
pub one-line : (ps : List Piece) → Leads ps → Linked class.Blank ps → depth_behind 0 ps ≡ 0
    → Tokens (text_of ps) (tokens_from 0 ps ++ token k.LineEnd (length (text_of ps)) ∷ token k.End (length (text_of ps)) ∷ [])
one-line [] l h d = absurd l
one-line (gap ∷ ps) l h d = absurd l
one-line (mark kind cs m ∷ qs) l h d =
    let ps : List Piece = mark kind cs m ∷ qs in
    let n = length (text_of ps) in
    let clean = linked-clean class.Blank ps h in
    let symbols_are : symbols (text_of ps) ≡ plain_from 0 (letters ps) = clean-symbols (letters ps) clean in
    let begins : tokens_from 0 ps ≡ token kind 0 ∷ tokens_from (0 + size cs) qs = refl in
    let last = within (token kind 0 ∷ tokens_from (0 + size cs) qs) ([] ∷ []) (depth_behind (depth_after kind 0) qs) [] (colon_behind (is_colon kind) qs) (last_more m qs) in
    let ends = sym (finished_line (token kind 0 ∷ tokens_from (0 + size cs) qs) (depth_behind (depth_after kind 0) qs) (colon_behind (is_colon kind) qs) (last_more m qs) n d) in
    let ts : List Token = tokens_from 0 ps ++ token k.LineEnd n ∷ token k.End n ∷ [] in
    let source : (Rattle.wy_parse_front.specs.wy_lex.Grammar.Source n Rattle.wy_parse_front.specs.wy_lex.Source.profile).reads (plain_from 0 (letters ps)) ts [] =
    (ts, [], ([], plain_from 0 (letters ps), stop refl refl, (last, [], line-turns kind cs m qs h, (ends, refl))), (tt, [], (refl, refl), (refl, refl))) in
    (clean-utf8 (letters ps) clean, subst (λ i. (Rattle.wy_parse_front.specs.wy_lex.Grammar.Source n Rattle.wy_parse_front.specs.wy_lex.Source.profile).reads i ts []) (sym symbols_are) source)
