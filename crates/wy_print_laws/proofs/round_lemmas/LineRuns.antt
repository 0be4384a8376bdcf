-- Lines are cut into their tokens, from the first to the end of the source.
use Rattle.std.proofs.Common.{◌≡◌, ℕ, suc, ◌+◌, ◌-◌, ◌≤◌, nat_le, Bool, true, false, cond, List, [], ◌∷◌, ◌++◌, length, ◌⊎◌, inl, inr, refl, sym, ap, ap₂, ◌∙◌, subst, arith, append_assoc}
use Rattle.std.specs.Str.{encode_utf8_all}
use lib.Utf8.{encode}
use Rattle.wy_reading.specs.Rule.{Rule, heads, Or, Turns}
use Rattle.wy_reading.specs.Rule.Turns.{stop, more}
use Rattle.wy_parse_front.specs.wy_lex.declared.fault.Kind.{Kind}
use Rattle.wy_parse_front.specs.wy_lex.declared.token.Token.{Token}
use Rattle.wy_parse_front.specs.wy_lex.declared.token.TokenKind.{TokenKind}
use Rattle.wy_parse_front.specs.wy_lex.declared.token.TokenKind.TheVariants as k
use Rattle.wy_parse_front.specs.wy_lex.declared.symbol.Symbol.{Symbol}
use Rattle.wy_parse_front.specs.wy_lex.declared.symbol.Character.{Character}
use Rattle.wy_parse_front.specs.wy_lex.declared.symbol.Character.TheVariants as class
use Rattle.wy_parse_front.specs.wy_lex.declared.layout.State.{State}
use Rattle.wy_parse_front.specs.wy_lex.Symbols.{bytes_of}
use Rattle.wy_parse_front.specs.wy_lex.Kinds.{depth_after, continues, is_colon}
use Rattle.wy_parse_front.specs.wy_lex.Layout.{token, may_stand, outs, first_state, begun, added, placed, finished}
use Rattle.wy_parse_front.specs.wy_lex.Grammar.{lengthens, OtherPiece, SlashPiece, Gap, Break, Piece as SourcePiece, Next, Source}
use Rattle.wy_parse_front.specs.wy_lex.Lines.{times, all_at, Begins}
use Rattle.wy_parse_front.specs.wy_lex.Source.{Tokens, profile}
use Rattle.wy_print_laws.proofs.round_lemmas.Pieces.{Piece, letters, size, size-append, tokens_from, depth_behind, colon_behind, last_more, grows, plain_from, plain-append, grows-lengthens, all_clean, Linked, leads, heads-first, within, runs}
use Rattle.wy_print_laws.proofs.round_lemmas.Pieces.Piece.{gap, mark}
use Rattle.wy_print_laws.proofs.round_lemmas.Marks.{encodes-ascii, codes-plain}
use Rattle.wy_print_laws.proofs.round_lemmas.Sources.{linked-clean, clean-symbols, clean-utf8}
use Rattle.wy_print_laws.proofs.round_lemmas.Lines.{Line, margin, lead, body, entry, next_at, behind, continues_first, IsBody, Good, clean-join, lead-blank, lead-ascii, lead-clean, blanks-read, blocks, blocks-length, blocks-inside, begins-open, begins-new, ended, enters, may-begin, outs-times}
use Rattle.wy_print_laws.proofs.round_lemmas.Lines.Line.{fresh, further, blank}

turns-join : {A : Type 0} (turn : A → Rule Symbol Kind A) (a : A) (i : List Symbol) (b : A) (j : List Symbol) (c : A) (l : List Symbol) → Turns turn a i b j → Turns turn b j c l → Turns turn a i c l
turns-join turn a i b j c l (stop e f) r = subst (λ x. Turns turn x i c l) e (subst (λ m. Turns turn b m c l) (sym f) r)
turns-join turn a i b j c l (more d m q rest) r = more d m q (turns-join turn d m b j c l rest r)

lead-bytes : (at : ℕ) (ls : List Line) → bytes_of (plain_from at (lead ls)) ≡ lead ls
lead-bytes at ls = ap encode_utf8_all (codes-plain at (lead ls)) ∙ encodes-ascii (lead ls) (lead-ascii ls)

-- ---- the end of a line

-- a line end and the next line's indentation, behind the pieces of a line
break-run : (made : List Token) (open_level : ℕ) (indent : List ℕ) (colon : Bool) (m : Character) (at : ℕ) (ls : List Line) → grows m 10 ≡ false
    → (Next true (within made (blocks open_level) 0 indent colon m)).reads (record { character = 10; at = at } ∷ (plain_from (at + 1) (lead ls) ++ plain_from (next_at at ls) (body ls))) (ended made open_level at (lead ls) colon) (plain_from (next_at at ls) (body ls))
break-run made open_level indent colon m at ls g =
    let s : Symbol = record { character = 10; at = at } in
    let rest : List Symbol = plain_from (next_at at ls) (body ls) in
    let w : List Symbol = plain_from (at + 1) (lead ls) in (
      grows-lengthens m s ∙ g,
      inr (inr (inr (inr (s, w ++ rest, (refl, refl), (w, rest, blanks-read (lead ls) (at + 1) [] rest (lead-blank ls), (ap (λ (b : List ℕ). ended made open_level at b colon) (sym (lead-bytes (at + 1) ls)), refl)))))),
    )

-- what is no literal or symbol is read behind them
other_last : (b : Bool) (s : State) (S : Rule Symbol Kind State) (i : List Symbol) (t : State) (j : List Symbol) → S.reads i t j → (OtherPiece b true s S).reads i t j
other_last true s S i t j h = inr h
other_last false s S i t j h = inr h

-- a blank line changes nothing
blank-run : (made : List Token) (open_level end : ℕ) (colon : Bool) (at : ℕ) (ls : List Line)
    → (Next true (ended made open_level end [] colon)).reads (record { character = 10; at = at } ∷ (plain_from (at + 1) (lead ls) ++ plain_from (next_at at ls) (body ls))) (ended made open_level end (lead ls) colon) (plain_from (next_at at ls) (body ls))
blank-run made open_level end colon at ls =
    let state : State = ended made open_level end [] colon in
    let s : Symbol = record { character = 10; at = at } in
    let rest : List Symbol = plain_from (next_at at ls) (body ls) in
    let w : List Symbol = plain_from (at + 1) (lead ls) in (
      refl,
      inr (other_last (may_stand state) state (Or (SlashPiece true state) (Or (Gap state) (Break state))) (s ∷ (w ++ rest)) (ended made open_level end (lead ls) colon) rest
          (inr (inr (s, w ++ rest, (refl, refl), (w, rest, blanks-read (lead ls) (at + 1) [] rest (lead-blank ls), (ap (λ (b : List ℕ). ended made open_level end b colon) (sym (lead-bytes (at + 1) ls)), refl)))))),
    )

-- ---- the pieces of a line, up to the next

-- where the text behind a line stands
abbrev after_line : ℕ → List Line → List Symbol
after_line end ls = record { character = 10; at = end } ∷ (plain_from (end + 1) (lead ls) ++ plain_from (next_at end ls) (body ls))

line-text : (at : ℕ) (cs : List ℕ) (ls : List Line) → plain_from at (cs ++ 10 ∷ (lead ls ++ body ls)) ≡ plain_from at cs ++ after_line (at + size cs) ls
unfolding encode
line-text at cs ls =
    plain-append at cs (10 ∷ (lead ls ++ body ls))
    ∙ ap (λ (l : List Symbol). plain_from at cs ++ record { character = 10; at = at + size cs } ∷ l) (plain-append ((at + size cs) + 1) (lead ls) (body ls))

-- from within a line to the next
tail-run : (qs : List Piece) (made : List Token) (open_level d : ℕ) (indent : List ℕ) (colon : Bool) (m : Character) (at : ℕ) (ls : List Line)
    → Linked m qs → depth_behind d qs ≡ 0 → grows (last_more m qs) 10 ≡ false
    → Turns {X = Kind} (Next true) (within made (blocks open_level) d indent colon m) (plain_from at (letters qs) ++ after_line (at + size (letters qs)) ls)
    (ended (made ++ tokens_from at qs) open_level (at + size (letters qs)) (lead ls) (colon_behind colon qs)) (plain_from (next_at (at + size (letters qs)) ls) (body ls))
tail-run qs made open_level d indent colon m at ls h closed g =
    let end = at + size (letters qs) in
    let s : Symbol = record { character = 10; at = end } in
    let follow : heads (lengthens (last_more m qs)) (after_line end ls) ≡ false = grows-lengthens (last_more m qs) s ∙ g in
    let there : State = within (made ++ tokens_from at qs) (blocks open_level) (depth_behind d qs) indent (colon_behind colon qs) (last_more m qs) in
    let flat : State = within (made ++ tokens_from at qs) (blocks open_level) 0 indent (colon_behind colon qs) (last_more m qs) in
    let same : there ≡ flat = ap (λ (n : ℕ). within (made ++ tokens_from at qs) (blocks open_level) n indent (colon_behind colon qs) (last_more m qs)) closed in
    turns-join (Next true) (within made (blocks open_level) d indent colon m) (plain_from at (letters qs) ++ after_line end ls) there (after_line end ls) (ended (made ++ tokens_from at qs) open_level end (lead ls) (colon_behind colon qs)) (plain_from (next_at end ls) (body ls))
    (runs qs made (blocks open_level) d indent colon m at (after_line end ls) h follow)
    (subst (λ x. Turns {X = Kind} (Next true) x (after_line end ls) (ended (made ++ tokens_from at qs) open_level end (lead ls) (colon_behind colon qs)) (plain_from (next_at end ls) (body ls))) (sym same)
    (more (ended (made ++ tokens_from at qs) open_level end (lead ls) (colon_behind colon qs)) (plain_from (next_at end ls) (body ls)) (break-run (made ++ tokens_from at qs) open_level indent (colon_behind colon qs) (last_more m qs) end ls g) (stop refl refl)))

-- a line whose first token makes this of the state before it
line-run : (kind : TokenKind) (cs : List ℕ) (m : Character) (qs : List Piece) (from : State) (made : List Token) (to : ℕ) (indent : List ℕ) (at : ℕ) (ls : List Line)
    → IsBody (mark kind cs m ∷ qs) → may_stand from ≡ true → from.more ≡ class.Blank
    → placed from kind at m ≡ within (made ++ token kind at ∷ []) (blocks to) (depth_after kind 0) indent (is_colon kind) m
    → Turns {X = Kind} (Next true) from (plain_from at (body (fresh 0 (mark kind cs m ∷ qs) ∷ ls)))
    (ended (made ++ tokens_from at (mark kind cs m ∷ qs)) to (at + size (letters (mark kind cs m ∷ qs))) (lead ls) (colon_behind (is_colon kind) qs)) (plain_from (next_at (at + size (letters (mark kind cs m ∷ qs))) ls) (body ls))
line-run kind cs m qs from made to indent at ls b stand blank_more e =
    let there = at + size cs in
    let end = there + size (letters qs) in
    let whole = at + size (cs ++ letters qs) in
    let same : end ≡ whole = omega (arith, size-append cs (letters qs)) in
    let rest : List Symbol = plain_from there (letters qs) ++ after_line end ls in
    let text : plain_from at cs ++ rest ≡ plain_from at ((cs ++ letters qs) ++ 10 ∷ (lead ls ++ body ls)) =
    sym (append_assoc (plain_from at cs) (plain_from there (letters qs)) (after_line end ls))
    ∙ (ap₂ (λ (l r : List Symbol). l ++ r) (sym (plain-append at cs (letters qs))) (ap (λ (n : ℕ). after_line n ls) same) ∙ sym (line-text at (cs ++ letters qs) ls)) in
    let s : Symbol = record { character = 10; at = end } in
    let follow : heads (lengthens m) rest ≡ false = leads m qs there (after_line end ls) b.linked.2 (grows-lengthens (last_more m qs) s ∙ b.last) in
    let next : State = within (made ++ token kind at ∷ []) (blocks to) (depth_after kind 0) indent (is_colon kind) m in
    let piece : (SourcePiece true from).reads (plain_from at cs ++ rest) next rest = subst (λ x. (SourcePiece true from).reads (plain_from at cs ++ rest) x rest) e (b.linked.1.reads from at rest stand follow) in
    let first : heads (lengthens from.more) (plain_from at cs ++ rest) ≡ false =
    ap (λ n. heads (lengthens n) (plain_from at cs ++ rest)) blank_more ∙ heads-first class.Blank at cs b.linked.1.first b.linked.1.others rest b.linked.1.shape b.linked.0 in
    let last : State = ended ((made ++ token kind at ∷ []) ++ tokens_from there qs) to end (lead ls) (colon_behind (is_colon kind) qs) in
    let all : (made ++ token kind at ∷ []) ++ tokens_from there qs ≡ made ++ token kind at ∷ tokens_from there qs = append_assoc made (token kind at ∷ []) (tokens_from there qs) in
    let turns : Turns {X = Kind} (Next true) from (plain_from at cs ++ rest) last (plain_from (next_at end ls) (body ls)) =
    more next rest (first, piece) (tail-run qs (made ++ token kind at ∷ []) to (depth_after kind 0) indent (is_colon kind) m there ls b.linked.2 b.closed b.last) in
    subst (λ l. Turns {X = Kind} (Next true) from l (ended (made ++ token kind at ∷ tokens_from there qs) to whole (lead ls) (colon_behind (is_colon kind) qs)) (plain_from (next_at whole ls) (body ls))) text
    (subst (λ n. Turns {X = Kind} (Next true) from (plain_from at cs ++ rest) (ended (made ++ token kind at ∷ tokens_from there qs) to n (lead ls) (colon_behind (is_colon kind) qs)) (plain_from (next_at n ls) (body ls))) same
    (subst (λ ts. Turns {X = Kind} (Next true) from (plain_from at cs ++ rest) (ended ts to end (lead ls) (colon_behind (is_colon kind) qs)) (plain_from (next_at end ls) (body ls))) all turns))

-- ---- the first token of a line

placed-own : (s : State) (kind : TokenKind) (at : ℕ) (m : Character) (made : List Token) (open_level end : ℕ) (indent : List ℕ) (colon : Bool) → s ≡ ended made open_level end indent colon → continues kind ≡ false
    → placed s kind at m ≡ added (begun (ended made open_level end indent colon) at) kind at m
placed-own s kind at m made open_level end indent colon e c =
    ap (λ (x : State). placed x kind at m) e ∙ ap (λ b. cond b (added (ended made open_level end indent colon) kind at m) (added (begun (ended made open_level end indent colon) at) kind at m)) c

placed-further : (kind : TokenKind) (at : ℕ) (m : Character) (made : List Token) (open_level end : ℕ) (indent : List ℕ) (colon : Bool) → continues kind ≡ true
    → placed (ended made open_level end indent colon) kind at m ≡ within (made ++ token kind at ∷ []) (blocks open_level) (depth_after kind 0) indent (is_colon kind) m
placed-further kind at m made open_level end indent colon c =
    ap (λ b. cond b (added (ended made open_level end indent colon) kind at m) (added (begun (ended made open_level end indent colon) at) kind at m)) c

-- where a line of its own begins: the tokens before it
record Entry (open_level l : ℕ) (colon : Bool) (at : ℕ) : Type 0 where
  pub between : List TokenKind
  pub begins : Begins colon (margin l) (blocks open_level) (blocks l) between
  pub tokens_are : all_at at between ≡ entry open_level l at

entry-of : (open_level l : ℕ) (colon : Bool) (at : ℕ) → (l ≤ open_level) ⊎ ((l ≡ suc open_level) × (colon ≡ true)) → Entry open_level l colon at
entry-of open_level l colon at (inl le) =
    let d = blocks-inside open_level l le in
    let here : nat_le l open_level ≡ true = grind (arith, le) in
    record {
      between = times (length d.inner);
      begins = begins-open colon open_level l d;
      tokens_are = outs-times (length d.inner) at ∙ (ap (λ n. outs n at) d.many ∙ sym (ap (λ b. cond b (outs (open_level - l) at) (token k.BlockIn at ∷ [])) here));
    }
entry-of open_level l colon at (inr e) =
    let is = e.0 in
    let new : nat_le l open_level ≡ false = grind (arith, is) in
    subst (λ c. Entry open_level l c at) (sym e.1) (record {
      between = k.BlockIn ∷ [];
      begins = subst (λ n. Begins true (margin n) (blocks open_level) (blocks n) (k.BlockIn ∷ [])) (sym is) (begins-new open_level);
      tokens_are = sym (ap (λ b. cond b (outs (open_level - l) at) (token k.BlockIn at ∷ [])) new);
    })

-- ---- all lines

-- where the lines lead to from a state, and what is made at the end of the source
record Run (from : State) (text : List Symbol) (size_is : ℕ) (tokens : List Token) : Type 0 where
  pub to : State
  pub turns : Turns {X = Kind} (Next true) from text to []
  pub makes : finished to size_is ≡ tokens

finished-last : (made : List Token) (open_level end : ℕ) (colon : Bool) (n : ℕ) → finished (ended made open_level end [] colon) n ≡ made ++ token k.LineEnd end ∷ (outs open_level n ++ token k.End n ∷ [])
finished-last made open_level end colon n =
    let one : length (blocks open_level) - 1 ≡ open_level = omega (arith, blocks-length open_level) in
    ap (λ (m : ℕ). ((made ++ token k.LineEnd end ∷ []) ++ outs m n) ++ token k.End n ∷ []) one
    ∙ (append_assoc (made ++ token k.LineEnd end ∷ []) (outs open_level n) (token k.End n ∷ []) ∙ append_assoc made (token k.LineEnd end ∷ []) (outs open_level n ++ token k.End n ∷ []))

run-behind : (from : State) (text : List Symbol) (to : State) (left : List Symbol) (n : ℕ) (tokens : List Token) → Turns {X = Kind} (Next true) from text to left → Run to left n tokens → Run from text n tokens
run-behind from text to left n tokens t r = record { to = r.to; turns = turns-join (Next true) from text to left r.to [] t r.turns; makes = r.makes }

size-line : (cs a b : List ℕ) → size (cs ++ 10 ∷ (a ++ b)) ≡ size cs + (1 + (size a + size b))
unfolding encode
size-line cs a b = let h = size-append cs (10 ∷ (a ++ b)) in let g = size-append a b in omega (arith, h, g)

lines-run : (ls : List Line) (made : List Token) (open_level end : ℕ) (colon : Bool) (at n : ℕ) → Good open_level colon ls → at + size (body ls) ≡ n
    → Run (ended made open_level end (lead ls) colon) (plain_from at (body ls)) n (made ++ behind end at open_level ls)
lines-run [] made open_level end colon at n h e =
    let same : n ≡ at = omega (arith, e) in
    record {
      to = ended made open_level end [] colon;
      turns = stop refl refl;
      makes = finished-last made open_level end colon n ∙ ap (λ (m : ℕ). made ++ token k.LineEnd end ∷ (outs open_level m ++ token k.End m ∷ [])) same;
    }
lines-run (blank ∷ ls) made open_level end colon at n h e =
    let text : after_line at ls ≡ plain_from at (10 ∷ (lead ls ++ body ls)) = ap (λ (m : ℕ). after_line m ls) (let z : at ≡ at + 0 = omega arith in z) ∙ sym (line-text at [] ls) in
    let rest = lines-run ls made open_level end colon (next_at at ls) n h (let w = size-line [] (lead ls) (body ls) in omega (arith, e, w)) in
    run-behind (ended made open_level end [] colon) (plain_from at (10 ∷ (lead ls ++ body ls))) (ended made open_level end (lead ls) colon) (plain_from (next_at at ls) (body ls)) n (made ++ behind end (next_at at ls) open_level ls)
    (subst (λ l. Turns {X = Kind} (Next true) (ended made open_level end [] colon) l (ended made open_level end (lead ls) colon) (plain_from (next_at at ls) (body ls))) text
    (more (ended made open_level end (lead ls) colon) (plain_from (next_at at ls) (body ls)) (blank-run made open_level end colon at ls) (stop refl refl))) rest
lines-run (fresh l [] ∷ ls) made open_level end colon at n h e = absurd h.0.leads
lines-run (fresh l (gap ∷ qs) ∷ ls) made open_level end colon at n h e = absurd h.0.leads
lines-run (fresh l (mark kind cs m ∷ qs) ∷ ls) made open_level end colon at n h e =
    let ps : List Piece = mark kind cs m ∷ qs in
    let from : State = ended made open_level end (margin l) colon in
    let en = entry-of open_level l colon at h.2 in
    let made_is : List Token = (made ++ token k.LineEnd end ∷ []) ++ all_at at en.between in
    let begins : placed from kind at m ≡ within (made_is ++ token kind at ∷ []) (blocks l) (depth_after kind 0) [] (is_colon kind) m =
    placed-own from kind at m made open_level end (margin l) colon refl h.1 ∙ ap (λ (x : State). added x kind at m) (enters made open_level end (margin l) colon at l en.between en.begins) in
    let there = at + size (letters ps) in
    let rest = lines-run ls (made_is ++ tokens_from at ps) l there (colon_behind (is_colon kind) qs) (next_at there ls) n h.3 (let w = size-line (letters ps) (lead ls) (body ls) in omega (arith, e, w)) in
    let all : (made_is ++ tokens_from at ps) ++ behind there (next_at there ls) l ls ≡ made ++ behind end at open_level (fresh l ps ∷ ls) =
    append_assoc made_is (tokens_from at ps) (behind there (next_at there ls) l ls)
    ∙ (append_assoc (made ++ token k.LineEnd end ∷ []) (all_at at en.between) (tokens_from at ps ++ behind there (next_at there ls) l ls)
    ∙ (append_assoc made (token k.LineEnd end ∷ []) (all_at at en.between ++ (tokens_from at ps ++ behind there (next_at there ls) l ls))
    ∙ ap (λ (ts : List Token). made ++ token k.LineEnd end ∷ (ts ++ (tokens_from at ps ++ behind there (next_at there ls) l ls))) en.tokens_are)) in
    subst (λ ts. Run from (plain_from at (body (fresh l ps ∷ ls))) n ts) all
    (run-behind from (plain_from at (body (fresh l ps ∷ ls))) (ended (made_is ++ tokens_from at ps) l there (lead ls) (colon_behind (is_colon kind) qs)) (plain_from (next_at there ls) (body ls)) n ((made_is ++ tokens_from at ps) ++ behind there (next_at there ls) l ls)
    (line-run kind cs m qs from made_is l [] at ls h.0 (may-begin made open_level end (margin l) colon l en.between en.begins) refl begins) rest)
lines-run (further l [] ∷ ls) made open_level end colon at n h e = absurd h.0.leads
lines-run (further l (gap ∷ qs) ∷ ls) made open_level end colon at n h e = absurd h.0.leads
lines-run (further l (mark kind cs m ∷ qs) ∷ ls) made open_level end colon at n h e =
    let ps : List Piece = mark kind cs m ∷ qs in
    let from : State = ended made open_level end (margin l) colon in
    let en = entry-of open_level l colon at (inl h.2) in
    let begins : placed from kind at m ≡ within (made ++ token kind at ∷ []) (blocks open_level) (depth_after kind 0) (margin l) (is_colon kind) m = placed-further kind at m made open_level end (margin l) colon h.1 in
    let there = at + size (letters ps) in
    let rest = lines-run ls (made ++ tokens_from at ps) open_level there (colon_behind (is_colon kind) qs) (next_at there ls) n h.3 (let w = size-line (letters ps) (lead ls) (body ls) in omega (arith, e, w)) in
    let all : (made ++ tokens_from at ps) ++ behind there (next_at there ls) open_level ls ≡ made ++ behind end at open_level (further l ps ∷ ls) = append_assoc made (tokens_from at ps) (behind there (next_at there ls) open_level ls) in
    subst (λ ts. Run from (plain_from at (body (further l ps ∷ ls))) n ts) all
    (run-behind from (plain_from at (body (further l ps ∷ ls))) (ended (made ++ tokens_from at ps) open_level there (lead ls) (colon_behind (is_colon kind) qs)) (plain_from (next_at there ls) (body ls)) n ((made ++ tokens_from at ps) ++ behind there (next_at there ls) open_level ls)
    (line-run kind cs m qs from made open_level (margin l) at ls h.0 (may-begin made open_level end (margin l) colon l en.between en.begins) refl begins) rest)

-- ---- a whole source

body-clean : (ls : List Line) (open_level : ℕ) (colon : Bool) → Good open_level colon ls → all_clean (lead ls ++ body ls) ≡ true
body-clean [] open_level colon h = refl
body-clean (blank ∷ ls) open_level colon h = body-clean ls open_level colon h
body-clean (fresh l ps ∷ ls) open_level colon h =
    clean-join (lead (fresh l ps ∷ ls)) (letters ps ++ 10 ∷ (lead ls ++ body ls)) (lead-clean (fresh l ps ∷ ls)) (clean-join (letters ps) (10 ∷ (lead ls ++ body ls)) (linked-clean class.Blank ps h.0.linked) (body-clean ls l (colon_behind colon ps) h.3))
body-clean (further l ps ∷ ls) open_level colon h =
    clean-join (lead (further l ps ∷ ls)) (letters ps ++ 10 ∷ (lead ls ++ body ls)) (lead-clean (further l ps ∷ ls)) (clean-join (letters ps) (10 ∷ (lead ls ++ body ls)) (linked-clean class.Blank ps h.0.linked) (body-clean ls open_level (colon_behind colon ps) h.3))

-- the bytes of lines, the first of which stands at the top
abbrev pub lines_text : List Line → List ℕ
lines_text ls = encode_utf8_all (lead ls ++ body ls)

-- the tokens of a source whose first line has these pieces
abbrev pub source_tokens : List Piece → List Line → List Token
source_tokens ps ls = tokens_from 0 ps ++ behind (size (letters ps)) (next_at (size (letters ps)) ls) 0 ls

first-within : (kind : TokenKind) (m : Character) → continues kind ≡ false → placed (first_state []) kind 0 m ≡ within ([] ++ token kind 0 ∷ []) (blocks 0) (depth_after kind 0) [] (is_colon kind) m
first-within kind m c = ap (λ b. cond b (added (first_state []) kind 0 m) (added (begun (first_state []) 0) kind 0 m)) c

pub source-lines : (ps : List Piece) (ls : List Line) → IsBody ps → continues_first ps ≡ false → Good 0 (colon_behind false ps) ls → Tokens (lines_text (fresh 0 ps ∷ ls)) (source_tokens ps ls)
source-lines [] ls b c g = absurd b.leads
source-lines (gap ∷ qs) ls b c g = absurd b.leads
source-lines (mark kind cs m ∷ qs) ls b c g =
    let ps : List Piece = mark kind cs m ∷ qs in
    let text : List ℕ = body (fresh 0 ps ∷ ls) in
    let n = size text in
    let clean : all_clean text ≡ true = clean-join (letters ps) (10 ∷ (lead ls ++ body ls)) (linked-clean class.Blank ps b.linked) (body-clean ls 0 (colon_behind (is_colon kind) qs) g) in
    let there = 0 + size (letters ps) in
    let zero_is : there ≡ size (letters ps) = omega arith in
    let rest = lines-run ls ([] ++ tokens_from 0 ps) 0 there (colon_behind (is_colon kind) qs) (next_at there ls) n g (let w = size-line (letters ps) (lead ls) (body ls) in omega (arith, w)) in
    let run = run-behind (first_state []) (plain_from 0 text) (ended ([] ++ tokens_from 0 ps) 0 there (lead ls) (colon_behind (is_colon kind) qs)) (plain_from (next_at there ls) (body ls)) n (tokens_from 0 ps ++ behind there (next_at there ls) 0 ls)
    (line-run kind cs m qs (first_state []) [] 0 [] 0 ls b refl refl (first-within kind m c)) rest in
    let made_is : finished run.to n ≡ source_tokens ps ls = run.makes ∙ ap (λ (z : ℕ). tokens_from 0 ps ++ behind z (next_at z ls) 0 ls) zero_is in
    let source : (Source n profile).reads (plain_from 0 text) (source_tokens ps ls) [] =
    (source_tokens ps ls, [], ([], plain_from 0 text, stop refl refl, (run.to, [], run.turns, (sym made_is, refl))), (tt, [], (refl, refl), (refl, refl))) in
    (clean-utf8 text clean, subst (λ i. (Source n profile).reads i (source_tokens ps ls) []) (sym (clean-symbols text clean)) source)
