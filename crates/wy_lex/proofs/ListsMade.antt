-- What holds of the tokens that pieces of a source make, one piece after another.
use Rattle.std.proofs.Common.{◌≡◌, ◌≤◌, ℕ, zero, suc, ◌+◌, ◌-◌, ◌==◌, Bool, true, false, cond, ◌&&◌, ◌||◌, nat_le, true≢false, List, [], ◌∷◌, ◌++◌, length, slice_index_or, Option, Some, None, Result, Ok, Err, IfOk, ◌⊎◌, inl, inr, refl, sym, ap, ◌∙◌, subst, arith}
use Rattle.std.specs.Bool.{⊤}
use Rattle.std.specs.Str.{IsUtf8, all_scalars, bytes_eq}
use Rattle.std.proofs.lemmas.Str.{chars-encodes}
use Rattle.std.proofs.lemmas.Bool.{leb-true}
use lib.Utf8.{scalar}
use Rattle.wy_data.specs.Words.{is_word, all_parts, is_keyword, among, keywords}
use Rattle.wy_lemmas.proofs.Choices.{and-left, and-right, or_false as or-false, or_left as or-here}
use Rattle.wy_reading.specs.ListGrammar.{number_from}
use Rattle.wy_reading.specs.Rule.{One, Pure, Then, Or, Unless, Word, Skip, Letter, Turns}
use Rattle.wy_lex.specs.declared.fault.Kind.{Kind}
use Rattle.wy_lex.specs.declared.fault.LexFault.{LexFault}
use Rattle.wy_lex.specs.declared.token.Token.{Token}
use Rattle.wy_lex.specs.declared.token.TokenKind.{TokenKind}
use Rattle.wy_lex.specs.declared.token.TokenKind.TheVariants as k
use Rattle.wy_lex.specs.declared.symbol.Symbol.{Symbol}
use Rattle.wy_lex.specs.declared.symbol.Character.{Character}
use Rattle.wy_lex.specs.declared.symbol.Character.TheVariants as class
use Rattle.wy_lex.specs.declared.lexeme.Lexeme.{Lexeme}
use Rattle.wy_lex.specs.declared.comment.Solidus.{Solidus}
use Rattle.wy_lex.specs.declared.comment.Solidus.TheVariants as solidus
use Rattle.wy_lex.specs.declared.layout.Line.{Line}
use Rattle.wy_lex.specs.declared.layout.Line.TheVariants as line
use Rattle.wy_lex.specs.declared.layout.State.{State}
use Rattle.wy_lex.specs.Symbols.{holds, codes_of, bytes_of, place, symbols, is_plain}
use Rattle.wy_lex.specs.Kinds.{word_kinds, kind_from, word_kind, continues, greatest, all_digits, single, second, double, third, triple}
use Rattle.wy_lex.specs.Layout.{token, fits, level, innermost, is_deeper, may_stand_in, may_stand, is_within, ending, last_ending, outs, first_state, begun, added, placed, passed, finished}
use Rattle.wy_lex.specs.Grammar.{is, lexeme, WordPiece, Numeral, Text, Further, UnitOf, Behind, meant, is_escape, means, code_or_zero, Sign, Other, OtherPiece, placed_at, Closed, Stroke, SlashPiece, may_be, struck, Blanks, Gap, Break, Piece, Next}
use Rattle.wy_lex.specs.Source.{Tokens, tokens_read, Answers}
use Rattle.wy_lex.specs.Lists.{Each, NoEnd, EndsAt, is_text, AllText, IsProper, Rises}
use Rattle.wy_lex.specs.Lines.{IsNest, Begins, IsReached, all_at, times}
use Rattle.wy_lex.specs.Lines.Begins.{continues as in_block, opens as new_block}
use Rattle.wy_lex.proofs.ListLemmas.{turns-keep, each-append, each-outs, behind-most, rises-append, rises-on, rises-outs, Stands, Later, symbols-stand, stands-within, stands-behind}
use Rattle.wy_lex.proofs.Refusals.{read-spells}
use Rattle.wy_lex.proofs.LineBegins.{fits-begins, begins-entered, begins-nest}

-- ---- tokens before the end

pub record Inner (kind : TokenKind) : Type 0 where
  pub no_end : NoEnd kind
  pub proper : IsProper kind

each-no_end : (ts : List Token) → Each Inner ts → Each NoEnd ts
each-no_end [] h = tt
each-no_end (t ∷ ts) h = (h.0.no_end, each-no_end ts h.1)

each-proper : (ts : List Token) → Each Inner ts → Each IsProper ts
each-proper [] h = tt
each-proper (t ∷ ts) h = (h.0.proper, each-proper ts h.1)

-- ---- words

-- symbols that all pass, each a character
abbrev All : Character → List Symbol → Type 0
All x [] = ⊤
All x (s ∷ w) = (holds x s ≡ true) × (scalar s.character ≡ true) × All x w

all-one : (x : Character) (w : List Symbol) (c : Symbol) → All x w → holds x c ≡ true → scalar c.character ≡ true → All x (w ++ c ∷ [])
all-one x [] c h g d = (g, d, tt)
all-one x (s ∷ w) c h g d = (h.0, h.1, all-one x w c h.2 g d)

-- a word that begins at the place
record Spelled (start part : Character) (size at : ℕ) (w rest : List Symbol) : Type 0 where
  pub head : Symbol
  pub tail : List Symbol
  pub shape : w ≡ head ∷ tail
  pub here : head.at ≡ at
  pub begins : holds start head ≡ true
  pub scalar : scalar head.character ≡ true
  pub goes_on : All part tail
  pub later : Later size (suc at) rest

spelled : (start part : Character) (size at : ℕ) (i w j : List Symbol) → (Word {X = Kind} (holds start) (holds part)).reads i w j → Stands size at i → Spelled start part size at w j
spelled start part size at i w j r h =
    let d : Stands size at (r.0 ∷ r.1) = subst (Stands size at) r.2.1 h in
    turns-keep {X = Kind} (Letter (holds part)) (λ v m. Spelled start part size at v m)
    (λ v m b n t x.
    let y = x.later in
    let z : Stands size y.0 (t.0 ∷ t.1) = subst (Stands size y.0) t.2.1 y.2 in
    record {
      head = x.head;
      tail = x.tail ++ t.0 ∷ [];
      shape = t.3.0 ∙ ap (λ u. u ++ t.0 ∷ []) x.shape;
      here = x.here;
      begins = x.begins;
      scalar = x.scalar;
      goes_on = all-one part x.tail t.0 x.goes_on t.2.0 z.1;
      later = subst (Later size (suc at)) t.3.1 (z.2, omega (arith, z.3, y.1), z.4);
    })
    (r.0 ∷ []) r.1 w j r.3 (record { head = r.0; tail = []; shape = refl; here = d.0; begins = r.2.0; scalar = d.1; goes_on = tt; later = (d.2, d.3, d.4) })

spelled-place : (start part : Character) (size at : ℕ) (w rest : List Symbol) → Spelled start part size at w rest → place w ≡ at
spelled-place start part size at w rest h = ap place h.shape ∙ h.here

all-scalars : (x : Character) (w : List Symbol) → All x w → all_scalars (codes_of w) ≡ true
all-scalars x [] h = refl
all-scalars x (s ∷ w) h = rw (h.1, all-scalars x w h.2) refl

all-part : (w : List Symbol) → All class.Part w → all_parts (codes_of w) ≡ true
all-part [] h = refl
all-part (s ∷ w) h = rw (h.0, all-part w h.2) refl

-- ---- kinds without a word, a numeral or a string of their own

abbrev is_bare : TokenKind → Bool
is_bare (k.Name word) = false
is_bare (k.Numeral n) = false
is_bare (k.Text codes) = false
is_bare k.End = false
is_bare _ = true

bare-inner : (kind : TokenKind) → is_bare kind ≡ true → Inner kind
bare-inner (k.Name word) h = absurd (true≢false (sym h))
bare-inner (k.Numeral n) h = absurd (true≢false (sym h))
bare-inner (k.Text codes) h = absurd (true≢false (sym h))
bare-inner k.End h = absurd (true≢false (sym h))
bare-inner _ h = record { no_end = refl; proper = tt }

abbrev all_bare : List TokenKind → Bool
all_bare [] = true
all_bare (kind ∷ ks) = is_bare kind && all_bare ks

bare-at : (ks : List TokenKind) (n : ℕ) → all_bare ks ≡ true → suc n ≤ length ks → is_bare (slice_index_or ks n k.End) ≡ true
bare-at [] n h le = absurd (omega (arith, le))
bare-at (kind ∷ ks) zero h le = and-left (is_bare kind) (all_bare ks) h
bare-at (kind ∷ ks) (suc n) h le = bare-at ks n (and-right (is_bare kind) (all_bare ks) h) (omega (arith, le))

kind-inner : (n : ℕ) (ws : List (List ℕ)) (word : List ℕ) → n + length ws ≡ length word_kinds → (among ws word ≡ false → Inner (k.Name word)) → Inner (kind_from n ws word)
kind-inner n [] word e h = h refl
kind-inner n (w ∷ ws) word e h = by (bytes_eq w word) (λ g. kind-inner (suc n) ws word (omega (arith, e)) g) h
  where
    by : (b : Bool) → ((among ws word ≡ false → Inner (k.Name word)) → Inner (kind_from (suc n) ws word)) → (cond b true (among ws word) ≡ false → Inner (k.Name word))
        → Inner (cond b (slice_index_or word_kinds n k.End) (kind_from (suc n) ws word))
    by true ih g = bare-inner (slice_index_or word_kinds n k.End) (bare-at word_kinds n refl (omega (arith, e)))
    by false ih g = ih g

-- a word is one of the language, or a name
word-inner : (size at : ℕ) (w rest : List Symbol) → Spelled class.Start class.Part size at w rest → Inner (word_kind (bytes_of w))
unfolding word_kind is_keyword
word-inner size at w rest h =
    let scalars : all_scalars (codes_of w) ≡ true = ap (λ v. all_scalars (codes_of v)) h.shape ∙ (rw (h.scalar, all-scalars class.Part h.tail h.goes_on) refl) in
    let name : is_word (codes_of w) ≡ true = ap (λ v. is_word (codes_of v)) h.shape ∙ (rw (h.begins, all-part h.tail h.goes_on) refl) in
    kind-inner 0 keywords (bytes_of w) refl (λ g. record { no_end = refl; proper = ((codes_of w, (scalars, refl)), ap is_word (chars-encodes (codes_of w) scalars) ∙ name, g) })

-- ---- literals and symbols

record IsLexeme (size at : ℕ) (l : Lexeme) (rest : List Symbol) : Type 0 where
  pub inner : Inner l.kind
  pub here : l.at ≡ at
  pub later : Later size (suc at) rest

later-less : (size m n : ℕ) (i : List Symbol) → m ≤ n → Later size n i → Later size m i
later-less size m n i le h = (h.0, omega (arith, le, h.1), h.2)

later-one : (size at : ℕ) (i : List Symbol) (s : Symbol) (j : List Symbol) → i ≡ s ∷ j → Later size at i → Later size (suc at) j
later-one size at i s j e h = let d : Stands size h.0 (s ∷ j) = subst (Stands size h.0) e h.2 in (d.2, omega (arith, h.1, d.3), d.4)

stands-one : (size at : ℕ) (i : List Symbol) (s : Symbol) (j : List Symbol) → i ≡ s ∷ j → Stands size at i → (s.at ≡ at) × Later size (suc at) j
stands-one size at i s j e h = let d : Stands size at (s ∷ j) = subst (Stands size at) e h in (d.0, (d.2, d.3, d.4))

numeral-is : (size at : ℕ) (i : List Symbol) (l : Lexeme) (j : List Symbol) → (Numeral true).reads i l j → Stands size at i → IsLexeme size at l j
numeral-is size at i l j r h =
    let w = r.0 in
    let d = spelled class.Digit class.Part size at i w r.1 r.2.0 h in
    subst (λ x. IsLexeme size at x j) (sym r.3.0)
    (record {
      inner = record { no_end = refl; proper = (number_from 0 (codes_of w), refl, leb-true (number_from 0 (codes_of w)) greatest (and-left (nat_le (number_from 0 (codes_of w)) greatest) (all_digits (codes_of w)) r.2.1)) };
      here = spelled-place class.Digit class.Part size at w r.1 d;
      later = subst (Later size (suc at)) r.3.1 d.later;
    })

plain-text : (c : ℕ) → is_plain c ≡ true → is_text c ≡ true
plain-text c h = by (nat_le 32 c) (nat_le c 126) _ _ h
  where
    by : (a b d e : Bool) → (a && (b && d)) ≡ true → ((a && b) || e) ≡ true
    by true true d e h = refl
    by true false d e h = absurd (true≢false (sym h))
    by false b d e h = absurd (true≢false (sym h))

escape-text : (e : Option ℕ) → means e ≡ true → is_text (code_or_zero (meant e)) ≡ true
escape-text None h = absurd (true≢false (sym h))
escape-text (Some c) h = by (c == 110) (c == 116) (c == 92) (c == 34) h
  where
    by : (p q r s : Bool) → is_escape (cond p (Some 10) (cond q (Some 9) (cond r (Some 92) (cond s (Some 34) None)))) ≡ true
        → is_text (code_or_zero (cond p (Some 10) (cond q (Some 9) (cond r (Some 92) (cond s (Some 34) None))))) ≡ true
    by true q r s h = refl
    by false true r s h = refl
    by false false true s h = refl
    by false false false true h = refl
    by false false false false h = absurd (true≢false (sym h))

behind-later : (size at : ℕ) (i : List Symbol) (e : Option ℕ) (j : List Symbol) → Behind.reads i e j → Later size at i → Later size at j
behind-later size at i e j (inl r) h = later-less size at (suc at) j (omega arith) (subst (Later size (suc at)) r.3.1 (later-one size at i r.0 r.1 r.2.1 h))
behind-later size at i e j (inr r) h = subst (Later size at) (r.2.0 ∙ (sym r.2.1 ∙ r.3.1)) h

unit-text : (size at : ℕ) (i : List Symbol) (c : ℕ) (j : List Symbol) → UnitOf.reads i c j → Later size at i → (is_text c ≡ true) × Later size at j
unit-text size at i c j (inl r) h =
    (ap is_text r.3.0 ∙ plain-text r.0.character r.2.0, later-less size at (suc at) j (omega arith) (subst (Later size (suc at)) r.3.1 (later-one size at i r.0 r.1 r.2.1 h)))
unit-text size at i c j (inr r) h =
    let t = r.2.0 in
    let behind = later-less size at (suc at) t.1 (omega arith) (later-one size at i t.0 t.1 t.2.1 h) in
    (ap is_text r.3.0 ∙ escape-text r.0 r.2.1, subst (Later size at) r.3.1 (behind-later size at t.1 r.0 r.1 t.3 behind))

text-append : (cs : List ℕ) (c : ℕ) → AllText cs → is_text c ≡ true → AllText (cs ++ c ∷ [])
text-append [] c h g = (g, tt)
text-append (d ∷ cs) c h g = (h.0, text-append cs c h.1 g)

text-is : (size at : ℕ) (i : List Symbol) (l : Lexeme) (j : List Symbol) → Text.reads i l j → Stands size at i → IsLexeme size at l j
text-is size at i l j r h =
    let first = stands-one size at i r.0 r.1 r.2.1 h in
    let loop = r.3 in
    let inside =
    turns-keep Further (λ (cs : List ℕ) (m : List Symbol). AllText cs × Later size (suc at) m)
    (λ cs m b n t x.
    let u = unit-text size (suc at) m t.0 t.1 t.2 x.1 in
    (subst AllText (sym t.3.0) (text-append cs t.0 x.0 u.0), subst (Later size (suc at)) t.3.1 u.1))
    [] r.1 loop.0 loop.1 loop.2 (tt, first.1) in
    let close = loop.3 in
    subst (λ x. IsLexeme size at x j) (sym close.3.0)
    (record {
      inner = record { no_end = refl; proper = inside.0 };
      here = first.0;
      later = later-less size (suc at) (suc (suc at)) j (omega arith) (subst (Later size (suc (suc at))) close.3.1 (later-one size (suc at) loop.1 close.0 close.1 close.2.1 inside.1));
    })

bare-if : (b : Bool) (x y : TokenKind) → is_bare x ≡ true → is_bare y ≡ true → is_bare (cond b x y) ≡ true
bare-if true x y h g = h
bare-if false x y h g = g

single-bare : (c : ℕ) → is_bare (single c) ≡ true
single-bare c = bare-if (c == 40) k.OpenParen _ refl (bare-if (c == 41) k.CloseParen _ refl (bare-if (c == 91) k.OpenBracket _ refl (bare-if (c == 93) k.CloseBracket _ refl (bare-if (c == 123) k.OpenBrace _ refl (bare-if (c == 125) k.CloseBrace _ refl (bare-if (c == 44) k.Comma _ refl (bare-if (c == 58) k.Colon _ refl (bare-if (c == 59) k.Semicolon _ refl (bare-if (c == 46) k.Dot _ refl (bare-if (c == 61) k.Assign _ refl (bare-if (c == 33) k.Not _ refl (bare-if (c == 60) k.Less _ refl (bare-if (c == 62) k.Greater _ refl (bare-if (c == 43) k.Plus _ refl (bare-if (c == 45) k.Minus _ refl (bare-if (c == 42) k.Star _ refl (bare-if (c == 37) k.Percent _ refl (bare-if (c == 38) k.Ampersand _ refl refl))))))))))))))))))

double-bare : (c : ℕ) → is_bare (double c) ≡ true
double-bare c = bare-if (c == 46) k.Range _ refl (bare-if (c == 45) k.Arrow _ refl (bare-if (c == 61) k.Equal _ refl (bare-if (c == 33) k.NotEqual _ refl (bare-if (c == 60) k.LessEqual _ refl (bare-if (c == 62) k.GreaterEqual _ refl (bare-if (c == 38) k.And _ refl refl))))))

sign-is : (size at : ℕ) (i : List Symbol) (l : Lexeme) (j : List Symbol) → Sign.reads i l j → Stands size at i → IsLexeme size at l j
sign-is size at i l j r h = by r.3
  where
    first : (r.0.at ≡ at) × Later size (suc at) r.1
    first = stands-one size at i r.0 r.1 r.2.1 h

    made : (kind : TokenKind) (more : Character) → is_bare kind ≡ true → l ≡ lexeme kind r.0.at more → Later size (suc at) j → IsLexeme size at l j
    made kind more b e d = subst (λ x. IsLexeme size at x j) (sym e) (record { inner = bare-inner kind b; here = first.0; later = d })

    by : ((d : Symbol) × (m : List Symbol) × (One {X = Kind} (holds (second r.0.character))).reads r.1 d m × (Or {X = Kind} {A = Lexeme} (Then (One (holds (third r.0.character))) (λ e. Pure (lexeme triple r.0.at class.Nothing))) (Pure (lexeme (double r.0.character) r.0.at (third r.0.character)))).reads m l j)
        ⊎ ((l ≡ lexeme (single r.0.character) r.0.at (second r.0.character)) × (r.1 ≡ j)) → IsLexeme size at l j
    by (inl t) =
        let behind = later-less size (suc at) (suc (suc at)) t.1 (omega arith) (later-one size (suc at) r.1 t.0 t.1 t.2.1 first.1) in
        elim t.3 [
          | inl u ↦ made triple class.Nothing refl u.3.0 (later-less size (suc at) (suc (suc at)) j (omega arith) (subst (Later size (suc (suc at))) u.3.1 (later-one size (suc at) t.1 u.0 u.1 u.2.1 behind)))
          | inr u ↦ made (double r.0.character) (third r.0.character) (double-bare r.0.character) u.0 (subst (Later size (suc at)) u.1 behind)
        ]
    by (inr t) = made (single r.0.character) (second r.0.character) (single-bare r.0.character) t.0 (subst (Later size (suc at)) t.1 first.1)

other-is : (size at : ℕ) (i : List Symbol) (l : Lexeme) (j : List Symbol) → (Other true).reads i l j → Stands size at i → IsLexeme size at l j
other-is size at i l j (inl r) h = numeral-is size at i l j r h
other-is size at i l j (inr (inl r)) h = text-is size at i l j r h
other-is size at i l j (inr (inr r)) h = sign-is size at i l j r h

-- ---- states

abbrev pub Pending : Line → ℕ → List Token → Type 0
Pending line.Fresh at ts = Rises 0 at ts
Pending line.Open at ts = Rises 0 at ts
Pending (line.Ended e) at ts = Rises 0 e ts × (e ≤ at)

pending-rises : (l : Line) (at : ℕ) (ts : List Token) → Pending l at ts → Rises 0 at ts
pending-rises line.Fresh at ts h = h
pending-rises line.Open at ts h = h
pending-rises (line.Ended e) at ts h = rises-on 0 e at ts h.0 h.1

pending-on : (l : Line) (at to : ℕ) (ts : List Token) → Pending l at ts → at ≤ to → Pending l to ts
pending-on line.Fresh at to ts h le = rises-on 0 at to ts h le
pending-on line.Open at to ts h le = rises-on 0 at to ts h le
pending-on (line.Ended e) at to ts h le = (h.0, omega (arith, h.1, le))

pending-ends : (l : Line) (at : ℕ) (ts : List Token) → Pending l at ts → Rises 0 at (ts ++ ending l)
pending-ends line.Fresh at ts h = rises-append 0 at at ts [] h (omega arith)
pending-ends line.Open at ts h = rises-append 0 at at ts [] h (omega arith)
pending-ends (line.Ended e) at ts h = rises-append 0 e at ts (ending (line.Ended e)) h.0 (omega arith, h.1)

pending-last : (l : Line) (at size : ℕ) (ts : List Token) → Pending l at ts → at ≤ size → Rises 0 size (ts ++ last_ending l size)
pending-last line.Fresh at size ts h le = rises-append 0 at size ts [] h le
pending-last line.Open at size ts h le = rises-append 0 at size ts (last_ending line.Open size) h (le, omega arith)
pending-last (line.Ended e) at size ts h le = rises-append 0 e size ts (last_ending (line.Ended e) size) h.0 (omega arith, omega (arith, h.1, le))

each-ending : (l : Line) → Each Inner (ending l)
each-ending line.Fresh = tt
each-ending line.Open = tt
each-ending (line.Ended e) = (record { no_end = refl; proper = tt }, tt)

each-last : (l : Line) (size : ℕ) → Each Inner (last_ending l size)
each-last line.Fresh size = tt
each-last line.Open size = (record { no_end = refl; proper = tt }, tt)
each-last (line.Ended e) size = (record { no_end = refl; proper = tt }, tt)

each-times : (n at : ℕ) → Each Inner (all_at at (times n))
each-times zero at = tt
each-times (suc n) at = (record { no_end = refl; proper = tt }, each-times n at)

rises-times : (n at : ℕ) → Rises at at (all_at at (times n))
rises-times zero at = omega arith
rises-times (suc n) at = (omega arith, rises-times n at)

each-between : (colon : Bool) (w : List ℕ) (before after : List (List ℕ)) (between : List TokenKind) (at : ℕ) → Begins colon w before after between → Each Inner (all_at at between)
each-between colon w before after between at (in_block outer inner cut a t) = subst (λ ks. Each Inner (all_at at ks)) (sym t) (each-times (length inner) at)
each-between colon w before after between at (new_block outer last cut deep c a t) = subst (λ ks. Each Inner (all_at at ks)) (sym t) (record { no_end = refl; proper = tt }, tt)

rises-between : (colon : Bool) (w : List ℕ) (before after : List (List ℕ)) (between : List TokenKind) (at : ℕ) → Begins colon w before after between → Rises at at (all_at at between)
rises-between colon w before after between at (in_block outer inner cut a t) = subst (λ ks. Rises at at (all_at at ks)) (sym t) (rises-times (length inner) at)
rises-between colon w before after between at (new_block outer last cut deep c a t) = subst (λ ks. Rises at at (all_at at ks)) (sym t) (omega arith, omega arith)

pub record Made (s : State) (at : ℕ) : Type 0 where
  pub each : Each Inner s.made
  pub rises : Pending s.line at s.made
  pub nest : IsNest s.blocks

-- the state, where the symbols follow
abbrev pub Kept : ℕ → State → List Symbol → Type 0
Kept size s i = (at : ℕ) × Stands size at i × Made s at

added-kept : (size at : ℕ) (s : State) (kind : TokenKind) (more : Character) (j : List Symbol) → Each Inner s.made → Rises 0 at s.made → IsNest s.blocks → Inner kind → Later size (suc at) j → Kept size (added s kind at more) j
added-kept size at s kind more j each rises nest inner later = (
  later.0,
  later.2,
  record {
    each = each-append Inner s.made (token kind at ∷ []) each (inner, tt);
    rises = rises-append 0 at later.0 s.made (token kind at ∷ []) rises (omega arith, behind-most (token kind at) later.0 later.1);
    nest = nest;
  },
)

or-left : (a b : Bool) → (a || b) ≡ true → b ≡ false → a ≡ true
or-left true b h e = refl
or-left false b h e = absurd (true≢false (sym h ∙ e))

stands-fits : (l : Line) (fit : Bool) → is_within l ≡ false → may_stand_in l fit ≡ true → fit ≡ true
stands-fits line.Fresh fit e h = h
stands-fits line.Open fit e h = absurd (true≢false e)
stands-fits (line.Ended at) fit e h = h

placed-kept : (size at place : ℕ) (s : State) (kind : TokenKind) (more : Character) (j : List Symbol) → (may_stand s || continues kind) ≡ true → Made s at → place ≡ at → Inner kind → Later size (suc at) j
    → Kept size (placed s kind place more) j
placed-kept size at place s kind more j stand made here inner later =
    subst (λ p. Kept size (placed s kind p more) j) (sym here) (by (is_within s.line || continues kind) refl)
  where
    by : (b : Bool) → (is_within s.line || continues kind) ≡ b → Kept size (cond b (added s kind at more) (added (begun s at) kind at more)) j
    by true e = added-kept size at s kind more j made.each (pending-rises s.line at s.made made.rises) made.nest inner later
    by false e =
        let no = or-false (is_within s.line) (continues kind) e in
        let fit = fits (level s.blocks s.indent) s.header (is_deeper (innermost s.blocks) s.indent) in
        let d = fits-begins s.header s.indent s.blocks made.nest (stands-fits s.line fit no.0 (or-left (may_stand s) (continues kind) stand no.1)) in
        let g = begins-entered s at d.0 d.1 made.nest d.2 in
        added-kept size at (begun s at) kind more j
        (subst (Each Inner) (sym g.1) (each-append Inner (s.made ++ ending s.line) (all_at at d.1) (each-append Inner s.made (ending s.line) made.each (each-ending s.line)) (each-between s.header s.indent s.blocks d.0 d.1 at d.2)))
        (subst (Rises 0 at) (sym g.1) (rises-append 0 at at (s.made ++ ending s.line) (all_at at d.1) (pending-ends s.line at s.made made.rises) (rises-between s.header s.indent s.blocks d.0 d.1 at d.2)))
        (subst IsNest (sym g.0) (begins-nest s.header s.indent s.blocks d.0 d.1 made.nest d.2)) inner later

passed-kept : (size at : ℕ) (s : State) (more : Character) (j : List Symbol) → Made s at → Later size (suc at) j → Kept size (passed s more) j
passed-kept size at s more j made later =
    (later.0, later.2, record { each = made.each; rises = pending-on s.line at later.0 s.made made.rises (omega (arith, later.1)); nest = made.nest })

-- ---- pieces

word-kept : (size at : ℕ) (s : State) (i : List Symbol) (t : State) (j : List Symbol) → (WordPiece true s).reads i t j → Stands size at i → Made s at → Kept size t j
word-kept size at s i t j r h made =
    let w = r.0 in
    let d = spelled class.Start class.Part size at i w r.1 r.2.0 h in
    subst (λ x. Kept size x j) (sym r.3.0)
    (placed-kept size at (place w) s (word_kind (bytes_of w)) class.Part j r.2.1 made (spelled-place class.Start class.Part size at w r.1 d) (word-inner size at w r.1 d) (subst (Later size (suc at)) r.3.1 d.later))

lexeme-kept : (size at : ℕ) (s : State) (i : List Symbol) (t : State) (j : List Symbol) → may_stand s ≡ true → (Then (Other true) (λ l. Pure (placed_at s l))).reads i t j → Stands size at i → Made s at → Kept size t j
lexeme-kept size at s i t j stand r h made =
    let l = r.0 in
    let d = other-is size at i l r.1 r.2 h in
    subst (λ x. Kept size x j) (sym r.3.0)
    (placed-kept size at l.at s l.kind l.more j (or-here (may_stand s) (continues l.kind) stand) made d.here d.inner (subst (Later size (suc at)) r.3.1 d.later))

skip-later : (x : Character) (size at : ℕ) (i : List Symbol) (u : Unit {0}) (j : List Symbol) → (Skip {X = Kind} (holds x)).reads i u j → Later size at i → Later size at j
skip-later x size at i u j r h =
    turns-keep {X = Kind} (λ v. Then (One (holds x)) (λ c. Pure tt)) (λ v m. Later size at m)
    (λ v m b n t y. later-less size at (suc at) n (omega arith) (subst (Later size (suc at)) t.3.1 (later-one size at m t.0 t.1 t.2.1 y)))
    tt i u j r h

blanks-later : (size at : ℕ) (i w j : List Symbol) → Blanks.reads i w j → Later size at i → Later size at j
blanks-later size at i w j r h =
    turns-keep {X = Kind} (Letter (holds class.Blank)) (λ v m. Later size at m)
    (λ v m b n t y. later-less size at (suc at) n (omega arith) (subst (Later size (suc at)) t.3.1 (later-one size at m t.0 t.1 t.2.1 y)))
    [] i w j r h

closed-later : (size at : ℕ) (i : List Symbol) (v : Solidus) (j : List Symbol) → Closed.reads i v j → Later size at i → Later size at j
closed-later size at i v j (inl r) h =
    let d = stands-behind size h.0 r.1 (r.2 ∷ r.3 ∷ j) (subst (Stands size h.0) r.4 h.2) in
    let e = d.2 in
    let f = e.4 in
    (f.2, omega (arith, h.1, d.1, e.3, f.3), f.4)
closed-later size at i v j (inr r) h = subst (Later size at) (sym r.1) (at, omega arith, omega (arith, h.1, stands-within size h.0 i h.2))

stroke-is : (size at : ℕ) (i : List Symbol) (v : Solidus × ℕ) (j : List Symbol) → Stroke.reads i v j → Stands size at i → (v.1 ≡ at) × Later size (suc at) j
stroke-is size at i v j r h = by r.3
  where
    first : (r.0.at ≡ at) × Later size (suc at) r.1
    first = stands-one size at i r.0 r.1 r.2.1 h

    by : (Or {X = Kind} {A = Solidus × ℕ} (Then (One (is 47)) (λ s. Then (Skip (holds class.NoLineEnd)) (λ x. Pure {A = Solidus × ℕ} (solidus.Line, r.0.at)))) (Or {A = Solidus × ℕ} (Then (One (is 42)) (λ s. Then Closed (λ u. Pure {A = Solidus × ℕ} (u, r.0.at)))) (Unless {A = Solidus × ℕ} (holds class.Remark) (Pure {A = Solidus × ℕ} (solidus.Sign, r.0.at))))).reads r.1 v j → (v.1 ≡ at) × Later size (suc at) j
    by (inl t) =
        let behind = later-less size (suc at) (suc (suc at)) t.1 (omega arith) (later-one size (suc at) r.1 t.0 t.1 t.2.1 first.1) in
        let u = t.3 in
        (ap (λ (x : Solidus × ℕ). x.1) u.3.0 ∙ first.0, subst (Later size (suc at)) u.3.1 (skip-later class.NoLineEnd size (suc at) t.1 u.0 u.1 u.2 behind))
    by (inr (inl t)) =
        let behind = later-less size (suc at) (suc (suc at)) t.1 (omega arith) (later-one size (suc at) r.1 t.0 t.1 t.2.1 first.1) in
        let u = t.3 in
        (ap (λ (x : Solidus × ℕ). x.1) u.3.0 ∙ first.0, subst (Later size (suc at)) u.3.1 (closed-later size (suc at) t.1 u.0 u.1 u.2 behind))
    by (inr (inr t)) = (ap (λ (x : Solidus × ℕ). x.1) t.1.0 ∙ first.0, subst (Later size (suc at)) t.1.1 first.1)

struck-kept : (size at : ℕ) (s : State) (v : Solidus × ℕ) (j : List Symbol) → may_be s v ≡ true → v.1 ≡ at → Later size (suc at) j → Made s at → Kept size (struck s v) j
struck-kept size at s (solidus.Sign, a) j stand here later made =
    placed-kept size at a s k.Slash class.Remark j (or-here (may_stand s) false stand) made here (record { no_end = refl; proper = tt }) later
struck-kept size at s (solidus.Line, a) j stand here later made = passed-kept size at s class.NoLineEnd j made later
struck-kept size at s (solidus.Block, a) j stand here later made = passed-kept size at s class.Nothing j made later
struck-kept size at s (solidus.Open, a) j stand here later made = passed-kept size at s class.Any j made later

slash-kept : (size at : ℕ) (s : State) (i : List Symbol) (t : State) (j : List Symbol) → (SlashPiece true s).reads i t j → Stands size at i → Made s at → Kept size t j
slash-kept size at s i t j r h made =
    let d = stroke-is size at i r.0 r.1 r.2.0.0 h in
    subst (λ x. Kept size x j) (sym r.3.0) (struck-kept size at s r.0 j r.2.1 d.0 (subst (Later size (suc at)) r.3.1 d.1) made)

gap-kept : (size at : ℕ) (s : State) (i : List Symbol) (t : State) (j : List Symbol) → (Gap s).reads i t j → Stands size at i → Made s at → Kept size t j
gap-kept size at s i t j r h made =
    let first = stands-one size at i r.0 r.1 r.2.1 h in
    let u = r.3 in
    subst (λ x. Kept size x j) (sym u.3.0) (passed-kept size at s class.Blank j made (subst (Later size (suc at)) u.3.1 (skip-later class.Blank size (suc at) r.1 u.0 u.1 u.2 first.1)))

break-kept : (size at : ℕ) (s : State) (i : List Symbol) (t : State) (j : List Symbol) → (Break s).reads i t j → Stands size at i → Made s at → Kept size t j
break-kept size at s i t j r h made =
    let first = stands-one size at i r.0 r.1 r.2.1 h in
    let u = r.3 in
    let later : Later size (suc at) j = subst (Later size (suc at)) u.3.1 (blanks-later size (suc at) r.1 u.0 u.1 u.2 first.1) in
    subst (λ x. Kept size x j) (sym u.3.0)
    (later.0, later.2, record { each = made.each; rises = by (is_within s.line && (s.depth == 0)) later.0 (omega (arith, later.1)); nest = made.nest })
  where
    by : (b : Bool) (to : ℕ) → at ≤ to → Pending (cond b (line.Ended r.0.at) s.line) to s.made
    by true to le =
        let here = (stands-one size at i r.0 r.1 r.2.1 h).0 in
        (subst (λ e. Rises 0 e s.made) (sym here) (pending-rises s.line at s.made made.rises), omega (arith, here, le))
    by false to le = pending-on s.line at to s.made made.rises le

rest-kept : (size at : ℕ) (s : State) (i : List Symbol) (t : State) (j : List Symbol) → (Or (SlashPiece true s) (Or (Gap s) (Break s))).reads i t j → Stands size at i → Made s at → Kept size t j
rest-kept size at s i t j (inl r) h made = slash-kept size at s i t j r h made
rest-kept size at s i t j (inr (inl r)) h made = gap-kept size at s i t j r h made
rest-kept size at s i t j (inr (inr r)) h made = break-kept size at s i t j r h made

piece-kept : (size at : ℕ) (s : State) (i : List Symbol) (t : State) (j : List Symbol) → (Piece true s).reads i t j → Stands size at i → Made s at → Kept size t j
piece-kept size at s i t j (inl r) h made = word-kept size at s i t j r h made
piece-kept size at s i t j (inr r) h made = by (may_stand s) refl r
  where
    by : (b : Bool) → may_stand s ≡ b → (OtherPiece b true s (Or (SlashPiece true s) (Or (Gap s) (Break s)))).reads i t j → Kept size t j
    by true e (inl r) = lexeme-kept size at s i t j e r h made
    by true e (inr r) = rest-kept size at s i t j r h made
    by false e (inl r) = absurd r
    by false e (inr r) = rest-kept size at s i t j r h made

first-kept : (size : ℕ) (w i : List Symbol) → Later size 0 i → Kept size (first_state (bytes_of w)) i
first-kept size w i h = (h.0, h.2, record { each = tt; rises = omega arith; nest = (refl, tt) })

pub pieces-kept : (size : ℕ) (i w text : List Symbol) (s : State) (rest : List Symbol) → Stands size 0 i → Blanks.reads i w text → Turns (Next true) (first_state (bytes_of w)) text s rest → Kept size s rest
pieces-kept size i w text s rest h blanks pieces =
    turns-keep (Next true) (Kept size) (λ a m b n r x. piece-kept size x.0 a m b n r.1 x.1 x.2) (first_state (bytes_of w)) text s rest pieces
    (first-kept size w text (blanks-later size 0 i w text blanks (0, omega arith, h)))

-- ---- lists

pub record Listed (size : ℕ) (ts : List Token) : Type 0 where
  pub front : List Token
  pub last : ts ≡ front ++ token k.End size ∷ []
  pub each : Each Inner front
  pub rises : Rises 0 size front

each-outs-inner : (n at : ℕ) → Each Inner (outs n at)
each-outs-inner n at = each-outs Inner (record { no_end = refl; proper = tt }) n at

finished-listed : (size at : ℕ) (s : State) → at ≤ size → Made s at → Listed size (finished s size)
finished-listed size at s le made = by (s.depth == 0)
  where
    by : (b : Bool) → Listed size (cond b (((s.made ++ last_ending s.line size) ++ outs (length s.blocks - 1) size) ++ token k.End size ∷ []) (s.made ++ token k.End size ∷ []))
    by true = record {
      front = (s.made ++ last_ending s.line size) ++ outs (length s.blocks - 1) size;
      last = refl;
      each = each-append Inner (s.made ++ last_ending s.line size) (outs (length s.blocks - 1) size) (each-append Inner s.made (last_ending s.line size) made.each (each-last s.line size)) (each-outs-inner (length s.blocks - 1) size);
      rises = rises-append 0 size size (s.made ++ last_ending s.line size) (outs (length s.blocks - 1) size) (pending-last s.line at size s.made made.rises le) (rises-outs (length s.blocks - 1) size);
    }
    by false = record { front = s.made; last = refl; each = made.each; rises = rises-on 0 at size s.made (pending-rises s.line at s.made made.rises) le }

listed : (bytes : List ℕ) (ts : List Token) → Tokens bytes ts → Listed (length bytes) ts
listed bytes ts h =
    let size = length bytes in
    let inner = h.1.2 in
    let loop = inner.3 in
    let s = loop.0 in
    let kept = pieces-kept size (symbols bytes) inner.0 inner.1 s loop.1 (symbols-stand bytes h.0) inner.2 loop.2 in
    let made = finished-listed size kept.0 s (stands-within size kept.0 loop.1 kept.1) kept.2 in
    subst (Listed size) (sym (h.1.3.3.0 ∙ loop.3.0)) made

-- ---- laws

pub ends-at : (bytes : List ℕ) (ts : List Token) → Tokens bytes ts → EndsAt (length bytes) ts
ends-at bytes ts h = let l = listed bytes ts h in record { front = l.front; last = l.last; once = each-no_end l.front l.each }

pub proper : (bytes : List ℕ) (ts : List Token) → Tokens bytes ts → Each IsProper ts
proper bytes ts h =
    let l = listed bytes ts h in
    subst (Each IsProper) (sym l.last) (each-append IsProper l.front (token k.End (length bytes) ∷ []) (each-proper l.front l.each) (tt, tt))

pub rises : (bytes : List ℕ) (ts : List Token) → Tokens bytes ts → Rises 0 (length bytes) ts
rises bytes ts h =
    let size = length bytes in
    let l = listed bytes ts h in
    subst (Rises 0 size) (sym l.last) (rises-append 0 size size l.front (token k.End size ∷ []) l.rises (omega arith, omega arith))

pub reached-nest : (bytes : List ℕ) (s : State) → IsUtf8 bytes → IsReached bytes s → IsNest s.blocks
reached-nest bytes s u r = (pieces-kept (length bytes) (symbols bytes) r.blanks r.text s r.rest (symbols-stand bytes u) r.first r.pieces).2.nest

-- the clause of the call
pub ended : (bytes : List ℕ) (r : Result (List Token) LexFault) → Answers (tokens_read bytes) r → IfOk r (λ ts. EndsAt (length bytes) ts)
ended bytes (Ok ts) h = ends-at bytes ts (read-spells bytes ts h)
ended bytes (Err f) h = tt
