-- Pieces that are put together: what may stand before them, and what may stand behind.
use Rattle.std.proofs.Common.{◌≡◌, ℕ, ◌+◌, ◌-◌, ◌==◌, Bool, true, false, ◌||◌, true≢false, List, [], ◌∷◌, ◌++◌, refl, sym, ap, ap₂, ◌∙◌, subst, arith, eqb-true}
use Rattle.std.specs.Bool.{⊤}
use Rattle.std.specs.Str.{encode_utf8_all}
use Rattle.std.proofs.lemmas.Str.{encodes-append}
use Rattle.wy_data.specs.Words.{is_start, is_part}
use Rattle.wy_data.proofs.WordLemmas.{is_start-ascii}
use Rattle.wy_reading.specs.Rule.{among}
use Rattle.wy_parse_front.specs.wy_lex.declared.token.TokenKind.{TokenKind}
use Rattle.wy_parse_front.specs.wy_lex.declared.symbol.Character.{Character}
use Rattle.wy_parse_front.specs.wy_lex.declared.symbol.Character.TheVariants as class
use Rattle.wy_parse_front.specs.wy_lex.Symbols.{is_digit}
use Rattle.wy_parse_front.specs.wy_lex.Kinds.{depth_after}
use Rattle.wy_print_laws.proofs.round_lemmas.Pieces.{Piece, letters, depth_behind, last_more, grows, letters-append, depth-append, more-append, Linked, linked-append}
use Rattle.wy_print_laws.proofs.round_lemmas.Pieces.Piece.{gap, mark}

-- ---- texts

-- the bytes of pieces
abbrev pub text_of : List Piece → List ℕ
text_of ps = encode_utf8_all (letters ps)

pub text-append : (ps qs : List Piece) → text_of (ps ++ qs) ≡ text_of ps ++ text_of qs
text-append ps qs = ap encode_utf8_all (letters-append ps qs) ∙ encodes-append (letters ps) (letters qs)

-- two texts, one behind the other
pub text-both : (ps qs : List Piece) (s t : List ℕ) → text_of ps ≡ s → text_of qs ≡ t → text_of (ps ++ qs) ≡ s ++ t
text-both ps qs s t e f = text-append ps qs ∙ ap₂ (λ (a b : List ℕ). a ++ b) e f

-- ---- segments

-- behind what P holds of the pieces are linked, and Q holds of what would lengthen the last of them
pub record Segment (P : Character → Type 0) (ps : List Piece) (Q : Character → Type 0) : Type 0 where
  pub linked : (m : Character) → P m → Linked m ps
  pub last : (m : Character) → P m → Q (last_more m ps)

pub joined : {P Q S : Character → Type 0} (ps qs : List Piece) → Segment P ps Q → Segment Q qs S → Segment P (ps ++ qs) S
joined {P} {Q} {S} ps qs h g = record {
  linked = λ m p. linked-append m ps qs (h.linked m p) (g.linked (last_more m ps) (h.last m p));
  last = λ m p. subst S (sym (more-append m ps qs)) (g.last (last_more m ps) (h.last m p));
}

pub behind_less : {P S Q : Character → Type 0} (ps : List Piece) → ((m : Character) → S m → P m) → Segment P ps Q → Segment S ps Q
behind_less ps f h = record { linked = λ m s. h.linked m (f m s); last = λ m s. h.last m (f m s) }

pub before_more : {P Q S : Character → Type 0} (ps : List Piece) → ((m : Character) → Q m → S m) → Segment P ps Q → Segment P ps S
before_more ps f h = record { linked = h.linked; last = λ m p. f (last_more m ps) (h.last m p) }

-- exactly what would be lengthened so
abbrev pub Just : Character → Character → Type 0
Just n m = m ≡ n

-- ---- brackets

-- all brackets are closed
pub record IsClosed (ps : List Piece) : Type 0 where
  pub closed : (d : ℕ) → depth_behind d ps ≡ d

pub closed-nil : IsClosed []
closed-nil = record { closed = λ d. refl }

pub closed-append : (ps qs : List Piece) → IsClosed ps → IsClosed qs → IsClosed (ps ++ qs)
closed-append ps qs h g = record { closed = λ d. depth-append d ps qs ∙ (ap (λ n. depth_behind n qs) (h.closed d) ∙ g.closed d) }

-- what opens and closes one bracket
abbrev pub opens : TokenKind → Type 0
opens kind = (d : ℕ) → depth_after kind d ≡ d + 1

abbrev pub closes : TokenKind → Type 0
closes kind = (d : ℕ) → depth_after kind d ≡ d - 1

pub closed-around : (o c : TokenKind) (x y : List ℕ) (m n : Character) (ps : List Piece) → opens o → closes c → IsClosed ps → IsClosed (mark o x m ∷ ps ++ mark c y n ∷ [])
closed-around o c x y m n ps op cl h = record {
  closed = λ d.
      depth-append (depth_after o d) ps (mark c y n ∷ [])
      ∙ (ap (λ e. depth_after c (depth_behind e ps)) (op d) ∙ (ap (depth_after c) (h.closed (d + 1)) ∙ (cl (d + 1) ∙ back d)));
}
  where
    back : (d : ℕ) → d + 1 - 1 ≡ d
    back d = omega arith

-- ---- what begins a type or an expression

abbrev pub begins_item : ℕ → Bool
begins_item c = is_start c || (is_digit c || among (34 ∷ 45 ∷ 91 ∷ 40 ∷ 123 ∷ 33 ∷ []) c)

-- it lengthens none of what begins an item, but a bar perhaps
abbrev pub BeforeItem : Character → Type 0
BeforeItem m = (c : ℕ) → begins_item c ≡ true → grows m c ≡ false

-- and, where the item begins with one, no bar
abbrev pub Before : Bool → Character → Type 0
Before bar m = BeforeItem m × (bar ≡ true → grows m 124 ≡ false)

-- what may be lengthened at the end of an item: a word, or nothing, or a bar where it ends with one
abbrev pub After : Bool → Character → Type 0
After bar class.Part = ⊤
After bar class.Nothing = ⊤
After bar (class.Is d) = (d ≡ 124) × (bar ≡ true)
After bar _ = ⊥

-- a character that stands in no word, and is no bar where the item ends with one, doesn't lengthen it
pub after-item : (bar : Bool) (m : Character) (c : ℕ) → After bar m → is_part c ≡ false → (bar ≡ true → (c == 124) ≡ false) → grows m c ≡ false
after-item bar class.Part c h p b = p
after-item bar class.Nothing c h p b = refl
after-item bar (class.Is d) c h p b = ap (λ n. c == n) h.0 ∙ b h.1
after-item bar class.Any c h p b = absurd h
after-item bar class.Blank c h p b = absurd h
after-item bar class.LineEnd c h p b = absurd h
after-item bar class.NoLineEnd c h p b = absurd h
after-item bar class.Start c h p b = absurd h
after-item bar class.Digit c h p b = absurd h
after-item bar class.Plain c h p b = absurd h
after-item bar class.Inside c h p b = absurd h
after-item bar class.Sign c h p b = absurd h
after-item bar class.Other c h p b = absurd h
after-item bar class.Remark c h p b = absurd h
after-item bar class.Piece c h p b = absurd h

pub before-nothing : BeforeItem class.Nothing
before-nothing c h = refl

-- a character that begins no item
pub before-is : (d : ℕ) → begins_item d ≡ false → BeforeItem (class.Is d)
before-is d h c g = by (c == d) refl
  where
    by : (b : Bool) → (c == d) ≡ b → b ≡ false
    by false e = refl
    by true e = absurd (true≢false (sym g ∙ (ap begins_item (eqb-true c d e) ∙ h)))

-- `<` and `>` and `=` and `|` and `&` and blanks begin none
pub no_item-ascii : (d : ℕ) → is_start d ≡ false → (is_digit d || among (34 ∷ 45 ∷ 91 ∷ 40 ∷ 123 ∷ 33 ∷ []) d) ≡ false → begins_item d ≡ false
no_item-ascii d s h = rw (s, h) refl

pub before-blank : BeforeItem class.Blank
before-blank c g = by (c == 32) (c == 9) refl refl
  where
    by : (a b : Bool) → (c == 32) ≡ a → (c == 9) ≡ b → (a || b) ≡ false
    by false false e f = refl
    by true b e f = absurd (true≢false (sym g ∙ (ap begins_item (eqb-true c 32 e) ∙ no_item-ascii 32 (is_start-ascii 32 (omega arith)) refl)))
    by false true e f = absurd (true≢false (sym g ∙ (ap begins_item (eqb-true c 9 f) ∙ no_item-ascii 9 (is_start-ascii 9 (omega arith)) refl)))

-- ---- items: types and expressions, as pieces

-- the first piece is a token
abbrev pub Leads : List Piece → Type 0
Leads [] = ⊥
Leads (gap ∷ ps) = ⊥
Leads (mark kind cs m ∷ ps) = ⊤

pub leads-append : (ps qs : List Piece) → Leads ps → Leads (ps ++ qs)
leads-append [] qs h = absurd h
leads-append (gap ∷ ps) qs h = absurd h
leads-append (mark kind cs m ∷ ps) qs h = tt

-- an item, which begins with a bar and ends with one where these say so
pub record Item (begins ends : Bool) (ps : List Piece) : Type 0 where
  pub segment : Segment (Before begins) ps (After ends)
  pub leads : Leads ps
  pub closed : IsClosed ps
