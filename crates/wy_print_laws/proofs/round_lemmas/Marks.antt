-- How each token is written: words, numerals, strings and symbols are read as what they are.
use Rattle.std.proofs.Common.{◌≡◌, ℕ, suc, ◌+◌, ◌/◌, ◌%◌, ◌<◌, ◌≤◌, ◌^◌, ◌==◌, Bool, true, false, not, cond, ◌&&◌, ◌||◌, nat_le, nat_lt, ltb-true, true≢false, List, [], ◌∷◌, ◌++◌, length, codes, slice_index_or, inl, inr, refl, sym, ap, ap₂, ◌∙◌, subst, arith, eqb-true, append_assoc, append-nil, pos, Some}
use Rattle.std.specs.Char.{is_ascii_alphabetic, is_ascii_alphanumeric, encode_utf8}
use Rattle.std.specs.Fmt.{decimal}
use Rattle.std.specs.Str.{encode_utf8_all, all_scalars, chars, bytes_eq}
use Rattle.std.proofs.lemmas.Fmt.{decimal_by_steps_wide}
use Rattle.std.proofs.lemmas.Str.{encodes-chars, scalars-chars, encode_ascii}
use Rattle.std.proofs.lemmas.Bool.{leb-true}
use lib.Utf8.{scalar, encode}
use Rattle.wy_data.specs.Words.{is_start, is_part, is_word, all_parts, is_keyword, keywords, among, IsName}
use Rattle.wy_data.proofs.WordLemmas.{is_start-ascii, is_part-ascii}
use Rattle.wy_lemmas.proofs.Choices.{and-left, and-right, both_true as both}
use Rattle.wy_reading.proofs.SharedLemmas.{number_from-append}
use Rattle.wy_reading.specs.ListGrammar.{number_from}
use Rattle.wy_reading.specs.Rule.{Rule, Pure, Then, Or, Word, Turns}
use Rattle.wy_reading.specs.Rule.Turns.{stop, more}
use Rattle.wy_reading.proofs.Words.{IsWordOf, AllPass, word-of}
use Rattle.wy_parse_front.specs.wy_lex.declared.fault.Kind.{Kind}
use Rattle.wy_parse_front.specs.wy_lex.declared.token.TokenKind.{TokenKind}
use Rattle.wy_parse_front.specs.wy_lex.declared.token.TokenKind.TheVariants as k
use Rattle.wy_parse_front.specs.wy_lex.declared.symbol.Symbol.{Symbol}
use Rattle.wy_parse_front.specs.wy_lex.declared.symbol.Character.TheVariants as class
use Rattle.wy_parse_front.specs.wy_lex.declared.lexeme.Lexeme.{Lexeme}
use Rattle.wy_parse_front.specs.wy_lex.declared.comment.Solidus.TheVariants as solidus
use Rattle.wy_parse_front.specs.wy_lex.declared.layout.State.{State}
use Rattle.wy_parse_front.specs.wy_lex.Symbols.{has, holds, codes_of, bytes_of, place, is_digit, is_plain, is_sign}
use Rattle.wy_parse_front.specs.wy_lex.Kinds.{word_kinds, kind_from, word_kind, continues, all_digits, greatest, is_numeral, numeral, escaped as escaped_code, single, second, double, third, triple}
use Rattle.wy_parse_front.specs.wy_lex.Layout.{may_stand, placed}
use Rattle.wy_parse_front.specs.wy_lex.Grammar.{lexeme, stands, UnitOf, Further, meant, is_escape, means, code_or_zero, Other, OtherPiece, SlashPiece, Gap, Break, placed_at, Piece as SourcePiece}
use Rattle.wy_parse_front.specs.wy_lex.Lists.{AllText, is_text}
use Rattle.wy_print.specs.Pieces.{escaped, all_escaped, quoted}
use Rattle.wy_parse_front.proofs.wy_lex_proofs.CharacterLemmas.{at_zero, start_letter, part_letter}
use Rattle.wy_print_laws.proofs.round_lemmas.Pieces.{plain_from, plain-append, size, is_clean, all_clean, IsMark}

-- ---- what symbols spell

pub codes-plain : (at : ℕ) (cs : List ℕ) → codes_of (plain_from at cs) ≡ cs
codes-plain at [] = refl
codes-plain at (c ∷ cs) = ap (λ l. c ∷ l) (codes-plain (at + length (encode_utf8 c)) cs)

bytes-plain : (at : ℕ) (cs : List ℕ) → bytes_of (plain_from at cs) ≡ encode_utf8_all cs
bytes-plain at cs = ap encode_utf8_all (codes-plain at cs)

-- ---- words

parts-pass : (at : ℕ) (cs : List ℕ) → all_parts cs ≡ true → AllPass (holds class.Part) (plain_from at cs)
parts-pass at [] h = tt
parts-pass at (c ∷ cs) h = (and-left (is_part c) (all_parts cs) h, parts-pass (at + length (encode_utf8 c)) cs (and-right (is_part c) (all_parts cs) h))

-- a word stands where a token may
stands-where : (s : State) (w : List Symbol) → may_stand s ≡ true → stands s w ≡ true
stands-where s w h = ap (λ b. b || continues (word_kind (bytes_of w))) h

-- a word is of the kind that its bytes have
pub word-mark : (kind : TokenKind) (c : ℕ) (cs : List ℕ) → kind ≡ word_kind (encode_utf8_all (c ∷ cs)) → is_start c ≡ true → all_parts cs ≡ true → all_clean (c ∷ cs) ≡ true
    → IsMark kind (c ∷ cs) class.Part
word-mark kind c cs e begins goes_on clean = record {
  first = c;
  others = cs;
  shape = refl;
  clean = clean;
  reads = λ s at i stand follow.
      let w : List Symbol = plain_from at (c ∷ cs) in
      let word : IsWordOf (holds class.Start) (holds class.Part) w =
      record { head = record { character = c; at = at }; tail = plain_from (at + length (encode_utf8 c)) cs; shape = refl; starts = begins; goes_on = parts-pass (at + length (encode_utf8 c)) cs goes_on } in
      let r : (Word {X = Kind} (holds class.Start) (holds class.Part)).reads (w ++ i) w i =
      word-of Kind (holds class.Start) (holds class.Part) (at_zero 119) start_letter (at_zero 119) (part_letter 119 refl) w i word in
      let same : placed s kind at class.Part ≡ placed s (word_kind (bytes_of w)) (place w) class.Part =
      ap (λ x. placed s x at class.Part) (e ∙ sym (ap word_kind (bytes-plain at (c ∷ cs)))) in
      inl (w, i, (r, stands-where s w stand), (same, refl));
}

-- ---- names

no_return : (c : ℕ) → is_part c ≡ true → not (c == 13) ≡ true
no_return c h = by (c == 13) refl
  where
    by : (b : Bool) → (c == 13) ≡ b → not b ≡ true
    by false e = refl
    by true e = absurd (true≢false (sym h ∙ (ap is_part (eqb-true c 13 e) ∙ is_part-ascii 13 (omega arith))))

start-part : (c : ℕ) → is_start c ≡ true → not (c == 13) ≡ true
start-part c h = by (c == 13) refl
  where
    by : (b : Bool) → (c == 13) ≡ b → not b ≡ true
    by false e = refl
    by true e = absurd (true≢false (sym h ∙ (ap is_start (eqb-true c 13 e) ∙ is_start-ascii 13 (omega arith))))

parts-clean : (cs : List ℕ) → all_scalars cs ≡ true → all_parts cs ≡ true → all_clean cs ≡ true
parts-clean [] h g = refl
parts-clean (c ∷ cs) h g =
    both (is_clean c) (all_clean cs) (both (scalar c) (not (c == 13)) (and-left (scalar c) (all_scalars cs) h) (no_return c (and-left (is_part c) (all_parts cs) g)))
    (parts-clean cs (and-right (scalar c) (all_scalars cs) h) (and-right (is_part c) (all_parts cs) g))

no_word : (n : ℕ) (ws : List (List ℕ)) (word : List ℕ) → among ws word ≡ false → kind_from n ws word ≡ k.Name word
no_word n [] word h = refl
no_word n (w ∷ ws) word h = by (bytes_eq w word) (λ g. no_word (suc n) ws word g) h
  where
    by : (b : Bool) → (among ws word ≡ false → kind_from (suc n) ws word ≡ k.Name word) → cond b true (among ws word) ≡ false → cond b (slice_index_or word_kinds n k.End) (kind_from (suc n) ws word) ≡ k.Name word
    by true ih g = absurd (true≢false g)
    by false ih g = ih g

name-kind : (name : List ℕ) → is_keyword name ≡ false → word_kind name ≡ k.Name name
unfolding word_kind is_keyword
name-kind name h = no_word 0 keywords name h

-- a name is written by its characters
pub name-mark : (name : List ℕ) → IsName name → IsMark (k.Name name) (chars name) class.Part
name-mark name h = by (chars name) (scalars-chars name h.0) h.1 (encodes-chars name h.0)
  where
    by : (cs : List ℕ) → all_scalars cs ≡ true → is_word cs ≡ true → encode_utf8_all cs ≡ name → IsMark (k.Name name) cs class.Part
    by [] a b e = absurd (true≢false (sym b))
    by (c ∷ cs) a b e =
        let begins = and-left (is_start c) (all_parts cs) b in
        let goes_on = and-right (is_start c) (all_parts cs) b in
        let clean : all_clean (c ∷ cs) ≡ true =
        both (is_clean c) (all_clean cs) (both (scalar c) (not (c == 13)) (and-left (scalar c) (all_scalars cs) a) (start-part c begins)) (parts-clean cs (and-right (scalar c) (all_scalars cs) a) goes_on) in
        word-mark (k.Name name) c cs (sym (ap word_kind e ∙ name-kind name h.2)) begins goes_on clean

-- ---- words of the language

abbrev is_lower : ℕ → Bool
is_lower c = nat_le 97 c && nat_le c 122

abbrev pub all_lower : List ℕ → Bool
all_lower [] = true
all_lower (c ∷ cs) = is_lower c && all_lower cs

alphabetic : (c : ℕ) → is_lower c ≡ true → is_ascii_alphabetic c ≡ true
alphabetic c h =
    let low = leb-true 97 c (and-left (nat_le 97 c) (nat_le c 122) h) in
    let high = leb-true c 122 (and-right (nat_le 97 c) (nat_le c 122) h) in
    grind (arith, low, high)

alphanumeric : (c : ℕ) → is_lower c ≡ true → is_ascii_alphanumeric c ≡ true
alphanumeric c h =
    let low = leb-true 97 c (and-left (nat_le 97 c) (nat_le c 122) h) in
    let high = leb-true c 122 (and-right (nat_le 97 c) (nat_le c 122) h) in
    grind (arith, low, high)

below : (c : ℕ) → is_lower c ≡ true → c < 128
below c h = omega (arith, leb-true c 122 (and-right (nat_le 97 c) (nat_le c 122) h))

lower-starts : (c : ℕ) → is_lower c ≡ true → is_start c ≡ true
lower-starts c h = is_start-ascii c (below c h) ∙ ap (λ b. b || (c == 95)) (alphabetic c h)

lower-parts : (cs : List ℕ) → all_lower cs ≡ true → all_parts cs ≡ true
lower-parts [] h = refl
lower-parts (c ∷ cs) h =
    let l = and-left (is_lower c) (all_lower cs) h in
    both (is_part c) (all_parts cs) (is_part-ascii c (below c l) ∙ ap (λ b. b || (c == 95)) (alphanumeric c l)) (lower-parts cs (and-right (is_lower c) (all_lower cs) h))

-- a word of lower letters
pub lower-mark : (kind : TokenKind) (c : ℕ) (cs : List ℕ) → kind ≡ word_kind (encode_utf8_all (c ∷ cs)) → all_lower (c ∷ cs) ≡ true → all_clean (c ∷ cs) ≡ true → IsMark kind (c ∷ cs) class.Part
lower-mark kind c cs e h clean = word-mark kind c cs e (lower-starts c (and-left (is_lower c) (all_lower cs) h)) (lower-parts cs (and-right (is_lower c) (all_lower cs) h)) clean

-- ---- numerals

-- digits, which write the number
pub record Writes (n : ℕ) (ds : List ℕ) : Type 0 where
  pub head : ℕ
  pub tail : List ℕ
  pub shape : ds ≡ head ∷ tail
  pub starts : is_digit head ≡ true
  pub goes_on : all_digits tail ≡ true
  pub value : number_from 0 ds ≡ n

a_digit : (d : ℕ) → d < 10 → is_digit (48 + d) ≡ true
a_digit d h = grind arith

digits-append : (ds : List ℕ) (d : ℕ) → all_digits ds ≡ true → is_digit d ≡ true → all_digits (ds ++ d ∷ []) ≡ true
digits-append [] d h g = both (is_digit d) true g refl
digits-append (e ∷ ds) d h g = both (is_digit e) (all_digits (ds ++ d ∷ [])) (and-left (is_digit e) (all_digits ds) h) (digits-append ds d (and-right (is_digit e) (all_digits ds) h) g)

pub decimal_writes : (n : ℕ) → n < 10 ^ 64 → Writes n (decimal n)
decimal_writes n small = decimal_by_steps_wide Writes one more n small
  where
    one : (n : ℕ) → n < 10 → Writes n ((48 + n) ∷ [])
    one n h = record { head = 48 + n; tail = []; shape = refl; starts = a_digit n h; goes_on = refl; value = omega arith }

    more : (n : ℕ) (ds : List ℕ) → 10 ≤ n → Writes (n / 10) ds → Writes n (ds ++ ((48 + n % 10) ∷ []))
    more n ds h w =
        let d = a_digit (n % 10) (omega arith) in
        record {
          head = w.head;
          tail = w.tail ++ ((48 + n % 10) ∷ []);
          shape = ap (λ l. l ++ ((48 + n % 10) ∷ [])) w.shape;
          starts = w.starts;
          goes_on = digits-append w.tail (48 + n % 10) w.goes_on d;
          value = omega (arith, number_from-append 0 ds (48 + n % 10), w.value);
        }

digit-range : (d : ℕ) → is_digit d ≡ true → (48 ≤ d) × (d ≤ 57)
digit-range d h = (leb-true 48 d (and-left (nat_le 48 d) (nat_le d 57) h), leb-true d 57 (and-right (nat_le 48 d) (nat_le d 57) h))

digit-part : (d : ℕ) → is_digit d ≡ true → is_part d ≡ true
digit-part d h =
    let r = digit-range d h in
    let low = r.0 in
    let high = r.1 in
    let b : is_ascii_alphanumeric d ≡ true = grind (arith, low, high) in
    is_part-ascii d (omega (arith, high)) ∙ ap (λ x. x || (d == 95)) b

digit-clean : (d : ℕ) → is_digit d ≡ true → is_clean d ≡ true
digit-clean d h =
    let r = digit-range d h in
    let low = r.0 in
    let high = r.1 in
    grind (arith, low, high)

digits-pass : (at : ℕ) (ds : List ℕ) → all_digits ds ≡ true → AllPass (holds class.Part) (plain_from at ds)
digits-pass at [] h = tt
digits-pass at (d ∷ ds) h = (digit-part d (and-left (is_digit d) (all_digits ds) h), digits-pass (at + length (encode_utf8 d)) ds (and-right (is_digit d) (all_digits ds) h))

digits-clean : (ds : List ℕ) → all_digits ds ≡ true → all_clean ds ≡ true
digits-clean [] h = refl
digits-clean (d ∷ ds) h = both (is_clean d) (all_clean ds) (digit-clean d (and-left (is_digit d) (all_digits ds) h)) (digits-clean ds (and-right (is_digit d) (all_digits ds) h))

-- where a token may stand one that is no word is read
other_left : (b : Bool) (s : State) (S : Rule Symbol Kind State) (i : List Symbol) (t : State) (j : List Symbol) → b ≡ true
    → (Then {X = Kind} {A = Lexeme} {B = State} (Other true) (λ l. Pure (placed_at s l))).reads i t j → (OtherPiece b true s S).reads i t j
other_left true s S i t j e h = inl h
other_left false s S i t j e h = absurd (true≢false (sym e))

other_right : (b : Bool) (s : State) (S : Rule Symbol Kind State) (i : List Symbol) (t : State) (j : List Symbol) → S.reads i t j → (OtherPiece b true s S).reads i t j
other_right true s S i t j h = inr h
other_right false s S i t j h = inr h

-- a literal or a symbol is read as a piece
other-piece : (s : State) (i : List Symbol) (l : Lexeme) (t : State) (j : List Symbol) → may_stand s ≡ true → (Other true).reads i l j → t ≡ placed_at s l → (SourcePiece true s).reads i t j
other-piece s i l t j stand r e = inr (other_left (may_stand s) s (Or (SlashPiece true s) (Or (Gap s) (Break s))) i t j stand (l, j, r, (e, refl)))

digits-mark : (n : ℕ) (ds : List ℕ) → n ≤ greatest → Writes n ds → IsMark (k.Numeral (pos n)) ds class.Part
digits-mark n ds most h = record {
  first = h.head;
  others = h.tail;
  shape = h.shape;
  clean = digits-clean ds all;
  reads = λ s at i stand follow.
      let w : List Symbol = plain_from at ds in
      let begins : w ≡ record { character = h.head; at = at } ∷ plain_from (at + length (encode_utf8 h.head)) h.tail = ap (plain_from at) h.shape in
      let word : IsWordOf (holds class.Digit) (holds class.Part) w =
      record { head = record { character = h.head; at = at }; tail = plain_from (at + length (encode_utf8 h.head)) h.tail; shape = begins; starts = h.starts; goes_on = digits-pass (at + length (encode_utf8 h.head)) h.tail h.goes_on } in
      let r : (Word {X = Kind} (holds class.Digit) (holds class.Part)).reads (w ++ i) w i =
      word-of Kind (holds class.Digit) (holds class.Part) (at_zero 48) refl (at_zero 48) (part_letter 48 refl) w i word in
      let value : number_from 0 (codes_of w) ≡ n = ap (number_from 0) (codes-plain at ds) ∙ h.value in
      let numeral_is : is_numeral (codes_of w) ≡ true =
      both (nat_le (number_from 0 (codes_of w)) greatest) (all_digits (codes_of w)) (ap (λ m. nat_le m greatest) value ∙ within) (ap all_digits (codes-plain at ds) ∙ all) in
      let place_is : place w ≡ at = ap place begins in
      let l : Lexeme = lexeme (k.Numeral (numeral (codes_of w))) (place w) class.Part in
      let same : placed s (k.Numeral (pos n)) at class.Part ≡ placed_at s l =
      ap (λ m. placed s (k.Numeral (pos m)) at class.Part) (sym value) ∙ ap (λ p. placed s (k.Numeral (numeral (codes_of w))) p class.Part) (sym place_is) in
      other-piece s (w ++ i) l (placed s (k.Numeral (pos n)) at class.Part) i stand (inl (w, i, (r, numeral_is), (refl, refl))) same;
}
  where
    all : all_digits ds ≡ true
    all = ap all_digits h.shape ∙ both (is_digit h.head) (all_digits h.tail) h.starts h.goes_on

    within : nat_le n greatest ≡ true
    within = grind (arith, most)

pub numeral-mark : (n : ℕ) → n ≤ greatest → IsMark (k.Numeral (pos n)) (decimal n) class.Part
numeral-mark n most = let small : n < 10 ^ 64 = omega (arith, most) in digits-mark n (decimal n) most (decimal_writes n small)

-- ---- strings

-- what a character is written as is one
escape-unit : (at c : ℕ) (i : List Symbol) → is_text c ≡ true → UnitOf.reads (plain_from at (escaped c) ++ i) c i
unfolding encode
escape-unit at c i h = by (c == 10) (c == 9) (c == 92) (c == 34) refl refl refl refl
  where
    plain : (c == 10) ≡ false → (c == 9) ≡ false → (c == 92) ≡ false → (c == 34) ≡ false → is_plain c ≡ true
    plain p q r s = range (nat_le 32 c) (nat_le c 126) (c == 9) (c == 10) (c == 34) (c == 92) h q p s r
      where
        range : (a b x y z w : Bool) → ((a && b) || (x || y)) ≡ true → x ≡ false → y ≡ false → z ≡ false → w ≡ false → (a && (b && (not z && not w))) ≡ true
        range true true x y z w h p q r s = rw (r, s) refl
        range true false x y z w h p q r s = absurd (true≢false (sym h ∙ rw (p, q) refl))
        range false b x y z w h p q r s = absurd (true≢false (sym h ∙ rw (p, q) refl))

    -- a backslash and this character mean the code
    pair : (d : ℕ) → escaped_code d ≡ Some c → UnitOf.reads (record { character = 92; at = at } ∷ record { character = d; at = at + 1 } ∷ i) c i
    pair d e =
        let b : Symbol = record { character = 92; at = at } in
        let s : Symbol = record { character = d; at = at + 1 } in
        let means_it : means (Some d) ≡ true = ap is_escape e in
        let code : c ≡ code_or_zero (meant (Some d)) = sym (ap code_or_zero e) in
        inr (Some d, i, ((b, s ∷ i, (refl, refl), inl (s, i, (refl, refl), (refl, refl))), means_it), (code, refl))

    by : (p q r s : Bool) → (c == 10) ≡ p → (c == 9) ≡ q → (c == 92) ≡ r → (c == 34) ≡ s
        → UnitOf.reads (plain_from at (cond p (codes "\\n") (cond q (codes "\\t") (cond r (codes "\\\\") (cond s (codes "\\\"") (c ∷ []))))) ++ i) c i
    by true q r s p' q' r' s' = pair 110 (ap Some (sym (eqb-true c 10 p')))
    by false true r s p' q' r' s' = pair 116 (ap Some (sym (eqb-true c 9 q')))
    by false false true s p' q' r' s' = pair 92 (ap Some (sym (eqb-true c 92 r')))
    by false false false true p' q' r' s' = pair 34 (ap Some (sym (eqb-true c 34 s')))
    by false false false false p' q' r' s' = inl (record { character = c; at = at }, i, (plain p' q' r' s', refl), (refl, refl))

escapes-read : (at : ℕ) (v cs : List ℕ) (i : List Symbol) → AllText cs → Turns {X = Kind} Further v (plain_from at (all_escaped cs) ++ i) (v ++ cs) i
escapes-read at v [] i h = stop (append-nil v) refl
escapes-read at v (c ∷ cs) i h =
    let behind = at + size (escaped c) in
    let rest : List Symbol = plain_from behind (all_escaped cs) ++ i in
    let text : plain_from at (escaped c ++ all_escaped cs) ++ i ≡ plain_from at (escaped c) ++ rest =
    ap (λ l. l ++ i) (plain-append at (escaped c) (all_escaped cs)) ∙ append_assoc (plain_from at (escaped c)) (plain_from behind (all_escaped cs)) i in
    subst (λ l. Turns {X = Kind} Further v l (v ++ c ∷ cs) i) (sym text)
    (more (v ++ c ∷ []) rest (c, rest, escape-unit at c rest h.0, (refl, refl))
    (subst (λ l. Turns {X = Kind} Further (v ++ c ∷ []) rest l i) (append_assoc v (c ∷ []) cs) (escapes-read behind (v ++ c ∷ []) cs i h.1)))

all_clean-append : (cs ds : List ℕ) → all_clean cs ≡ true → all_clean ds ≡ true → all_clean (cs ++ ds) ≡ true
all_clean-append [] ds h g = g
all_clean-append (c ∷ cs) ds h g = both (is_clean c) (all_clean (cs ++ ds)) (and-left (is_clean c) (all_clean cs) h) (all_clean-append cs ds (and-right (is_clean c) (all_clean cs) h) g)

escaped-clean : (c : ℕ) → is_text c ≡ true → all_clean (escaped c) ≡ true
escaped-clean c h = by (c == 10) (c == 9) (c == 92) (c == 34) refl
  where
    one : (c == 10) ≡ false → is_clean c ≡ true
    one p = by_range (nat_le 32 c) (nat_le c 126) refl refl h
      where
        by_range : (a b : Bool) → nat_le 32 c ≡ a → nat_le c 126 ≡ b → ((a && b) || ((c == 9) || (c == 10))) ≡ true → is_clean c ≡ true
        by_range true true low high k = let l = leb-true 32 c low in let m = leb-true c 126 high in grind (arith, l, m)
        by_range true false low high k = small (c == 9) refl k
          where
            small : (b : Bool) → (c == 9) ≡ b → (b || (c == 10)) ≡ true → is_clean c ≡ true
            small true e k = ap is_clean (eqb-true c 9 e)
            small false e k = absurd (true≢false (sym k ∙ p))
        by_range false b low high k = small (c == 9) refl k
          where
            small : (b : Bool) → (c == 9) ≡ b → (b || (c == 10)) ≡ true → is_clean c ≡ true
            small true e k = ap is_clean (eqb-true c 9 e)
            small false e k = absurd (true≢false (sym k ∙ p))

    by : (p q r s : Bool) → (c == 10) ≡ p → all_clean (cond p (codes "\\n") (cond q (codes "\\t") (cond r (codes "\\\\") (cond s (codes "\\\"") (c ∷ []))))) ≡ true
    by true q r s e = refl
    by false true r s e = refl
    by false false true s e = refl
    by false false false true e = refl
    by false false false false e = both (is_clean c) true (one e) refl

escapes-clean : (cs : List ℕ) → AllText cs → all_clean (all_escaped cs) ≡ true
escapes-clean [] h = refl
escapes-clean (c ∷ cs) h = all_clean-append (escaped c) (all_escaped cs) (escaped-clean c h.0) (escapes-clean cs h.1)

pub text-mark : (cs : List ℕ) → AllText cs → IsMark (k.Text cs) (quoted cs) class.Nothing
unfolding encode
text-mark cs h = record {
  first = 34;
  others = all_escaped cs ++ 34 ∷ [];
  shape = refl;
  clean = all_clean-append (all_escaped cs) (34 ∷ []) (escapes-clean cs h) refl;
  reads = λ s at i stand follow.
      let open_ : Symbol = record { character = 34; at = at } in
      let behind = (at + 1) + size (all_escaped cs) in
      let close : Symbol = record { character = 34; at = behind } in
      let text : plain_from (at + 1) (all_escaped cs ++ 34 ∷ []) ++ i ≡ plain_from (at + 1) (all_escaped cs) ++ close ∷ i =
      ap (λ l. l ++ i) (plain-append (at + 1) (all_escaped cs) (34 ∷ [])) ∙ append_assoc (plain_from (at + 1) (all_escaped cs)) (close ∷ []) i in
      let inside : Turns {X = Kind} Further [] (plain_from (at + 1) (all_escaped cs ++ 34 ∷ []) ++ i) cs (close ∷ i) =
      subst (λ l. Turns {X = Kind} Further [] l cs (close ∷ i)) (sym text) (escapes-read (at + 1) [] cs (close ∷ i) h) in
      let l : Lexeme = lexeme (k.Text cs) at class.Nothing in
      other-piece s (plain_from at (quoted cs) ++ i) l (placed s (k.Text cs) at class.Nothing) i stand
      (inr (inl (open_, plain_from (at + 1) (all_escaped cs ++ 34 ∷ []) ++ i, (refl, refl), (cs, close ∷ i, inside, (close, i, (refl, refl), (refl, refl))))))
      refl;
}

-- ---- symbols

pub single-mark : (c : ℕ) → is_sign c ≡ true → is_clean c ≡ true → IsMark (single c) (c ∷ []) (second c)
single-mark c h clean = record {
  first = c;
  others = [];
  shape = refl;
  clean = both (is_clean c) true clean refl;
  reads = λ s at i stand follow.
      let l : Lexeme = lexeme (single c) at (second c) in
      other-piece s (plain_from at (c ∷ []) ++ i) l (placed s (single c) at (second c)) i stand (inr (inr (record { character = c; at = at }, i, (h, refl), inr (refl, refl)))) refl;
}

pub double-mark : (c d : ℕ) → is_sign c ≡ true → has (second c) d ≡ true → is_clean c ≡ true → is_clean d ≡ true → IsMark (double c) (c ∷ d ∷ []) (third c)
double-mark c d h g clean clean' = record {
  first = c;
  others = d ∷ [];
  shape = refl;
  clean = both (is_clean c) (all_clean (d ∷ [])) clean (both (is_clean d) true clean' refl);
  reads = λ s at i stand follow.
      let behind : Symbol = record { character = d; at = at + length (encode_utf8 c) } in
      let l : Lexeme = lexeme (double c) at (third c) in
      other-piece s (plain_from at (c ∷ d ∷ []) ++ i) l (placed s (double c) at (third c)) i stand
      (inr (inr (record { character = c; at = at }, behind ∷ i, (h, refl), inl (behind, i, (g, refl), inr (refl, refl))))) refl;
}

-- ==>
pub implies-mark : IsMark triple (61 ∷ 61 ∷ 62 ∷ []) class.Nothing
implies-mark = record {
  first = 61;
  others = 61 ∷ 62 ∷ [];
  shape = refl;
  clean = refl;
  reads = λ s at i stand follow.
      let behind : Symbol = record { character = 61; at = at + length (encode_utf8 61) } in
      let last : Symbol = record { character = 62; at = (at + length (encode_utf8 61)) + length (encode_utf8 61) } in
      let l : Lexeme = lexeme triple at class.Nothing in
      other-piece s (plain_from at (61 ∷ 61 ∷ 62 ∷ []) ++ i) l (placed s triple at class.Nothing) i stand
      (inr (inr (record { character = 61; at = at }, behind ∷ last ∷ i, (refl, refl), inl (behind, last ∷ i, (refl, refl), inl (last, i, (refl, refl), (refl, refl)))))) refl;
}

pub slash-mark : IsMark k.Slash (47 ∷ []) class.Remark
slash-mark = record {
  first = 47;
  others = [];
  shape = refl;
  clean = refl;
  reads = λ s at i stand follow.
      let first : Symbol = record { character = 47; at = at } in
      inr (other_right (may_stand s) s (Or (SlashPiece true s) (Or (Gap s) (Break s))) (first ∷ i) (placed s k.Slash at class.Remark) i
      (inl ((solidus.Sign, at), i, (((first, i, (refl, refl), inr (inr (follow, (refl, refl)))), refl), stand), (refl, refl))));
}

-- ---- ASCII

abbrev pub all_ascii : List ℕ → Bool
all_ascii [] = true
all_ascii (c ∷ cs) = nat_lt c 128 && all_ascii cs

-- each is one byte
pub encodes-ascii : (cs : List ℕ) → all_ascii cs ≡ true → encode_utf8_all cs ≡ cs
encodes-ascii [] h = refl
encodes-ascii (c ∷ cs) h =
    ap₂ (λ (a b : List ℕ). a ++ b) (encode_ascii c (ltb-true c 128 (and-left (nat_lt c 128) (all_ascii cs) h))) (encodes-ascii cs (and-right (nat_lt c 128) (all_ascii cs) h))

ascii-append : (cs ds : List ℕ) → all_ascii cs ≡ true → all_ascii ds ≡ true → all_ascii (cs ++ ds) ≡ true
ascii-append [] ds h g = g
ascii-append (c ∷ cs) ds h g = both (nat_lt c 128) (all_ascii (cs ++ ds)) (and-left (nat_lt c 128) (all_ascii cs) h) (ascii-append cs ds (and-right (nat_lt c 128) (all_ascii cs) h) g)

digits-ascii : (ds : List ℕ) → all_digits ds ≡ true → all_ascii ds ≡ true
digits-ascii [] h = refl
digits-ascii (d ∷ ds) h =
    let r = digit-range d (and-left (is_digit d) (all_digits ds) h) in
    let high = r.1 in
    let one : nat_lt d 128 ≡ true = grind (arith, high) in
    both (nat_lt d 128) (all_ascii ds) one (digits-ascii ds (and-right (is_digit d) (all_digits ds) h))

pub decimal-code : (n : ℕ) → n ≤ greatest → encode_utf8_all (decimal n) ≡ decimal n
decimal-code n most =
    let small : n < 10 ^ 64 = omega (arith, most) in
    let w = decimal_writes n small in
    let all : all_digits (decimal n) ≡ true = ap all_digits w.shape ∙ both (is_digit w.head) (all_digits w.tail) w.starts w.goes_on in
    encodes-ascii (decimal n) (digits-ascii (decimal n) all)

escaped-ascii : (c : ℕ) → is_text c ≡ true → all_ascii (escaped c) ≡ true
escaped-ascii c h = by (c == 10) (c == 9) (c == 92) (c == 34)
  where
    low : nat_lt c 128 ≡ true
    low = by_range (nat_le 32 c) (nat_le c 126) (c == 9) (c == 10) refl refl refl h
      where
        by_range : (a b x y : Bool) → nat_le c 126 ≡ b → (c == 9) ≡ x → (c == 10) ≡ y → ((a && b) || (x || y)) ≡ true → nat_lt c 128 ≡ true
        by_range a b true y p q r k = ap (λ d. nat_lt d 128) (eqb-true c 9 q)
        by_range a b false true p q r k = ap (λ d. nat_lt d 128) (eqb-true c 10 r)
        by_range true true false false p q r k = let m = leb-true c 126 p in grind (arith, m)
        by_range true false false false p q r k = absurd (true≢false (sym k))
        by_range false b false false p q r k = absurd (true≢false (sym k))

    by : (p q r s : Bool) → all_ascii (cond p (codes "\\n") (cond q (codes "\\t") (cond r (codes "\\\\") (cond s (codes "\\\"") (c ∷ []))))) ≡ true
    by true q r s = refl
    by false true r s = refl
    by false false true s = refl
    by false false false true = refl
    by false false false false = both (nat_lt c 128) true low refl

escapes-ascii : (cs : List ℕ) → AllText cs → all_ascii (all_escaped cs) ≡ true
escapes-ascii [] h = refl
escapes-ascii (c ∷ cs) h = ascii-append (escaped c) (all_escaped cs) (escaped-ascii c h.0) (escapes-ascii cs h.1)

pub text-code : (cs : List ℕ) → AllText cs → encode_utf8_all (quoted cs) ≡ quoted cs
text-code cs h = encodes-ascii (quoted cs) (ascii-append (all_escaped cs) (34 ∷ []) (escapes-ascii cs h) refl)
