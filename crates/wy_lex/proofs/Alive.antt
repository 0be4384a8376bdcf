-- What stands before a fault that is met, with its first character, can go on.
use Rattle.std.proofs.Common.{◌≡◌, ℕ, suc, ◌==◌, Bool, true, false, ◌||◌, true≢false, List, [], ◌∷◌, ◌++◌, length, Some, inl, inr, refl, sym, ap, ◌∙◌, subst, arith, append_assoc}
use Rattle.wy_reading.specs.Mode.{Mode, Looser}
use Rattle.wy_reading.specs.Rule.{Rule, heads, One, Pure, Then, Or, Loop, Turns}
use Rattle.wy_reading.specs.Rule.Turns.{stop, more}
use Rattle.wy_reading.specs.Places.{CanGoOn}
use Rattle.wy_reading.proofs.Exactness.{SameHead}
use Rattle.wy_reading.proofs.Outcomes.{SameHead-heads, SameHead-behind}
use Rattle.wy_lex.specs.declared.fault.Kind.{Kind}
use Rattle.wy_lex.specs.declared.token.TokenKind.TheVariants as kinds
use Rattle.wy_lex.specs.declared.symbol.Symbol.{Symbol}
use Rattle.wy_lex.specs.declared.symbol.Character.TheVariants as class
use Rattle.wy_lex.specs.declared.comment.Solidus.{Solidus}
use Rattle.wy_lex.specs.declared.comment.Solidus.TheVariants as solidus
use Rattle.wy_lex.specs.declared.layout.State.{State}
use Rattle.wy_lex.specs.Symbols.{holds, is_digit, is_sign, bytes_of, codes_of, place}
use Rattle.wy_lex.specs.Kinds.{word_kind, numeral, single, second}
use Rattle.wy_lex.specs.Layout.{may_stand, first_state, placed, finished}
use Rattle.wy_lex.specs.Grammar.{is, lexeme, lengthens, WordPiece, Numeral, Text, Further, UnitOf, Behind, means, Sign, Other, OtherPiece, placed_at, Stroke, SlashPiece, Blanks, Gap, Break, Piece, Next, Source}
use Rattle.wy_lex.specs.Source.{profile}
use Rattle.wy_lex.proofs.CharacterLemmas.{at_zero}
use Rattle.wy_lex.proofs.PieceExact.{piece-exact, blanks-exact}

-- where no check is made
abbrev free : Mode
free = record { depth = 0; strict = false }

is_looser : Looser profile free
is_looser = (omega arith, λ h. refl)

-- in the symbols j stands the symbol that k count from; with what is before it, it begins a piece of the state
record Opens (s : State) (j : List Symbol) (k : ℕ) : Type 0 where
  pub front : List Symbol
  pub here : Symbol
  pub rest : List Symbol
  pub cut : j ≡ front ++ here ∷ rest
  pub left : k ≡ suc (length rest)
  pub ending : List Symbol
  pub made : State
  pub reads : (Piece false s).reads (front ++ here ∷ ending) made []

-- the first symbol itself
at_first : (s : State) (c : Symbol) (l j : List Symbol) (k : ℕ) → j ≡ c ∷ l → k ≡ length j → (ending : List Symbol) (t : State) → (Piece false s).reads (c ∷ ending) t [] → Opens s j k
at_first s c l j k e n ending t r = record { front = []; here = c; rest = l; cut = e; left = n ∙ ap length e; ending = ending; made = t; reads = r }

-- ---- words and numerals

word_opens : (s : State) (j : List Symbol) (x : Kind) (k : ℕ) → (WordPiece true s).meets j x k → Opens s j k
word_opens s j x k (inl (inl (inl h))) = absurd h
word_opens s j x k (inl (inl (inr h))) = absurd (elim h.3.3 [ inl g ↦ g | inr g ↦ g.3 ])
word_opens s j x k (inl (inr h)) =
    let w = h.2 in
    at_first s w.0 w.1 j k w.2.1 h.6 [] (placed s (word_kind (bytes_of (w.0 ∷ []))) (place (w.0 ∷ [])) class.Part) (inl (w.0 ∷ [], [], ((w.0, [], (w.2.0, refl), stop refl refl), refl), (refl, refl)))
word_opens s j x k (inr h) = absurd h.3

-- a literal or a symbol, by itself
lexeme_reads : (s : State) (i : List Symbol) (t : State) → (Then (Other false) (λ l. Pure (placed_at s l))).reads i t [] → (Piece false s).reads i t []
lexeme_reads s i t r = inr (inl r)

digit_reads : (s : State) (c : Symbol) → holds class.Digit c ≡ true → (t : State) × (Piece false s).reads (c ∷ []) t []
digit_reads s c h =
    let l = lexeme (kinds.Numeral (numeral (codes_of (c ∷ [])))) (place (c ∷ [])) class.Part in
    (placed_at s l, lexeme_reads s (c ∷ []) (placed_at s l) (l, [], inl (c ∷ [], [], ((c, [], (h, refl), stop refl refl), refl), (refl, refl)), (refl, refl)))

numeral_opens : (s : State) (j : List Symbol) (x : Kind) (k : ℕ) → (Numeral true).meets j x k → Opens s j k
numeral_opens s j x k (inl (inl (inl h))) = absurd h
numeral_opens s j x k (inl (inl (inr h))) = absurd (elim h.3.3 [ inl g ↦ g | inr g ↦ g.3 ])
numeral_opens s j x k (inl (inr h)) = let w = h.2 in let d = digit_reads s w.0 w.2.0 in at_first s w.0 w.1 j k w.2.1 h.6 [] d.0 d.1
numeral_opens s j x k (inr h) = absurd h.3

-- ---- strings

turns-more : {S X A : Type 0} (turn : A → Rule S X A) (a : A) (i : List S) (b : A) (j : List S) (c : A) (l : List S) → Turns turn a i b j → (turn b).reads j c l → Turns turn a i c l
turns-more turn a i b j c l (stop e e') r = more c l (subst (λ x. (turn x).reads i c l) e (subst (λ m. (turn b).reads m c l) (sym e') r)) (stop refl refl)
turns-more turn a i b j c l (more d m t rest) r = more d m t (turns-more turn d m b j c l rest r)

-- what a unit reads it reads whatever follows
record Unit' (i : List Symbol) (c : ℕ) (j : List Symbol) : Type 0 where
  pub front : List Symbol
  pub cut : i ≡ front ++ j
  pub again : (z : List Symbol) → UnitOf.reads (front ++ z) c z

unit_again : (i : List Symbol) (c : ℕ) (j : List Symbol) → UnitOf.reads i c j → Unit' i c j
unit_again i c j (inl r) = record { front = r.0 ∷ []; cut = r.2.1 ∙ ap (λ l. r.0 ∷ l) r.3.1; again = λ z. inl (r.0, z, (r.2.0, refl), (r.3.0, refl)) }
unit_again i c j (inr r) = by r.2.0.3
  where
    by : Behind.reads r.2.0.1 r.0 r.1 → Unit' i c j
    by (inl b) = record {
      front = r.2.0.0 ∷ b.0 ∷ [];
      cut = r.2.0.2.1 ∙ ap (λ l. r.2.0.0 ∷ l) (b.2.1 ∙ ap (λ l. b.0 ∷ l) (b.3.1 ∙ r.3.1));
      again = λ z. inr (r.0, z, ((r.2.0.0, b.0 ∷ z, (r.2.0.2.0, refl), inl (b.0, z, (b.2.0, refl), (b.3.0, refl))), r.2.1), (r.3.0, refl));
    }
    by (inr b) = absurd (true≢false (sym r.2.1 ∙ ap means b.3.0))

record Units (codes : List ℕ) (i : List Symbol) (made : List ℕ) (j : List Symbol) : Type 0 where
  pub front : List Symbol
  pub cut : i ≡ front ++ j
  pub again : (z : List Symbol) → Turns Further codes (front ++ z) made z

units_again : (codes : List ℕ) (i : List Symbol) (made : List ℕ) (j : List Symbol) → Turns Further codes i made j → Units codes i made j
units_again codes i made j (stop e e') = record { front = []; cut = e'; again = λ z. stop e refl }
units_again codes i made j (more c l r rest) =
    let h = unit_again i r.0 r.1 r.2 in
    let g = units_again c l made j rest in
    record {
      front = h.front ++ g.front;
      cut = h.cut ∙ (ap (λ m. h.front ++ m) (r.3.1 ∙ g.cut) ∙ sym (append_assoc h.front g.front j));
      again = λ z. subst (λ y. Turns Further codes y made z) (sym (append_assoc h.front g.front z)) (more c (g.front ++ z) (r.0, g.front ++ z, h.again (g.front ++ z), (r.3.0, refl)) (g.again z));
    }

-- `n` and the quote that ends the string
abbrev closing : List Symbol
closing = at_zero 110 ∷ at_zero 34 ∷ []

escape_opens : (s : State) (j : List Symbol) (k : ℕ) (q : Symbol) (l : List Symbol) → is 34 q ≡ true → j ≡ q ∷ l → (codes : List ℕ) (l2 : List Symbol) → Turns Further [] l codes l2
    → (b : Symbol) (m : List Symbol) → is 92 b ≡ true → l2 ≡ b ∷ m → k ≡ length l2 → Opens s j k
escape_opens s j k q l quote e codes l2 turns b m slash f n =
    let g = units_again [] l codes l2 turns in
    let t = lexeme (kinds.Text (codes ++ 10 ∷ [])) q.at class.Nothing in
    let further : (Further codes).reads (b ∷ closing) (codes ++ 10 ∷ []) (at_zero 34 ∷ []) =
    (10, at_zero 34 ∷ [], inr (Some 110, at_zero 34 ∷ [], ((b, closing, (slash, refl), inl (at_zero 110, at_zero 34 ∷ [], (refl, refl), (refl, refl))), refl), (refl, refl)), (refl, refl)) in
    record {
      front = q ∷ g.front;
      here = b;
      rest = m;
      cut = e ∙ ap (λ i. q ∷ i) (g.cut ∙ ap (λ i. g.front ++ i) f);
      left = n ∙ ap length f;
      ending = closing;
      made = placed_at s t;
      reads =
          lexeme_reads s (q ∷ (g.front ++ b ∷ closing)) (placed_at s t)
          (t, [], inr (inl (q, g.front ++ b ∷ closing, (quote, refl), (codes ++ 10 ∷ [], at_zero 34 ∷ [], turns-more Further [] (g.front ++ b ∷ closing) codes (b ∷ closing) (codes ++ 10 ∷ []) (at_zero 34 ∷ []) (g.again (b ∷ closing)) further, (at_zero 34, [], (refl, refl), (refl, refl))))), (refl, refl));
    }

text_opens : (s : State) (j : List Symbol) (x : Kind) (k : ℕ) → Text.meets j x k → Opens s j k
text_opens s j x k (inl h) = absurd h
text_opens s j x k (inr h) = by h.3
  where
    none : {A : Type 0} → ⊥ → A
    none h = absurd h

    unit : (codes : List ℕ) (l2 : List Symbol) → Turns Further [] h.1 codes l2 → UnitOf.meets l2 x k → Opens s j k
    unit codes l2 turns (inl (inl g)) = absurd g
    unit codes l2 turns (inl (inr g)) = absurd g.3
    unit codes l2 turns (inr (inl (inl (inl g)))) = absurd g
    unit codes l2 turns (inr (inl (inl (inr g)))) = absurd (elim g.3 [ inl u ↦ elim u [ inl v ↦ v | inr v ↦ v.3 ] | inr u ↦ elim u [ inl v ↦ v | inr v ↦ v.3 ] ])
    unit codes l2 turns (inr (inl (inr g))) = escape_opens s j k h.0 h.1 h.2.0 h.2.1 codes l2 turns g.2.0 g.2.1 g.2.2.0 g.2.2.1 g.6
    unit codes l2 turns (inr (inr g)) = absurd g.3

    by : (Then (Loop Further []) (λ codes. Then (One (is 34)) (λ close. Pure (lexeme (kinds.Text codes) h.0.at class.Nothing)))).meets h.1 x k → Opens s j k
    by (inl (codes, l2, turns, inl g)) = unit codes l2 turns g
    by (inl (codes, l2, turns, inr g)) = absurd g.3
    by (inr g) = absurd (elim g.3 [ inl v ↦ v | inr v ↦ v.3 ])

sign_none : (j : List Symbol) (x : Kind) (k : ℕ) → Sign.meets j x k → ⊥
sign_none j x k (inl h) = h
sign_none j x k (inr h) =
    elim h.3 [
      | inl g ↦ elim g [ inl u ↦ u | inr u ↦ elim u.3 [ inl v ↦ elim v [ inl w ↦ w | inr w ↦ w.3 ] | inr v ↦ v ] ]
      | inr g ↦ g
    ]

lexeme_opens : (s : State) (j : List Symbol) (x : Kind) (k : ℕ) → (Then (Other true) (λ l. Pure (placed_at s l))).meets j x k → Opens s j k
lexeme_opens s j x k (inl (inl h)) = numeral_opens s j x k h
lexeme_opens s j x k (inl (inr (inl h))) = text_opens s j x k h
lexeme_opens s j x k (inl (inr (inr h))) = absurd (sign_none j x k h)
lexeme_opens s j x k (inr h) = absurd h.3

-- a literal or a symbol where none may stand
refused_opens : (s : State) (j : List Symbol) (k : ℕ) → heads (holds class.Other) j ≡ true → k ≡ length j → Opens s j k
refused_opens s [] k h n = absurd (true≢false (sym h))
refused_opens s (c ∷ l) k h n = by (is_digit c.character) (c.character == 34) (is_sign c.character) refl refl refl h
  where
    by : (a b d : Bool) → is_digit c.character ≡ a → (c.character == 34) ≡ b → is_sign c.character ≡ d → (a || (b || d)) ≡ true → Opens s (c ∷ l) k
    by true b d ea eb ed g = let r = digit_reads s c ea in at_first s c l (c ∷ l) k refl n [] r.0 r.1
    by false true d ea eb ed g =
        let t = lexeme (kinds.Text []) c.at class.Nothing in
        at_first s c l (c ∷ l) k refl n (at_zero 34 ∷ []) (placed_at s t)
        (lexeme_reads s (c ∷ at_zero 34 ∷ []) (placed_at s t) (t, [], inr (inl (c, at_zero 34 ∷ [], (eb, refl), ([], at_zero 34 ∷ [], stop refl refl, (at_zero 34, [], (refl, refl), (refl, refl))))), (refl, refl)))
    by false false true ea eb ed g =
        let t = lexeme (single c.character) c.at (second c.character) in
        at_first s c l (c ∷ l) k refl n [] (placed_at s t) (lexeme_reads s (c ∷ []) (placed_at s t) (t, [], inr (inr (c, [], (ed, refl), inr (refl, refl))), (refl, refl)))
    by false false false ea eb ed g = absurd (true≢false (sym g))

-- ---- a slash, blanks and line ends

slash_reads : (s : State) (j : List Symbol) (k : ℕ) (v : Solidus × ℕ) (l : List Symbol) → Stroke.reads j v l → k ≡ length j → Opens s j k
slash_reads s j k v l r n =
    at_first s r.0 r.1 j k r.2.1 n [] (placed s kinds.Slash r.0.at class.Remark)
    (inr (inr (inl ((solidus.Sign, r.0.at), [], (((r.0, [], (r.2.0, refl), inr (inr (refl, (refl, refl)))), refl), refl), (refl, refl)))))

stroke_none : (j : List Symbol) (x : Kind) (k : ℕ) → Stroke.meets j x k → ⊥
stroke_none j x k (inl h) = h
stroke_none j x k (inr h) =
    elim h.3 [
      | inl g ↦ elim g [ inl u ↦ u | inr u ↦ elim u.3 [ inl v ↦ elim v.3 [ inl w ↦ w | inr w ↦ w.3 ] | inr v ↦ v.3 ] ]
      | inr g ↦ elim g [ inl u ↦ elim u [ inl v ↦ v | inr v ↦ elim v.3 [ inl w ↦ w | inr w ↦ w.3 ] ] | inr u ↦ u.1 ]
    ]

slash_opens : (s : State) (j : List Symbol) (x : Kind) (k : ℕ) → (SlashPiece true s).meets j x k → Opens s j k
slash_opens s j x k (inl (inl (inl h))) = absurd (stroke_none j x k h)
slash_opens s j x k (inl (inl (inr h))) = slash_reads s j k h.0 h.1 h.2 h.6
slash_opens s j x k (inl (inr h)) = slash_reads s j k h.0 h.1 h.2.0 h.6
slash_opens s j x k (inr h) = absurd h.3

gap_none : (s : State) (j : List Symbol) (x : Kind) (k : ℕ) → (Gap s).meets j x k → ⊥
gap_none s j x k (inl h) = h
gap_none s j x k (inr h) = elim h.3 [ inl v ↦ elim v.3 [ inl w ↦ w | inr w ↦ w.3 ] | inr v ↦ v.3 ]

break_none : (s : State) (j : List Symbol) (x : Kind) (k : ℕ) → (Break s).meets j x k → ⊥
break_none s j x k (inl h) = h
break_none s j x k (inr h) = elim h.3 [ inl v ↦ elim v.3 [ inl w ↦ w | inr w ↦ w.3 ] | inr v ↦ v.3 ]

rest_opens : (s : State) (j : List Symbol) (x : Kind) (k : ℕ) → (Or (SlashPiece true s) (Or (Gap s) (Break s))).meets j x k → Opens s j k
rest_opens s j x k (inl h) = slash_opens s j x k h
rest_opens s j x k (inr (inl h)) = absurd (gap_none s j x k h)
rest_opens s j x k (inr (inr h)) = absurd (break_none s j x k h)

piece_opens : (s : State) (j : List Symbol) (x : Kind) (k : ℕ) → (Piece true s).meets j x k → Opens s j k
piece_opens s j x k (inl h) = word_opens s j x k h
piece_opens s j x k (inr h) = by (may_stand s) h
  where
    by : (b : Bool) → (OtherPiece b true s (Or (SlashPiece true s) (Or (Gap s) (Break s)))).meets j x k → Opens s j k
    by true (inl g) = lexeme_opens s j x k g
    by true (inr g) = rest_opens s j x k g
    by false (inl g) = refused_opens s j k g.0 g.2
    by false (inr g) = rest_opens s j x k g

-- ---- the pieces before it

clear_of : (s : State) (i : List Symbol) (t : State) (j : List Symbol) → Turns (Next true) s i t j → heads (lengthens t.more) j ≡ false → heads (lengthens s.more) i ≡ false
clear_of s i t j (stop e e') h = subst (λ l. heads (lengthens s.more) l ≡ false) (sym e') (subst (λ (c : State). heads (lengthens c.more) j ≡ false) e h)
clear_of s i t j (more c l r rest) h = r.0

-- they are read again, without checks, where what follows begins as before
record Again (s : State) (i : List Symbol) (t : State) (j j' : List Symbol) : Type 0 where
  pub front : List Symbol
  pub cut : i ≡ front ++ j
  pub turns : Turns (Next false) s (front ++ j') t j'

same_behind : (front i i' l : List Symbol) → i ≡ front ++ l → SameHead l i' → SameHead i (front ++ i')
same_behind front i i' l e h = subst (λ m. SameHead m (front ++ i')) (sym e) (SameHead-behind front l i' h)

pieces_again : (s : State) (i : List Symbol) (t : State) (j j' : List Symbol) → SameHead j j' → heads (lengthens t.more) j ≡ false → Turns (Next true) s i t j → Again s i t j j'
pieces_again s i t j j' same clear (stop e e') = record { front = []; cut = e'; turns = stop e refl }
pieces_again s i t j j' same clear (more c l r rest) =
    let g = pieces_again c l t j j' same clear rest in
    let head = same_behind g.front l j' j g.cut same in
    let d = (piece-exact profile s).done i c l ((piece-exact profile s).complete i c l r.1 (clear_of c l t j rest clear)) in
    let reads = (piece-exact free s).sound (d.front ++ (g.front ++ j')) c (g.front ++ j') (d.again free is_looser (g.front ++ j') (inl head)) in
    let lacks = sym (SameHead-heads (lengthens s.more) i (d.front ++ (g.front ++ j')) (same_behind d.front i (g.front ++ j') l d.cut head)) ∙ r.0 in
    record {
      front = d.front ++ g.front;
      cut = d.cut ∙ (ap (λ m. d.front ++ m) g.cut ∙ sym (append_assoc d.front g.front j));
      turns = subst (λ m. Turns (Next false) s m t j') (sym (append_assoc d.front g.front j')) (more c (g.front ++ j') (lacks, reads) g.turns);
    }

-- ---- the source

-- at the symbol that k count from, what stands up to it and with it can go on
pub record MeetsAt (size : ℕ) (i : List Symbol) (k : ℕ) : Type 0 where
  pub front : List Symbol
  pub here : Symbol
  pub rest : List Symbol
  pub cut : i ≡ front ++ here ∷ rest
  pub left : k ≡ suc (length rest)
  pub alive : CanGoOn (Source size) profile (front ++ here ∷ [])

opens_head : (s : State) (j : List Symbol) (k : ℕ) (o : Opens s j k) → SameHead j (o.front ++ o.here ∷ o.ending)
opens_head s j k o = subst (λ l. SameHead l (o.front ++ o.here ∷ o.ending)) (sym o.cut) (SameHead-behind o.front (o.here ∷ o.rest) (o.here ∷ o.ending) refl)

pieces_alive : (size : ℕ) (i w l : List Symbol) (s : State) (j : List Symbol) (x : Kind) (k : ℕ) → Blanks.reads i w l → Turns (Next true) (first_state (bytes_of w)) l s j → (Next true s).meets j x k → MeetsAt size i k
pieces_alive size i w l s j x k blanks turns met =
    let o = piece_opens s j x k met.1 in
    let j' = o.front ++ o.here ∷ o.ending in
    let head = opens_head s j k o in
    let g = pieces_again (first_state (bytes_of w)) l s j j' head met.0 turns in
    let lhead = same_behind g.front l j' j g.cut head in
    let d = (blanks-exact profile).done i w l ((blanks-exact profile).complete i w l blanks (clear_of (first_state (bytes_of w)) l s j turns met.0)) in
    let reads = (blanks-exact free).sound (d.front ++ (g.front ++ j')) w (g.front ++ j') (d.again free is_looser (g.front ++ j') (inl lhead)) in
    let lacks = sym (SameHead-heads (lengthens s.more) j j' head) ∙ met.0 in
    let text : List Symbol = d.front ++ (g.front ++ j') in
    let front = d.front ++ (g.front ++ o.front) in
    let whole : (Source size free).reads text (finished o.made size) [] =
    (finished o.made size, [], (w, g.front ++ j', reads, (o.made, [], turns-more (Next false) (first_state (bytes_of w)) (g.front ++ j') s j' o.made [] g.turns (lacks, o.reads), (refl, refl))), (tt, [], (refl, refl), (refl, refl))) in
    let shape : text ≡ (front ++ o.here ∷ []) ++ o.ending =
    ap (λ m. d.front ++ m) (sym (append_assoc g.front o.front (o.here ∷ o.ending)))
    ∙ (sym (append_assoc d.front (g.front ++ o.front) (o.here ∷ o.ending)) ∙ sym (append_assoc front (o.here ∷ []) o.ending)) in
    record {
      front = front;
      here = o.here;
      rest = o.rest;
      cut =
          d.cut
          ∙ (ap (λ m. d.front ++ m) (g.cut ∙ (ap (λ m. g.front ++ m) o.cut ∙ sym (append_assoc g.front o.front (o.here ∷ o.rest)))) ∙ sym (append_assoc d.front (g.front ++ o.front) (o.here ∷ o.rest)));
      left = o.left;
      alive = (free, is_looser, o.ending, finished o.made size, subst (λ m. (Source size free).reads m (finished o.made size) []) shape whole);
    }

pub meets_alive : (size : ℕ) (i : List Symbol) (x : Kind) (k : ℕ) → (Source size profile).meets i x k → MeetsAt size i k
meets_alive size i x k (inl (inl h)) = absurd (elim h.3 [ inl g ↦ g | inr g ↦ g.3 ])
meets_alive size i x k (inl (inr h)) = by h.3
  where
    by : (Then (Loop (Next true) (first_state (bytes_of h.0))) (λ s. Pure (finished s size))).meets h.1 x k → MeetsAt size i k
    by (inl g) = pieces_alive size i h.0 h.1 g.0 g.1 x k h.2 g.2 g.3
    by (inr g) = absurd g.3
meets_alive size i x k (inr h) = absurd (elim h.3 [ inl g ↦ g | inr g ↦ g.3 ])
