-- Each piece is read as far as it goes, so no piece begins with what would lengthen the one before it.
use Rattle.std.proofs.Common.{◌≡◌, ℕ, zero, suc, ◌≤◌, Bool, true, false, cond, List, [], ◌∷◌, ◌++◌, length, Ok, Err, ◌⊎◌, inl, inr, refl, sym, ap, ◌∙◌, subst, arith}
use Rattle.std.specs.Bool.{⊤}
use Rattle.wy_reading.specs.declared.stop.Stop.TheVariants.{Fault}
use Rattle.wy_reading.specs.Mode.{Mode}
use Rattle.wy_reading.specs.Rule.{heads, lax}
use Rattle.wy_reading.specs.Reader.{Outcome, and_then, ◌>>=◌, pure, one, branch, word, checked, skip, step, letter, loop, while, finish, refused}
use Rattle.wy_reading.proofs.Exactness.{Lacks}
use Rattle.wy_reading.proofs.Outcomes.{and_then-ok, ok-parts, if-cases}
use Rattle.wy_reading.proofs.Words.{word-ends}
use Rattle.wy_lex.specs.declared.fault.Kind.{Kind}
use Rattle.wy_lex.specs.declared.fault.Kind.TheVariants.{BadIndent, BadNumeral, OpenComment}
use Rattle.wy_lex.specs.declared.token.Token.{Token}
use Rattle.wy_lex.specs.declared.token.TokenKind.TheVariants as k
use Rattle.wy_lex.specs.declared.symbol.Symbol.{Symbol}
use Rattle.wy_lex.specs.declared.symbol.Character.{Character}
use Rattle.wy_lex.specs.declared.symbol.Character.TheVariants as class
use Rattle.wy_lex.specs.declared.lexeme.Lexeme.{Lexeme}
use Rattle.wy_lex.specs.declared.comment.Solidus.{Solidus}
use Rattle.wy_lex.specs.declared.comment.Solidus.TheVariants as solidus
use Rattle.wy_lex.specs.declared.layout.State.{State}
use Rattle.wy_lex.specs.Symbols.{holds, codes_of, bytes_of, place}
use Rattle.wy_lex.specs.Kinds.{word_kind, numeral, single, second, double, third, triple}
use Rattle.wy_lex.specs.Layout.{may_stand, first_state, placed, broken, passed, finished}
use Rattle.wy_lex.specs.Grammar.{is, lexeme, lengthens, stands, NoPart, is_number, placed_at, is_closed, may_be, struck}
use Rattle.wy_lex.specs.Reading.{Q, word_piece, numeral_lexeme, inside, text, sign, other, other_piece, closed, stroke, slash, slash_piece, blanks, gap, break_piece, piece, pieces, source}
use Rattle.wy_lex.proofs.CharacterLemmas.{at_zero, start_letter, part_letter}
use Rattle.wy_lex.proofs.CommentExact.{FollowSlash, closed-sound}
use Rattle.wy_lex.proofs.LexemeExact.{FollowLexeme, IsOne, second-is, third-is}
use Rattle.wy_lex.proofs.PieceExact.{Follow, placed-more}
use Rattle.wy_lex.proofs.SourceExact.{next, careful}

-- behind what the reader reads, F holds
abbrev Ends : {A : Type 0} → Q A → (A → List Symbol → Type 0) → Type 0
Ends {A} q F = (i : List Symbol) (a : A) (j : List Symbol) → q i ≡ Ok (a, j) → F a j

module _ {A : Type 0} (ok : A → Bool) (x : Kind) (p : Q A) (F : A → List Symbol → Type 0) (h : Ends p F) where
  abbrev Judged : A → List Symbol → List Symbol → Outcome Symbol Kind A → Type 0
  Judged b l i r = ((ok b ≡ true) × (let good : Outcome Symbol Kind A = Ok (b, l) in good ≡ r)) ⊎ ((ok b ≡ false) × (let bad : Outcome Symbol Kind A = Err (Fault x (length i)) in bad ≡ r))

  checked-ends : Ends (checked ok x p) F
  checked-ends i a j e =
      let y = and_then-ok (p i) (λ b l. cond (ok b) (Ok (b, l)) (Err (Fault x (length i)))) (a, j) e in
      by y.0.0 y.0.1 y.1 (if-cases (ok y.0.0) _ _ _ y.2)
    where
      by : (b : A) (l : List Symbol) → p i ≡ Ok (b, l) → Judged b l i (Ok (a, j)) → F a j
      by b l g (inl d) = h i a j (g ∙ d.1)
      by b l g (inr d) = let bad = d.1 in absurd (cc)

bound-ends : {A C : Type 0} (p : Q A) (g : A → Q C) (F : C → List Symbol → Type 0) → ((a : A) → Ends (g a) F) → Ends (p >>= g) F
bound-ends p g F h i c j e = let y = and_then-ok (p i) g (c, j) e in h y.0.0 y.0.1 c j y.2

mapped-ends : {A C : Type 0} (p : Q A) (f : A → C) (F : A → List Symbol → Type 0) (G : C → List Symbol → Type 0) → Ends p F → ((a : A) (j : List Symbol) → F a j → G (f a) j) → Ends (p >>= (λ a. pure (f a))) G
mapped-ends p f F G h link i c j e =
    let y = and_then-ok (p i) (λ a. pure (f a)) (c, j) e in
    let s = ok-parts (f y.0.0) c y.0.1 j y.2 in
    subst (λ l. G c l) s.1 (subst (λ x. G x y.0.1) s.0 (link y.0.0 y.0.1 (h i y.0.0 y.0.1 y.1)))

-- where nothing is read, behind the first symbols
pure-ends : {A : Type 0} (a : A) (F : A → List Symbol → Type 0) (i : List Symbol) → F a i → (b : A) (j : List Symbol) → (let r : Outcome Symbol Kind A = pure a i in r ≡ Ok (b, j)) → F b j
pure-ends a F i f b j e = let s = ok-parts a b i j e in subst (λ l. F b l) s.1 (subst (λ x. F x i) s.0 f)

abbrev Either : {A : Type 0} → (Symbol → Bool) → Q A → Q A → List Symbol → Outcome Symbol Kind A → Type 0
Either test p q i r = ((heads test i ≡ true) × (p i ≡ r)) ⊎ ((heads test i ≡ false) × (q i ≡ r))

either : {A : Type 0} (test : Symbol → Bool) (p q : Q A) (i : List Symbol) (r : Outcome Symbol Kind A) → branch test p q i ≡ r → Either test p q i r
either test p q i r e = if-cases (heads test i) _ _ _ e

-- ---- loops

module _ {A : Type 0} (test : Symbol → Bool) (turn : A → Q A) (g : A → Symbol → A) (turns : (a : A) (s : Symbol) (i : List Symbol) → test s ≡ true → turn a (s ∷ i) ≡ Ok (g a s, i)) where
  abbrev Turned : ℕ → A → Symbol → List Symbol → Outcome Symbol Kind A → Type 0
  Turned f a s i r = ((test s ≡ true) × (and_then (turn a (s ∷ i)) (loop test turn f) ≡ r)) ⊎ ((test s ≡ false) × (let end : Outcome Symbol Kind A = Ok (a, s ∷ i) in end ≡ r))

  loop-ends : (f : ℕ) (a : A) (i : List Symbol) (b : A) (j : List Symbol) → length i ≤ f → loop test turn f a i ≡ Ok (b, j) → Lacks test j
  loop-ends zero a [] b j le e = ap (heads test) (sym (ok-parts a b [] j e).1)
  loop-ends zero a (s ∷ i) b j le e = absurd (omega arith)
  loop-ends (suc f) a [] b j le e = ap (heads test) (sym (ok-parts a b [] j e).1)
  loop-ends (suc f) a (s ∷ i) b j le e = by (λ c l. loop-ends f c l b j) (if-cases (test s) _ _ _ e)
    where
      by : ((c : A) (l : List Symbol) → length l ≤ f → loop test turn f c l ≡ Ok (b, j) → Lacks test j) → Turned f a s i (Ok (b, j)) → Lacks test j
      by ih (inl d) = ih (g a s) i (omega arith) (sym (ap (λ o. and_then o (loop test turn f)) (turns a s i d.0)) ∙ d.1)
      by ih (inr d) = ap (heads test) (sym (ok-parts a b (s ∷ i) j d.1).1) ∙ d.0

  while-ends : (a : A) → Ends (while test turn a) (λ b. Lacks test)
  while-ends a i b j e = loop-ends (length i) a i b j (omega arith) e

skip-ends : (test : Symbol → Bool) → Ends (skip test) (λ x. Lacks test)
skip-ends test = while-ends test (step test) (λ u s. tt) (λ a s i h. rw h refl) tt

blanks-ends : Ends blanks (λ w. Lacks (holds class.Blank))
unfolding blanks
blanks-ends = while-ends (holds class.Blank) (letter (holds class.Blank)) (λ w s. w ++ s ∷ []) (λ a s i h. rw h refl) []

-- ---- pieces

free : (i : List Symbol) → Lacks (lengthens class.Nothing) i
free [] = refl
free (s ∷ i) = refl

free_any : (i : List Symbol) → Lacks (lengthens class.Any) i
free_any [] = refl
free_any (s ∷ i) = refl

word_of : (start : Character) (begin : Symbol) → holds start begin ≡ true → Ends (word (holds start) (holds class.Part)) (λ w. NoPart)
word_of start begin h i w j e = word-ends Kind (holds start) (holds class.Part) begin h (at_zero 119) (part_letter 119 refl) i w j e

word-piece-ends : (strict : Bool) (s : State) → Ends (word_piece strict s) Follow
unfolding word_piece
word-piece-ends strict s =
    mapped-ends (checked (lax strict (stands s)) BadIndent (word (holds class.Start) (holds class.Part))) (λ w. placed s (word_kind (bytes_of w)) (place w) class.Part) (λ w. NoPart) Follow
    (checked-ends (lax strict (stands s)) BadIndent (word (holds class.Start) (holds class.Part)) (λ w. NoPart) (word_of class.Start (at_zero 119) start_letter))
    (λ w j f. subst (λ x. Lacks (lengthens x) j) (sym (placed-more s (word_kind (bytes_of w)) (place w) class.Part)) f)

numeral-ends : (strict : Bool) → Ends (numeral_lexeme strict) FollowLexeme
unfolding numeral_lexeme
numeral-ends strict =
    mapped-ends (checked (lax strict is_number) BadNumeral (word (holds class.Digit) (holds class.Part))) (λ w. lexeme (k.Numeral (numeral (codes_of w))) (place w) class.Part) (λ w. NoPart) FollowLexeme
    (checked-ends (lax strict is_number) BadNumeral (word (holds class.Digit) (holds class.Part)) (λ w. NoPart) (word_of class.Digit (at_zero 48) refl)) (λ w j f. f)

text-ends : Ends text FollowLexeme
unfolding text
text-ends =
    bound-ends (one (is 34)) _ FollowLexeme
    (λ quote. bound-ends inside _ FollowLexeme (λ codes. mapped-ends (one (is 34)) (λ c. lexeme (k.Text codes) quote.at class.Nothing) (λ c j. ⊤) FollowLexeme (λ i c j e. tt) (λ c j f. free j)))

-- what lengthens a symbol
lacks-one : (x : Character) → IsOne (record { depth = 0; strict = true }) x → (i : List Symbol) → Lacks (holds x) i → Lacks (lengthens x) i
lacks-one x (inl e) i h = subst (λ y. Lacks (lengthens y) i) (sym e) (free i)
lacks-one x (inr d) i h = subst (λ y. Lacks (holds y) i → Lacks (lengthens y) i) (sym d.1) (λ f. f) h

abbrev lone : Symbol → Q Lexeme
lone c = pure (lexeme (single c.character) c.at (second c.character))

abbrev pair : Symbol → Q Lexeme
pair c = pure (lexeme (double c.character) c.at (third c.character))

abbrev three : Symbol → Q Lexeme
three c = one (holds (third c.character)) >>= (λ e. pure (lexeme triple c.at class.Nothing))

abbrev two : Symbol → Q Lexeme
two c = one (holds (second c.character)) >>= (λ d. branch (holds (third c.character)) (three c) (pair c))

two-ends : (c : Symbol) → Ends (two c) FollowLexeme
two-ends c =
    bound-ends (one (holds (second c.character))) (λ d. branch (holds (third c.character)) (three c) (pair c)) FollowLexeme
    (λ b l z m g. elim (either (holds (third c.character)) (three c) (pair c) l (Ok (z, m)) g) [
      | inl u ↦ mapped-ends (one (holds (third c.character))) (λ w. lexeme triple c.at class.Nothing) (λ w q. ⊤) FollowLexeme (λ q w r f. tt) (λ w q f. free q) l z m u.1
      | inr u ↦ pure-ends (lexeme (double c.character) c.at (third c.character)) FollowLexeme l (lacks-one (third c.character) (third-is (record { depth = 0; strict = true }) c.character) l u.0) z m u.1
    ])

sign-ends : Ends sign FollowLexeme
unfolding sign
sign-ends =
    bound-ends (one (holds class.Sign)) (λ c. branch (holds (second c.character)) (two c) (lone c)) FollowLexeme
    (λ c i a j e. elim (either (holds (second c.character)) (two c) (lone c) i (Ok (a, j)) e) [
      | inl d ↦ two-ends c i a j d.1
      | inr d ↦ pure-ends (lexeme (single c.character) c.at (second c.character)) FollowLexeme i (lacks-one (second c.character) (second-is (record { depth = 0; strict = true }) c.character) i d.0) a j d.1
    ])

other-ends : (strict : Bool) → Ends (other strict) FollowLexeme
unfolding other
other-ends strict i a j e = elim (either (holds class.Digit) (numeral_lexeme strict) (branch (is 34) text sign) i (Ok (a, j)) e) [
  | inl d ↦ numeral-ends strict i a j d.1
  | inr d ↦ elim (either (is 34) text sign i (Ok (a, j)) d.1) [ inl u ↦ text-ends i a j u.1 | inr u ↦ sign-ends i a j u.1 ]
]

both-false : (i : List Symbol) → Lacks (is 47) i → Lacks (is 42) i → Lacks (holds class.Remark) i
both-false [] a b = refl
both-false (s ∷ i) a b = rw (a, b) refl

closed-follow : (at_slash : ℕ) (v : Solidus) (i j : List Symbol) → closed i ≡ Ok (v, j) → FollowSlash (v, at_slash) j
closed-follow at_slash v i j e = elim (closed-sound i v j e) [ inl d ↦ subst (λ u. FollowSlash (u, at_slash) j) (sym d.0) tt | inr d ↦ subst (λ u. FollowSlash (u, at_slash) j) (sym d.0) tt ]

closed-tail : (at_slash : ℕ) → Ends (closed >>= (λ v. pure (v, at_slash))) FollowSlash
closed-tail at_slash = mapped-ends closed (λ v. (v, at_slash)) (λ v j. FollowSlash (v, at_slash) j) FollowSlash (λ i v j e. closed-follow at_slash v i j e) (λ v j f. f)

abbrev to_line_end : ℕ → Q (Solidus × ℕ)
to_line_end a = one (is 47) >>= (λ s. skip (holds class.NoLineEnd) >>= (λ x. pure (solidus.Line, a)))

abbrev to_close : ℕ → Q (Solidus × ℕ)
to_close a = one (is 42) >>= (λ s. closed >>= (λ v. pure (v, a)))

abbrev by_itself : ℕ → Q (Solidus × ℕ)
by_itself a = pure (solidus.Sign, a)

stroke-ends : Ends stroke FollowSlash
unfolding stroke
stroke-ends =
    bound-ends (one (is 47)) (λ first. branch (is 47) (to_line_end first.at) (branch (is 42) (to_close first.at) (by_itself first.at))) FollowSlash
    (λ first i a j e. elim (either (is 47) (to_line_end first.at) (branch (is 42) (to_close first.at) (by_itself first.at)) i (Ok (a, j)) e) [
      | inl d ↦
          bound-ends (one (is 47)) (λ s. skip (holds class.NoLineEnd) >>= (λ x. pure (solidus.Line, first.at))) FollowSlash
          (λ s. mapped-ends (skip (holds class.NoLineEnd)) (λ x. (solidus.Line, first.at)) (λ x. Lacks (holds class.NoLineEnd)) FollowSlash (skip-ends (holds class.NoLineEnd)) (λ x l f. f)) i a j d.1
      | inr d ↦ elim (either (is 42) (to_close first.at) (by_itself first.at) i (Ok (a, j)) d.1) [
        | inl u ↦ bound-ends (one (is 42)) (λ s. closed >>= (λ v. pure (v, first.at))) FollowSlash (λ s. closed-tail first.at) i a j u.1
        | inr u ↦ pure-ends (solidus.Sign, first.at) FollowSlash i (both-false i d.0 u.0) a j u.1
      ]
    ])

slash-piece-ends : (strict : Bool) (s : State) → Ends (slash_piece strict s) Follow
unfolding slash_piece slash
slash-piece-ends strict s =
    mapped-ends (checked (lax strict (may_be s)) BadIndent slash) (struck s) FollowSlash Follow
    (checked-ends (lax strict (may_be s)) BadIndent slash FollowSlash (checked-ends is_closed OpenComment stroke FollowSlash stroke-ends)) link
  where
    link : (v : Solidus × ℕ) (j : List Symbol) → FollowSlash v j → Follow (struck s v) j
    link (solidus.Sign, a) j f = subst (λ x. Lacks (lengthens x) j) (sym (placed-more s k.Slash a class.Remark)) f
    link (solidus.Line, a) j f = f
    link (solidus.Block, a) j f = free j
    link (solidus.Open, a) j f = free_any j

gap-ends : (s : State) → Ends (gap s) Follow
unfolding gap
gap-ends s =
    bound-ends (one (holds class.Blank)) _ Follow (λ b. mapped-ends (skip (holds class.Blank)) (λ x. passed s class.Blank) (λ x. Lacks (holds class.Blank)) Follow (skip-ends (holds class.Blank)) (λ x j f. f))

break-ends : (s : State) → Ends (break_piece s) Follow
unfolding break_piece
break-ends s =
    bound-ends (one (holds class.LineEnd)) _ Follow (λ e. mapped-ends blanks (λ w. broken s e.at (bytes_of w)) (λ w. Lacks (holds class.Blank)) Follow blanks-ends (λ w j f. f))

other-piece-ends : (b strict : Bool) (s : State) (p : Q State) → Ends p Follow → Ends (other_piece b strict s p) Follow
unfolding other_piece
other-piece-ends true strict s p h i a j e = elim (either (holds class.Other) (other strict >>= (λ l. pure (placed_at s l))) p i (Ok (a, j)) e) [
  | inl d ↦ mapped-ends (other strict) (placed_at s) FollowLexeme Follow (other-ends strict) (λ l z f. subst (λ x. Lacks (lengthens x) z) (sym (placed-more s l.kind l.at l.more)) f) i a j d.1
  | inr d ↦ h i a j d.1
]
other-piece-ends false strict s p h i a j e = elim (either (holds class.Other) (refused (holds class.Other) BadIndent) p i (Ok (a, j)) e) [
  | inl d ↦ absurd (let r : refused (holds class.Other) BadIndent i ≡ Err (Fault BadIndent (length i)) = rw d.0 refl in let bad = sym r ∙ d.1 in cc)
  | inr d ↦ h i a j d.1
]

abbrev blank_or_end : State → Q State
blank_or_end s = branch (holds class.Blank) (gap s) (break_piece s)

abbrev rest : Bool → State → Q State
rest strict s = branch (is 47) (slash_piece strict s) (blank_or_end s)

rest-ends : (strict : Bool) (s : State) → Ends (rest strict s) Follow
rest-ends strict s l b m g = elim (either (is 47) (slash_piece strict s) (blank_or_end s) l (Ok (b, m)) g) [
  | inl u ↦ slash-piece-ends strict s l b m u.1
  | inr u ↦ elim (either (holds class.Blank) (gap s) (break_piece s) l (Ok (b, m)) u.1) [ inl v ↦ gap-ends s l b m v.1 | inr v ↦ break-ends s l b m v.1 ]
]

abbrev behind_words : Bool → State → Q State
behind_words strict s = other_piece (lax strict may_stand s) strict s (rest strict s)

pub piece-ends : (strict : Bool) (s : State) → Ends (piece strict s) Follow
unfolding piece
piece-ends strict s i a j e = elim (either (holds class.Start) (word_piece strict s) (behind_words strict s) i (Ok (a, j)) e) [
  | inl d ↦ word-piece-ends strict s i a j d.1
  | inr d ↦ other-piece-ends (lax strict may_stand s) strict s (rest strict s) (rest-ends strict s) i a j d.1
]

-- ---- so the pieces of a source are careful

abbrev Loops : Bool → ℕ → State → List Symbol → Type 0
Loops strict f s i = loop (holds class.Piece) (piece strict) f s i ≡ loop (holds class.Piece) (next strict) f s i

loops : (strict : Bool) (f : ℕ) (s : State) (i : List Symbol) → Follow s i → Loops strict f s i
loops strict zero s i h = refl
loops strict (suc f) s i h = by (heads (holds class.Piece) i) (after (λ t j. loops strict f t j) (piece strict s i) refl)
  where
    same : next strict s i ≡ piece strict s i
    same = rw h refl

    over : ((t : State) (j : List Symbol) → Follow t j → Loops strict f t j) → (o : Outcome Symbol Kind State) → piece strict s i ≡ o → and_then o (loop (holds class.Piece) (piece strict) f) ≡ and_then o (loop (holds class.Piece) (next strict) f)
    over ih (Ok r) e = ih r.0 r.1 (piece-ends strict s i r.0 r.1 e)
    over ih (Err y) e = refl

    after : ((t : State) (j : List Symbol) → Follow t j → Loops strict f t j) → (o : Outcome Symbol Kind State) → piece strict s i ≡ o → and_then (piece strict s i) (loop (holds class.Piece) (piece strict) f) ≡ and_then (next strict s i) (loop (holds class.Piece) (next strict) f)
    after ih o e = over ih (piece strict s i) refl ∙ ap (λ w. and_then w (loop (holds class.Piece) (next strict) f)) (sym same)

    by : (b : Bool) → and_then (piece strict s i) (loop (holds class.Piece) (piece strict) f) ≡ and_then (next strict s i) (loop (holds class.Piece) (next strict) f)
        → cond b (and_then (piece strict s i) (loop (holds class.Piece) (piece strict) f)) (Ok (s, i)) ≡ cond b (and_then (next strict s i) (loop (holds class.Piece) (next strict) f)) (Ok (s, i))
    by true e = e
    by false e = refl

abbrev end : ℕ → State → Q (List Token)
end size s = pure (finished s size)

abbrev last : List Token → Q (List Token)
last ts = finish >>= (λ x. pure ts)

pub source-careful : (size : ℕ) (m : Mode) (i : List Symbol) → source size m i ≡ careful size m i
unfolding source pieces
source-careful size m i = over (blanks i) refl
  where
    over : (o : Outcome Symbol Kind (List Symbol)) → blanks i ≡ o
        → and_then (and_then o (λ w. while (holds class.Piece) (piece m.strict) (first_state (bytes_of w)) >>= end size)) last
        ≡ and_then (and_then o (λ w. while (holds class.Piece) (next m.strict) (first_state (bytes_of w)) >>= end size)) last
    over (Ok r) e = ap (λ u. and_then (and_then u (end size)) last) (loops m.strict (length r.1) (first_state (bytes_of r.0)) r.1 (blanks-ends i r.0 r.1 e))
    over (Err y) e = refl
