-- What the classes of characters say of first characters.
use Rattle.std.proofs.Common.{◌≡◌, ℕ, Bool, true, false, not, cond, ◌&&◌, ◌||◌, ◌==◌, nat_le, true≢false, List, [], ◌∷◌, ◌⊎◌, inl, inr, refl, sym, ap, ◌∙◌, arith, eqb-true}
use Rattle.std.specs.Char.{is_ascii_alphabetic, is_ascii_alphanumeric}
use Rattle.std.proofs.lemmas.Bool.{leb-true}
use Rattle.wy_data.proofs.WordLemmas.{is_start-ascii, is_part-ascii}
use Rattle.wy_data.specs.Words.{is_start, is_part}
use Rattle.wy_lemmas.proofs.Choices.{not_true as not-true, and-left, and-right, or_cases as or-cases}
use Rattle.wy_reading.specs.Rule.{heads, among}
use Rattle.wy_reading.proofs.Exactness.{Passes, Lacks}
use Rattle.wy_reading.proofs.SymbolSets.{heads-at}
use Rattle.wy_lex.specs.declared.symbol.Symbol.{Symbol}
use Rattle.wy_lex.specs.declared.symbol.Character.{Character}
use Rattle.wy_lex.specs.declared.symbol.Character.TheVariants as class
use Rattle.wy_lex.specs.Symbols.{has, holds, is_digit, is_sign, is_other, signs}
use Rattle.wy_lex.specs.Grammar.{is}

-- some character, anywhere
abbrev pub at_zero : ℕ → Symbol
at_zero c = record { character = c; at = 0 }

-- where the first character is c, a class answers as at c
pub at : (c : ℕ) (x : Character) (i : List Symbol) → Passes (is c) i → heads (holds x) i ≡ has x c
at c x i h = heads-at (λ (s : Symbol). s.character) c (has x) i h

-- where it is a space or a tab, a class answers as at these
pub at_blank : (x : Character) (b : Bool) (i : List Symbol) → has x 32 ≡ b → has x 9 ≡ b → Passes (holds class.Blank) i → heads (holds x) i ≡ b
at_blank x b [] e e' h = absurd (true≢false (sym h))
at_blank x b (s ∷ i) e e' h = by (s.character == 32) refl h
  where
    by : (c : Bool) → (s.character == 32) ≡ c → (c || (s.character == 9)) ≡ true → has x s.character ≡ b
    by true g k = ap (has x) (eqb-true s.character 32 g) ∙ e
    by false g k = ap (has x) (eqb-true s.character 9 k) ∙ e'

-- what is in a class is in a wider one
pub wider : (x y : Character) → ((c : ℕ) → has x c ≡ true → has y c ≡ true) → (i : List Symbol) → Passes (holds x) i → Passes (holds y) i
wider x y h [] g = absurd (true≢false (sym g))
wider x y h (s ∷ i) g = h s.character g

-- what is in a class isn't in another
pub apart : (x y : Character) → ((c : ℕ) → has x c ≡ true → has y c ≡ false) → (i : List Symbol) → Passes (holds x) i → Lacks (holds y) i
apart x y h [] g = refl
apart x y h (s ∷ i) g = h s.character g

-- ---- letters

-- an ASCII character that begins no name
abbrev other_ascii : ℕ → Bool
other_ascii c = nat_le c 127 && not (is_ascii_alphabetic c || (c == 95))

no_start-ascii : (c : ℕ) → other_ascii c ≡ true → is_start c ≡ false
no_start-ascii c h =
    let le = leb-true c 127 (and-left (nat_le c 127) (not (is_ascii_alphabetic c || (c == 95))) h) in
    is_start-ascii c (omega (arith, le)) ∙ not-true (is_ascii_alphabetic c || (c == 95)) (and-right (nat_le c 127) (not (is_ascii_alphabetic c || (c == 95))) h)

-- each of these passes
abbrev every : (ℕ → Bool) → List ℕ → Bool
every test [] = true
every test (c ∷ cs) = test c && every test cs

every-at : (test : ℕ → Bool) (cs : List ℕ) (c : ℕ) → every test cs ≡ true → among cs c ≡ true → test c ≡ true
every-at test [] c h g = absurd (true≢false (sym g))
every-at test (d ∷ cs) c h g = by (every-at test cs c (and-right (test d) (every test cs) h)) (c == d) refl g
  where
    by : (among cs c ≡ true → test c ≡ true) → (b : Bool) → (c == d) ≡ b → cond b true (among cs c) ≡ true → test c ≡ true
    by ih true e k = ap test (eqb-true c d e) ∙ and-left (test d) (every test cs) h
    by ih false e k = ih k

abbrev digits : List ℕ
digits = 48 ∷ 49 ∷ 50 ∷ 51 ∷ 52 ∷ 53 ∷ 54 ∷ 55 ∷ 56 ∷ 57 ∷ []

is_digit-among : (c : ℕ) → is_digit c ≡ true → among digits c ≡ true
is_digit-among c h =
    let low = leb-true 48 c (and-left (nat_le 48 c) (nat_le c 57) h) in
    let high = leb-true c 57 (and-right (nat_le 48 c) (nat_le c 57) h) in
    grind (arith, low, high)

-- where no digit, no quote and no sign passes, what begins a literal or a symbol doesn't
pub other-cases : (test : ℕ → Bool) → every test digits ≡ true → test 34 ≡ true → every test signs ≡ true → (c : ℕ) → is_other c ≡ true → test c ≡ true
other-cases test ds q ss c h = by (or-cases (is_digit c) ((c == 34) || is_sign c) h)
  where
    last : ((c == 34) ≡ true) ⊎ (is_sign c ≡ true) → test c ≡ true
    last (inl e) = ap test (eqb-true c 34 e) ∙ q
    last (inr e) = every-at test signs c ss e

    by : (is_digit c ≡ true) ⊎ (((c == 34) || is_sign c) ≡ true) → test c ≡ true
    by (inl e) = every-at test digits c ds (is_digit-among c e)
    by (inr e) = last (or-cases (c == 34) (is_sign c) e)

-- what begins a literal or a symbol begins no name
pub other_no_start : (c : ℕ) → is_other c ≡ true → is_start c ≡ false
other_no_start c h = no_start-ascii c (other-cases other_ascii refl refl refl c h)

pub sign_no_digit : (c : ℕ) → is_sign c ≡ true → is_digit c ≡ false
sign_no_digit c h = not-true (is_digit c) (every-at (λ d. not (is_digit d)) signs c refl h)

pub sign_no_quote : (c : ℕ) → is_sign c ≡ true → (c == 34) ≡ false
sign_no_quote c h = not-true (c == 34) (every-at (λ d. not (d == 34)) signs c refl h)

pub slash_no_start : is_start 47 ≡ false
slash_no_start = no_start-ascii 47 refl

pub space_no_start : is_start 32 ≡ false
space_no_start = no_start-ascii 32 refl

pub tab_no_start : is_start 9 ≡ false
tab_no_start = no_start-ascii 9 refl

pub line_end_no_start : is_start 10 ≡ false
line_end_no_start = no_start-ascii 10 refl

pub line_end_no_part : is_part 10 ≡ false
line_end_no_part = is_part-ascii 10 (omega arith)

pub start_letter : is_start 119 ≡ true
start_letter = is_start-ascii 119 (omega arith)

pub part_letter : (c : ℕ) → (nat_le c 127 && (is_ascii_alphanumeric c || (c == 95))) ≡ true → is_part c ≡ true
part_letter c h =
    is_part-ascii c (omega (arith, leb-true c 127 (and-left (nat_le c 127) (is_ascii_alphanumeric c || (c == 95)) h)))
    ∙ and-right (nat_le c 127) (is_ascii_alphanumeric c || (c == 95)) h
