-- What holds of tokens and of characters, in lists that are put together.
use Rattle.std.proofs.Common.{◌≡◌, ◌≤◌, ℕ, zero, suc, ◌+◌, ◌==◌, Bool, true, false, cond, ◌&&◌, List, [], ◌∷◌, ◌++◌, length, refl, sym, ap, subst, arith, length-append}
use Rattle.std.specs.Char.{encode_utf8}
use Rattle.std.specs.Str.{IsUtf8, all_scalars, chars, encode_utf8_all}
use Rattle.std.proofs.lemmas.Str.{encodes-chars, scalars-chars, length-encode, len_utf8_bounds}
use lib.Utf8.{scalar}
use Rattle.wy_lemmas.proofs.Choices.{and-left, and-right}
use Rattle.wy_reading.specs.Rule.{Rule, Turns}
use Rattle.wy_reading.specs.Rule.Turns.{stop, more}
use Rattle.wy_reading.specs.Rule.{heads}
use Rattle.wy_lex.specs.declared.token.Token.{Token}
use Rattle.wy_lex.specs.declared.token.TokenKind.{TokenKind}
use Rattle.wy_lex.specs.declared.token.TokenKind.TheVariants as k
use Rattle.wy_lex.specs.declared.symbol.Symbol.{Symbol}
use Rattle.wy_lex.specs.Symbols.{line_end, placed_from, symbols}
use Rattle.wy_lex.specs.Layout.{outs}
use Rattle.wy_lex.specs.Lists.{Each, has_text, behind, Rises}

-- ---- loops of the grammar

-- what each turn keeps, all of them keep
pub turns-keep : {S X A : Type 0} (turn : A → Rule S X A) (I : A → List S → Type 0) → ((a : A) (i : List S) (b : A) (j : List S) → (turn a).reads i b j → I a i → I b j)
    → (a : A) (i : List S) (b : A) (j : List S) → Turns turn a i b j → I a i → I b j
turns-keep turn I step a i b j (stop e e') h = subst (λ l. I b l) e' (subst (λ c. I c i) (sym e) h)
turns-keep turn I step a i b j (more c l r rest) h = turns-keep turn I step c l b j rest (step a i c l r h)

-- ---- each token

pub each-append : (P : TokenKind → Type 0) (ts us : List Token) → Each P ts → Each P us → Each P (ts ++ us)
each-append P [] us h g = g
each-append P (t ∷ ts) us h g = (h.0, each-append P ts us h.1 g)

pub each-outs : (P : TokenKind → Type 0) → P k.BlockOut → (n at : ℕ) → Each P (outs n at)
each-outs P h zero at = tt
each-outs P h (suc n) at = (h, each-outs P h n at)

-- ---- rising places

pub behind-most : (t : Token) (to : ℕ) → suc t.at ≤ to → behind t ≤ to
behind-most t to h = by (has_text t.kind)
  where
    by : (b : Bool) → cond b (suc t.at) t.at ≤ to
    by true = h
    by false = omega (arith, h)

pub rises-append : (from mid to : ℕ) (ts us : List Token) → Rises from mid ts → Rises mid to us → Rises from to (ts ++ us)
rises-append from mid to [] us h g = earlier from mid to us h g
  where
    earlier : (from mid to : ℕ) (us : List Token) → from ≤ mid → Rises mid to us → Rises from to us
    earlier from mid to [] h g = omega (arith, h, g)
    earlier from mid to (u ∷ us) h g = (omega (arith, h, g.0), g.1)
rises-append from mid to (t ∷ ts) us h g = (h.0, rises-append (behind t) mid to ts us h.1 g)

pub rises-on : (from mid to : ℕ) (ts : List Token) → Rises from mid ts → mid ≤ to → Rises from to ts
rises-on from mid to [] h le = omega (arith, h, le)
rises-on from mid to (t ∷ ts) h le = (h.0, rises-on (behind t) mid to ts h.1 le)

pub rises-outs : (n at : ℕ) → Rises at at (outs n at)
rises-outs zero at = omega arith
rises-outs (suc n) at = (omega arith, rises-outs n at)

-- ---- characters

-- the characters stand from the place on, one behind the other, up to the end
abbrev pub Stands : ℕ → ℕ → List Symbol → Type 0
Stands size at [] = at ≤ size
Stands size at (s ∷ i) = (s.at ≡ at) × (scalar s.character ≡ true) × (next : ℕ) × (suc at ≤ next) × Stands size next i

-- at the place or later
abbrev pub Later : ℕ → ℕ → List Symbol → Type 0
Later size at i = (next : ℕ) × (at ≤ next) × Stands size next i

line_end-scalar : (c : ℕ) (cs : List ℕ) → scalar c ≡ true → scalar (line_end c cs) ≡ true
line_end-scalar c cs h = by ((c == 13) && heads (λ d. d == 10) cs)
  where
    by : (b : Bool) → scalar (cond b 10 c) ≡ true
    by true = refl
    by false = h

placed-stands : (at : ℕ) (cs : List ℕ) → all_scalars cs ≡ true → Stands (at + length (encode_utf8_all cs)) at (placed_from at cs)
placed-stands at [] h = omega arith
placed-stands at (c ∷ cs) h =
    let width = len_utf8_bounds c in
    let inner = placed-stands (at + length (encode_utf8 c)) cs (and-right (scalar c) (all_scalars cs) h) in
    let ends : (at + length (encode_utf8 c)) + length (encode_utf8_all cs) ≡ at + length (encode_utf8_all (c ∷ cs)) = omega (arith, length-append (encode_utf8 c) (encode_utf8_all cs)) in (
      refl,
      line_end-scalar c cs (and-left (scalar c) (all_scalars cs) h),
      at + length (encode_utf8 c),
      omega (arith, length-encode c, width.0),
      subst (λ size. Stands size (at + length (encode_utf8 c)) (placed_from (at + length (encode_utf8 c)) cs)) ends inner,
    )

-- those of a source do
pub symbols-stand : (bytes : List ℕ) → IsUtf8 bytes → Stands (length bytes) 0 (symbols bytes)
unfolding symbols
symbols-stand bytes u =
    subst (λ size. Stands size 0 (placed_from 0 (chars bytes))) (omega (arith, ap length (encodes-chars bytes u))) (placed-stands 0 (chars bytes) (scalars-chars bytes u))

pub stands-within : (size at : ℕ) (i : List Symbol) → Stands size at i → at ≤ size
stands-within size at [] h = h
stands-within size at (s ∷ i) h = omega (arith, stands-within size h.2 i h.4, h.3)

-- the characters behind some of them
pub stands-behind : (size at : ℕ) (front i : List Symbol) → Stands size at (front ++ i) → Later size at i
stands-behind size at [] i h = (at, omega arith, h)
stands-behind size at (s ∷ front) i h = let d = stands-behind size h.2 front i h.4 in (d.0, omega (arith, h.3, d.1), d.2)
