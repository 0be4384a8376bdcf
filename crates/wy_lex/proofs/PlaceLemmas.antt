-- Where a bad character stands, and where bytes stop being UTF-8, is one place.
use Rattle.std.proofs.Common.{◌≡◌, ℕ, ◌<◌, List, [], ◌∷◌, ◌++◌, length, Result, Ok, Err, ◌⊎◌, inl, inr, refl, sym, ap, ◌∙◌, subst, arith, append_assoc, append-nil, length-append}
use Rattle.std.specs.Str.{IsUtf8, IsValidUpTo}
use Rattle.std.proofs.lemmas.Str.{utf8_valid_len-IsValidUpTo}
use Rattle.wy_reading.specs.Mode.{Mode}
use Rattle.wy_reading.specs.Rule.{Rule}
use Rattle.wy_reading.specs.Places.{IsText, IsDead, FirstBad}
use Rattle.wy_reading.proofs.Exactness.{same_mode}
use Rattle.wy_lex.specs.declared.fault.Kind.{Kind}
use Rattle.wy_lex.specs.declared.fault.Kind.TheVariants as kind
use Rattle.wy_lex.specs.declared.fault.LexFault.{LexFault}
use Rattle.wy_lex.specs.declared.fault.LexFault.TheVariants.{NotUtf8, BadChar, BadIndent, BadNumeral, OpenComment, NoMemory}
use Rattle.wy_lex.specs.declared.token.Token.{Token}
use Rattle.wy_lex.specs.declared.symbol.Symbol.{Symbol}
use Rattle.wy_lex.specs.Symbols.{symbols, offset}
use Rattle.wy_lex.specs.Grammar.{Source}
use Rattle.wy_lex.specs.Source.{profile, Meets, Leaves, tokens_read, Answers}
use Rattle.wy_lex.proofs.ValidLemmas.{take-all}
use Rattle.wy_lex.proofs.Refusals.{read-spells, read-refused, no_utf8}

-- ---- one list in two cuts

pub record Longer (a b c d : List Symbol) : Type 0 where
  pub bad : Symbol
  pub mid : List Symbol
  pub front : c ≡ a ++ bad ∷ mid
  pub back : b ≡ bad ∷ (mid ++ d)

pub longer : (a b c d : List Symbol) → a ++ b ≡ c ++ d → length a < length c → Longer a b c d
longer [] b [] d e le = absurd (omega (arith, le))
longer [] b (x ∷ c) d e le = record { bad = x; mid = c; front = refl; back = e }
longer (y ∷ a) b [] d e le = absurd (omega (arith, le))
longer (y ∷ a) b (x ∷ c) d e le =
    let same : y ≡ x = cc in
    let rest : a ++ b ≡ c ++ d = cc in
    let w = longer a b c d rest (omega (arith, le)) in
    record { bad = w.bad; mid = w.mid; front = ap (λ z. z ∷ c) (sym same) ∙ ap (λ l. y ∷ l) w.front; back = w.back }

-- ---- the first bad symbol

module _ {A : Type 0} (R : Mode → Rule Symbol Kind A) (n : Mode) where
  dead-text : (front back : List Symbol) → IsDead R n front back → (a : A) → IsText R n (front ++ back) a → ⊥
  dead-text front [] d a t = d n (same_mode n) a (subst (λ l. IsText R n l a) (append-nil front) t)
  dead-text front (bad ∷ rest) d a t = d (n, same_mode n, rest, a, subst (λ l. IsText R n l a) (sym (append_assoc front (bad ∷ []) rest)) t)

  -- what is dead doesn't begin what can go on
  not-further : (i : List Symbol) (k l : ℕ) (f : FirstBad R n i k) (g : FirstBad R n i l) → length f.front < length g.front → ⊥
  not-further i k l f g le =
      let w = longer f.front f.back g.front g.back (sym f.cut ∙ g.cut) le in
      let dead = subst (IsDead R n f.front) w.back f.dead in
      let m = g.alive.0 in
      let more = g.alive.2 in
      let a = g.alive.3 in
      let text : IsText R m ((f.front ++ w.bad ∷ []) ++ (w.mid ++ more)) a =
      subst (λ t. IsText R m t a) (ap (λ t. t ++ more) w.front ∙ (append_assoc f.front (w.bad ∷ w.mid) more ∙ sym (append_assoc f.front (w.bad ∷ []) (w.mid ++ more)))) g.alive.4 in
      dead (m, g.alive.1, w.mid ++ more, a, text)

  one-place : (i : List Symbol) (k l : ℕ) → FirstBad R n i k → FirstBad R n i l → k ≡ l
  one-place i k l f g =
      let lengths = sym (length-append f.front f.back) ∙ (ap length (sym f.cut ∙ g.cut) ∙ length-append g.front g.back) in
      let order : (length f.front < length g.front) ⊎ ((length g.front < length f.front) ⊎ (length f.front ≡ length g.front)) = grind arith in
      elim order [
        | inl h ↦ absurd (not-further i k l f g h)
        | inr h ↦ elim h [ inl o ↦ absurd (not-further i l k g f o) | inr o ↦ omega (arith, lengths, o, f.left_is, g.left_is) ]
      ]

-- ---- of bytes

pub same_offset : (bytes : List ℕ) (at place : ℕ) → Leaves bytes at → Leaves bytes place → at ≡ place
same_offset bytes at place f g =
    f.here ∙ (ap (offset (length bytes) (symbols bytes)) (one-place (Source (length bytes)) profile (symbols bytes) f.left g.left f.bad g.bad) ∙ sym g.here)

pub not_valid : (bytes : List ℕ) (at : ℕ) → IsValidUpTo bytes at → IsUtf8 bytes → ⊥
not_valid bytes at v u = v.longest (length bytes) v.short (subst IsUtf8 (sym (take-all bytes (length bytes) (omega arith))) u)

pub valid : (bytes : List ℕ) (r : Result (List Token) LexFault) → Answers (tokens_read bytes) r → (at : ℕ) → IsValidUpTo bytes at → Answers (Err (NotUtf8 at)) r
valid bytes r h at v = subst (λ p. Answers (Err (NotUtf8 p)) r) (utf8_valid_len-IsValidUpTo bytes at v) (no_utf8 bytes r h (not_valid bytes at v))

pub bad_char : (bytes : List ℕ) (r : Result (List Token) LexFault) → Answers (tokens_read bytes) r → (at : ℕ) → Leaves bytes at → ((x : Kind) (place : ℕ) → Meets bytes x place → ⊥) → Answers (Err (BadChar at)) r
bad_char bytes (Ok ts) h at l none =
    absurd (dead-text (Source (length bytes)) profile l.bad.front l.bad.back l.bad.dead ts (subst (λ i. IsText (Source (length bytes)) profile i ts) l.bad.cut (read-spells bytes ts h).1))
bad_char bytes (Err (NotUtf8 p)) h at l none = λ g. absurd (not_valid bytes p (read-refused bytes (NotUtf8 p) (h g)) l.text)
bad_char bytes (Err (BadChar p)) h at l none = λ g. elim (read-refused bytes (BadChar p) (h g)) [ inl k ↦ ap (λ q. Err (BadChar q)) (same_offset bytes at p l k) | inr m ↦ absurd (none kind.BadEscape p m) ]
bad_char bytes (Err (BadIndent p)) h at l none = λ g. absurd (none kind.BadIndent p (read-refused bytes (BadIndent p) (h g)))
bad_char bytes (Err (BadNumeral p)) h at l none = λ g. absurd (none kind.BadNumeral p (read-refused bytes (BadNumeral p) (h g)))
bad_char bytes (Err (OpenComment p)) h at l none = λ g. absurd (none kind.OpenComment p (read-refused bytes (OpenComment p) (h g)))
bad_char bytes (Err NoMemory) h at l none = λ g. absurd (g refl)
