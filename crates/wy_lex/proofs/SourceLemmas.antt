-- What is answered of bytes that are UTF-8, and of others.
use Rattle.std.proofs.Common.{◌≡◌, ℕ, Bool, true, false, List, length, Result, Err, refl, sym, ap, ◌∙◌, subst}
use Rattle.std.specs.Str.{IsUtf8, is_utf8}
use Rattle.std.specs.Str.Lossy.{utf8_valid_len}
use Rattle.std.proofs.lemmas.Str.{IsUtf8-from_is_utf8, is_utf8-from_IsUtf8}
use Rattle.wy_lex.specs.declared.fault.LexFault.{LexFault}
use Rattle.wy_lex.specs.declared.fault.LexFault.TheVariants.{NotUtf8}
use Rattle.wy_lex.specs.Symbols.{symbols}
use Rattle.wy_lex.specs.Reading.{source}
use Rattle.wy_lex.specs.declared.token.Token.{Token}
use Rattle.wy_lex.specs.declared.symbol.Symbol.{Symbol}
use Rattle.wy_lex.specs.Source.{profile, answer, answer_if, tokens_read, Answers}

pub read_text : (bytes : List ℕ) → IsUtf8 bytes → tokens_read bytes ≡ answer (length bytes) (symbols bytes) (source (length bytes) profile (symbols bytes))
read_text bytes u = ap (λ b. answer_if b bytes) (is_utf8-from_IsUtf8 bytes u)

pub no_text : (bytes : List ℕ) → (IsUtf8 bytes → ⊥) → is_utf8 bytes ≡ false
no_text bytes h = by (is_utf8 bytes) refl
  where
    by : (b : Bool) → is_utf8 bytes ≡ b → is_utf8 bytes ≡ false
    by false e = e
    by true e = absurd (h (IsUtf8-from_is_utf8 bytes e))

pub read_no_text : (bytes : List ℕ) (at : ℕ) → (IsUtf8 bytes → ⊥) → at ≡ utf8_valid_len bytes → tokens_read bytes ≡ Err (NotUtf8 at)
read_no_text bytes at h e = ap (λ b. answer_if b bytes) (no_text bytes h) ∙ ap (λ n. Err (NotUtf8 n)) (sym e)

-- what is answered of the characters is answered of the bytes
pub answers_text : (bytes text : List ℕ) (i : List Symbol) (r : Result (List Token) LexFault) → text ≡ bytes → IsUtf8 bytes → i ≡ symbols bytes
    → Answers (answer (length text) i (source (length text) profile i)) r → Answers (tokens_read bytes) r
answers_text bytes text i r et u ei h =
    let same : answer (length text) i (source (length text) profile i) ≡ tokens_read bytes =
    ap (λ n. answer (length n) i (source (length n) profile i)) et ∙ (ap (λ l. answer (length bytes) l (source (length bytes) profile l)) ei ∙ sym (read_text bytes u)) in
    subst (λ w. Answers w r) same h
