-- What is answered agrees with the grammar, in both directions.
use Rattle.std.proofs.Common.{◌≡◌, ℕ, Bool, true, false, true≢false, List, length, Result, Ok, Err, IfOk, IfErr, inl, inr, refl, sym, ap, ◌∙◌, subst}
use Rattle.std.specs.Str.{IsUtf8, is_utf8}
use Rattle.std.specs.Str.Lossy.{utf8_valid_len}
use Rattle.std.proofs.lemmas.Str.{IsUtf8-from_is_utf8, is_utf8-from_IsUtf8}
use Rattle.wy_reading.specs.declared.stop.Stop.{Stop}
use Rattle.wy_reading.specs.declared.stop.Stop.TheVariants as stop
use Rattle.wy_reading.specs.Mode.{Mode}
use Rattle.wy_reading.specs.Promise.{Promise}
use Rattle.wy_reading.proofs.Exactness.{Exact, Any, AtEnd}
use Rattle.wy_reading.proofs.Adapting.{same_readers}
use Rattle.wy_reading.proofs.Theorem.{promise}
use Rattle.wy_lex.specs.declared.fault.Kind.{Kind}
use Rattle.wy_lex.specs.declared.fault.Kind.TheVariants as kind
use Rattle.wy_lex.specs.declared.fault.LexFault.{LexFault}
use Rattle.wy_lex.specs.declared.fault.LexFault.TheVariants.{NotUtf8, BadChar, BadIndent, BadNumeral, OpenComment, NoMemory}
use Rattle.wy_lex.specs.declared.token.Token.{Token}
use Rattle.wy_lex.specs.declared.symbol.Symbol.{Symbol}
use Rattle.wy_lex.specs.Symbols.{symbols, offset}
use Rattle.wy_lex.specs.Grammar.{Source}
use Rattle.wy_lex.specs.Reading.{source}
use Rattle.wy_lex.specs.Source.{profile, Tokens, Meets, IsRefused, fault_of, fault_at, answer, answer_if, tokens_read, Answers}
use Rattle.wy_lex.proofs.SourceExact.{careful-exact}
use Rattle.wy_lex.proofs.SourceEnds.{source-careful}
use Rattle.wy_lex.proofs.ValidLemmas.{valid_up_to}
use Rattle.wy_lex.proofs.SourceLemmas.{read_text, read_no_text}

source-exact : (size : ℕ) (m : Mode) → Exact m (Source size m) (source size) AtEnd Any
source-exact size m = same_readers (source size) (careful-exact m size) (λ l le i. source-careful size l i)

pub promised : (size : ℕ) (m : Mode) → Promise m (Source size) (source size)
promised size m = promise (Source size) (source size) Any (source-exact size) (λ l i a j h. sym h.3.3.1 ∙ h.3.2.1) m

-- ---- of bytes that are UTF-8

abbrev read : List ℕ → Result (List Token × List Symbol) (Stop Kind)
read bytes = source (length bytes) profile (symbols bytes)

stopped : (size : ℕ) (i : List Symbol) (y : Stop Kind) (f : LexFault) → (let r : Result (List Token) LexFault = Err (fault_at size i y) in r ≡ Err f) → fault_at size i y ≡ f
stopped size i y f e = cc

refused : (bytes : List ℕ) → IsUtf8 bytes → (y : Stop Kind) → read bytes ≡ Err y → IsRefused bytes (fault_at (length bytes) (symbols bytes) y)
refused bytes u (stop.Unexpected left) e = inl (record { text = u; left = left; here = refl; bad = (promised (length bytes) profile).place (symbols bytes) (stop.Unexpected left) e })
refused bytes u (stop.Fault kind.BadEscape left) e = inr (record { text = u; left = left; here = refl; met = (promised (length bytes) profile).place (symbols bytes) (stop.Fault kind.BadEscape left) e })
refused bytes u (stop.Fault kind.BadIndent left) e = record { text = u; left = left; here = refl; met = (promised (length bytes) profile).place (symbols bytes) (stop.Fault kind.BadIndent left) e }
refused bytes u (stop.Fault kind.BadNumeral left) e = record { text = u; left = left; here = refl; met = (promised (length bytes) profile).place (symbols bytes) (stop.Fault kind.BadNumeral left) e }
refused bytes u (stop.Fault kind.OpenComment left) e = record { text = u; left = left; here = refl; met = (promised (length bytes) profile).place (symbols bytes) (stop.Fault kind.OpenComment left) e }
refused bytes u stop.NoMemory e = tt

-- ---- the answer

pub read-spells : (bytes : List ℕ) (ts : List Token) → tokens_read bytes ≡ Ok ts → Tokens bytes ts
read-spells bytes ts e = by (is_utf8 bytes) refl e
  where
    over : IsUtf8 bytes → (o : Result (List Token × List Symbol) (Stop Kind)) → read bytes ≡ o → answer (length bytes) (symbols bytes) o ≡ Ok ts → Tokens bytes ts
    over u (Ok r) g h = (u, (promised (length bytes) profile).spells (symbols bytes) ts r.1 (g ∙ ap (λ a. Ok (a, r.1)) (let same : r.0 ≡ ts = cc in same)))
    over u (Err y) g h = absurd (cc)

    by : (b : Bool) → is_utf8 bytes ≡ b → answer_if b bytes ≡ Ok ts → Tokens bytes ts
    by true g h = over (IsUtf8-from_is_utf8 bytes g) (read bytes) refl h
    by false g h = absurd (cc)

pub read-reads : (bytes : List ℕ) (ts : List Token) → Tokens bytes ts → tokens_read bytes ≡ Ok ts
read-reads bytes ts h = read_text bytes h.0 ∙ ap (answer (length bytes) (symbols bytes)) ((promised (length bytes) profile).reads (symbols bytes) ts h.1)

pub read-refused : (bytes : List ℕ) (f : LexFault) → tokens_read bytes ≡ Err f → IsRefused bytes f
read-refused bytes f e = by (is_utf8 bytes) refl e
  where
    over : IsUtf8 bytes → (o : Result (List Token × List Symbol) (Stop Kind)) → read bytes ≡ o → answer (length bytes) (symbols bytes) o ≡ Err f → IsRefused bytes f
    over u (Ok r) g h = absurd (cc)
    over u (Err y) g h = subst (IsRefused bytes) (stopped (length bytes) (symbols bytes) y f h) (refused bytes u y g)

    by : (b : Bool) → is_utf8 bytes ≡ b → answer_if b bytes ≡ Err f → IsRefused bytes f
    by true g h = over (IsUtf8-from_is_utf8 bytes g) (read bytes) refl h
    by false g h = subst (IsRefused bytes) (let same : NotUtf8 (utf8_valid_len bytes) ≡ f = cc in same) (valid_up_to bytes (λ u. true≢false (sym (is_utf8-from_IsUtf8 bytes u) ∙ g)))

pub read-exact : (bytes : List ℕ) (x : Kind) (at : ℕ) → Meets bytes x at → tokens_read bytes ≡ Err (fault_of x at)
read-exact bytes x at m =
    read_text bytes m.text
    ∙ (ap (answer (length bytes) (symbols bytes)) ((promised (length bytes) profile).names (symbols bytes) x m.left m.met) ∙ ap (λ n. Err (fault_of x n)) (sym m.here))

-- ---- the clauses of the call

pub spells : (bytes : List ℕ) (r : Result (List Token) LexFault) → Answers (tokens_read bytes) r → IfOk r (λ ts. Tokens bytes ts)
spells bytes (Ok ts) h = read-spells bytes ts h
spells bytes (Err f) h = tt

pub reads : (bytes : List ℕ) (r : Result (List Token) LexFault) → Answers (tokens_read bytes) r → (ts : List Token) → Tokens bytes ts → Answers (Ok ts) r
reads bytes r h ts t = subst (λ w. Answers w r) (read-reads bytes ts t) h

pub fault : (bytes : List ℕ) (r : Result (List Token) LexFault) → Answers (tokens_read bytes) r → IfErr r (IsRefused bytes)
fault bytes (Ok ts) h = tt
fault bytes (Err (NotUtf8 at)) h = read-refused bytes (NotUtf8 at) (h (λ z. absurd (cc)))
fault bytes (Err (BadChar at)) h = read-refused bytes (BadChar at) (h (λ z. absurd (cc)))
fault bytes (Err (BadIndent at)) h = read-refused bytes (BadIndent at) (h (λ z. absurd (cc)))
fault bytes (Err (BadNumeral at)) h = read-refused bytes (BadNumeral at) (h (λ z. absurd (cc)))
fault bytes (Err (OpenComment at)) h = read-refused bytes (OpenComment at) (h (λ z. absurd (cc)))
fault bytes (Err NoMemory) h = tt

pub exact : (bytes : List ℕ) (r : Result (List Token) LexFault) → Answers (tokens_read bytes) r → (x : Kind) (at : ℕ) → Meets bytes x at → Answers (Err (fault_of x at)) r
exact bytes r h x at m = subst (λ w. Answers w r) (read-exact bytes x at m) h

pub no_utf8 : (bytes : List ℕ) (r : Result (List Token) LexFault) → Answers (tokens_read bytes) r → (IsUtf8 bytes → ⊥) → Answers (Err (NotUtf8 (utf8_valid_len bytes))) r
no_utf8 bytes r h u = subst (λ w. Answers w r) (read_no_text bytes (utf8_valid_len bytes) u refl) h

-- ---- laws

pub one_reading : (bytes : List ℕ) (ts us : List Token) → Tokens bytes ts → Tokens bytes us → ts ≡ us
one_reading bytes ts us t u = let c = sym (read-reads bytes ts t) ∙ read-reads bytes us u in cc

pub no_reading_with_a_fault : (bytes : List ℕ) (ts : List Token) (x : Kind) (at : ℕ) → Tokens bytes ts → Meets bytes x at → ⊥
no_reading_with_a_fault bytes ts x at t m = let c = sym (read-reads bytes ts t) ∙ read-exact bytes x at m in absurd (cc)

pub one_fault : (bytes : List ℕ) (x y : Kind) (at place : ℕ) → Meets bytes x at → Meets bytes y place → (x ≡ y) × (at ≡ place)
one_fault bytes x y at place m n =
    let p = promised (length bytes) profile in
    let c = sym (p.names (symbols bytes) x m.left m.met) ∙ p.names (symbols bytes) y n.left n.met in
    let left : m.left ≡ n.left = cc in
    ((cc), m.here ∙ (ap (offset (length bytes) (symbols bytes)) left ∙ sym n.here))
