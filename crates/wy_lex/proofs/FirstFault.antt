-- The fault that is answered stands before all others.
use Rattle.std.proofs.Common.{◌≡◌, ◌≢◌, ℕ, suc, ◌-◌, ◌<◌, ◌≤◌, List, [], ◌∷◌, ◌++◌, length, Result, Ok, Err, IfErr, slice_get, inl, inr, refl, sym, ap, ◌∙◌, subst, arith, append_assoc, length-append}
use Rattle.std.specs.Str.{IsUtf8, IsValidUpTo}
use Rattle.std.proofs.lemmas.Str.{utf8_valid_len-IsValidUpTo}
use Rattle.wy_reading.specs.Places.{IsText, IsDead, FirstBad}
use Rattle.wy_lex.specs.declared.fault.Kind.{Kind}
use Rattle.wy_lex.specs.declared.fault.Kind.TheVariants as kind
use Rattle.wy_lex.specs.declared.fault.LexFault.{LexFault}
use Rattle.wy_lex.specs.declared.fault.LexFault.TheVariants.{NotUtf8, BadChar, BadIndent, BadNumeral, OpenComment, NoMemory}
use Rattle.wy_lex.specs.declared.token.Token.{Token}
use Rattle.wy_lex.specs.declared.symbol.Symbol.{Symbol}
use Rattle.wy_lex.specs.Symbols.{symbols, place_or, offset}
use Rattle.wy_lex.specs.Grammar.{Source}
use Rattle.wy_lex.specs.Source.{profile, Meets, Leaves, IsRefused, GoesBefore, IsFirst, tokens_read, fault_of, Answers}
use Rattle.wy_lex.proofs.ListLemmas.{Stands, Later, symbols-stand, stands-behind}
use Rattle.wy_lex.proofs.Alive.{MeetsAt, meets_alive}
use Rattle.wy_lex.proofs.PlaceLemmas.{longer, not_valid, same_offset}
use Rattle.wy_lex.proofs.Refusals.{read-refused, read-exact}

-- ---- places

-- the place of what stands behind some symbols is that of its first
offset-behind : (size : ℕ) (front back : List Symbol) → offset size (front ++ back) (length back) ≡ place_or size (slice_get back 0)
offset-behind size [] back = ap (λ n. place_or size (slice_get back n)) (let e : length back - length back ≡ 0 = omega arith in e)
offset-behind size (s ∷ front) back =
    ap (λ n. place_or size (slice_get (s ∷ (front ++ back)) n)) (let e : length (s ∷ (front ++ back)) - length back ≡ suc (length (front ++ back) - length back) = omega (arith, length-append front back) in e) ∙ offset-behind size front back

later-place : (size at : ℕ) (back : List Symbol) → Later size at back → at ≤ place_or size (slice_get back 0)
later-place size at [] h = omega (arith, h.1, h.2)
later-place size at (s ∷ back) h = omega (arith, h.1, h.2.0)

-- behind a symbol places are greater
place-behind : (size at : ℕ) (front : List Symbol) (here : Symbol) (mid back : List Symbol) → Stands size at (front ++ here ∷ (mid ++ back)) → here.at < place_or size (slice_get back 0)
place-behind size at front here mid back h =
    let d = stands-behind size at front (here ∷ (mid ++ back)) h in
    let e = d.2 in
    let l = stands-behind size e.2 mid back e.4 in
    let least = later-place size l.0 back (l.0, omega arith, l.2) in
    omega (arith, e.0, e.3, l.1, least)

-- ---- a fault that is met stands before the first character after which no source goes on

not-before : (size : ℕ) (i : List Symbol) (k l : ℕ) (m : MeetsAt size i k) (f : FirstBad (Source size) profile i l) → length f.front < length (m.front ++ m.here ∷ []) → ⊥
not-before size i k l m f le =
    let w = longer f.front f.back (m.front ++ m.here ∷ []) m.rest (sym f.cut ∙ (m.cut ∙ sym (append_assoc m.front (m.here ∷ []) m.rest))) le in
    let dead = subst (IsDead (Source size) profile f.front) w.back f.dead in
    let mode = m.alive.0 in
    let more = m.alive.2 in
    let a = m.alive.3 in
    let text : IsText (Source size) mode ((f.front ++ w.bad ∷ []) ++ (w.mid ++ more)) a =
    subst (λ t. IsText (Source size) mode t a) (ap (λ t. t ++ more) w.front ∙ (append_assoc f.front (w.bad ∷ w.mid) more ∙ sym (append_assoc f.front (w.bad ∷ []) (w.mid ++ more)))) m.alive.4 in
    dead (mode, m.alive.1, w.mid ++ more, a, text)

one_less : (a b c : ℕ) → (a < c → ⊥) → c ≡ suc b → b < a
one_less a b c h e = grind (arith, h, e)

left : (bytes : List ℕ) (x : Kind) (p q : ℕ) → Meets bytes x p → Leaves bytes q → p < q
left bytes x p q m l =
    let size = length bytes in
    let i = symbols bytes in
    let a = meets_alive size i x m.left m.met in
    let f = l.bad in
    let less : length a.front < length f.front = one_less (length f.front) (length a.front) (length (a.front ++ a.here ∷ [])) (not-before size i m.left l.left a f) (omega (arith, length-append a.front (a.here ∷ []))) in
    let w = longer a.front (a.here ∷ a.rest) f.front f.back (sym a.cut ∙ f.cut) less in
    let whole : i ≡ a.front ++ a.here ∷ (w.mid ++ f.back) = a.cut ∙ ap (λ r. a.front ++ r) (let tails : a.rest ≡ w.mid ++ f.back = cc (w.back) in ap (λ r. a.here ∷ r) tails) in
    let here : p ≡ a.here.at = m.here ∙ (ap (λ n. offset size i n) a.left ∙ (ap (λ j. offset size j (suc (length a.rest))) a.cut ∙ offset-behind size a.front (a.here ∷ a.rest))) in
    let there : q ≡ place_or size (slice_get f.back 0) = l.here ∙ (ap (λ n. offset size i n) f.left_is ∙ (ap (λ j. offset size j (length f.back)) f.cut ∙ offset-behind size f.front f.back)) in
    let behind = place-behind size 0 a.front a.here w.mid f.back (subst (Stands size 0) whole (symbols-stand bytes m.text)) in
    omega (arith, here, there, behind)

-- ---- the answer goes before all other faults

met : (bytes : List ℕ) (f : LexFault) (y : Kind) (q : ℕ) → tokens_read bytes ≡ Err f → Meets bytes y q → GoesBefore f (fault_of y q)
met bytes f y q e m =
    let same : tokens_read bytes ≡ Err (fault_of y q) = read-exact bytes y q m in
    let one : f ≡ fault_of y q = cc in
    subst (GoesBefore f) one (inr (refl, omega arith))

others : (bytes : List ℕ) (f : LexFault) → tokens_read bytes ≡ Err f → IsUtf8 bytes → ((q : ℕ) → Leaves bytes q → GoesBefore f (BadChar q)) → (g : LexFault) → IsRefused bytes g → g ≢ NoMemory → GoesBefore f g
others bytes f e u h (NotUtf8 q) v ne = absurd (not_valid bytes q v u)
others bytes f e u h (BadChar q) (inl l) ne = h q l
others bytes f e u h (BadChar q) (inr m) ne = met bytes f kind.BadEscape q e m
others bytes f e u h (BadIndent q) m ne = met bytes f kind.BadIndent q e m
others bytes f e u h (BadNumeral q) m ne = met bytes f kind.BadNumeral q e m
others bytes f e u h (OpenComment q) m ne = met bytes f kind.OpenComment q e m
others bytes f e u h NoMemory m ne = absurd (ne refl)

no_text_alone : (bytes : List ℕ) (at : ℕ) → IsValidUpTo bytes at → (g : LexFault) → IsRefused bytes g → g ≢ NoMemory → g ≡ NotUtf8 at
no_text_alone bytes at v (NotUtf8 q) w ne = ap NotUtf8 (sym (utf8_valid_len-IsValidUpTo bytes q w) ∙ utf8_valid_len-IsValidUpTo bytes at v)
no_text_alone bytes at v (BadChar q) (inl l) ne = absurd (not_valid bytes at v l.text)
no_text_alone bytes at v (BadChar q) (inr m) ne = absurd (not_valid bytes at v m.text)
no_text_alone bytes at v (BadIndent q) m ne = absurd (not_valid bytes at v m.text)
no_text_alone bytes at v (BadNumeral q) m ne = absurd (not_valid bytes at v m.text)
no_text_alone bytes at v (OpenComment q) m ne = absurd (not_valid bytes at v m.text)
no_text_alone bytes at v NoMemory m ne = absurd (ne refl)

read-first : (bytes : List ℕ) (f : LexFault) → tokens_read bytes ≡ Err f → IsRefused bytes f → IsFirst bytes f
read-first bytes (NotUtf8 at) e v = no_text_alone bytes at v
read-first bytes (BadChar at) e (inl l) = others bytes (BadChar at) e l.text (λ q k. inr (same_offset bytes at q l k, omega arith))
read-first bytes (BadChar at) e (inr m) = others bytes (BadChar at) e m.text (λ q k. inl (left bytes kind.BadEscape at q m k))
read-first bytes (BadIndent at) e m = others bytes (BadIndent at) e m.text (λ q k. inl (left bytes kind.BadIndent at q m k))
read-first bytes (BadNumeral at) e m = others bytes (BadNumeral at) e m.text (λ q k. inl (left bytes kind.BadNumeral at q m k))
read-first bytes (OpenComment at) e m = others bytes (OpenComment at) e m.text (λ q k. inl (left bytes kind.OpenComment at q m k))
read-first bytes NoMemory e m = tt

-- the clause of the call
pub first : (bytes : List ℕ) (r : Result (List Token) LexFault) → Answers (tokens_read bytes) r → IfErr r (IsFirst bytes)
first bytes (Ok ts) h = tt
first bytes (Err (NotUtf8 at)) h = let e = h (λ z. absurd (cc)) in read-first bytes (NotUtf8 at) e (read-refused bytes (NotUtf8 at) e)
first bytes (Err (BadChar at)) h = let e = h (λ z. absurd (cc)) in read-first bytes (BadChar at) e (read-refused bytes (BadChar at) e)
first bytes (Err (BadIndent at)) h = let e = h (λ z. absurd (cc)) in read-first bytes (BadIndent at) e (read-refused bytes (BadIndent at) e)
first bytes (Err (BadNumeral at)) h = let e = h (λ z. absurd (cc)) in read-first bytes (BadNumeral at) e (read-refused bytes (BadNumeral at) e)
first bytes (Err (OpenComment at)) h = let e = h (λ z. absurd (cc)) in read-first bytes (OpenComment at) e (read-refused bytes (OpenComment at) e)
first bytes (Err NoMemory) h = tt
