-- Values and their texts determine each other.
use Rattle.std.proofs.Common.{◌≡◌, ℕ, ◌≤◌, max, true, List, [], ◌∷◌, ◌++◌, refl, sym, ap, ◌∙◌, subst, arith}
use Rattle.std.specs.Str.{chars, IsUtf8}
use Rattle.std.proofs.lemmas.Str.{chars-encodes, utf8_lossy-IsUtf8}
use Rattle.wy_reading.specs.Mode.{Mode}
use Rattle.wy_reading.specs.Places.{IsText}
use Rattle.wy_value.specs.declared.fault.Kind.{Kind}
use Rattle.wy_value.specs.declared.value.Value.{Value}
use Rattle.wy_value.specs.Datum.{Datum, item, no_items}
use Rattle.wy_value.specs.Values.{IsValue}
use Rattle.wy_value.specs.Seen.{seen}
use Rattle.wy_value.specs.Shown.{shown, nesting}
use Rattle.wy_value.specs.Grammar.{Text}
use Rattle.wy_value.specs.ArgumentText.{symbols, profile, AreText, Spells, Meets, offset}
use Rattle.wy_value.proofs.Refusals.{promised}
use Rattle.wy_value.proofs.RoundTrip.{items-spell, mark-spells}
use Rattle.wy_value.proofs.Texts.{text}
use Rattle.wy_value.proofs.TextBytes.{Codes, codes-one, text-codes}
use Rattle.wy_value.proofs.ValueOf.{value_of, value_of-seen}

-- the bytes of characters are read as these
symbols-of : (cs bytes : List ℕ) → Codes cs bytes → symbols bytes ≡ cs
unfolding symbols
symbols-of cs bytes h =
    let u : IsUtf8 bytes = (cs, (h.scalars, h.encoded)) in
    ap chars (utf8_lossy-IsUtf8 bytes u ∙ sym h.encoded) ∙ chars-encodes cs h.scalars

-- a value in round brackets, as characters
abbrev argument : Datum → List ℕ
argument d = 40 ∷ text d (41 ∷ [])

argument-codes : (d : Datum) → IsValue d → Codes (argument d) (40 ∷ (shown d ++ 41 ∷ []))
argument-codes d v =
    codes-one 40 (text d (41 ∷ [])) (shown d ++ 41 ∷ []) (omega arith)
    (text-codes d v (41 ∷ []) (41 ∷ []) (codes-one 41 [] [] (omega arith) (record { scalars = refl; encoded = refl })))

argument-spells : (d : Datum) (depth : ℕ) → nesting d ≤ depth → IsValue d → IsText Text (record { depth = depth; strict = true }) (argument d) (value_of d ∷ [])
argument-spells d depth deep v = (
  value_of d ∷ [],
  [],
  (
    tt,
    text d (41 ∷ []),
    mark-spells 40 (text d (41 ∷ [])) refl,
    (value_of d ∷ [], 41 ∷ [], items-spell (item d no_items) depth true (omega (arith, deep)) (v, tt) (41 ∷ []), (41, [], (refl, refl), (refl, refl))),
  ),
  (tt, [], (refl, refl), (refl, refl)),
)

pub shown_is_read : (v : Value) → IsValue (seen v) → nesting (seen v) ≤ 100 → Spells (40 ∷ (shown (seen v) ++ 41 ∷ [])) (v ∷ [])
unfolding AreText
shown_is_read v is deep =
    subst (λ i. IsText Text profile i (v ∷ [])) (sym (symbols-of (argument (seen v)) (40 ∷ (shown (seen v) ++ 41 ∷ [])) (argument-codes (seen v) is)))
    (subst (λ w. IsText Text profile (argument (seen v)) (w ∷ [])) (value_of-seen v) (argument-spells (seen v) 100 deep is))

head-of : (v w : Value) → v ∷ [] ≡ w ∷ [] → v ≡ w
head-of v w e = cc

pub datum_determines : (v w : Value) → seen v ≡ seen w → v ≡ w
datum_determines v w e = sym (value_of-seen v) ∙ (ap value_of e ∙ value_of-seen w)

pub text_determines : (v w : Value) → IsValue (seen v) → IsValue (seen w) → shown (seen v) ≡ shown (seen w) → v ≡ w
text_determines v w is_v is_w e =
    let depth = max (nesting (seen v)) (nesting (seen w)) in
    let m : Mode = record { depth = depth; strict = true } in
    let cv = argument-codes (seen v) is_v in
    let cw = argument-codes (seen w) is_w in
    let same : argument (seen v) ≡ argument (seen w) =
    sym (symbols-of (argument (seen v)) (40 ∷ (shown (seen v) ++ 41 ∷ [])) cv) ∙ (ap (λ t. symbols (40 ∷ (t ++ 41 ∷ []))) e ∙ symbols-of (argument (seen w)) (40 ∷ (shown (seen w) ++ 41 ∷ [])) cw) in
    let tv = argument-spells (seen v) depth (omega arith) is_v in
    let tw = argument-spells (seen w) depth (omega arith) is_w in
    let values = (promised m).one_value (argument (seen w)) (value_of (seen v) ∷ []) (value_of (seen w) ∷ []) (subst (λ i. IsText Text m i (value_of (seen v) ∷ [])) same tv) tw in
    sym (value_of-seen v) ∙ (head-of (value_of (seen v)) (value_of (seen w)) values ∙ value_of-seen w)

pub one_reading : (bytes : List ℕ) (us vs : List Value) → Spells bytes us → Spells bytes vs → us ≡ vs
unfolding AreText
one_reading bytes us vs = (promised profile).one_value (symbols bytes) us vs

pub no_text_has_a_fault : (bytes : List ℕ) (vs : List Value) (x : Kind) (at : ℕ) → Spells bytes vs → Meets bytes x at → ⊥
unfolding AreText
no_text_has_a_fault bytes vs x at t m =
    let c = sym ((promised profile).reads (symbols bytes) vs t) ∙ (promised profile).names (symbols bytes) x m.left m.met in absurd (cc)

pub one_fault : (bytes : List ℕ) (x y : Kind) (at place : ℕ) → Meets bytes x at → Meets bytes y place → (x ≡ y) × (at ≡ place)
one_fault bytes x y at place m n =
    let c = sym ((promised profile).names (symbols bytes) x m.left m.met) ∙ (promised profile).names (symbols bytes) y n.left n.met in
    let left : m.left ≡ n.left = cc in
    ((cc), m.place ∙ (ap (offset (symbols bytes)) left ∙ sym n.place))
