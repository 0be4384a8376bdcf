-- Texts of arrays and records, written part by part.
use Rattle.std.proofs.Common.{◌≡◌, ℕ, List, [], ◌∷◌, ◌++◌, Result, Ok, Err, OnOk, sym, ap, ◌∙◌, append_assoc}
use Rattle.wy_value.specs.declared.value.Value.{Value}
use Rattle.wy_value.specs.declared.value.Value.TheVariants as value
use Rattle.wy_value.specs.Grammar.{Entry}
use Rattle.wy_value.specs.Seen.{seen, seen_items, seen_fields}
use Rattle.wy_value.specs.Shown.{shown, shown_items, shown_fields}
use Rattle.wy_value.proofs.SeenLemmas.{seen_array, seen_record}

pub on_ok : {T E P Q : Type 0} (r : Result T E) → (P → Q) → OnOk r P → OnOk r Q
on_ok (Ok t) f p = f p
on_ok (Err e) f p = tt

-- a bracket, what stands inside, and a bracket, behind what stood before
bracketed : (left right : ℕ) (old inner : List ℕ) → ((old ++ left ∷ []) ++ inner) ++ right ∷ [] ≡ old ++ (left ∷ (inner ++ right ∷ []))
bracketed left right old inner = ap (λ l. l ++ right ∷ []) (append_assoc old (left ∷ []) inner) ∙ append_assoc old (left ∷ inner) (right ∷ [])

pub array_written : (v : Value) (old begun inside : List ℕ) (slice items : List Value) → v ≡ value.Array items → begun ≡ old ++ 91 ∷ [] → slice ≡ items → inside ≡ begun ++ shown_items (seen_items slice)
    → inside ++ 93 ∷ [] ≡ old ++ shown (seen v)
array_written v old begun inside slice items is opens same fills =
    let s = ap seen is ∙ seen_array items in
    ap (λ l. l ++ 93 ∷ []) (fills ∙ (ap (λ l. l ++ shown_items (seen_items slice)) opens ∙ ap (λ l. (old ++ 91 ∷ []) ++ shown_items (seen_items l)) same))
    ∙ (bracketed 91 93 old (shown_items (seen_items items)) ∙ ap (λ d. old ++ shown d) (sym s))

pub record_written : (v : Value) (old begun inside : List ℕ) (slice fields : List Entry) → v ≡ value.Record fields → begun ≡ old ++ 123 ∷ [] → slice ≡ fields → inside ≡ begun ++ shown_fields (seen_fields slice)
    → inside ++ 125 ∷ [] ≡ old ++ shown (seen v)
record_written v old begun inside slice fields is opens same fills =
    let s = ap seen is ∙ seen_record fields in
    ap (λ l. l ++ 125 ∷ []) (fills ∙ (ap (λ l. l ++ shown_fields (seen_fields slice)) opens ∙ ap (λ l. (old ++ 123 ∷ []) ++ shown_fields (seen_fields l)) same))
    ∙ (bracketed 123 125 old (shown_fields (seen_fields fields)) ∙ ap (λ d. old ++ shown d) (sym s))
