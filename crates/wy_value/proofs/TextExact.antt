-- Values with brackets, and argument texts, are read exactly.
use Rattle.std.proofs.Common.{◌≡◌, ℕ, zero, suc, Bool, true, List, [], ◌∷◌, ◌++◌, length, Err, ◌⊎◌, inl, inr, refl, ◌∙◌, rules}
use Rattle.std.specs.Bool.{⊤}
use Rattle.wy_reading.specs.declared.stop.Stop.TheVariants.{Fault}
use Rattle.wy_reading.specs.Mode.{Mode}
use Rattle.wy_reading.specs.Rule.{Rule}
use Rattle.wy_reading.specs.Reader.{Reader}
use Rattle.wy_reading.proofs.Exactness.{Exact, Passes, Lacks, Any, AtEnd}
use Rattle.wy_reading.proofs.Single.{nothing, symbol}
use Rattle.wy_reading.proofs.Sequence.{sequence}
use Rattle.wy_reading.proofs.Choice.{choice}
use Rattle.wy_reading.proofs.Repetition.{repetition}
use Rattle.wy_reading.proofs.Levels.{deeper, lowest}
use Rattle.wy_reading.proofs.Adapting.{adapt}
use Rattle.wy_reading.proofs.Theorem.{whole_text}
use Rattle.wy_value.specs.declared.character.Character.TheVariants as c
use Rattle.wy_value.specs.declared.fault.Kind.{Kind}
use Rattle.wy_value.specs.declared.fault.Kind.TheVariants.{Deep}
use Rattle.wy_value.specs.declared.value.Value.{Value}
use Rattle.wy_value.specs.declared.value.Value.TheVariants as value
use Rattle.wy_value.specs.Characters.{has}
use Rattle.wy_value.specs.Grammar.{NoDigit, NoPart, Flat, Entry, placed, Elem, Next, Elems, Field, NextField, Fields, Bracketed, ValueIn, Text}
use Rattle.wy_value.specs.Reading.{flat, elem, next, elems, field, next_field, fields, bracketed, value_in, text}
use Rattle.wy_value.proofs.CharacterLemmas.{at, other, wider, space_no_start, close_no_start, space_no_part, colon_no_part}
use Rattle.wy_value.proofs.FlatExact.{spaces-exact, mark-exact, FlatBegins, flat-exact, name-exact_new}

-- what may follow a value and its spaces, the values of an array, the fields of a record
abbrev AfterElem : List ℕ → Type 0
AfterElem i = Lacks (has c.Space) i × NoDigit i

abbrev AfterElems : List ℕ → Type 0
AfterElems i = AfterElem i × Lacks (has (c.Is 44)) i × Lacks (has c.Value) i

abbrev AfterFields : List ℕ → Type 0
AfterFields i = AfterElem i × Lacks (has (c.Is 44)) i × Lacks (has c.Start) i

value_no_space : (i : List ℕ) → Passes (has c.Value) i → Lacks (has c.Space) i
value_no_space i h = other 32 c.Value i refl h

start_no_space : (i : List ℕ) → Passes (has c.Start) i → Lacks (has c.Space) i
start_no_space i h = other 32 c.Start i space_no_start h

module _ (n : Mode) (V : Rule ℕ Kind Value) (v : Mode → Reader ℕ Kind Value) (exact : Exact n V v NoDigit (Passes (has c.Value))) where
  elem-exact : Exact n (Elem n.strict V) (λ m. elem m.strict (v m)) AfterElem (Passes (has c.Value))
  unfolding elem
  elem-exact =
      sequence exact (λ x. sequence (spaces-exact n AfterElem (λ i f. f.0) (refl, refl)) (λ r. nothing x) (λ i f. f))
      (λ i b. elim b [ inl f ↦ f.1 | inr h ↦ at 32 c.Digit i h ])

  next-exact : (vs : List Value) → Exact n (Next n.strict V vs) (λ m. next m.strict (v m) vs) AfterElem (Passes (has (c.Is 44)))
  next-exact vs = sequence (mark-exact n 44 refl) (λ r. sequence elem-exact (λ x. nothing (vs ++ x ∷ [])) (λ i f. f)) value_no_space

  pub elems-exact : Exact n (Elems n.strict V) (λ m. elems m.strict (v m)) AfterElems (λ i. Passes (has c.Value) i ⊎ AfterElems i)
  unfolding elems
  elems-exact =
      choice (has c.Value)
      (sequence elem-exact (λ x. repetition (has (c.Is 44)) next-exact (λ i h. h) (λ i f. f.1) (λ i f. f.0) (λ i h. (at 44 c.Space i h, at 44 c.Digit i h)) ((refl, refl), refl, refl) (x ∷ []))
      (λ i b. elim b [ inl f ↦ f.0 | inr h ↦ (at 44 c.Space i h, at 44 c.Digit i h) ]))
      (nothing []) (λ i h. h) (λ i f. f.2)

  -- a name, spaces, a colon and a value
  field-exact : (fs : List Entry) → Exact n (Field n.strict V fs) (λ m. field m.strict (v m) fs) AfterElem (Passes (has c.Start))
  unfolding field
  field-exact fs =
      sequence (name-exact_new n fs)
      (λ name. sequence (spaces-exact n Colon (λ i h. h.0) (refl, refl))
      (λ r. sequence (mark-exact n 58 refl) (λ r. sequence elem-exact (λ x. nothing (placed fs name x)) (λ i f. f)) value_no_space)
      (λ i h. (at 58 c.Space i h, at 58 c.Part i h ∙ colon_no_part)))
      (λ i b. elim b [ inl h ↦ h.1 | inr h ↦ at 32 c.Part i h ∙ space_no_part ])
    where
      Colon : List ℕ → Type 0
      Colon i = Lacks (has c.Space) i × NoPart i

  next_field-exact : (fs : List Entry) → Exact n (NextField n.strict V fs) (λ m. next_field m.strict (v m) fs) AfterElem (Passes (has (c.Is 44)))
  next_field-exact fs = sequence (mark-exact n 44 refl) (λ r. field-exact fs) start_no_space

  fields-exact : Exact n (Fields n.strict V) (λ m. fields m.strict (v m)) AfterFields (λ i. Passes (has c.Start) i ⊎ AfterFields i)
  unfolding fields
  fields-exact =
      choice (has c.Start)
      (sequence (field-exact []) (λ fs. repetition (has (c.Is 44)) next_field-exact (λ i h. h) (λ i f. f.1) (λ i f. f.0) (λ i h. (at 44 c.Space i h, at 44 c.Digit i h)) ((refl, refl), refl, refl) fs)
      (λ i b. elim b [ inl f ↦ f.0 | inr h ↦ (at 44 c.Space i h, at 44 c.Digit i h) ]))
      (nothing []) (λ i h. h) (λ i f. f.2)

  bracketed-exact : Exact n (Bracketed n.strict V) (λ m. bracketed m.strict (v m)) NoDigit (Passes (has c.Open))
  unfolding bracketed
  bracketed-exact =
      adapt
      (choice (has (c.Is 91))
      (sequence (mark-exact n 91 refl) (λ r. sequence elems-exact (λ vs. sequence (symbol (has (c.Is 93)) 93 refl) (λ r. nothing (value.Array vs)) (λ i f. f))
      (λ i h. ((at 93 c.Space i h, at 93 c.Digit i h), at 93 (c.Is 44) i h, at 93 c.Value i h)))
      (λ i b. elim b [ inl h ↦ value_no_space i h | inr f ↦ f.0.0 ]))
      (sequence (mark-exact n 123 refl) (λ r. sequence fields-exact (λ fs. sequence (symbol (has (c.Is 125)) 125 refl) (λ r. nothing (value.Record fs)) (λ i f. f))
      (λ i h. ((at 125 c.Space i h, at 125 c.Digit i h), at 125 (c.Is 44) i h, at 125 c.Start i h ∙ close_no_start)))
      (λ i b. elim b [ inl h ↦ start_no_space i h | inr f ↦ f.0.0 ]))
      (λ i h. h) (λ i h. at 123 (c.Is 91) i h))
      (λ i f. f) (λ i b. elim b [ inl h ↦ at 91 c.Open i h | inr h ↦ at 123 c.Open i h ]) (λ a p. tt)

-- ---- levels

value_falls : (d : ℕ) (s : Bool) (i : List ℕ) → Lacks (has c.Open) i → value_in d s i ≡ flat s i
unfolding value_in
value_falls zero s i h = rw h refl
value_falls (suc d) s i h = rw h refl

value_refuses : (s : Bool) (i : List ℕ) → Passes (has c.Open) i → value_in zero s i ≡ Err (Fault Deep (length i))
unfolding value_in
value_refuses s i h = rw h refl

open_begins : (d : ℕ) → has c.Open d ≡ true → has c.Value d ≡ true
open_begins d h = rw h (search rules)

abbrev value_read : Mode → Reader ℕ Kind Value
value_read m = value_in m.depth m.strict

begins : (i : List ℕ) → Passes (has c.Open) i ⊎ (Passes (has c.Value) i × Lacks (has c.Open) i) → Passes (has c.Value) i
begins i (inl h) = wider c.Open c.Value open_begins i h
begins i (inr h) = h.0

value-exact : (d : ℕ) (s : Bool) → Exact (record { depth = d; strict = s }) (ValueIn d s) value_read NoDigit (Passes (has c.Value))
unfolding value_in
value-exact zero s =
    let n : Mode = record { depth = zero; strict = s } in
    adapt
    (lowest n (has c.Open) Deep (Flat s) (λ m. flat m.strict) value_read NoDigit (FlatBegins n) (λ a. ⊤) (flat-exact n) (λ i h. h.1)
    (λ m i h. value_falls m.depth m.strict i h) (λ i h. value_refuses s i h))
    (λ i f. f) begins (λ a p. tt)
value-exact (suc d) s =
    let n : Mode = record { depth = d; strict = s } in
    adapt
    (deeper n (ValueIn (suc d) s) value_read
    (choice (has c.Open) (bracketed-exact n (ValueIn d s) value_read (value-exact d s)) (flat-exact n) (λ i h. h) (λ i h. h.1)))
    (λ i f. f) begins (λ a p. tt)

pub text-exact : (m : Mode) → Exact m (Text m) text AtEnd (Passes (has (c.Is 40)))
unfolding text
text-exact m =
    whole_text
    (sequence (mark-exact m 40 refl)
    (λ r. sequence (elems-exact m (ValueIn m.depth m.strict) value_read (value-exact m.depth m.strict)) (λ vs. sequence (symbol {F = Any} (has (c.Is 41)) 41 refl) (λ r. nothing vs) (λ i f. f))
    (λ i h. ((at 41 c.Space i h, at 41 c.Digit i h), at 41 (c.Is 44) i h, at 41 c.Value i h)))
    (λ i b. elim b [ inl h ↦ value_no_space i h | inr f ↦ f.0.0 ]))
    tt
