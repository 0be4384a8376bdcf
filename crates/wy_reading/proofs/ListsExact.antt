-- The example's readers read exactly its grammar: a line for each rule.
use Rattle.std.proofs.Common.{◌≡◌, ℕ, zero, suc, Bool, true, false, true≢false, List, [], ◌∷◌, ◌++◌, length, Ok, Err, ◌⊎◌, inl, inr, refl, sym, subst}
use Rattle.std.specs.Bool.{⊤}
use Rattle.wy_reading.specs.declared.example.Kind.{Kind}
use Rattle.wy_reading.specs.declared.example.Kind.TheVariants.{TooLarge, Deep}
use Rattle.wy_reading.specs.declared.example.Byte.{Byte}
use Rattle.wy_reading.specs.declared.example.Byte.TheVariants.{Digit, Item, Is}
use Rattle.wy_reading.specs.declared.stop.Stop.TheVariants.{Fault}
use Rattle.wy_reading.specs.Mode.{Mode}
use Rattle.wy_reading.specs.Rule.{heads, Pure, Then, Word}
use Rattle.wy_reading.specs.Reader.{Reader, ◌>>=◌, pure, word}
use Rattle.wy_reading.specs.ListGrammar.{R, has, number_from, is_small, NoDigit, Number, Plain, Next, Items, Bracketed, ItemIn, Text}
use Rattle.wy_reading.specs.ListReading.{number, plain, next, items, bracketed, item_in, text}
use Rattle.wy_reading.proofs.Exactness.{Exact, ExactTo, Passes, Lacks, Any, AtEnd}
use Rattle.wy_reading.proofs.Outcomes.{and_then-ok, ok-parts}
use Rattle.wy_reading.proofs.Single.{nothing, symbol}
use Rattle.wy_reading.proofs.Sequence.{sequence}
use Rattle.wy_reading.proofs.Choice.{choice}
use Rattle.wy_reading.proofs.Repetition.{repetition}
use Rattle.wy_reading.proofs.Checks.{checked-exact}
use Rattle.wy_reading.proofs.Words.{word-exact, word-ends}
use Rattle.wy_reading.proofs.Levels.{deeper, lowest}
use Rattle.wy_reading.proofs.Adapting.{adapt, mapped}
use Rattle.wy_reading.proofs.SymbolSets.{heads-at, heads-not}
use Rattle.wy_reading.proofs.Theorem.{whole_text}

-- where the first byte is c, a class answers as at c
byte : (c : ℕ) (class : Byte) (i : List ℕ) → Passes (has (Is c)) i → heads (has class) i ≡ has class c
byte c class i h = heads-at (λ b. b) c (has class) i h

-- where the first byte is in a class that c isn't in, it isn't c
other : (c : ℕ) (class : Byte) (i : List ℕ) → has class c ≡ false → Passes (has class) i → Lacks (has (Is c)) i
other c class i h g = heads-not (λ b. b) c (has class) i h g

digit_begins : (i : List ℕ) → Passes (has Digit) i → Passes (has Item) i
digit_begins [] h = absurd (true≢false (sym h))
digit_begins (b ∷ i) h = rw h refl

-- what may follow an item; the items of a list
abbrev AfterItems : List ℕ → Type 0
AfterItems i = NoDigit i × Lacks (has (Is 44)) i × Lacks (has Item) i

module _ (n : Mode) where
  -- ---- numbers

  abbrev Zero : List ℕ → Type 0
  Zero ds = ds ≡ 48 ∷ []

  abbrev Small : ℕ → Type 0
  Small number = is_small number ≡ true

  digits-exact : ExactTo {X = Kind} n (Word (has Digit) (has Digit)) (λ m. word (has Digit) (has Digit)) (λ ds. NoDigit) (Passes (has Digit)) Zero
  digits-exact = word-exact Kind (has Digit) (has Digit) 48 refl 48 refl n Zero (48 ∷ []) (record { head = 48; tail = []; shape = refl; starts = refl; goes_on = tt }) refl

  abbrev value : Mode → Reader ℕ Kind ℕ
  value m = word (has Digit) (has Digit) >>= (λ ds. pure (number_from 0 ds))

  value-ends : (i : List ℕ) (z : ℕ) (j : List ℕ) → value n i ≡ Ok (z, j) → NoDigit j
  value-ends i z j e =
      let y = and_then-ok (word (has Digit) (has Digit) i) (λ ds. pure (number_from 0 ds)) (z, j) e in
      subst NoDigit (ok-parts (number_from 0 y.0.0) z y.0.1 j y.2).1 (word-ends Kind (has Digit) (has Digit) 48 refl 48 refl i y.0.0 y.0.1 y.1)

  number-exact : ExactTo n (Number n.strict) (λ m. number m.strict) (λ z. NoDigit) (Passes (has Digit)) Small
  unfolding number
  number-exact =
      checked-exact n (Then (Word (has Digit) (has Digit)) (λ ds. Pure (number_from 0 ds))) value NoDigit (Passes (has Digit)) Small is_small TooLarge
      (mapped (number_from 0) digits-exact (λ ds p. rw p refl)) (λ a p. p) value-ends

  abbrev PlainBegins : List ℕ → Type 0
  PlainBegins i = Passes (has Item) i × Lacks (has (Is 91)) i

  plain-exact : Exact n (Plain n.strict) (λ m. plain m.strict) NoDigit PlainBegins
  unfolding plain
  plain-exact = adapt (sequence number-exact (λ z. nothing (z ∷ [])) (λ i f. f)) (λ i f. f) (λ i h. (digit_begins i h, other 91 Digit i refl h)) (λ a p. tt)

  -- ---- lists, over items of the level below

  module _ (V : R (List ℕ)) (v : Mode → Reader ℕ Kind (List ℕ)) (exact : Exact n V v NoDigit (Passes (has Item))) where
    next-exact : (ns : List ℕ) → Exact n (Next V ns) (λ m. next (v m) ns) NoDigit (Passes (has (Is 44)))
    next-exact ns = sequence (symbol {F = Any} (has (Is 44)) 44 refl) (λ r. sequence exact (λ ms. nothing (ns ++ ms)) (λ i f. f)) (λ i h. tt)

    items-exact : Exact n (Items V) (λ m. items (v m)) AfterItems (λ i. Passes (has Item) i ⊎ AfterItems i)
    unfolding items
    items-exact =
        choice (has Item)
        (sequence exact (λ ns. repetition (has (Is 44)) next-exact (λ i h. h) (λ i f. f.1) (λ i f. f.0) (λ i h. byte 44 Digit i h) (refl, refl, refl) ns)
        (λ i b. elim b [ inl f ↦ f.0 | inr h ↦ byte 44 Digit i h ]))
        (nothing []) (λ i h. h) (λ i f. f.2)

    bracketed-exact : Exact n (Bracketed V) (λ m. bracketed (v m)) NoDigit (Passes (has (Is 91)))
    unfolding bracketed
    bracketed-exact =
        sequence (symbol {F = Any} (has (Is 91)) 91 refl)
        (λ r. sequence items-exact (λ ns. sequence (symbol (has (Is 93)) 93 refl) (λ r. nothing ns) (λ i f. f)) (λ i h. (byte 93 Digit i h, byte 93 (Is 44) i h, byte 93 Item i h)))
        (λ i b. tt)

-- ---- levels

item_falls : (d : ℕ) (s : Bool) (i : List ℕ) → Lacks (has (Is 91)) i → item_in d s i ≡ plain s i
unfolding item_in
item_falls zero s i h = rw h refl
item_falls (suc d) s i h = rw h refl

item_refuses : (s : Bool) (i : List ℕ) → Passes (has (Is 91)) i → item_in zero s i ≡ Err (Fault Deep (length i))
unfolding item_in
item_refuses s i h = rw h refl

abbrev item_read : Mode → Reader ℕ Kind (List ℕ)
item_read m = item_in m.depth m.strict

begins : (i : List ℕ) → Passes (has (Is 91)) i ⊎ (Passes (has Item) i × Lacks (has (Is 91)) i) → Passes (has Item) i
begins i (inl h) = byte 91 Item i h
begins i (inr h) = h.0

pub item-exact : (d : ℕ) (s : Bool) → Exact (record { depth = d; strict = s }) (ItemIn d s) item_read NoDigit (Passes (has Item))
unfolding item_in
item-exact zero s =
    let n : Mode = record { depth = zero; strict = s } in
    adapt
    (lowest n (has (Is 91)) Deep (Plain s) (λ m. plain m.strict) item_read NoDigit (PlainBegins n) (λ a. ⊤) (plain-exact n) (λ i h. h.1)
    (λ m i h. item_falls m.depth m.strict i h) (λ i h. item_refuses s i h))
    (λ i f. f) begins (λ a p. tt)
item-exact (suc d) s =
    let n : Mode = record { depth = d; strict = s } in
    adapt
    (deeper n (ItemIn (suc d) s) item_read
    (choice (has (Is 91)) (bracketed-exact n (ItemIn d s) item_read (item-exact d s)) (plain-exact n) (λ i h. h) (λ i h. h.1)))
    (λ i f. f) begins (λ a p. tt)

pub text-exact : (m : Mode) → Exact m (Text m) text AtEnd (Passes (has Item))
unfolding text
text-exact m = whole_text (item-exact m.depth m.strict) refl
