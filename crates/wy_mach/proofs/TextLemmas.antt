-- Codes of arrays, and texts that places stand for.
use Rattle.std.proofs.Common.{◌≡◌, ℕ, zero, suc, ◌+◌, ◌<◌, ◌≤◌, ◌<ℤ◌, ◌≤ℤ◌, List, [], ◌∷◌, ◌++◌, length, get_or, set, take, drop, Option, Some, None, IsSome, ℤ, pos, negsuc, refl, sym, ◌∙◌, ap, subst, arith}
use Rattle.std.proofs.lemmas.Bool.Decides.{nat_tests}
use Rattle.std.proofs.lemmas.Int.{ints}
use Rattle.std.proofs.lemmas.List.{take_more, take_more_set, get_or-drop, length-drop}
use lib.IntN.{nat_abs}
use Rattle.wy_value.specs.Datum.{Datum, Null, Truth, Whole, Array, Record, Data, no_items, item}
use Rattle.wy_value.specs.Values.{length_of}
use Rattle.wy_heap.specs.declared.part.Part.{Part}
use Rattle.wy_heap.specs.declared.heap.Heap.{Heap}
use Rattle.wy_heap.specs.Nodes.{map_of}
use Rattle.wy_heap.specs.Meaning.{Means}
use Rattle.wy_heap.specs.Slots.{nth, HasStep, child, item_at}
use Rattle.wy_heap.proofs.MeaningLemmas.{means_unique}
use Rattle.wy_mach.specs.Looking.{length_in, IsItem}
use Rattle.wy_mach.specs.Texts.{ascii_of, code_in, code_before, codes_of, text_in, IsText, HasText}

-- ---- codes

record IsBefore (o : Option ℕ) (rest : Option (List ℕ)) (bytes : List ℕ) : Type 0 where
  code : ℕ
  more : List ℕ
  code_is : o ≡ Some code
  more_are : rest ≡ Some more
  are : bytes ≡ code ∷ more

before_parts : (o : Option ℕ) (rest : Option (List ℕ)) (bytes : List ℕ) → code_before o rest ≡ Some bytes → IsBefore o rest bytes
before_parts None rest bytes is = absurd (cc)
before_parts (Some b) None bytes is = absurd (cc)
before_parts (Some b) (Some more) bytes is = record { code = b; more = more; code_is = refl; more_are = refl; are = cc }

codes_length : (ds : Data) (bytes : List ℕ) → codes_of ds ≡ Some bytes → length bytes ≡ length_of ds
codes_length no_items bytes is = let none : [] ≡ bytes = cc in ap length (sym none)
codes_length (item d ds) bytes is =
    let parts = before_parts (code_in d) (codes_of ds) bytes is in
    omega (arith, ap length parts.are, codes_length ds parts.more parts.more_are)

codes_at : (ds : Data) (bytes : List ℕ) (i : ℕ) → codes_of ds ≡ Some bytes → i < length_of ds → code_in (nth ds i) ≡ Some (get_or bytes i 0)
codes_at no_items bytes i is below = absurd (omega arith)
codes_at (item d ds) bytes zero is below =
    let parts = before_parts (code_in d) (codes_of ds) bytes is in
    parts.code_is ∙ ap (λ (l : List ℕ). Some (get_or l 0 0)) (sym parts.are)
codes_at (item d ds) bytes (suc i) is below =
    let parts = before_parts (code_in d) (codes_of ds) bytes is in
    codes_at ds parts.more i parts.more_are (omega arith) ∙ ap (λ (l : List ℕ). Some (get_or l (suc i) 0)) (sym parts.are)

some_of : (o : Option ℕ) → IsSome o → (n : ℕ) × (o ≡ Some n)
some_of None some = absurd (cc)
some_of (Some n) some = (n, refl)

codes_all : (ds : Data) → ((k : ℕ) → k < length_of ds → IsSome (code_in (nth ds k))) → (bytes : List ℕ) × (codes_of ds ≡ Some bytes)
codes_all no_items all = ([], refl)
codes_all (item d ds) all =
    let rest = codes_all ds (λ k below. all (suc k) (omega arith)) in
    let first = some_of (code_in d) (all zero (omega arith)) in
    (first.0 ∷ rest.0, ap (λ (o : Option ℕ). code_before o (codes_of ds)) first.1 ∙ ap (code_before (Some first.0)) rest.1)

before_none : (o : Option ℕ) → code_before o None ≡ None
before_none None = refl
before_none (Some n) = refl

codes_none : (ds : Data) (k : ℕ) → k < length_of ds → code_in (nth ds k) ≡ None → codes_of ds ≡ None
codes_none no_items k below none = absurd (omega arith)
codes_none (item d ds) zero below none = ap (λ (o : Option ℕ). code_before o (codes_of ds)) none
codes_none (item d ds) (suc k) below none = ap (code_before (code_in d)) (codes_none ds k (omega arith) none) ∙ before_none (code_in d)

-- ---- texts

text_lacks : (d : Datum) (i : ℕ) → HasStep d (item_at i) → code_in (child d (item_at i)) ≡ None → text_in d ≡ None
text_lacks Null i has none = absurd has
text_lacks (Truth b) i has none = absurd has
text_lacks (Whole z) i has none = absurd has
text_lacks (Array ds) i has none = codes_none ds i has none
text_lacks (Record fs) i has none = absurd has

-- where an item is no code, there is no text
pub no_text : (h : Heap) (p : Part) (i : ℕ) (o : Option ℕ) → IsItem h p i → o ≡ None → ((d : Datum) → Means (map_of h) d p → o ≡ code_in (child d (item_at i))) → (d : Datum) → Means (map_of h) d p → text_in d ≡ None
no_text h p i o there_is none of d means =
    let has : HasStep d (item_at i) = subst (λ (e : Datum). HasStep e (item_at i)) (means_unique (map_of h) there_is.0 d p there_is.1 means) there_is.2 in
    text_lacks d i has (sym (of d means) ∙ none)

text_of : (h : Heap) (p : Part) (n : ℕ) (d : Datum) → Means (map_of h) d p → Some n ≡ length_in (Some d) → ((k : ℕ) → k < n → IsSome (code_in (child d (item_at k)))) → HasText h p n
text_of h p n Null means is all = absurd (cc)
text_of h p n (Truth b) means is all = absurd (cc)
text_of h p n (Whole z) means is all = absurd (cc)
text_of h p n (Record fs) means is all = absurd (cc)
text_of h p n (Array ds) means is all =
    let long : n ≡ length_of ds = cc in
    let found = codes_all ds (λ k below. all k (omega (arith, long))) in
    (found.0, (Array ds, means, found.1), codes_length ds found.0 found.1 ∙ sym long)

-- where each item is a code, there is a text
pub has_text : (h : Heap) (p : Part) (n : ℕ) (d : Datum) → Means (map_of h) d p → ((e : Datum) → Means (map_of h) e p → Some n ≡ length_in (Some e)) → ((e : Datum) → Means (map_of h) e p → (k : ℕ) → k < n → IsSome (code_in (child e (item_at k)))) → HasText h p n
has_text h p n d means is all = text_of h p n d means (is d means) (all d means)

-- a place stands for one text
pub same_text : (h : Heap) (p : Part) (a b : List ℕ) → IsText h p a → IsText h p b → a ≡ b
same_text h p a b first second =
    let same : first.0 ≡ second.0 = means_unique (map_of h) first.0 second.0 p first.1 second.1 in
    let both : Some a ≡ Some b = sym first.2 ∙ ap text_in same ∙ second.2 in
    cc

-- ---- codes by their index

item_of : (d : Datum) (bytes : List ℕ) (i : ℕ) → text_in d ≡ Some bytes → i < length bytes → HasStep d (item_at i) × (code_in (child d (item_at i)) ≡ Some (get_or bytes i 0))
item_of Null bytes i is below = absurd (cc)
item_of (Truth b) bytes i is below = absurd (cc)
item_of (Whole z) bytes i is below = absurd (cc)
item_of (Record fs) bytes i is below = absurd (cc)
item_of (Array ds) bytes i is below =
    let within : i < length_of ds = omega (arith, codes_length ds bytes is) in
    (within, codes_at ds bytes i is within)

pub text_item : (h : Heap) (p : Part) (i : ℕ) (text : (n : ℕ) × HasText h p n × (i < n)) → IsItem h p i
text_item h p i text =
    let is = text.1.1 in
    (is.0, is.1, (item_of is.0 text.1.0 i is.2 (omega (arith, text.1.2, text.2))).0)

pub text_code : (h : Heap) (p : Part) (i : ℕ) (o : Option ℕ) (bytes : List ℕ) (text : (n : ℕ) × HasText h p n × (i < n)) → ((d : Datum) → Means (map_of h) d p → o ≡ code_in (child d (item_at i))) → IsText h p bytes → o ≡ Some (get_or bytes i 0)
text_code h p i o bytes text of is =
    let same = same_text h p bytes text.1.0 is text.1.1 in
    of is.0 is.1 ∙ (item_of is.0 bytes i is.2 (omega (arith, ap length same, text.1.2, text.2))).1

-- ---- kinds

pub no_negative : (z : ℤ) → z <ℤ pos 0 → None ≡ ascii_of z
no_negative (pos n) low = absurd (omega (arith, ints))
no_negative (negsuc n) low = refl

pub no_greater : (z : ℤ) → pos 127 <ℤ z → None ≡ ascii_of z
no_greater (pos n) high = let long : 127 < n = omega (arith, ints) in grind (arith, nat_tests)
no_greater (negsuc n) high = absurd (omega (arith, ints))

pub is_code : (z : ℤ) → pos 0 ≤ℤ z → z ≤ℤ pos 127 → Some (nat_abs z) ≡ ascii_of z
is_code (pos n) low high = let short : n ≤ 127 = omega (arith, ints) in grind (arith, nat_tests)
is_code (negsuc n) low high = absurd (omega (arith, ints))

-- ---- pieces

-- one more code in the piece
pub piece_more : (bytes piece : List ℕ) (start k b : ℕ) → k < length piece → start + k < length bytes → take k piece ≡ take k (drop start bytes) → b ≡ get_or bytes (start + k) 0 → take (k + 1) (set piece k b) ≡ take (k + 1) (drop start bytes)
piece_more bytes piece start k b room within before is =
    let here : take (k + 1) (drop start bytes) ≡ take k (drop start bytes) ++ get_or (drop start bytes) k 0 ∷ [] = take_more (drop start bytes) k 0 (omega (arith, length-drop start bytes)) in
    take_more_set piece k b room ∙ ap (λ (l : List ℕ). l ++ b ∷ []) before ∙ ap (λ (x : ℕ). take k (drop start bytes) ++ x ∷ []) (is ∙ sym (get_or-drop start bytes k 0)) ∙ sym here
