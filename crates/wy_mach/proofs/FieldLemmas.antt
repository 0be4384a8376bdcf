-- Fields and items, as the heap finds them and as the step does.
use Rattle.std.proofs.Common.{◌≡◌, ℕ, zero, suc, ◌+◌, ◌<◌, List, length, Bool, true, false, Option, Some, refl, ◌∙◌, ap, arith}
use Rattle.std.specs.Prelude.{bytes_eq, if◌then◌else◌}
use Rattle.wy_lemmas.proofs.Numbers.{one_more}
use Rattle.wy_value.specs.Datum.{Datum, Data, no_items, item, Fields, no_fields, field}
use Rattle.wy_value.specs.Values.{names_of}
use Rattle.wy_heap.specs.Meaning.{data_in}
use Rattle.wy_heap.specs.Slots.{nth, position_of}
use Rattle.wy_sem.specs.Operations.{item_at, find, found_field}

pub nth-item_at : (ds : Data) (i : ℕ) → nth ds i ≡ item_at ds i
nth-item_at no_items i = refl
nth-item_at (item d ds) zero = refl
nth-item_at (item d ds) (suc i) = nth-item_at ds i

some_datum : (d e : Datum) → Some d ≡ Some e → d ≡ e
some_datum d e is = cc

nth-next : (d : Datum) (ds : Data) (n : ℕ) → nth (item d ds) (n + 1) ≡ nth ds n
nth-next d ds n = ap (nth (item d ds)) (one_more n)

found_at : (b : Bool) (d part : Datum) (ds : Data) (rest : Option Datum) (n : ℕ) → found_field b d rest ≡ Some part → (rest ≡ Some part → nth ds n ≡ part) → nth (item d ds) (if b then 0 else (n + 1)) ≡ part
found_at true d part ds rest n is below = some_datum d part is
found_at false d part ds rest n is below = nth-next d ds n ∙ below is

-- the field that is found is the one at the position of its name
pub find-nth : (fs : Fields) (name : List ℕ) (part : Datum) → find fs name ≡ Some part → nth (data_in fs) (position_of name (names_of fs)) ≡ part
find-nth no_fields name part is = absurd (cc)
find-nth (field n d fs) name part is =
    found_at (bytes_eq n name) d part (data_in fs) (find fs name) (position_of name (names_of fs)) is (find-nth fs name part)

within_at : (b : Bool) (d part : Datum) (rest : Option Datum) (n many : ℕ) → found_field b d rest ≡ Some part → (rest ≡ Some part → n < many) → (if b then 0 else (n + 1)) < suc many
within_at true d part rest n many is below = omega arith
within_at false d part rest n many is below = omega (arith, below is)

pub find_within : (fs : Fields) (name : List ℕ) (part : Datum) → find fs name ≡ Some part → position_of name (names_of fs) < length (names_of fs)
find_within no_fields name part is = absurd (cc)
find_within (field n d fs) name part is =
    within_at (bytes_eq n name) d part (find fs name) (position_of name (names_of fs)) (length (names_of fs)) is (find_within fs name part)
