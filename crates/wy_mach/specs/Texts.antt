-- Texts: arrays of ASCII codes.
use Rattle.std.specs.Prelude.{◌≡◌, ℕ, List, [], ◌∷◌, length, Option, Some, None, ℤ, cond}
use Rattle.wy_value.specs.Datum.{Datum, Null, Truth, Whole, Array, Record, Data, no_items, item}
use Rattle.wy_heap.specs.declared.part.Part.{Part}
use Rattle.wy_heap.specs.declared.part.Kind as kind
use Rattle.wy_heap.specs.declared.part.Kind.TheVariants as is
use Rattle.wy_heap.specs.declared.heap.Heap.{Heap}
use Rattle.wy_heap.specs.Nodes.{map_of}
use Rattle.wy_heap.specs.Meaning.{Means}
use Rattle.wy_sem.specs.Operations.{nat_of}
use Rattle.wy_sem.specs.Evaluation.{is_ascii}

-- the number as an ASCII code
abbrev pub ascii_of : ℤ → Option ℕ
ascii_of z = cond (is_ascii z) (Some (nat_of z)) None

-- what a place or a slot holds, as an ASCII code
abbrev pub kind_code : kind.Kind → Option ℕ
kind_code is.Null = None
kind_code (is.Bool b) = None
kind_code (is.Int z) = ascii_of z
kind_code is.Array = None
kind_code (is.Record n) = None

-- the datum as an ASCII code
abbrev pub code_in : Datum → Option ℕ
code_in Null = None
code_in (Truth b) = None
code_in (Whole z) = ascii_of z
code_in (Array ds) = None
code_in (Record fs) = None

abbrev pub code_before : Option ℕ → Option (List ℕ) → Option (List ℕ)
code_before None rest = None
code_before (Some b) None = None
code_before (Some b) (Some bytes) = Some (b ∷ bytes)

-- the data as ASCII codes, where each is one
abbrev pub codes_of : Data → Option (List ℕ)
codes_of no_items = Some []
codes_of (item d ds) = code_before (code_in d) (codes_of ds)

-- the codes that an array of them has
abbrev pub text_in : Datum → Option (List ℕ)
text_in Null = None
text_in (Truth b) = None
text_in (Whole z) = None
text_in (Array ds) = codes_of ds
text_in (Record fs) = None

-- the place stands for an array of these codes
abbrev pub IsText : Heap → Part → List ℕ → Type 0
IsText h p bytes = (d : Datum) × Means (map_of h) d p × (text_in d ≡ Some bytes)

-- the place stands for an array of so many codes
abbrev pub HasText : Heap → Part → ℕ → Type 0
HasText h p n = (bytes : List ℕ) × IsText h p bytes × (length bytes ≡ n)
