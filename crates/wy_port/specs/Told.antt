-- What is known of the file under one name, and what an answer about it then means.
use Rattle.std.specs.Prelude.{◌≡◌, ℕ, ◌<◌, List, length}
use Rattle.wy_port.specs.Count.{Rose}

-- nothing is known of the name, or that no file has it, or the bytes of its file
pub data Told : Type 0 where
  Unknown : Told
  Lacking : Told
  Holding : (bytes : List ℕ) → Told

-- as far as is known, these may be the file's bytes
abbrev pub MayBe : Told → List ℕ → Type 0
MayBe Unknown bytes = Unit {0}
MayBe Lacking bytes = ⊥
MayBe (Holding known) bytes = known ≡ bytes

-- the name is known to lack a file; where nothing is known, the count of misses rose
abbrev pub IsMissing : Told → ℕ → ℕ → Type 0
IsMissing Unknown before after = Rose before after
IsMissing Lacking before after = Unit {0}
IsMissing (Holding known) before after = ⊥

-- the file is known to be longer than the limit; where nothing is known, the count of misses rose
abbrev pub IsTooLong : Told → ℕ → ℕ → ℕ → Type 0
IsTooLong Unknown limit before after = Rose before after
IsTooLong Lacking limit before after = ⊥
IsTooLong (Holding known) limit before after = limit < length known

-- the bytes were put under the name: exactly these are known after it, but a name of which nothing was known may stay so
abbrev pub IsSaved : Told → Told → List ℕ → Type 0
IsSaved Unknown new bytes = MayBe new bytes
IsSaved Lacking new bytes = new ≡ Holding bytes
IsSaved (Holding known) new bytes = new ≡ Holding bytes
