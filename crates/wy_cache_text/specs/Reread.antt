-- Files that are written are read again.
use Rattle.std.specs.Prelude.{ℕ, ◌+◌, ◌<◌, List, [], ◌∷◌, map}
use Rattle.wy_cache_text.specs.Lines.{AreLines}
use Rattle.wy_cache_text.specs.Files.{Held, IsReadAs}
use Rattle.wy_cache_text.specs.Written.{Row, IsLongest}

-- what an entry is written from has as many lines as it says, and a step
pub record IsWritable (r : Row) : Type 0 where
  pub key : AreLines (r.hypotheses + 1) r.key
  pub some : 0 < r.number
  pub steps : AreLines r.number r.steps

abbrev pub AreWritable : List Row → Type 0
AreWritable [] = Unit {0}
AreWritable (r ∷ rs) = IsWritable r × AreWritable rs

abbrev pub held_row : Row → Held
held_row r = record { key = r.key; steps = r.steps }

-- a file of such entries is read as those that fit
abbrev pub ReadsWhatIsWritten : Type 0
ReadsWhatIsWritten = (rows : List Row) (bytes : List ℕ) → AreWritable rows → (written : IsLongest rows bytes) → IsReadAs bytes (map held_row written.front)
