-- The file that is written for a list of entries.
use Rattle.std.specs.Prelude.{◌≡◌, ℕ, ◌<◌, ◌≤◌, List, [], ◌∷◌, ◌++◌, Bool, false, ◌||◌, if◌then◌else◌, bytes_eq, codes, length}
use Rattle.std.specs.Fmt.{decimal}

-- what an entry is written from
pub record Row : Type 0 where
  pub hypotheses : ℕ
  pub key : List ℕ
  pub number : ℕ
  pub steps : List ℕ

abbrev pub row_text : Row → List ℕ
row_text r = codes "for " ++ (decimal r.hypotheses ++ 10 ∷ (r.key ++ (codes "by " ++ (decimal r.number ++ 10 ∷ r.steps))))

-- the entries, one behind the other
abbrev pub rows_text : List Row → List ℕ
rows_text [] = []
rows_text (r ∷ rs) = row_text r ++ rows_text rs

-- the file with these entries
abbrev pub file_text : List Row → List ℕ
file_text rows = codes "wycache 1\n" ++ (rows_text rows ++ codes "end\n")

-- ---- each key once

abbrev pub is_among : List (List ℕ) → List ℕ → Bool
is_among [] key = false
is_among (k ∷ ks) key = bytes_eq k key || is_among ks key

-- those whose key is none of these, nor that of one before
abbrev pub once_behind : List (List ℕ) → List Row → List Row
once_behind before [] = []
once_behind before (r ∷ rs) = if is_among before r.key then once_behind (r.key ∷ before) rs else r ∷ once_behind (r.key ∷ before) rs

-- of several with one key the first
abbrev pub once : List Row → List Row
once rows = once_behind [] rows

-- ---- as many as fit

-- the most bytes of a file
abbrev pub limit : ℕ
limit = 16777216

-- the bytes are the file with the entries up to the first with which it would be too long, each key once
pub record IsLongest (rows : List Row) (bytes : List ℕ) : Type 0 where
  pub front : List Row
  pub behind : List Row
  pub all : once rows ≡ front ++ behind
  pub is : bytes ≡ file_text front
  pub fits : length bytes ≤ limit
  pub longest : (r : Row) (rs : List Row) → behind ≡ r ∷ rs → limit < length (file_text (front ++ r ∷ []))
