-- What a writer holds.
use Rattle.std.specs.Prelude.{◌≡◌, ℕ, ◌+◌, ◌<◌, ◌≤◌, List, [], ◌∷◌, ◌++◌, Bool, true, false, ◌||◌, bytes_eq, codes, length}
use Rattle.std.specs.HashSet.{contains_by}
use Rattle.wy_cache_text.specs.declared.writer.Row.{Row as Given}
use Rattle.wy_cache_text.specs.declared.writer.Writer.{Writer}
use Rattle.wy_cache_text.specs.Written.{Row, row_text, rows_text, once, limit}

abbrev pub seen_row : Given → Row
seen_row r = record { hypotheses = r.hypotheses; key = r.key.items; number = r.number; steps = r.steps.now }

-- one of them has this key
abbrev pub has_key : List Row → List ℕ → Bool
has_key [] key = false
has_key (r ∷ rs) key = bytes_eq r.key key || has_key rs key

-- the first of those that aren't written would make the file too long
pub record IsFull (behind : List Row) (out : List ℕ) : Type 0 where
  pub first : Row
  pub others : List Row
  pub is : behind ≡ first ∷ others
  pub long : limit < length out + length (row_text first) + 4

-- all are written, and their keys are noted
pub record HasRoom (rows behind : List Row) (w : Writer) : Type 0 where
  pub none : behind ≡ []
  pub keys : (key : List ℕ) → contains_by (λ k. bytes_eq key k.items) w.keys ≡ has_key rows key

-- these entries were given
pub record IsSoFar (rows : List Row) (w : Writer) : Type 0 where
  pub front : List Row
  pub behind : List Row
  pub all : once rows ≡ front ++ behind
  pub out : w.out.items ≡ codes "wycache 1\n" ++ rows_text front
  pub fits : length w.out.items + 4 ≤ limit
  pub full : w.full ≡ true → IsFull behind w.out.items
  pub room : w.full ≡ false → HasRoom rows behind w
