-- What is written into a cache.
use Rattle.std.specs.Prelude.{◌-◌, List, [], ◌∷◌, Option, Some, None, length, slice_get}
use Rattle.wy_term.specs.Condition.{Condition}
use Rattle.wy_cert.specs.Steps.{Written, Certificates}
use Rattle.wy_cert.specs.writing.Text.{texts, line_text}
use Rattle.wy_cache_text.specs.Written.{Row}
use Rattle.wy_cache.specs.Key.{key_of}

-- the entry for a condition with these steps
abbrev pub row_of : Condition → List Written → Row
row_of c steps = record { hypotheses = length c.hyps; key = key_of c; number = length steps; steps = texts line_text steps }

abbrev pub with_row : Option Condition → List Written → List Row → List Row
with_row None steps rows = rows
with_row (Some c) steps rows = row_of c steps ∷ rows

-- an entry for each condition that is listed by its number, in this order
abbrev pub rows_of : List Condition → Certificates → List Row
rows_of cs [] = []
rows_of cs (e ∷ es) = with_row (slice_get cs (e.0 - 1)) e.1 (rows_of cs es)
