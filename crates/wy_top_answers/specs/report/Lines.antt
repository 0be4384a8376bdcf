-- The lines of the commands, each with its end. A number is written in decimal, a line and a column from 1.
use Rattle.std.specs.Prelude.{ℕ, List, [], ◌∷◌, ◌++◌, codes}
use Rattle.std.specs.Fmt.{decimal}

-- the texts, one behind the other, and the end of a line
abbrev pub line : List (List ℕ) → List ℕ
line [] = 10 ∷ []
line (t ∷ ts) = t ++ line ts

-- ---- what a command refuses

abbrev pub words_refused : List ℕ
words_refused = line (codes "wy: words refused" ∷ [])

abbrev pub no_entry : List ℕ → List ℕ
no_entry name = line (codes "wy: " ∷ name ∷ codes ": no such entry" ∷ [])

abbrev pub bad_argument : List ℕ → ℕ → List ℕ
bad_argument fault offset = line (codes "wy: argument text: " ∷ fault ∷ codes " at " ∷ decimal offset ∷ [])

abbrev pub other_count : List ℕ → ℕ → List ℕ
other_count name count = line (codes "wy: " ∷ name ∷ codes " takes " ∷ decimal count ∷ codes " arguments" ∷ [])

abbrev pub other_type : ℕ → List ℕ
other_type number = line (codes "wy: argument " ∷ decimal number ∷ codes " is not of its type" ∷ [])

abbrev pub requires_fails : ℕ → List ℕ
requires_fails number = line (codes "wy: requires " ∷ decimal number ∷ codes " fails" ∷ [])

abbrev pub steps_spent : List ℕ
steps_spent = line (codes "wy: steps spent" ∷ [])

abbrev pub turns_spent : List ℕ
turns_spent = line (codes "wy: turns spent" ∷ [])

abbrev pub save_failed : List ℕ → List ℕ
save_failed file = line (codes "wy: " ∷ file ∷ codes ": save failed" ∷ [])

-- a fault in a source, at its line and column
abbrev pub source_fault : List ℕ → ℕ → ℕ → List ℕ → List ℕ
source_fault file at_line column fault = line (file ∷ codes ":" ∷ decimal at_line ∷ codes ":" ∷ decimal column ∷ codes ": " ∷ fault ∷ [])

-- a fault in a file of certificates, at its line
abbrev pub certificate_fault : List ℕ → ℕ → List ℕ → List ℕ
certificate_fault file at_line fault = line (file ∷ codes ":" ∷ decimal at_line ∷ codes ": " ∷ fault ∷ [])

-- ---- verdicts

-- a supplied certificate isn't valid
abbrev pub invalid_step : List ℕ → ℕ → ℕ → List ℕ
invalid_step file number step = line (file ∷ codes ": condition " ∷ decimal number ∷ codes ": step " ∷ decimal step ∷ codes " not valid" ∷ [])

-- a condition of a source, by its place, its number and its kind, and what became of it
abbrev pub of_condition : List ℕ → ℕ → ℕ → ℕ → List ℕ → List ℕ → List ℕ
of_condition file at_line column number kind what =
    line (file ∷ codes ":" ∷ decimal at_line ∷ codes ":" ∷ decimal column ∷ codes ": condition " ∷ decimal number ∷ codes " " ∷ kind ∷ codes ": " ∷ what ∷ [])

-- a condition stays open: why, and the literals of its leaf, each on a line of its own
abbrev pub open_condition : List ℕ → ℕ → ℕ → ℕ → List ℕ → List ℕ → List ℕ → List ℕ
open_condition file at_line column number kind why literals = of_condition file at_line column number kind (codes "open " ++ why) ++ literals

-- the budget of a condition is spent
abbrev pub spent_condition : List ℕ → ℕ → ℕ → ℕ → List ℕ → ℕ → List ℕ
spent_condition file at_line column number kind budget = of_condition file at_line column number kind (codes "spent " ++ decimal budget)

abbrev pub refused : ℕ → ℕ → ℕ → List ℕ
refused conditions open_ones spent_ones = line (codes "refused: " ∷ decimal conditions ∷ codes " conditions, " ∷ decimal open_ones ∷ codes " open, " ∷ decimal spent_ones ∷ codes " spent" ∷ [])

abbrev pub accepted : ℕ → List ℕ
accepted conditions = line (codes "accepted " ∷ decimal conditions ∷ codes " conditions" ∷ [])

-- ---- runs

abbrev pub stats : ℕ → ℕ → List ℕ
stats copies nodes = line (codes "copies " ∷ decimal copies ∷ codes " nodes " ∷ decimal nodes ∷ [])
