-- What does a command come to, where it streams nothing?
use Rattle.std.specs.Prelude.{◌≡◌, ◌⊎◌, ◌++◌, ℕ, List, []}
use Rattle.wy_top_answers.specs.declared.answer.Answer.{Answer}

-- these lines on err go with the status, and nothing is written on out
abbrev pub refused : ℕ → List ℕ → Answer
refused status text = record { status = status; out = []; err = text }

-- memory ran out: nothing is written
abbrev pub no_memory : Answer
no_memory = refused 9 []

-- the text stands on out
abbrev pub written : List ℕ → Answer
written text = record { status = 0; out = text; err = [] }

-- the text stands on out, and these lines on err
abbrev pub told : List ℕ → List ℕ → Answer
told lines text = record { status = 0; out = text; err = lines }

-- the lines on err come first
abbrev pub behind : List ℕ → Answer → Answer
behind lines a = record a { err = lines ++ a.err }

-- the refusal with this status and these lines, or want of memory for the lines
abbrev pub IsRefusal : ℕ → List ℕ → Answer → Type 0
IsRefusal status text a = (a ≡ refused status text) ⊎ (a ≡ no_memory)
