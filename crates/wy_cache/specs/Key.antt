-- The text of a condition.
use Rattle.std.specs.Prelude.{List, ℕ, ◌++◌, codes}
use Rattle.wy_term.specs.Term.{Term}
use Rattle.wy_term.specs.Condition.{Condition}
use Rattle.wy_term_text.specs.show.Text.{text_of}
use Rattle.wy_cert.specs.writing.Text.{texts}

-- a formula on a line of its own
abbrev pub line_of : Term → List ℕ
line_of f = text_of f ++ codes "\n"

-- the lines of the hypotheses, in order, and of the goal
abbrev pub key_of : Condition → List ℕ
key_of c = texts line_of c.hyps ++ line_of c.goal
