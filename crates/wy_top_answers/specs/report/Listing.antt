-- The list of conditions as it is printed.
use Rattle.std.specs.Prelude.{ℕ, List, [], ◌∷◌, ◌++◌, codes}
use Rattle.std.specs.Fmt.{decimal}
use Rattle.wy_term.specs.Term.{Term}
use Rattle.wy_term_text.specs.show.Text.{text_of}
use Rattle.wy_top_answers.specs.report.Lines.{line}

-- a formula on a line behind two spaces
abbrev pub formula_line : Term → List ℕ
formula_line f = line (codes "  " ∷ text_of f ∷ [])

abbrev pub formula_lines : List Term → List ℕ
formula_lines [] = []
formula_lines (f ∷ fs) = formula_line f ++ formula_lines fs

-- a condition by its number, kind and place
abbrev pub title : ℕ → List ℕ → ℕ → ℕ → List ℕ
title number kind at_line column = line (codes "cond " ∷ decimal number ∷ codes " " ∷ kind ∷ codes " " ∷ decimal at_line ∷ codes ":" ∷ decimal column ∷ [])

-- its title, its hypotheses in order, and its goal
abbrev pub listed : ℕ → List ℕ → ℕ → ℕ → List Term → Term → List ℕ
listed number kind at_line column hyps goal =
    title number kind at_line column ++ (formula_lines hyps ++ line (codes "  goal " ∷ text_of goal ∷ []))
