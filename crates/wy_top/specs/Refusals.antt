-- The lines of a refusal.
use Rattle.std.specs.Prelude.{ℕ, suc, List, [], ◌∷◌, ◌++◌, codes, length, map, Option, Some, None}
use Rattle.wy_top_probe.specs.wy_link_load.wy_parse_front.Places.{place_of}
use Rattle.wy_top_probe.specs.wy_top_answers.wy_check_spec.judge.Node.{Literal}
use Rattle.wy_top_probe.specs.wy_top_answers.report.Lines.{invalid_step, open_condition, refused, spent_condition}
use Rattle.wy_top_probe.specs.wy_top_answers.report.Listing.{formula_lines}
use Rattle.wy_prove.specs.wy_search_spec.Tree as search
use Rattle.wy_term.specs.Condition.{word_of}
use Rattle.wy_top_probe.specs.wy_top_answers.wy_check_spec.valid.Literals.{formula_of}
use Rattle.wy_vc.specs.Told.{Told}
use Rattle.wy_batch.specs.Known.{End, supplied, found, stays_open, spent, Known, count, is_open, is_spent}

-- ---- certificates that aren't valid

-- the line for the condition with this number, if the certificate that was supplied for it has a bad step
abbrev pub invalid_line : List ℕ → ℕ → Option ℕ → List ℕ
invalid_line file number None = []
invalid_line file number (Some step) = invalid_step file number step

-- the lines for the conditions from this number on, where this file of certificates was supplied
abbrev pub invalid_from : List ℕ → ℕ → List Known → List ℕ
invalid_from file number [] = []
invalid_from file number (k ∷ ks) = invalid_line file number k.bad_step ++ invalid_from file (suc number) ks

abbrev pub invalid_lines : List ℕ → List Known → List ℕ
invalid_lines file ks = invalid_from file 1 ks

-- ---- conditions without a certificate

abbrev pub why_word : search.Why → List ℕ
why_word search.still = codes "still"
why_word search.is_crowded = codes "crowded"
why_word search.is_wide = codes "wide"

-- each literal of a leaf as a formula, on a line of its own
abbrev pub literal_lines : List Literal → List ℕ
literal_lines ls = formula_lines (map formula_of ls)

-- the lines for the condition with this number, which a construct of the source with these bytes owes
abbrev pub end_lines : List ℕ → List ℕ → ℕ → ℕ → Told → End → List ℕ
end_lines file bytes budget number t supplied = []
end_lines file bytes budget number t (found leaves) = []
end_lines file bytes budget number t (stays_open leaf why literals) =
    open_condition file (place_of bytes t.at).0 (place_of bytes t.at).1 number (word_of t.kind) (why_word why) (literal_lines literals)
end_lines file bytes budget number t spent = spent_condition file (place_of bytes t.at).0 (place_of bytes t.at).1 number (word_of t.kind) budget

-- the lines for the conditions from this number on
abbrev pub lines_from : List ℕ → List ℕ → ℕ → ℕ → List Told → List Known → List ℕ
lines_from file bytes budget number [] ks = []
lines_from file bytes budget number (t ∷ ts) [] = []
lines_from file bytes budget number (t ∷ ts) (k ∷ ks) = end_lines file bytes budget number t k.end ++ lines_from file bytes budget (suc number) ts ks

-- for each condition that is open or whose budget is spent its lines, in order, and how many there are of each
abbrev pub refusal_lines : List ℕ → List ℕ → ℕ → List Told → List Known → List ℕ
refusal_lines file bytes budget ts ks = lines_from file bytes budget 1 ts ks ++ refused (length ks) (count is_open ks) (count is_spent ks)
