-- How certificates are written.
use Rattle.std.specs.Prelude.{ℕ, List, [], ◌∷◌, ◌++◌, codes, Bool, true, false, ◌||◌, Option, Some, None}
use Rattle.std.specs.Fmt.{decimal}
use Rattle.wy_term_text.specs.wy_term.Term.{Term}
use Rattle.wy_term_text.specs.show.Text.{text_of}
use Rattle.wy_cert.specs.Steps.{Written, split, shut, chain, clash, sum_of, cut, inst, wit, fact, prod, Certificates}

-- the texts of the elements, one behind the other
abbrev pub texts : {X : Type 0} → (X → List ℕ) → List X → List ℕ
texts text [] = []
texts text (x ∷ xs) = text x ++ texts text xs

-- a pair, with a space before each number
abbrev pub pair_text : ℕ × ℕ → List ℕ
pair_text p = codes " " ++ (decimal p.0 ++ (codes " " ++ decimal p.1))

abbrev pub more_text : Term → List ℕ
more_text t = codes " ; " ++ text_of t

-- terms with a semicolon between spaces between two
abbrev pub arguments_text : List Term → List ℕ
arguments_text [] = []
arguments_text (t ∷ ts) = text_of t ++ texts more_text ts

abbrev pub other_text : Option ℕ → List ℕ
other_text None = []
other_text (Some j) = codes " " ++ decimal j

-- the line of a step, without its end
abbrev pub step_text : Written → List ℕ
step_text (split f) = codes "split " ++ text_of f
step_text shut = codes "shut"
step_text (chain ts) = codes "chain " ++ arguments_text ts
step_text (clash i other) = codes "clash " ++ (decimal i ++ other_text other)
step_text (sum_of pairs) = codes "sum" ++ texts pair_text pairs
step_text (cut d pairs) = codes "cut " ++ (decimal d ++ texts pair_text pairs)
step_text (inst i t) = codes "inst " ++ (decimal i ++ (codes " " ++ text_of t))
step_text (wit i) = codes "wit " ++ decimal i
step_text (fact n ts) = codes "fact " ++ (decimal n ++ (codes " " ++ arguments_text ts))
step_text (prod i j p) = codes "prod " ++ (decimal i ++ (codes " " ++ (decimal j ++ (codes " " ++ text_of p))))

abbrev pub line_text : Written → List ℕ
line_text w = step_text w ++ codes "\n"

abbrev pub certificate_text : ℕ × List Written → List ℕ
certificate_text c = codes "cond " ++ (decimal c.0 ++ (codes "\n" ++ texts line_text c.1))

abbrev pub is_product : Written → Bool
is_product (prod i j p) = true
is_product w = false

-- one of them passes
abbrev pub some_pass : {X : Type 0} → (X → Bool) → List X → Bool
some_pass test [] = false
some_pass test (x ∷ xs) = test x || some_pass test xs

abbrev pub has_product : ℕ × List Written → Bool
has_product c = some_pass is_product c.1

-- the second header stands only where a step is a product
abbrev pub header : Bool → List ℕ
header false = codes "wycert 1\n"
header true = codes "wycert 2\n"

abbrev pub file_text : Certificates → List ℕ
file_text certs = header (some_pass has_product certs) ++ (texts certificate_text certs ++ codes "end\n")
