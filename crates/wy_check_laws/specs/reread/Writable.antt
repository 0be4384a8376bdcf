-- Certificates that can be written, so that they are read again.
use Rattle.std.specs.Prelude.{◌≡◌, ℕ, zero, suc, ◌+◌, ◌<◌, ◌≤◌, ◌^◌, List, [], ◌∷◌, ◌++◌, false, length, Option, Some, None, ◌⊎◌, Ok}
use Rattle.wy_check_spec.specs.wy_term.Term.{Term, Of, no_parts, all_of, any_of}
use Rattle.wy_check_spec.specs.wy_term.Sorts.{Sort, int_sort, val_sort, formula_sort}
use Rattle.wy_check_spec.specs.wy_term_text.reread.Folded.{IsFolded}
use Rattle.wy_check_spec.specs.wy_term_text.reread.Shown.{IsOf}
use Rattle.wy_check_spec.specs.wy_cert.Steps.{Written, split, shut, chain, clash, sum_of, cut, inst, wit, fact, prod, children, Certificates}
use Rattle.wy_check_spec.specs.wy_cert.File.{is_listed, ReadsFile}
use Rattle.wy_check_spec.specs.wy_cert.writing.Text.{file_text}

-- the number of a literal or of a condition
abbrev pub IsPlace : ℕ → Type 0
IsPlace n = (0 < n) × (n < 2 ^ 32)

abbrev pub IsOptional : Option ℕ → Type 0
IsOptional None = Unit {0}
IsOptional (Some n) = IsPlace n

abbrev pub IsMultiplier : ℕ → Type 0
IsMultiplier m = (0 < m) × (m < 2 ^ 127)

abbrev pub AreFactors : List (ℕ × ℕ) → Type 0
AreFactors [] = Unit {0}
AreFactors (p ∷ ps) = IsMultiplier p.0 × IsPlace p.1 × AreFactors ps

-- a folded term of a sort, whose names and numbers are within their ranges
abbrev pub IsWritableAt : Sort → Term → Type 0
IsWritableAt sort t = IsFolded t × IsOf t sort

abbrev pub IsWritableTerm : Term → Type 0
IsWritableTerm t = IsWritableAt int_sort t ⊎ IsWritableAt val_sort t

abbrev pub AreWritableTerms : List Term → Type 0
AreWritableTerms [] = Unit {0}
AreWritableTerms (t ∷ ts) = IsWritableTerm t × AreWritableTerms ts

-- neither `true` nor `false` as a formula: as arguments these are data
abbrev pub IsNoConstant : Term → Type 0
IsNoConstant (Of all_of no_parts) = ⊥
IsNoConstant (Of any_of no_parts) = ⊥
IsNoConstant t = Unit {0}

abbrev pub IsWritableArgument : Term → Type 0
IsWritableArgument t = IsWritableTerm t ⊎ (IsNoConstant t × IsWritableAt formula_sort t)

abbrev pub AreWritableArguments : List Term → Type 0
AreWritableArguments [] = Unit {0}
AreWritableArguments (t ∷ ts) = IsWritableArgument t × AreWritableArguments ts

abbrev pub IsWritable : Written → Type 0
IsWritable (split f) = IsWritableAt formula_sort f
IsWritable shut = Unit {0}
IsWritable (chain ts) = (0 < length ts) × AreWritableTerms ts
IsWritable (clash i other) = IsPlace i × IsOptional other
IsWritable (sum_of pairs) = (0 < length pairs) × AreFactors pairs
IsWritable (cut d pairs) = IsMultiplier d × (2 ≤ d) × (0 < length pairs) × AreFactors pairs
IsWritable (inst i t) = IsPlace i × IsWritableAt int_sort t
IsWritable (wit i) = IsPlace i
IsWritable (fact n ts) = IsPlace n × (n ≤ 16) × (0 < length ts) × AreWritableArguments ts
IsWritable (prod i j p) = IsPlace i × IsPlace j × IsWritableAt int_sort p

abbrev pub AreWritable : List Written → Type 0
AreWritable [] = Unit {0}
AreWritable (s ∷ steps) = IsWritable s × AreWritable steps

-- the steps are those of so many trees
abbrev pub AreTrees : ℕ → List Written → Type 0
AreTrees zero [] = Unit {0}
AreTrees zero (s ∷ steps) = ⊥
AreTrees (suc lacking) [] = ⊥
AreTrees (suc lacking) (s ∷ steps) = AreTrees (lacking + children s) steps

-- behind these certificates, of so many conditions, each of another one
abbrev pub AreWritableBehind : ℕ → Certificates → Certificates → Type 0
AreWritableBehind conds done [] = Unit {0}
AreWritableBehind conds done (c ∷ cs) = IsPlace c.0 × (c.0 ≤ conds) × (is_listed done c.0 ≡ false) × AreTrees 1 c.1 × AreWritable c.1 × AreWritableBehind conds (done ++ c ∷ []) cs

-- certificates that can be written are read again as they are
abbrev pub ReadsWhatIsWritten : Type 0
ReadsWhatIsWritten = (conds : ℕ) (certs : Certificates) → AreWritableBehind conds [] certs → ReadsFile conds (file_text certs) (Ok certs)
