-- What the tests of named types in a condition stand for, and when a list of conditions passes a limit.
use Rattle.std.specs.Prelude.{ℕ, zero, suc, List, [], ◌∷◌, ◌++◌, length, map, Bool, true, false, ◌||◌, ◌==◌, nat_lt, if◌then◌else◌}
use Rattle.wy_sem.specs.wy_term.Term.{Term, Of, Parts, no_parts, part, in_type}
use Rattle.wy_sem.specs.wy_term.Same.{same_term}
use Rattle.wy_sem.specs.wy_term.Condition.{Entry}
use Rattle.wy_vc_spec.specs.Values.{Setting, test_name, test_formula}
use Rattle.wy_vc_spec.specs.Owed.{Owed}

-- ---- the named types that a condition mentions

abbrev mutual
  -- the numbers of the named types that a term tests
  pub tests_in : Term → List ℕ
  tests_in (Of (in_type n) ps) = n ∷ tests_in_parts ps
  tests_in (Of symbol ps) = tests_in_parts ps

  pub tests_in_parts : Parts → List ℕ
  tests_in_parts no_parts = []
  tests_in_parts (part t ps) = tests_in t ++ tests_in_parts ps

abbrev pub tests_in_all : List Term → List ℕ
tests_in_all [] = []
tests_in_all (f ∷ fs) = tests_in f ++ tests_in_all fs

-- the formulas that the tests of these types stand for
abbrev pub formulas_of : {N : Type 0} → Setting N → List ℕ → List Term
formulas_of s [] = []
formulas_of s (n ∷ ns) = test_formula s n ∷ formulas_of s ns

-- these types, and those that their formulas mention, in so many steps
abbrev pub mentioned : {N : Type 0} → Setting N → ℕ → List ℕ → List ℕ
mentioned s zero ns = ns
mentioned s (suc j) ns = mentioned s j (ns ++ tests_in_all (formulas_of s ns))

abbrev pub is_among : List ℕ → ℕ → Bool
is_among [] n = false
is_among (m ∷ ms) n = (m == n) || is_among ms n

-- those of the numbers from this one on and below so many more that are among these
abbrev pub rising_among : List ℕ → ℕ → ℕ → List ℕ
rising_among ns from zero = []
rising_among ns from (suc j) = if is_among ns from then from ∷ rising_among ns (suc from) j else rising_among ns (suc from) j

-- the types that a condition mentions, and those that these mention, by rising number
abbrev pub types_of : {N : Type 0} → Setting N → Owed → List ℕ
types_of s c = rising_among (mentioned s (length s.types) (tests_in_all (c.hyps ++ c.goal ∷ []))) 0 (length s.types)

-- what the test of a type stands for
abbrev pub unfolded : {N : Type 0} → Setting N → ℕ → Entry
unfolded s n = record { type_number = n; name = test_name s n; formula = test_formula s n }

abbrev pub unfold_of : {N : Type 0} → Setting N → Owed → List Entry
unfold_of s c = map (unfolded s) (types_of s c)

-- ---- the terms of a condition

abbrev mutual
  -- a term with its parts and theirs
  pub terms_in : Term → List Term
  terms_in (Of symbol ps) = Of symbol ps ∷ terms_in_parts ps

  pub terms_in_parts : Parts → List Term
  terms_in_parts no_parts = []
  terms_in_parts (part t ps) = terms_in t ++ terms_in_parts ps

abbrev pub terms_in_all : List Term → List Term
terms_in_all [] = []
terms_in_all (f ∷ fs) = terms_in f ++ terms_in_all fs

abbrev pub terms_of_unfold : List Entry → List Term
terms_of_unfold [] = []
terms_of_unfold (u ∷ us) = terms_in u.name ++ (terms_in u.formula ++ terms_of_unfold us)

-- the terms and formulas of a condition: of its hypotheses, its goal and what its tests stand for
abbrev pub terms_of : {N : Type 0} → Setting N → Owed → List Term
terms_of s c = terms_in_all (c.hyps ++ c.goal ∷ []) ++ terms_of_unfold (unfold_of s c)

abbrev pub has_term : List Term → Term → Bool
has_term [] t = false
has_term (u ∷ us) t = if same_term u t then true else has_term us t

-- how many different ones there are
abbrev pub different : List Term → ℕ
different [] = 0
different (t ∷ ts) = if has_term ts t then different ts else suc (different ts)

-- ---- limits

abbrev pub most_conditions : ℕ
most_conditions = 16384

abbrev pub most_terms : ℕ
most_terms = 16384

abbrev pub most_terms_in_all : ℕ
most_terms_in_all = 4194304

-- whether the limits are kept, and which is passed first
pub data Passing : Type 0 where
  Within : Passing
  TooMany : Passing
  TooLarge : (number : ℕ) → Passing

-- the condition has too many terms, or it and those before it, which have these, have
abbrev pub is_too_large : {N : Type 0} → Setting N → List Term → Owed → Bool
is_too_large s before c = nat_lt most_terms (different (terms_of s c)) || nat_lt most_terms_in_all (different (before ++ terms_of s c))

-- the first limit that the conditions from this number on pass, where those before them have these terms
abbrev pub passing_from : {N : Type 0} → Setting N → List Term → ℕ → List Owed → Passing
passing_from s before k [] = Within
passing_from s before k (c ∷ cs) =
    if nat_lt most_conditions k then TooMany
    else (if is_too_large s before c then TooLarge k else passing_from s (before ++ terms_of s c) (suc k) cs)

-- the first limit that a list of conditions passes
abbrev pub passing : {N : Type 0} → Setting N → List Owed → Passing
passing s cs = passing_from s [] 1 cs
