-- Conditions and certificates whose terms are of the sorts that their places want.
use Rattle.std.specs.Prelude.{List, [], ◌∷◌}
use Rattle.wy_check_spec.specs.wy_term.Term.{Term}
use Rattle.wy_check_spec.specs.wy_term.Sorts.{formula_sort}
use Rattle.wy_check_spec.specs.wy_term.Condition.{Entry, Condition}
use Rattle.wy_check_spec.specs.wy_term_subst.sorted.Sorted.{IsSorted}
use Rattle.wy_check_spec.specs.wy_term_subst.kept_sorts.SortKept.{HasSort}
use Rattle.wy_check_spec.specs.wy_cert.Steps.{Written, split, shut, chain, clash, sum_of, cut, inst, wit, fact, prod}

-- each of these is a formula of sorted parts
abbrev pub AreFormulas : List Term → Type 0
AreFormulas [] = Unit {0}
AreFormulas (f ∷ fs) = HasSort f formula_sort × AreFormulas fs

-- each named type is told by such a formula
abbrev pub AreSortedEntries : List Entry → Type 0
AreSortedEntries [] = Unit {0}
AreSortedEntries (e ∷ es) = HasSort e.formula formula_sort × AreSortedEntries es

pub record IsSortedCondition (c : Condition) : Type 0 where
  pub hyps : AreFormulas c.hyps
  pub goal : HasSort c.goal formula_sort
  pub types : AreSortedEntries c.types

-- each of these terms has sorted parts
abbrev pub AreSortedTerms : List Term → Type 0
AreSortedTerms [] = Unit {0}
AreSortedTerms (t ∷ ts) = IsSorted t × AreSortedTerms ts

-- a step splits on a formula, and its terms have sorted parts
abbrev pub IsSortedStep : Written → Type 0
IsSortedStep (split f) = HasSort f formula_sort
IsSortedStep shut = Unit {0}
IsSortedStep (chain ts) = AreSortedTerms ts
IsSortedStep (clash i other) = Unit {0}
IsSortedStep (sum_of pairs) = Unit {0}
IsSortedStep (cut d pairs) = Unit {0}
IsSortedStep (inst i t) = IsSorted t
IsSortedStep (wit i) = Unit {0}
IsSortedStep (fact n ts) = AreSortedTerms ts
IsSortedStep (prod i j p) = IsSorted p

abbrev pub AreSortedSteps : List Written → Type 0
AreSortedSteps [] = Unit {0}
AreSortedSteps (s ∷ steps) = IsSortedStep s × AreSortedSteps steps
