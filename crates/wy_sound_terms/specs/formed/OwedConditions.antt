-- The conditions of a program, each with what the tests of its named types stand for, and when they are formed.
use Rattle.std.specs.Prelude.{ℕ, List, [], ◌∷◌, map}
use Rattle.wy_vc_spec.specs.wy_core.Types.{Ty}
use Rattle.wy_vc_spec.specs.wy_core.CoreTree.{Core}
use Rattle.wy_term_subst.specs.wy_term.Term.{Term}
use Rattle.wy_term_subst.specs.wy_term.Sorts.{Sort, formula_sort}
use Rattle.wy_term_subst.specs.wy_term.Condition.{Entry, Condition}
use Rattle.wy_term_subst.specs.wy_term.Unfolding.{AreListedOnce, AreClosed}
use Rattle.wy_term_subst.specs.kept_sorts.SortKept.{HasSort}
use Rattle.wy_vc_spec.specs.Numbered.{numbered_core}
use Rattle.wy_vc_spec.specs.Values.{Setting}
use Rattle.wy_vc_spec.specs.Owed.{Owed}
use Rattle.wy_vc_spec.specs.Limits.{unfold_of}
use Rattle.wy_vc_spec.specs.Programs.{setting_of, conditions_of}

-- ---- the conditions of a program

-- what is owed, with the named types that it mentions and their formulas
abbrev pub with_types : {N : Type 0} → Setting N → Owed → Condition
with_types s c = record { hyps = c.hyps; goal = c.goal; types = unfold_of s c }

-- what a program owes whose expressions have these flow types, each with its named types
abbrev pub owed_conditions : Core ℕ → List Ty → List Condition
owed_conditions core flow = map (with_types (setting_of (numbered_core core) flow)) (conditions_of core flow)

-- ---- formed conditions

-- each of these is of the sort, and its parts are of the sorts of their places
abbrev pub AllHave : Sort → List Term → Type 0
AllHave sort [] = Unit {0}
AllHave sort (t ∷ ts) = HasSort t sort × AllHave sort ts

-- so is the formula of each named type
abbrev pub AllTold : Sort → List Entry → Type 0
AllTold sort [] = Unit {0}
AllTold sort (e ∷ es) = HasSort e.formula sort × AllTold sort es

-- hypotheses, the goal and what named types are told by are formulas, whose terms are of the sorts of their places; each type is listed once, and its formula has no free name but the Val name beside it
pub record IsWellFormed (c : Condition) : Type 0 where
  pub hyps : AllHave formula_sort c.hyps
  pub goal : HasSort c.goal formula_sort
  pub types : AllTold formula_sort c.types
  pub once : AreListedOnce c.types
  pub are_closed : AreClosed c.types

abbrev pub AreWellFormed : List Condition → Type 0
AreWellFormed [] = Unit {0}
AreWellFormed (c ∷ cs) = IsWellFormed c × AreWellFormed cs

-- whatever the program and its flow types
abbrev pub OwedConditionsAreFormed : Type 0
OwedConditionsAreFormed = (core : Core ℕ) (flow : List Ty) → AreWellFormed (owed_conditions core flow)
