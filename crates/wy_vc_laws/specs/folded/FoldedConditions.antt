-- When the conditions of a program are folded.
use Rattle.std.specs.Prelude.{ℕ, List, [], ◌∷◌}
use Rattle.wy_sound_terms.specs.wy_core.Types.{Ty}
use Rattle.wy_sound_terms.specs.wy_core.CoreTree.{Core}
use Rattle.wy_check_laws.specs.wy_term.Term.{Term}
use Rattle.wy_check_laws.specs.wy_term.Condition.{Entry, Condition}
use Rattle.wy_check_laws.specs.wy_term_text.reread.Folded.{IsFolded}
use Rattle.wy_sound_terms.specs.formed.OwedConditions.{owed_conditions}

-- each of these is folded to itself, and so are its parts
abbrev pub AllFolded : List Term → Type 0
AllFolded [] = Unit {0}
AllFolded (t ∷ ts) = IsFolded t × AllFolded ts

-- so are the Val name and the formula of each named type
abbrev pub AllToldFolded : List Entry → Type 0
AllToldFolded [] = Unit {0}
AllToldFolded (e ∷ es) = IsFolded e.name × IsFolded e.formula × AllToldFolded es

-- hypotheses, the goal and what named types are told by are folded
pub record IsFoldedThroughout (c : Condition) : Type 0 where
  pub hyps : AllFolded c.hyps
  pub goal : IsFolded c.goal
  pub types : AllToldFolded c.types

abbrev pub AreFoldedThroughout : List Condition → Type 0
AreFoldedThroughout [] = Unit {0}
AreFoldedThroughout (c ∷ cs) = IsFoldedThroughout c × AreFoldedThroughout cs

-- whatever the program and its flow types
abbrev pub OwedConditionsAreFolded : Type 0
OwedConditionsAreFolded = (core : Core ℕ) (flow : List Ty) → AreFoldedThroughout (owed_conditions core flow)
