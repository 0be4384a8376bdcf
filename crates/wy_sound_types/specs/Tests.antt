-- How tests of types answer, and what the clauses of types meet.
use Rattle.std.specs.Prelude.{◌≡◌, ℕ, List, [], ◌∷◌, Bool, true, false, Option, Some, is_some}
use Rattle.wy_value.specs.Datum.{Datum}
use Rattle.wy_core.specs.Types.{Ty}
use Rattle.wy_core.specs.CoreTree.{Expr, Alias}
use Rattle.wy_sem.specs.Meter.{Meter}
use Rattle.wy_sem.specs.Expressions as sem
use Rattle.wy_sem.specs.Expressions.{no_calls}
use Rattle.wy_sem.specs.TypeTests.{Test, has_clauses, alias_at, unset, tests}
use Rattle.wy_sound_statements.specs.wy_vc_spec.Numbered.{Node}
use Rattle.wy_sound_statements.specs.wy_vc_spec.Values.{Setting}
use Rattle.wy_vc_laws.specs.wy_sound_terms.operations.Kinds.{IsTruth}
use Rattle.wy_sound_statements.specs.wy_sound_walks.expressions.Names.{also}
use Rattle.wy_sound_statements.specs.wy_sound_walks.expressions.Types.{is_in}
use Rattle.wy_sound_statements.specs.wy_sound_walks.expressions.Suits.{Each, Answers, Suits}
use Rattle.wy_sound_statements.specs.wy_sound_walks.expressions.Laws.{kinds_of}
use Rattle.wy_sound_statements.specs.wy_sound_walks.clauses.Quiet.{CallsNothing}
use Rattle.wy_sound_statements.specs.wy_sound_kinds.Bounded.{IsBounded}

-- ---- tests

-- a test of a type is no fault, and it answers as the type says, of data that a program may hold
abbrev pub TestsTell : (ℕ → Datum → Bool) → (Ty → Datum → Test) → Type 0
TestsTell members test = (t : Ty) (d : Datum) (m : Meter) → IsBounded d → Answers (is_in members t d) (test t d m)

-- the setting of the clauses of types, whose tests go so many clauses deep
abbrev pub setting_to : {N : Type 0} → (N → ℕ) → Option ℕ → List (Alias N) → ℕ → sem.Setting N
setting_to place limit types depth = record { place = place; limit = limit; test = tests place limit types depth; call = no_calls }

-- ---- clauses of types

-- a type has a variable exactly where it has clauses
abbrev pub HaveVariables : {N : Type 0} → List (Alias N) → Type 0
HaveVariables types = (b : ℕ) → is_some (alias_at types b).variable ≡ has_clauses (alias_at types b).clauses

-- the clause calls nothing, what it meets is of the kinds that it asks for, and its answers are truth values
pub record ClauseMeets {N : Type 0} (w : sem.Setting N) (paid : Bool) (s : Setting N) (members : ℕ → Datum → Bool) (seen : ℕ → Bool) (st : sem.Store) (e : Expr N) : Type 0 where
  pub quiet : CallsNothing e
  pub suits : Suits (kinds_of w paid s members) true seen e st
  pub truth : Each (kinds_of w paid s members) e st IsTruth

abbrev pub ClausesMeet : {N : Type 0} → sem.Setting N → Bool → Setting N → (ℕ → Datum → Bool) → (ℕ → Bool) → sem.Store → List (Expr N) → Type 0
ClausesMeet w paid s members seen st [] = Unit {0}
ClausesMeet w paid s members seen st (e ∷ es) = ClauseMeets w paid s members seen st e × ClausesMeet w paid s members seen st es

-- none of the clauses calls anything
abbrev pub AllQuiet : {N : Type 0} → List (Expr N) → Type 0
AllQuiet [] = Unit {0}
AllQuiet (e ∷ es) = CallsNothing e × AllQuiet es

-- no variable
abbrev pub no_variable : ℕ → Bool
no_variable x = false

-- so of the clauses of each type at each datum of its definition, in code and in contracts, where tests in them answer as types say
abbrev pub AliasesMeet : Setting Node → (ℕ → Datum → Bool) → Type 0
AliasesMeet s members =
    (place : Node → ℕ) (limit : Option ℕ) (depth : ℕ) (paid : Bool) → TestsTell members (tests place limit s.types depth paid)
    → (b x : ℕ) → (alias_at s.types b).variable ≡ Some x → (d : Datum) → IsBounded d → is_in members (alias_at s.types b).ty d ≡ true
    → ClausesMeet (setting_to place limit s.types depth) paid s members (also x no_variable) (sem.put (unset (alias_at s.types b).variables) x (Some d)) (alias_at s.types b).clauses
