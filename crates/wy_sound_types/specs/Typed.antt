-- The clauses of types, as typing finds them.
use Rattle.std.specs.Prelude.{◌≡◌, ◌<◌, ℕ, List, length, Bool, true, Some, slice_get}
use Rattle.wy_value.specs.Datum.{Datum}
use Rattle.wy_core.specs.Types.{Ty}
use Rattle.wy_core.specs.CoreTree.{Alias, Core, aliases_of}
use Rattle.wy_core.specs.formed.Calls.{Calls}
use Rattle.wy_sound_statements.specs.wy_flow_spec.typing.Outcomes.{Gives}
use Rattle.wy_sound_statements.specs.wy_flow_spec.typing.Programs.{program_of, AliasTyped}
use Rattle.wy_sem.specs.TypeTests.{alias_at}
use Rattle.wy_sound_statements.specs.wy_vc_spec.Numbered.{numbered_alias}
use Rattle.wy_sound_statements.specs.wy_sound_walks.expressions.Names.{also}
use Rattle.wy_sound_statements.specs.wy_sound_walks.expressions.Written.{IsWritten}
use Rattle.wy_sound_statements.specs.wy_sound_kinds.Ready.{Rules}
use Rattle.wy_sound_statements.specs.wy_sound_kinds.suits.Laws.{Begins}
use Rattle.wy_sound_statements.specs.wy_sound_kinds.fits.Fit.{ClausesReady}
use Rattle.wy_sound_types.specs.Tests.{AllQuiet, no_variable, AliasesMeet}
use Rattle.wy_sound_types.specs.members.Laws.{told_by}
use Rattle.wy_sound_types.specs.Laws.{TypesMeet}

-- the type with this number: its clauses are typed behind the expressions before them, and have numbers from theirs on
pub record TypedAlias (core : Core ℕ) (flow : List Ty) (b : ℕ) : Type 0 where
  pub alias : Alias ℕ
  pub stands : slice_get (aliases_of core) b ≡ Some alias
  pub before : List Ty
  pub behind : List Ty
  pub is : alias_at (told_by core flow).types b ≡ numbered_alias alias (length before)
  pub typed : AliasTyped (program_of core) alias before alias.variable (Gives behind)
  pub begins : Begins behind flow

abbrev pub AliasesTyped : Core ℕ → List Ty → Type 0
AliasesTyped core flow = (b : ℕ) → b < length (told_by core flow).types → TypedAlias core flow b

-- each clause of a type calls nothing and uses the type's variable alone
abbrev pub AliasesReady : Rules → Core ℕ → Type 0
AliasesReady r core = (b x : ℕ) (a : Alias ℕ) → slice_get (aliases_of core) b ≡ Some a → a.variable ≡ Some x → (x < length a.variables) × ClausesReady r (length a.variables) (also x no_variable) a.clauses

-- where tests answer as types say, clauses of types that are typed meet what they ask for, at each datum of their types' definitions
abbrev pub ClausesOfTypesMeet : Type 0
ClausesOfTypesMeet =
    (core : Core ℕ) (flow : List Ty) (members : ℕ → Datum → Bool) → TypesMeet core flow members → AliasesTyped core flow → (r : Rules) → ((t : Ty) → r.tested t ≡ true → IsWritten t) → AliasesReady r core
    → AliasesMeet (told_by core flow) members

-- clauses of types of a program whose calls stand where they may call nothing
abbrev pub ClausesOfTypesAreQuiet : Type 0
ClausesOfTypesAreQuiet = (core : Core ℕ) (flow : List Ty) → Calls core → (b : ℕ) → AllQuiet (alias_at (told_by core flow).types b).clauses
