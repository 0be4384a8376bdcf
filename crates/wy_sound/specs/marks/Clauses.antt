-- Clauses of contracts and of types of assigned programs use parameters, results and variables of types alone.
use Rattle.std.specs.Prelude.{◌≡◌, ℕ, length, Some, slice_get}
use Rattle.wy_core.specs.CoreTree.{Alias, Routine, Core, aliases_of, routines_of}
use Rattle.wy_core.specs.formed.Bound.{Bound}
use Rattle.wy_assign.specs.Assigned.{IsAssigned}
use Rattle.wy_sound_programs.specs.wy_sound_kinds.Ready.{Rules}
use Rattle.wy_sound_programs.specs.wy_sound_kinds.fits.Fit.{ClausesReady}
use Rattle.wy_sound_programs.specs.wy_sound_statements.calls.CallLaws.{with_params, nothing_seen}
use Rattle.wy_sound_programs.specs.Made.{all_marked}
use Rattle.wy_sound_types.specs.Routines.{with_result}
use Rattle.wy_sound_types.specs.Typed.{AliasesReady}

-- the clauses of a function or method, which are well made but for variables: requires clauses use parameters, and ensures clauses parameters and the result
pub record ContractsAreReady : Type 0 where
  pub first : (core : Core ℕ) → IsAssigned core → (f : ℕ) (r : Routine ℕ) → slice_get (routines_of core) f ≡ Some r
      → (rules : Rules) (n : ℕ) → ClausesReady rules n all_marked r.preconditions → ClausesReady rules n (with_params r.params nothing_seen) r.preconditions
  pub last : (core : Core ℕ) → IsAssigned core → (f : ℕ) (r : Routine ℕ) → slice_get (routines_of core) f ≡ Some r
      → (rules : Rules) (n : ℕ) → ClausesReady rules n all_marked r.postconditions → ClausesReady rules n (with_result r.result (with_params r.params nothing_seen)) r.postconditions

-- the clauses of each type, which are well made but for variables, use the type's variable, which has a name
abbrev pub TypesAreReady : Type 0
TypesAreReady =
    (core : Core ℕ) → IsAssigned core → Bound core → (rules : Rules)
    → ((b : ℕ) (a : Alias ℕ) → slice_get (aliases_of core) b ≡ Some a → ClausesReady rules (length a.variables) all_marked a.clauses)
    → AliasesReady rules core
