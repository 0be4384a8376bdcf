-- What each source's core has, besides what a formed one has.
use Rattle.std.specs.Prelude.{◌≡◌, ℕ, List, Some, slice_get}
use Rattle.wy_core.specs.Types.{Ty}
use Rattle.wy_core.specs.CoreTree.{Routine, Core, aliases_of, routines_of}
use Rattle.wy_sound_types.specs.members.Laws.{told_by}
use Rattle.wy_sound_types.specs.Tests.{HaveVariables}
use Rattle.wy_sound_programs.specs.Once.{OnceRoutine}

-- each function and method declares each of its variables once
abbrev pub EachOnce : Core ℕ → Type 0
EachOnce core = (f : ℕ) (r : Routine ℕ) → slice_get (routines_of core) f ≡ Some r → OnceRoutine r

-- a declared type has a variable exactly where it has clauses, and variables are declared once
pub record Sourced (core : Core ℕ) : Type 0 where
  pub variables : HaveVariables (aliases_of core)
  pub once : EachOnce core

-- so types with numbers have variables too
abbrev pub NumberedHaveVariables : Type 0
NumberedHaveVariables = (core : Core ℕ) (flow : List Ty) → HaveVariables (aliases_of core) → HaveVariables (told_by core flow).types
