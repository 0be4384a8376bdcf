-- What the code of expressions stands in.
use Rattle.std.specs.Prelude.{◌≡◌, ◌<◌, ℕ, List, true}
use Rattle.wy_core.specs.formed.Bound.{Scope, Has}
use Rattle.wy_code_spec.specs.wy_live.Sets.{Variables, has}
use Rattle.wy_code.specs.declared.routines.Routine.{Routine}
use Rattle.wy_code.specs.declared.routines.Code.{Code}
use Rattle.wy_code_spec.specs.declared.tables.context.Context.{Context}

-- a program with these routines, whose names and shapes are those of the table
abbrev pub with_table : Context → List Routine → Code
with_table c routines = record { shapes = c.table; routines = routines }

-- each variable in scope has one of the first n registers, and so has each that is live
pub record AreKnown (n : ℕ) (vs : Scope) (s : Variables) : Type 0 where
  pub below : (x : ℕ) → Has vs x → x < n
  pub within : (x : ℕ) → has s x ≡ true → x < n
