-- The code of a test of a type does what the test does.
use Rattle.std.specs.Prelude.{◌≡◌, ◌<◌, ◌≤◌, ℕ, suc, ◌+◌, List, [], length, true, Option, Some, None}
use Rattle.wy_core.specs.CoreTree.{Core, aliases_of, exprs_of}
use Rattle.wy_core.specs.formed.Formed.{Formed}
use Rattle.wy_core.specs.formed.Sizes.{size_ty, sizes}
use Rattle.wy_code.specs.declared.routines.Routine.{Routine}
use Rattle.wy_code_spec.specs.tables.Tables.{context_of}
use Rattle.wy_code_spec.specs.compiled.Programs.{type_routine, code_of}
use Rattle.wy_vc_spec.specs.wy_sem.TypeTests.{alias_at, tests}
use Rattle.wy_gen_laws.specs.Places.{IsRoutine}
use Rattle.wy_gen_laws.specs.expressions.Standing.{with_table}
use Rattle.wy_gen_laws.specs.expressions.Rests.{TestsFollow}
use Rattle.wy_gen_laws.specs.expressions.Evaluated.{IsDeclared}

-- what clauses speak of: a type without a variable has none
abbrev pub NamesIts : {X : Type 0} → Option ℕ → List X → Type 0
NamesIts None clauses = clauses ≡ []
NamesIts (Some x) clauses = Unit {0}

-- so of each declared type
abbrev pub ClausesNameTheirs : Core ℕ → Type 0
ClausesNameTheirs core = (n : ℕ) → n < length (aliases_of core) → NamesIts (alias_at (aliases_of core) n).variable (alias_at (aliases_of core) n).clauses

-- behind the routines of functions and methods stands that of each declared type
abbrev pub HasTypeRoutines : Core ℕ → List Routine → Type 0
HasTypeRoutines core routines = (n : ℕ) → n < length (aliases_of core) → IsRoutine (with_table (context_of core) routines) (length (context_of core).results + n) (type_routine (context_of core) (alias_at (aliases_of core) n))

-- no declared type has more nodes, its clauses among them
abbrev pub HoldsTypes : ℕ → Core ℕ → Type 0
HoldsTypes wide core = (n : ℕ) → n < length (aliases_of core) → size_ty (alias_at (aliases_of core) n).ty + sizes (exprs_of (alias_at (aliases_of core) n).clauses) ≤ wide

-- in each formed program the code of a test of a type that it declares, or that is made of such, follows the test
abbrev pub TestsAreFollowed : Type 0
TestsAreFollowed = (place : ℕ → ℕ) (limit : Option ℕ) (core : Core ℕ) (routines : List Routine) (wide : ℕ) → Formed core → ClausesNameTheirs core → HasTypeRoutines core routines → HoldsTypes wide core
    → TestsFollow (context_of core) routines (tests place limit (aliases_of core) (suc (length (aliases_of core))) true) wide (IsDeclared (length (aliases_of core)))

-- the code of each program has these routines
abbrev pub CodeHasTypeRoutines : Type 0
CodeHasTypeRoutines = (core : Core ℕ) → HasTypeRoutines core (code_of core).routines
