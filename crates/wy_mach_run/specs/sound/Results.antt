-- What a function or method is to give by its contract.
use Rattle.std.specs.Prelude.{◌≡◌, ℕ, List, true, Option, Some, None}
use Rattle.wy_value.specs.Datum.{Datum}
use Rattle.wy_core.specs.CoreTree.{Alias, Core, Output, Routine, aliases_of}
use Rattle.wy_gen_laws.specs.wy_sem.Expressions.{Store}
use Rattle.wy_gen_laws.specs.wy_sem.TypeTests.{clause_setting, set_if}
use Rattle.wy_gen_laws.specs.wy_sem.Membership.{is_member}
use Rattle.wy_gen_laws.specs.wy_sem.Precondition.{AreTrue}
use Rattle.wy_gen_laws.specs.wy_sem.Meter.{Meter, Done}
use Rattle.wy_gen_laws.specs.wy_sem.Evaluation.{entry_of, evaluate}
use Rattle.wy_gen_laws.specs.programs.Programs.{NoFault}

-- a value in the type of the result, or none where there is no result
abbrev pub IsResult : (ℕ → ℕ) → List (Alias ℕ) → Option Output → Option Datum → Type 0
IsResult place types None v = v ≡ None
IsResult place types (Some out) None = ⊥
IsResult place types (Some out) (Some d) = is_member place types d out.ty ≡ true

-- the parameters as they were at the entry, and beside them the result
abbrev pub with_result : Option Output → Store → Option Datum → Store
with_result None s v = s
with_result (Some out) s v = set_if s out.variable v

-- what was given is a value in the result's type, and each ensures clause evaluates to true of it and of the arguments
pub record Fulfils (place : ℕ → ℕ) (core : Core ℕ) (r : Routine ℕ) (vs : List Datum) (v : Option Datum) : Type 0 where
  pub value : IsResult place (aliases_of core) r.result v
  pub ensures_hold : AreTrue (clause_setting place None (aliases_of core)) r.postconditions (with_result r.result (entry_of r vs) v)

-- on these values the function or method is a fault at no number of ticks, and what it gives is as its contract says
pub record IsFaultless (place : ℕ → ℕ) (core : Core ℕ) (f : ℕ) (r : Routine ℕ) (vs : List Datum) : Type 0 where
  pub no_fault : (k : ℕ) → NoFault (evaluate place core f vs k)
  pub fulfils : (k : ℕ) (v : Option Datum) (m : Meter) → evaluate place core f vs k ≡ Done v m → Fulfils place core r vs v
