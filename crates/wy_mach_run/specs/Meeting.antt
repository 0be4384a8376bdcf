-- What do the test of arguments and the making of a start come to?
use Rattle.std.specs.Prelude.{◌≡◌, ℕ, List, Result, Ok, Err}
use Rattle.wy_value.specs.declared.value.Value.{Value}
use Rattle.wy_core.specs.CoreTree.{Core}
use Rattle.wy_gen_laws.specs.wy_code_spec.compiled.Programs.{code_of}
use Rattle.wy_eval_exprs.specs.declared.precondition.MeetsEnd.{MeetsEnd}
use Rattle.wy_eval_exprs.specs.declared.precondition.MeetsEnd.TheVariants as end
use Rattle.wy_mach_run.specs.declared.entry.Entry.{Entry}
use Rattle.wy_mach_run.specs.declared.parts.Start.{Start}
use Rattle.wy_mach_run.specs.declared.fault.StartFault.{StartFault}
use Rattle.wy_mach_run.specs.declared.fault.StartFault.TheVariants.{OtherCount, OtherType, RequiresFails, TurnsSpent}

-- nothing where they meet the entry, which takes so many, and else the refusal
abbrev pub judged : ℕ → MeetsEnd → Result (Unit {0}) StartFault
judged count end.Met = Ok tt
judged count end.CountFails = Err (OtherCount count)
judged count (end.TypeFails k) = Err (OtherType k)
judged count (end.RequiresFails k) = Err (RequiresFails k)
judged count end.TurnsSpent = Err TurnsSpent

-- it has the code of the program, this entry and these arguments
pub record IsMade (core : Core ℕ) (e : Entry) (args : List Value) (s : Start) : Type 0 where
  pub code : s.code ≡ code_of core
  pub entry : s.entry ≡ e.number
  pub args_are : s.args ≡ args
  pub has_result : s.has_result ≡ e.has_result
