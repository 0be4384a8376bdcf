-- Which of several faults is given: the one at the least place, at one place the one of the least rank.
use Rattle.std.specs.Prelude.{ℕ, Bool, ◌||◌, ◌&&◌, ◌==◌, nat_lt, Option, Some, None, if◌then◌else◌}
use Rattle.wy_names_scope.specs.declared.fault.Fault.{Fault}
use Rattle.wy_names_scope.specs.declared.fault.Cause.{Cause}
use Rattle.wy_names_scope.specs.declared.fault.Cause.TheVariants as cause

-- the number of a cause
abbrev pub rank : Cause → ℕ
rank cause.Unknown = 1
rank cause.Twice = 2
rank cause.BareRecursion = 3
rank cause.PropertyLoop = 4
rank cause.CallInContract = 5
rank cause.MethodInFunction = 6
rank cause.Arity = 7
rank cause.OutsideLoop = 8
rank cause.TooLarge = 9

-- the fault found so far
abbrev pub Found : Type 0
Found = Option Fault

-- the first place and cause go before the second
abbrev pub goes_before : ℕ → Cause → Fault → Bool
goes_before at c f = nat_lt at f.at || (at == f.at && nat_lt (rank c) (rank f.cause))

-- with one more fault. Whatever the order in which faults are noted, the one that goes before all others is left
abbrev pub noted : Found → ℕ → Cause → Found
noted None at c = Some (record { at = at; cause = c })
noted (Some f) at c = if goes_before at c f then Some (record { at = at; cause = c }) else Some f

-- with one more fault, where it stands
abbrev pub noted_where : Bool → Found → ℕ → Cause → Found
noted_where stands found at c = if stands then noted found at c else found
