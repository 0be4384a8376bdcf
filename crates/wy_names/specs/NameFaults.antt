-- A fault by its cause.
use Rattle.std.specs.Prelude.{ℕ}
use Rattle.wy_names_scope.specs.declared.fault.Cause.{Cause}
use Rattle.wy_names_scope.specs.declared.fault.Cause.TheVariants as cause
use Rattle.wy_names_scope.specs.declared.fault.Fault.{Fault}
use Rattle.wy_names.specs.declared.name_fault.NameFault.{NameFault}
use Rattle.wy_names.specs.declared.name_fault.NameFault.TheVariants as name_fault

abbrev pub caused : Cause → ℕ → NameFault
caused cause.Unknown at = name_fault.Unknown at
caused cause.Twice at = name_fault.Twice at
caused cause.BareRecursion at = name_fault.BareRecursion at
caused cause.PropertyLoop at = name_fault.PropertyLoop at
caused cause.CallInContract at = name_fault.CallInContract at
caused cause.MethodInFunction at = name_fault.MethodInFunction at
caused cause.Arity at = name_fault.Arity at
caused cause.OutsideLoop at = name_fault.OutsideLoop at
caused cause.TooLarge at = name_fault.TooLarge at

abbrev pub fault_named : Fault → NameFault
fault_named f = caused f.cause f.at
