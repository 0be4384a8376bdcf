use Rattle.std.proofs.Common.{◌≡◌, ◌<◌, ◌≤◌, ◌-◌, true, length}
use Rattle.wy_live.specs.Lost.{is_lost}
use Rattle.wy_code_spec.specs.compiled.Expressions as spec
use Rattle.wy_gen.proofs.made.lost.Given as goal

-- those before the variable are found, and it is lost too where it is one
abbrev pub invariant-loop-variable : goal.invariant-loop-variable
invariant-loop-variable l = record {
  value : l.registers ≡ spec.lost_below l.one l.other l.variable;
  within : l.variable ≤ length l.one;
  lost : l.variable < length l.one → is_lost l.one l.other l.variable ≡ true;
}

abbrev pub decreases-loop-variable : goal.decreases-loop-variable
decreases-loop-variable l = length l.one - l.variable
