use Rattle.std.proofs.Common.{◌≡◌, ◌++◌, drop}
use Rattle.wy_vc_tables.specs.Tables.{declared_of}
use Rattle.wy_vc_tables.proofs.made.declared.Given as goal

-- those made, and those that are left
abbrev pub invariant-loop-number : goal.invariant-loop-number
invariant-loop-number l = l.made.items ++ declared_of (drop l.number l.places) l.marks l.number ≡ declared_of l.places l.marks 0
