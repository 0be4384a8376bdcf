use Rattle.std.proofs.Common.{◌≡◌, nat_eq, drop}
use Rattle.wy_lin.specs.declared.arithmetic.Factor.TheVariants.{Times}
use Rattle.wy_lin.specs.Linear.{plus_parts}
use Rattle.wy_lin_eliminate.proofs.adding.add_parts.Given as goal

abbrev pub invariant-loop-part : goal.invariant-loop-part
invariant-loop-part l = plus_parts nat_eq l.parts.items (Times l.m) (drop l.part-index l.others) ≡ plus_parts nat_eq l.initial.parts.items (Times l.m) l.others
