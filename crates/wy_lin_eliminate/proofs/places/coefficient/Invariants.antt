use Rattle.std.proofs.Common.{◌≡◌, drop, nat_eq}
use Rattle.wy_lin.specs.Linear.{coefficient}
use Rattle.wy_lin_eliminate.proofs.places.coefficient.Given as goal

abbrev pub invariant-loop-part : goal.invariant-loop-part
invariant-loop-part l = coefficient nat_eq (drop l.part-index l.parts) l.v ≡ coefficient nat_eq l.parts l.v
