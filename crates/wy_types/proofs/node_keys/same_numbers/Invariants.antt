use Rattle.std.proofs.Common.{◌≡◌, drop}
use Rattle.wy_types.specs.Nodes.{same_numbers}
use Rattle.wy_types.proofs.node_keys.same_numbers.Given as goal

abbrev pub invariant-loop-x : goal.invariant-loop-x
invariant-loop-x l = same_numbers (drop l.x-index l.a) l.rest ≡ same_numbers l.a l.b
