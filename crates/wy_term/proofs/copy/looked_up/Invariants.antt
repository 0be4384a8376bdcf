use Rattle.std.proofs.Common.{◌≡◌, nat_eq, take}
use Rattle.std.specs.HashMap.{get}
use Rattle.wy_term.specs.Copying.{Looked}
use Rattle.wy_term.proofs.copy.looked_up.Given as goal

abbrev pub invariant-loop-k : goal.invariant-loop-k
invariant-loop-k l = record {
  value : Looked (get nat_eq l.made) (take l.k l.parts) l.images.items;
  todo : l.todo.items ≡ l.initial.todo.items;
}
