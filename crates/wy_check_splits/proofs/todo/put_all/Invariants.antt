use Rattle.std.proofs.Common.{◌≡◌, ◌||◌, ℕ, Bool, take}
use Rattle.wy_check_nodes.specs.wy_facts.Seen.{AreBelow}
use Rattle.wy_check_splits.specs.Walk.{any_over}
use Rattle.wy_check_splits.proofs.todo.put_all.Given as goal

-- those so far are noted
abbrev pub invariant-loop-part : goal.invariant-loop-part
invariant-loop-part l = record {
  value : (test : ℕ → Bool) → any_over test l.todo.keys ≡ (any_over test (take l.part-index l.parts) || any_over test l.fn.todo.keys);
  below : (n : ℕ) → AreBelow n l.parts → AreBelow n l.fn.todo.keys → AreBelow n l.todo.keys;
}
