use Rattle.std.proofs.Common.{◌≡◌, ◌||◌, ℕ, Bool, take}
use Rattle.wy_check_nodes.specs.wy_facts.Seen.{AreBelow}
use Rattle.wy_check_nodes.specs.Seen.{AreOver}
use Rattle.wy_check_splits.specs.Walk.{any_over, any_first}
use Rattle.wy_check_splits.proofs.todo.put_members.Given as goal

-- those so far are noted
abbrev pub invariant-loop-i : goal.invariant-loop-i
invariant-loop-i l = record {
  value : (test : ℕ → Bool) → any_over test l.todo.keys ≡ (any_first test (take l.i l.set.keys) || any_over test l.fn.todo.keys);
  below : (n : ℕ) → AreOver n l.set.keys → AreBelow n l.fn.todo.keys → AreBelow n l.todo.keys;
}
