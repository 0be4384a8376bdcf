use Rattle.std.proofs.Common.{◌≡◌, ◌≤◌, ◌+◌, ◌++◌, ℕ, List, All, drop, length, map}
use Rattle.wy_batch.specs.wy_check.Within.{IsWithin}
use Rattle.wy_term.specs.Condition.{condition_of}
use Rattle.wy_term.specs.Nodes.{Plain}
use Rattle.wy_top.specs.Taken.{others_of, pairs}
use Rattle.wy_top.proofs.others.others.Given as goal

-- those so far, and those that come of the others
abbrev pub invariant-loop-i : goal.invariant-loop-i
invariant-loop-i l = record {
  value : (nodes : List Plain) → map (condition_of nodes) l.list.items ++ others_of (l.i + 1) (pairs l.left) (drop l.i (map (condition_of nodes) l.conds)) ≡ others_of 1 (pairs l.kept) (map (condition_of nodes) l.conds);
  within : (n : ℕ) → All (IsWithin n) l.conds → All (IsWithin n) l.list.items;
  count : length l.list.items ≤ l.i;
}
