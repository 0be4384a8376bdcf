use Rattle.std.proofs.Common.{◌≡◌, ◌≤◌, ◌++◌, drop, length, map}
use Rattle.wy_cong.proofs.walk.with_fields.Given as goal
use Rattle.wy_cong.specs.Walk.{visits}

-- the fields behind have been put first
abbrev pub invariant-loop-left : goal.invariant-loop-left
invariant-loop-left l = record {
  within : l.left ≤ length l.fields;
  tasks : l.tasks.items ≡ visits (map (λ p. p.1) (drop l.left l.fields)) ++ l.fn.tasks.items;
}

abbrev pub decreases-loop-left : goal.decreases-loop-left
decreases-loop-left l = l.left
