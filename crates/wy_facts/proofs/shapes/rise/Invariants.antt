use Rattle.std.proofs.Common.{◌≡◌, ◌≤◌, ◌-◌, drop}
use Rattle.wy_facts.specs.Schema.{rise}
use Rattle.wy_facts.proofs.shapes.rise.Given as goal

abbrev pub invariant-loop-i : goal.invariant-loop-i
invariant-loop-i l = record {
  so_far : rise (drop (l.i - 1) l.names) ≡ rise l.names;
  from : 1 ≤ l.i;
}
