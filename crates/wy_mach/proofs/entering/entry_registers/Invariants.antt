use Rattle.std.proofs.Common.{◌≡◌, ◌≤◌, ◌+◌, ◌-◌, ◌++◌, length, vec_len}
use Rattle.std.specs.Prelude.{vec_capacity}
use Rattle.wy_mach.specs.Taking.{nulls}
use Rattle.wy_mach.proofs.entering.entry_registers.Given as goal

abbrev pub invariant-more : goal.invariant-more
invariant-more l = record {
  left : l.all.items ++ nulls l.more ≡ l.fn.arguments.items ++ nulls (l.fn.many - length l.fn.arguments.items);
  room : vec_len l.all + l.more ≤ vec_capacity l.all;
}

abbrev pub decreases-more : goal.decreases-more
decreases-more l = l.more
