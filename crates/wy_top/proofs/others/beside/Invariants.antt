use Rattle.std.proofs.Common.{◌≡◌, ◌+◌, ◌-◌, ◌++◌, map}
use Rattle.std.specs.Prelude.{reverse}
use Rattle.wy_batch.specs.Seen.{NameTerms, known}
use Rattle.wy_top.specs.Taken.{beside, known_kept, pairs}
use Rattle.wy_top.proofs.others.beside.Given as goal

-- those so far, and those that come of what waits
abbrev pub invariant-loop-i : goal.invariant-loop-i
invariant-loop-i l = record {
  value : map known l.list.items ++ beside known_kept (l.i + 1) (pairs l.left) (l.count - l.i) (map known (reverse l.waiting.items)) ≡ beside known_kept 1 (pairs l.kept) l.count (map known l.fn.verdicts.items);
  named : NameTerms l.fn.verdicts.items → NameTerms l.list.items × NameTerms l.waiting.items;
}
