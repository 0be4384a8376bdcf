use Rattle.std.proofs.Common.{◌≡◌, length}
use Rattle.wy_prove_writable.specs.sorted.Sorts.{MarkSorted}
use Rattle.wy_prove_writable.proofs.sorted.marks.sorted_terms.Given as goal

-- the terms that were passed are marked
abbrev pub invariant-loop-number : goal.invariant-loop-number
invariant-loop-number l = (length l.marks.items ≡ l.number) × MarkSorted l.terms l.marks.items
