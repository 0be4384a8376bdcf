use Rattle.std.proofs.Common.{◌≡◌, All, length, map, take}
use Rattle.wy_batch.proofs.BenchLemmas.{IsEntryBelow}
use Rattle.wy_batch.specs.Bench.{IsBench}
use Rattle.wy_search.specs.wy_search_bounds.wy_facts.Seen.{Stays}
use Rattle.wy_term.specs.Condition.{entry_of}
use Rattle.wy_batch.proofs.bench.entries.Given as goal

-- the copies so far
abbrev pub invariant-loop-number : goal.invariant-loop-number
invariant-loop-number l = record {
  within : All (IsEntryBelow (length l.bench.terms)) l.copies.items;
  trees : map (entry_of l.bench.terms) l.copies.items ≡ map (entry_of l.from) (take l.number-index l.list);
  bench : IsBench l.from l.bench;
  stays : Stays l.fn.bench.terms l.bench.terms;
}
