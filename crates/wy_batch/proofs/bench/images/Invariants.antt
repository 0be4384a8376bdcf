use Rattle.std.proofs.Common.{◌≡◌, length, map, take}
use Rattle.wy_batch.specs.Bench.{IsBench}
use Rattle.wy_search.specs.wy_search_bounds.wy_facts.Seen.{AreBelow, Stays}
use Rattle.wy_term.specs.Nodes.{tree_at}
use Rattle.wy_batch.proofs.bench.images.Given as goal

-- the copies so far
abbrev pub invariant-loop-formula : goal.invariant-loop-formula
invariant-loop-formula l = record {
  within : AreBelow (length l.bench.terms) l.copies.items;
  trees : map (tree_at l.bench.terms) l.copies.items ≡ map (tree_at l.from) (take l.formula-index l.formulas);
  bench : IsBench l.from l.bench;
  stays : Stays l.fn.bench.terms l.bench.terms;
}
