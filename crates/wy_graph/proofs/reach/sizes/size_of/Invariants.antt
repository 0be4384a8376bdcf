use Rattle.std.proofs.Common.{◌≡◌, ◌+◌, drop}
use Rattle.wy_graph.specs.reach.Reach.{sum_of}
use Rattle.wy_graph.specs.reach.Walks.{capped, size_at}
use Rattle.wy_graph.proofs.reach.sizes.size_of.Given as goal

-- the size so far with those of the names that are left
abbrev pub invariant-loop-name : goal.invariant-loop-name
invariant-loop-name l = record {
  all : capped (l.size + sum_of (size_at l.sizes) (drop l.name-index l.names)) ≡ capped (l.own + sum_of (size_at l.sizes) l.names);
  capped_so : capped l.size ≡ l.size;
}
