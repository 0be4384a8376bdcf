use Rattle.std.proofs.Common.{◌≡◌, length, nat_eq}
use Rattle.std.specs.HashMap.{get}
use Rattle.wy_search_bounds.proofs.firsts.first_places.Given as goal
use Rattle.wy_search_bounds.specs.Firsts.{AreFirsts, AreNoted}

-- the first places so far
abbrev pub invariant-loop-i : goal.invariant-loop-i
invariant-loop-i l = record {
  noted : AreNoted l.labels (get nat_eq l.found) l.i;
  count : length l.firsts.items ≡ l.i;
  firsts : AreFirsts l.labels l.firsts.items;
}
