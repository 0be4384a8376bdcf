use Rattle.std.proofs.Common.{◌≡◌, ◌+◌, ◌-◌, ℕ, length}
use Rattle.wy_search_bounds.specs.Known.{place_there}
use Rattle.wy_search_bounds.proofs.lasting.put.Given as goal

-- nothing is noted of more atoms
abbrev pub invariant-loop-places : goal.invariant-loop-places
invariant-loop-places l = (a : ℕ) → place_there l.places.items a ≡ place_there l.fn.places.items a

abbrev pub decreases-loop-places : goal.decreases-loop-places
decreases-loop-places l = (l.index + 1) - length l.places.items
