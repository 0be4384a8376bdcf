use Rattle.std.proofs.Common.{◌≡◌, take}
use Rattle.wy_search_facts.proofs.spot.literals_of.Given as goal

-- those so far
abbrev pub invariant-loop-i : goal.invariant-loop-i
invariant-loop-i l = l.made.items ≡ take l.i l.branch.literals.keys
