use Rattle.std.proofs.Common.{◌≡◌, ◌++◌, drop}
use Rattle.wy_subtype.specs.Clausal as clausal
use Rattle.wy_subtype.proofs.clausal.part_clauses.Given as goal

abbrev pub invariant-loop-number : goal.invariant-loop-number
invariant-loop-number l = (l.made ++ clausal.part_clauses l.base l.number (drop l.number l.heads)) ≡ clausal.part_clauses l.base 0 l.heads
