use Rattle.std.proofs.Common.{◌≡◌, ◌++◌, drop}
use Rattle.wy_subtype.specs.Clausal as clausal
use Rattle.wy_subtype.proofs.clausal.option_clauses.Given as goal

abbrev pub invariant-loop-option : goal.invariant-loop-option
invariant-loop-option l = (l.made ++ clausal.option_clauses l.head (drop l.option-index l.options)) ≡ clausal.option_clauses l.head l.options
