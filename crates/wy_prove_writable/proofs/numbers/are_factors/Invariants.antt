use Rattle.std.proofs.Common.{◌↔◌, drop}
use Rattle.wy_check_laws.specs.reread.Writable.{AreFactors}
use Rattle.wy_prove_writable.proofs.numbers.are_factors.Given as goal

-- all are factors exactly where those are that are left
abbrev pub invariant-loop-pair : goal.invariant-loop-pair
invariant-loop-pair l = AreFactors (drop l.pair-index l.pairs) ↔ AreFactors l.pairs
