use Rattle.std.proofs.Common.{◌≡◌, ◌++◌, drop}
use Rattle.wy_cert.specs.writing.Text.{texts, pair_text}
use Rattle.wy_cert.proofs.writing.write.put_pairs.Given as goal

abbrev pub invariant-loop-pair : goal.invariant-loop-pair
invariant-loop-pair l = l.out.items ++ texts pair_text (drop l.pair-index l.pairs) ≡ l.initial.out.items ++ texts pair_text l.pairs
