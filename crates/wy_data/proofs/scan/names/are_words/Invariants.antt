use Rattle.std.proofs.Common.{◌↔◌, drop}
use Rattle.wy_data.specs.scan.Words.{AreWords}
use Rattle.wy_data.proofs.scan.names.are_words.Given as goal

abbrev pub invariant-loop-name : goal.invariant-loop-name
invariant-loop-name l = AreWords (drop l.name-index l.names) ↔ AreWords l.names
