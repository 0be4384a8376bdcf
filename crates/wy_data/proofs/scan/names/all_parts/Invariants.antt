use Rattle.std.proofs.Common.{◌≡◌, drop}
use Rattle.wy_data.specs.Words.{all_parts}
use Rattle.wy_data.proofs.scan.names.all_parts.Given as goal

abbrev pub invariant-loop-c : goal.invariant-loop-c
invariant-loop-c l = all_parts (drop l.c-index l.characters) ≡ all_parts l.characters
