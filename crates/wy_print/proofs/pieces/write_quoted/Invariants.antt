use Rattle.std.proofs.Common.{◌≡◌, ◌++◌, drop, codes}
use Rattle.wy_print.specs.Pieces.{quoted, all_escaped}
use Rattle.wy_print.proofs.pieces.write_quoted.Given as goal

-- what is left completes what is written
abbrev pub invariant-loop-character : goal.invariant-loop-character
invariant-loop-character l =
    l.text.items ++ (all_escaped (drop l.character-index l.characters) ++ codes "\"") ≡ l.fn.text.items ++ quoted l.characters
