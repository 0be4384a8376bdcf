use Rattle.std.proofs.Common.{◌≡◌, ◌+◌, ◌≤◌, ◌<◌, false, length}
use Rattle.wy_parse_grammar.specs.Trees.{none}
use Rattle.wy_parse.specs.BlockGrammar.{width}
use Rattle.wy_parse.specs.OpenBlocks.{going, resumed}
use Rattle.wy_parse.proofs.blocks.statements.Given as goal

-- what is still read completes what was, and there is room for as many switches as there are tokens
abbrev pub invariant-pieces : goal.invariant-pieces
invariant-pieces g l =
    (going l.levels width false none l.fn.tokens ≡ resumed l.levels width l.progress l.rest)
    × (length l.progress.switches + length l.rest ≤ length l.fn.tokens)
    × (length l.fn.tokens < width)

abbrev pub decreases-pieces : goal.decreases-pieces
decreases-pieces g l = length l.rest
