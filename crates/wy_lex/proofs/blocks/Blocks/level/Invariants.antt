use Rattle.std.proofs.Common.{◌≡◌, drop}
use Rattle.wy_lex.specs.Layout.{level_from, level}
use Rattle.wy_lex.proofs.blocks.Blocks.level.Given as goal

-- the answer is that for the blocks that are left
abbrev pub invariant-loop-n : goal.invariant-loop-n
invariant-loop-n l = level_from l.n (drop l.n l.self) l.indent ≡ level l.self l.indent
