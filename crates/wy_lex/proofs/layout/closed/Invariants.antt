use Rattle.std.proofs.Common.{◌≡◌, ◌-◌, ◌++◌}
use Rattle.wy_lex.specs.Layout.{outs}
use Rattle.wy_lex.proofs.layout.closed.Given as goal

-- the blocks that are left complete the tokens
abbrev pub invariant-loop-block : goal.invariant-loop-block
invariant-loop-block l = l.made ++ outs (l.count - l._block) l.at ≡ l.fn.made ++ outs l.count l.at
