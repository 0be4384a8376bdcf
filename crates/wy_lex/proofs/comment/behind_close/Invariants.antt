use Rattle.std.proofs.Common.{◌≡◌, drop}
use Rattle.wy_lex.specs.Reading.{behind_close}
use Rattle.wy_lex.proofs.comment.behind_close.Given as goal

-- the answer is that for what is left
abbrev pub invariant-loop-n : goal.invariant-loop-n
invariant-loop-n l = behind_close (drop l.n l.text) ≡ behind_close l.text
