use Rattle.wy_cache_text.proofs.LineLemmas.{SoFar}
use Rattle.wy_cache_text.proofs.line.lines.Given as goal

abbrev pub invariant-loop-line : goal.invariant-loop-line
invariant-loop-line l = SoFar l._line l.text l.rest
