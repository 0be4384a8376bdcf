use Rattle.wy_cache_text.specs.Seen.{all_held}
use Rattle.wy_cache_text.proofs.FileLemmas.{GoesOn}
use Rattle.wy_cache_text.proofs.reading.entries.Given as goal

abbrev pub invariant-loop-turn : goal.invariant-loop-turn
invariant-loop-turn l = GoesOn (all_held l.list.items) l.rest l.text
