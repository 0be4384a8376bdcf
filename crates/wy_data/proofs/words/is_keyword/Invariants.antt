use Rattle.std.proofs.Common.{◌≡◌, drop, map, Bor, List, ℕ}
use Rattle.wy_data.specs.Words.{among, is_keyword}
use Rattle.wy_data.proofs.words.is_keyword.Given as goal

-- the answer is that for the words that are left
abbrev pub invariant-loop-keyword : goal.invariant-loop-keyword
invariant-loop-keyword l = among (map (λ (k : Bor (List ℕ)). k.now) (drop l.keyword-index l.keyword-items)) l.word ≡ is_keyword l.word
