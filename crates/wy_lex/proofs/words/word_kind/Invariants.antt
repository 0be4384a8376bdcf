use Rattle.std.proofs.Common.{◌≡◌, drop, map, Bor, List, ℕ}
use Rattle.wy_lex.specs.Kinds.{kind_from, word_kind}
use Rattle.wy_lex.proofs.words.word_kind.Given as goal

-- the answer is that for the words that are left
abbrev pub invariant-loop-keyword : goal.invariant-loop-keyword
invariant-loop-keyword l = (l.n ≡ l.keyword-index) × (kind_from l.n (map (λ (k : Bor (List ℕ)). k.now) (drop l.keyword-index l.keyword-items)) l.fn.word ≡ word_kind l.fn.word)
