-- An order of questions by numbers has no endless descents.
use Rattle.std.proofs.Common.{ℕ, zero, suc, ◌<◌, nat_lt, arith}
use Rattle.std.proofs.lemmas.Bool.{ltb-true}
use Rattle.wy_term.specs.Unfolding.{Question, IsFounded, founded}

founded_below : (number : Question → ℕ) (k : ℕ) (q : Question) → number q < k → IsFounded (λ p r. nat_lt (number p) (number r)) q
founded_below number zero q lt = absurd (omega (arith, lt))
founded_below number (suc k) q lt = founded q (λ p t. let less : number p < number q = ltb-true (number p) (number q) t in founded_below number k p (omega (arith, less, lt)))

pub founded_by_number : (number : Question → ℕ) (q : Question) → IsFounded (λ p r. nat_lt (number p) (number r)) q
founded_by_number number q = founded_below number (suc (number q)) q (omega arith)
