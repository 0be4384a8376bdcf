-- What the crates above prove of these words, each once.
use Rattle.std.proofs.Common.{◌≡◌, Bool, true, false, refl, ◌≤◌, ℕ, zero, suc, List, [], ◌∷◌, length, arith, ℤ, pos, ◌+ℤ◌, ap}
use Rattle.std.proofs.lemmas.Int.{ints}
use Rattle.std.specs.Prelude.{int_lt}
use Rattle.wy_types.specs.wy_core.CoreTree.{Alias}
use Rattle.wy_sem.specs.Expressions.{span}
use Rattle.wy_sem.specs.Operations.{agrees}
use Rattle.wy_sem.specs.TypeTests.{no_alias, alias_at, unset}

pub agrees_self : (b : Bool) → agrees b b ≡ true
agrees_self true = refl
agrees_self false = refl

pub alias_past : {M : Type 0} (types : List (Alias M)) (n : ℕ) → length types ≤ n → alias_at types n ≡ no_alias
alias_past [] n past = refl
alias_past (a ∷ types) zero past = absurd (omega (arith, past))
alias_past (a ∷ types) (suc n) past = alias_past types n (omega (arith, past))

-- another number stands before the end
pub span_more : (i to : ℤ) → int_lt i to ≡ true → span i to ≡ suc (span (i +ℤ pos 1) to)
span_more i to h = grind (arith, ints)

pub unset_length : (names : List (List ℕ)) → length (unset names) ≡ length names
unset_length [] = refl
unset_length (n ∷ ns) = ap suc (unset_length ns)
