-- For the functions: statements with blocks, by their levels.
use Rattle.std.proofs.Common.{◌≡◌, ◌≢◌, ℕ, zero, suc, ◌-◌, ◌<◌, true, false, List, refl, arith}
use Rattle.wy_reading.specs.Rule.{heads}
use Rattle.wy_reading.specs.Reader.{refused, ◌>>=◌}
use Rattle.wy_lex.specs.declared.token.Token.{Token}
use Rattle.wy_parse_grammar.specs.declared.fault.Kind.TheVariants.{Deep}
use Rattle.wy_parse_grammar.specs.Sorts.{is, IF, CASE, DEFAULT}
use Rattle.wy_parse_grammar.specs.Steps.{mark, inside}
use Rattle.wy_parse.specs.BlockGrammar.{CaseList}
use Rattle.wy_parse.specs.BlockReading.{nested, if_stmt, case_rest, default, last_out}

pub branch_more : (n : ℕ) (i : List Token) → n ≢ 0 → (nested true n).branch i ≡ if_stmt true n (nested true (n - 1)).block (nested true (n - 1)).branch i
unfolding nested
branch_more zero i h = absurd (h refl)
branch_more (suc n) i h = let e : suc n - 1 ≡ n = omega arith in rw e refl

pub branch_shut : (n : ℕ) (i : List Token) → n ≡ 0 → (nested true n).branch i ≡ refused (is IF) Deep i
unfolding nested
branch_shut n i e = rw e refl

pub cases_more : (n : ℕ) (cs : CaseList) (i : List Token) → n ≢ 0 → heads (is CASE) i ≡ true
    → (nested true n).cases cs i ≡ (mark CASE >>= (λ _. case_rest (nested true (n - 1)).block cs >>= (nested true (n - 1)).cases)) i
unfolding nested
cases_more zero cs i h g = absurd (h refl)
cases_more (suc n) cs i h g = let e : suc n - 1 ≡ n = omega arith in rw (e, g) refl

pub cases_shut : (n : ℕ) (cs : CaseList) (i : List Token) → n ≡ 0 → heads (is CASE) i ≡ true → (nested true n).cases cs i ≡ refused (is CASE) Deep i
unfolding nested
cases_shut n cs i e h = rw (e, h) refl

pub cases_default : (n : ℕ) (cs : CaseList) (i : List Token) → heads (is CASE) i ≡ false → heads (is DEFAULT) i ≡ true → (nested true n).cases cs i ≡ default (nested true n).block cs i
unfolding nested
cases_default zero cs i h g = rw (h, g) refl
cases_default (suc n) cs i h g = rw (h, g) refl

pub cases_last : (n : ℕ) (cs : CaseList) (i : List Token) → heads (is CASE) i ≡ false → heads (is DEFAULT) i ≡ false → (nested true n).cases cs i ≡ last_out cs i
unfolding nested
cases_last zero cs i h g = rw (h, g) refl
cases_last (suc n) cs i h g = rw (h, g) refl

pub ruleset branch_steps = (branch_more, branch_shut)

pub ruleset case_steps = (cases_more, cases_shut, cases_default, cases_last)

-- the level inside, where a statement stands
pub branch_inside : (n : ℕ) (i : List Token) → 0 < n → (nested true n).branch i ≡ if_stmt true n (nested true (inside n)).block (nested true (inside n)).branch i
unfolding nested
branch_inside zero i h = absurd (omega (arith, h))
branch_inside (suc n) i h = refl

pub inside_below : (n : ℕ) → 0 < n → inside n < n
inside_below zero h = absurd (omega (arith, h))
inside_below (suc n) h = omega arith

pub ruleset statement_steps = (branch_inside, inside_below)
