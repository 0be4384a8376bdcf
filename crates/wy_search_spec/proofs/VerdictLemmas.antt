-- Two numbers of turns that are enough give one verdict.
use Rattle.std.proofs.Common.{◌≡◌, ℕ, zero, suc, List, [], ◌∷◌, ◌==◌, Bool, true, false, cond, Option, Some, sym, ◌∙◌}
use Rattle.wy_check_spec.specs.wy_term.Condition.{Entry, Condition}
use Rattle.wy_search_spec.specs.Expansion.{Spot}
use Rattle.wy_search_spec.specs.Tree.{Next, closed, stays_open, splits, goes_on, next, Verdict, spent, follows, one_turn, searched, first_spot, IsVerdict}

abbrev some : Verdict → Option Verdict
some v = Some v

some_is : (v w : Verdict) → some v ≡ some w → v ≡ w
some_is v w e = cc

-- two ways to go on agree where both answer
abbrev Agree : (ℕ → List Spot → Option Verdict) → (ℕ → List Spot → Option Verdict) → Type 0
Agree f g = (n : ℕ) (ps : List Spot) (v w : Verdict) → f n ps ≡ Some v → g n ps ≡ Some w → v ≡ w

agree_follows : (f g : ℕ → List Spot → Option Verdict) → Agree f g → (x : Next) (n : ℕ) (p : Spot) (ps : List Spot) (v w : Verdict) → follows x n p ps f ≡ Some v → follows x n p ps g ≡ Some w → v ≡ w
agree_follows f g agree closed n p ps v w a b = agree (suc n) ps v w a b
agree_follows f g agree (stays_open why) n p ps v w a b = some_is v w (sym a ∙ b)
agree_follows f g agree (splits left right) n p ps v w a b = agree n (left ∷ right ∷ ps) v w a b
agree_follows f g agree (goes_on q) n p ps v w a b = agree n (q ∷ ps) v w a b

agree_turn : (types : List Entry) (budget : ℕ) (f g : ℕ → List Spot → Option Verdict) → Agree f g → Agree (λ n ps. one_turn types budget n ps f) (λ n ps. one_turn types budget n ps g)
agree_turn types budget f g agree n [] v w a b = some_is v w (sym a ∙ b)
agree_turn types budget f g agree n (p ∷ ps) v w a b = by (n == budget) a b
  where
    by : (t : Bool) → cond t (some spent) (follows (next types p) n p ps f) ≡ Some v → cond t (some spent) (follows (next types p) n p ps g) ≡ Some w → v ≡ w
    by true c d = some_is v w (sym c ∙ d)
    by false c d = agree_follows f g agree (next types p) n p ps v w c d

agree_turns : (types : List Entry) (budget k m : ℕ) → Agree (searched types budget k) (searched types budget m)
agree_turns types budget zero m n ps v w a b = absurd cc
agree_turns types budget (suc k) zero n ps v w a b = absurd cc
agree_turns types budget (suc k) (suc m) n ps v w a b =
    agree_turn types budget (λ i qs. searched types budget k i qs) (λ i qs. searched types budget m i qs) (agree_turns types budget k m) n ps v w a b

pub one_verdict : (c : Condition) (budget : ℕ) (v w : Verdict) → IsVerdict c budget v → IsVerdict c budget w → v ≡ w
one_verdict c budget v w a b = agree_turns c.types budget a.0 b.0 0 (first_spot c ∷ []) v w a.1 b.1
