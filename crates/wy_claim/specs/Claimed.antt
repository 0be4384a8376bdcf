-- When a counter and its seats agree.
use Rattle.std.specs.Prelude.{◌≡◌, ℕ, ◌<◌, ◌≤◌, ◌⊎◌, ◌==◌, nat_lt, nat_le, true, false, cond, List, [], All, sum_by, count_by}
use mathlib.Core.Option.{some}
use lib.ListN.{get_elem?}
use Rattle.wy_claim.specs.declared.plan.Plan.{Plan}
use Rattle.wy_claim.specs.declared.plan.SeatState.{SeatState}

-- how often the number stands in the list
abbrev pub times : ℕ → List ℕ → ℕ
times number numbers = count_by (λ x. x == number) numbers

-- 1 for a number below the limit, and else 0
abbrev pub once_below : ℕ → ℕ → ℕ
once_below limit number = cond (nat_lt number limit) 1 0

-- how many numbers of the limit or more the list has
abbrev pub late : ℕ → List ℕ → ℕ
late limit numbers = count_by (λ x. nat_le limit x) numbers

-- a seat that was met away: it holds nothing and has no weight
pub record IsMetAway (seat : SeatState) : Type 0 where
  pub drawn : seat.drawn ≡ []
  pub weight : seat.weight ≡ 0

-- a seat that was not met away, while the counter stands here
pub record Sits (plan : Plan) (counter : ℕ) (seat : SeatState) : Type 0 where
  -- it is a seat of this plan
  pub planned : seat.plan ≡ plan
  pub weight : 1 ≤ seat.weight
  -- one that has not ended holds only numbers below `pieces`
  pub all_below : seat.ended ≡ false → All (λ number. number < plan.pieces) seat.drawn
  -- it holds at most as many numbers of `pieces` or more as its weight
  pub late_within : late plan.pieces seat.drawn ≤ seat.weight
  -- where it has ended, the counter is at least `pieces`
  pub none_left : seat.ended ≡ true → plan.pieces ≤ counter

-- the counter and the seats agree
pub record Claimed (plan : Plan) (counter : ℕ) (seats : List SeatState) : Type 0 where
  -- each number below the counter stands once in one seat's list, and no other number stands in any list
  pub once : (number : ℕ) → sum_by (λ seat. times number seat.drawn) seats ≡ once_below counter number
  -- the weights add up to the `seats` that the counter was made for
  pub weights : sum_by (λ seat. seat.weight) seats ≡ plan.seats
  pub each : (id : ℕ) (seat : SeatState) → get_elem? seats id ≡ some seat → IsMetAway seat ⊎ Sits plan counter seat
