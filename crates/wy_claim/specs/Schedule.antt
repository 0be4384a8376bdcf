-- The four kinds of step, and what a schedule of them can lead to.
use Rattle.std.specs.Prelude.{◌≡◌, ◌≢◌, ℕ, ◌+◌, ◌-◌, ◌<◌, ◌≤◌, nat_le, false, ◌||◌, List, [], ◌∷◌, ◌++◌, slice_set}
use mathlib.Core.Option.{some}
use lib.ListN.{get_elem?}
use Rattle.wy_claim.specs.declared.plan.Plan.{Plan}
use Rattle.wy_claim.specs.declared.plan.SeatState.{SeatState}
use Rattle.wy_claim.specs.Claimed.{Claimed}
use Rattle.wy_claim.specs.Seats.{Apart}

-- the seat that has all the weight and has drawn nothing
abbrev pub first_seat : Plan → SeatState
first_seat plan = record { plan = plan; drawn = []; weight = plan.seats; ended = false }

-- what a split leaves to the seat
abbrev pub rest_of : ℕ → SeatState → SeatState
rest_of amount seat = record { plan = seat.plan; drawn = seat.drawn; weight = seat.weight - amount; ended = seat.ended }

-- the new seat of a split
abbrev pub share_of : ℕ → SeatState → SeatState
share_of amount seat = record { plan = seat.plan; drawn = []; weight = amount; ended = false }

-- the seat after it drew the number, with which it ends where the number is no piece
abbrev pub drawing : SeatState → ℕ → SeatState
drawing seat number = record { plan = seat.plan; drawn = seat.drawn ++ number ∷ []; weight = seat.weight; ended = nat_le seat.plan.pieces number }

-- the seat after it took in the other
abbrev pub gathered : SeatState → SeatState → SeatState
gathered seat other = record { plan = seat.plan; drawn = seat.drawn ++ other.drawn; weight = seat.weight + other.weight; ended = seat.ended || other.ended }

-- what is left of the other
abbrev pub met_away : SeatState
met_away = record { plan = record { pieces = 0; seats = 0 }; drawn = []; weight = 0; ended = false }

-- some schedule of steps leads to this counter and these seats, each seat under the number in whose order it was made
pub data Reaches (plan : Plan) : ℕ → List SeatState → Type 0 where
  -- the counter is 0, and the first seat has all the weight
  making : 1 ≤ plan.seats → Reaches plan 0 (first_seat plan ∷ [])
  -- a seat that has not ended gives a part of its weight to a new one
  splitting : (counter : ℕ) (seats : List SeatState) (id amount : ℕ) (seat : SeatState)
      → Reaches plan counter seats → get_elem? seats id ≡ some seat → seat.ended ≡ false → 1 ≤ amount → amount < seat.weight
      → Reaches plan counter (slice_set seats id (rest_of amount seat) ++ share_of amount seat ∷ [])
  -- a seat that has not ended draws the number at which the counter stands
  drawing_next : (counter : ℕ) (seats : List SeatState) (id : ℕ) (seat : SeatState)
      → Reaches plan counter seats → get_elem? seats id ≡ some seat → seat.ended ≡ false → 1 ≤ seat.weight
      → Reaches plan (counter + 1) (slice_set seats id (drawing seat counter))
  -- a seat takes in another
  meeting : (counter : ℕ) (seats : List SeatState) (id away : ℕ) (seat other : SeatState)
      → Reaches plan counter seats → get_elem? seats id ≡ some seat → 1 ≤ seat.weight → away ≢ id → get_elem? seats away ≡ some other → 1 ≤ other.weight
      → Reaches plan counter (slice_set (slice_set seats id (gathered seat other)) away met_away)

-- at every moment of every schedule, the counter and the seats agree
abbrev pub AlwaysAgree : Type 0
AlwaysAgree = (plan : Plan) (counter : ℕ) (seats : List SeatState) → Reaches plan counter seats → Claimed plan counter seats

-- the counter is never more than `pieces` and `seats` together
abbrev pub NeverWraps : Type 0
NeverWraps = (plan : Plan) (counter : ℕ) (seats : List SeatState) → Reaches plan counter seats → counter ≤ plan.pieces + plan.seats

-- two seats never draw one number
abbrev pub NeverTwice : Type 0
NeverTwice =
    (plan : Plan) (counter : ℕ) (seats : List SeatState) → Reaches plan counter seats
    → (id other_id : ℕ) (seat other : SeatState) → get_elem? seats id ≡ some seat → get_elem? seats other_id ≡ some other → other_id ≢ id → Apart seat.drawn other.drawn
