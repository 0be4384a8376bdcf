-- What the calls tell of the moment of their step.
use Rattle.std.specs.Prelude.{◌≡◌, ℕ, nat_lt, if◌then◌else◌, List, Option, Some, None}
use mathlib.Core.Option.{some}
use lib.ListN.{get_elem?}
use Rattle.wy_claim.specs.declared.plan.SeatState.{SeatState}
use Rattle.wy_claim.specs.Claimed.{Claimed, times, once_below}
use Rattle.wy_claim.specs.Schedule.{Reaches}
use Rattle.wy_claim.specs.Seats.{Counter, SeatView, shown}

-- at a moment of a schedule the counter stood here, in agreement with all seats, of which this was one
pub record StoodAt (seat : SeatView) (counter : ℕ) : Type 0 where
  pub seats : List SeatState
  pub id : ℕ
  pub state : SeatState
  pub reached : Reaches state.plan counter seats
  pub claimed : Claimed state.plan counter seats
  pub among : get_elem? seats id ≡ some state
  pub seen : seat ≡ shown seat.counter.table state

-- the piece with this number, if there is one
abbrev pub piece_at : Counter → ℕ → Option ℕ
piece_at counter number = if nat_lt number counter.pieces then Some number else None

-- when the seat was this one, the counter stood at some number, and the answer is the piece with this number
abbrev pub IsNextPiece : Counter → SeatView → Option ℕ → Type 0
IsNextPiece counter seat answer = (number : ℕ) × StoodAt seat number × (answer ≡ piece_at counter number)

-- each number below `pieces` stands exactly once in the list, and no other
abbrev pub EachOnce : ℕ → List ℕ → Type 0
EachOnce pieces numbers = (number : ℕ) → times number numbers ≡ once_below pieces number
