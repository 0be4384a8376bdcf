-- What contracts see of a counter and of a seat.
use Rattle.std.specs.Prelude.{ℕ, ◌+◌, nat_lt, Bool, true, false, ◌||◌, List, [], ◌∷◌, ◌++◌, filter, Contains}
use Rattle.atomic_table.specs.Seated.{TableId}
use Rattle.wy_claim.specs.declared.plan.SeatState.{SeatState}

-- which counter it is, how many pieces it has, and what its seats weigh together
pub record Counter : Type 0 where
  pub table : TableId
  pub pieces : ℕ
  pub seats : ℕ

-- a seat at this counter: the numbers below `pieces` that it drew, its weight, and whether it has ended
pub record SeatView : Type 0 where
  pub counter : Counter
  pub drawn : List ℕ
  pub weight : ℕ
  pub ended : Bool

-- a seat of this weight that has drawn nothing
abbrev pub fresh : Counter → ℕ → SeatView
fresh counter weight = record { counter = counter; drawn = []; weight = weight; ended = false }

-- the seat with this weight
abbrev pub weighing : SeatView → ℕ → SeatView
weighing seat weight = record { counter = seat.counter; drawn = seat.drawn; weight = weight; ended = seat.ended }

-- the seat after it drew this piece
abbrev pub drew : SeatView → ℕ → SeatView
drew seat piece = record { counter = seat.counter; drawn = seat.drawn ++ piece ∷ []; weight = seat.weight; ended = seat.ended }

-- the seat after it found no piece left
abbrev pub ended : SeatView → SeatView
ended seat = record { counter = seat.counter; drawn = seat.drawn; weight = seat.weight; ended = true }

-- the seat after it took in the other
abbrev pub met : SeatView → SeatView → SeatView
met seat other = record { counter = seat.counter; drawn = seat.drawn ++ other.drawn; weight = seat.weight + other.weight; ended = seat.ended || other.ended }

-- what contracts show of a seat's state, at this table
abbrev pub shown : TableId → SeatState → SeatView
shown table seat = record {
  counter = record { table = table; pieces = seat.plan.pieces; seats = seat.plan.seats };
  drawn = filter (λ number. nat_lt number seat.plan.pieces) seat.drawn;
  weight = seat.weight;
  ended = seat.ended;
}

-- no number stands in both lists
abbrev pub Apart : List ℕ → List ℕ → Type 0
Apart xs ys = (number : ℕ) → Contains xs number → Contains ys number → ⊥
