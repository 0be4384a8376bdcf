-- How the fields of a seat and of a counter stand for what contracts see of them.
use Rattle.std.specs.Prelude.{◌≡◌, ◌≤◌, []}
use Rattle.wy_claim.specs.declared.seat.Seat.TheInside as seats
use Rattle.wy_claim.specs.declared.claims.Claims.TheInside as counters
use Rattle.wy_claim.specs.declared.claims.TheConstants.{MAX_PIECES, MAX_SEATS}
use Rattle.wy_claim.specs.Seats.{Counter, SeatView, shown}

-- what contracts see of the seat
abbrev pub view_of_seat : seats.Inside → SeatView
view_of_seat seat = shown seat.token.table_id seat.token.me.0

-- the fields say what the token's state says
pub record IsSeat (seat : seats.Inside) : Type 0 where
  pub bare : seat.token.me.1 ≡ []
  pub weight : seat.weight ≡ seat.token.me.0.weight
  pub weighs : 1 ≤ seat.token.me.0.weight
  pub ended : seat.ended ≡ seat.token.me.0.ended

-- what contracts see of the counter
abbrev pub view_of_claims : counters.Inside → Counter
view_of_claims claims = record { table = claims.table.shared.table_id; pieces = claims.plan.pieces; seats = claims.plan.seats }

-- the table has one word and no slot, and was made for the plan
pub record IsClaims (claims : counters.Inside) : Type 0 where
  pub words : claims.table.shared.table_id.words ≡ 1
  pub slots : claims.table.shared.table_id.slots ≡ 0
  pub key : claims.table.shared.key ≡ claims.plan
  pub pieces : claims.plan.pieces ≤ MAX_PIECES
  pub seats : claims.plan.seats ≤ MAX_SEATS
