-- What the table keeps between any two steps, and what a step tells the function that takes it.
use Rattle.std.specs.Prelude.{◌≡◌, ℕ, List, [], ◌∷◌}
use mathlib.Core.Option.{some}
use lib.ListN.{get_elem?}
use Rattle.atomic_table.specs.Table.{State, Me}
use Rattle.wy_claim.specs.declared.plan.Plan.{Plan}
use Rattle.wy_claim.specs.declared.plan.SeatState.{SeatState}
use Rattle.wy_claim.specs.Claimed.{Claimed}
use Rattle.wy_claim.specs.Schedule.{Reaches, drawing}

-- the table's one word is the counter, and some schedule leads to it and to the seats
pub record Kept (plan : Plan) (table : State (Unit {0}) SeatState) : Type 0 where
  pub counter : ℕ
  pub word : table.words ≡ counter ∷ []
  pub reached : Reaches plan counter table.views

-- what a seat knows, and the slots that it holds, which are none
abbrev Mine : Type 0
Mine = Me (Unit {0}) SeatState

-- the seat's state was this one at a moment of a schedule at which the counter stood here
pub record Stood (counter : ℕ) (seat : SeatState) : Type 0 where
  pub seats : List SeatState
  pub id : ℕ
  pub reached : Reaches seat.plan counter seats
  pub claimed : Claimed seat.plan counter seats
  pub among : get_elem? seats id ≡ some seat

-- drawing changes the drawing seat alone, and the number is what the counter was
abbrev pub Draws : Mine → ℕ → Mine → Type 0
Draws before found after = (after ≡ (drawing before.0 found, before.1)) × Stood found before.0

-- looking changes nothing
abbrev pub Looks : Mine → ℕ → Mine → Type 0
Looks before found after = (after ≡ before) × Stood found before.0
