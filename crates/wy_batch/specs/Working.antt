-- What workers are given, and what they come to.
use Rattle.std.specs.Prelude.{◌≡◌, ℕ, ◌≤◌, ◌++◌, List, All, length, map, true}
use Rattle.wy_batch.specs.Judged.{conditions_in, AreVerdictsAt}
use Rattle.wy_batch.specs.declared.verdict.Verdict.{Verdict}
use Rattle.wy_cert.specs.Steps.{NameTheirTerms, certificates_of}
use Rattle.wy_cert.specs.declared.step.Certs.{Certs}
use Rattle.wy_check.specs.Within.{IsWithin}
use Rattle.wy_claim.specs.Seats.{Counter, SeatView, fresh}
use Rattle.wy_claim.specs.declared.claims.TheConstants.{MAX_PIECES}
use Rattle.wy_term.specs.declared.cond.Conds.{Conds}

-- the seat after it drew these numbers in this order, and then found none left
abbrev pub seat_after : SeatView → List ℕ → SeatView
seat_after seat numbers = record { counter = seat.counter; drawn = seat.drawn ++ numbers; weight = seat.weight; ended = true }

-- the seat after it drew these numbers in this order, where it goes on
abbrev pub seat_drawing : SeatView → List ℕ → SeatView
seat_drawing seat numbers = record { counter = seat.counter; drawn = seat.drawn ++ numbers; weight = seat.weight; ended = seat.ended }

-- the numbers of verdicts
abbrev pub numbers_of : List (ℕ × Verdict) → List ℕ
numbers_of vs = map (λ (v : ℕ × Verdict). v.0) vs

-- what workers ask of conditions and certificates; the counter has as many pieces as there are conditions
pub record IsTask (conds : Conds) (certs : Certs) (counter : Counter) : Type 0 where
  pub within : All (IsWithin (length conds.terms)) conds.list.items
  pub named : NameTheirTerms certs
  pub pieces : counter.pieces ≡ length conds.list.items
  pub few : length conds.list.items ≤ MAX_PIECES

-- a new seat of this weight drew these numbers until none was left, and each verdict is that on its condition
pub record IsDone (conds : Conds) (certs : Certs) (budget : ℕ) (counter : Counter) (weight : ℕ) (seat : SeatView) (vs : List (ℕ × Verdict)) : Type 0 where
  pub drew : seat ≡ seat_after (fresh counter weight) (numbers_of vs)
  pub verdicts : AreVerdictsAt (certificates_of certs) budget (conditions_in conds) vs
