-- What is known of the tuples that were tried?
use Rattle.std.specs.Prelude.{◌≡◌, ◌++◌, ℕ, suc, List, Bool, true, false, length}
use Rattle.wy_value.specs.Datum.{Datum}
use Rattle.wy_probe.specs.Trials.{Counted, IsMet, IsUndecided, NoneFaults, Probe}

abbrev pub with_one : Bool → ℕ → ℕ
with_one true n = suc n
with_one false n = n

-- all tuples are some that were tried, of which none faults, so many are met and so many undecided, and the rest
pub record Tried (p : Probe) (all rest : List (List Datum)) (tried met undecided : ℕ) : Type 0 where
  pub before : List (List Datum)
  pub all_are : before ++ rest ≡ all
  pub tried_are : tried ≡ length before
  pub none : NoneFaults p before
  pub met_are : Counted (IsMet p) before met
  pub undecided_are : Counted (IsUndecided p) before undecided
