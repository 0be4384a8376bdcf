-- All that is known of a condition by the code's verdict.
use Rattle.std.specs.Prelude.{◌≡◌, ℕ, ◌+◌, List, [], ◌∷◌, ◌++◌, All, map, slice_get, Some}
use Rattle.wy_claim.specs.Seats.{SeatView}
use Rattle.wy_term.specs.Condition.{Condition, condition_of}
use Rattle.wy_term.specs.declared.cond.Conds.{Conds}
use Rattle.wy_cert.specs.Steps.{Certificates}
use Rattle.wy_batch.specs.Known.{IsKnown, IsSearched}
use Rattle.wy_batch.specs.Seen.{known, seen_end, NamesTerms}
use Rattle.wy_batch.specs.declared.verdict.End.{End}
use Rattle.wy_batch.specs.declared.verdict.Verdict.{Verdict}

-- the search of the condition ends so, and what comes with the end
pub record EndsIn (c : Condition) (budget : ℕ) (end : End) : Type 0 where
  pub searched : IsSearched c budget (seen_end end)
  pub named : NamesTerms end

pub record IsJudged (certs : Certificates) (budget n : ℕ) (c : Condition) (v : Verdict) : Type 0 where
  pub known : IsKnown certs budget n c (known v)
  pub named : NamesTerms v.end

-- so of each condition of a list whose first one has this number
abbrev pub AreJudged : Certificates → ℕ → ℕ → List Condition → List Verdict → Type 0
AreJudged certs budget n [] [] = Unit {0}
AreJudged certs budget n [] (v ∷ vs) = ⊥
AreJudged certs budget n (c ∷ cs) [] = ⊥
AreJudged certs budget n (c ∷ cs) (v ∷ vs) = IsJudged certs budget n c v × AreJudged certs budget (n + 1) cs vs

-- the conditions of a list, as trees
abbrev pub conditions_in : Conds → List Condition
conditions_in conds = map (condition_of conds.terms) conds.list.items

-- the verdict is that on the condition at this place of a list, whose number is one more
pub record IsVerdictAt (certs : Certificates) (budget : ℕ) (cs : List Condition) (place : ℕ) (v : Verdict) : Type 0 where
  pub condition : Condition
  pub here : slice_get cs place ≡ Some condition
  pub judged : IsJudged certs budget (place + 1) condition v

-- each verdict is that on the condition at the place beside it
abbrev pub AreVerdictsAt : Certificates → ℕ → List Condition → List (ℕ × Verdict) → Type 0
AreVerdictsAt certs budget cs vs = All (λ (v : ℕ × Verdict). IsVerdictAt certs budget cs v.0 v.1) vs

-- the seat has the numbers that it had, and some more behind them
pub record DrewMore (old new : SeatView) : Type 0 where
  pub more : List ℕ
  pub is : new.drawn ≡ old.drawn ++ more
