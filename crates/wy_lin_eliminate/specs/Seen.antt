-- What the code's values stand for.
use Rattle.std.specs.Prelude.{◌≡◌, ℕ, suc, List, [], ◌∷◌, nat_eq, Option, Some, None, if◌then◌else◌, map}
use Rattle.wy_lin.specs.Seen.{linear_form}
use Rattle.wy_lin_eliminate.specs.declared.sums.Summed.{Summed as CodeSummed}
use Rattle.wy_lin_eliminate.specs.declared.sums.Summed.TheVariants as code
use Rattle.wy_lin_eliminate.specs.declared.table.Table.{Table}
use Rattle.wy_lin_eliminate.specs.declared.table.Outcome.{Outcome}
use Rattle.wy_lin_eliminate.specs.declared.table.Outcome.TheVariants as outcome
use Rattle.wy_lin_eliminate.specs.declared.elimination.Next.{Next}
use Rattle.wy_lin_eliminate.specs.declared.elimination.Next.TheVariants as next
use Rattle.wy_lin_eliminate.specs.declared.tally.Tally.{Tally}
use Rattle.wy_lin_eliminate.specs.declared.tally.Tally.TheVariants as tally
use Rattle.wy_lin_eliminate.specs.declared.steps.Elim.{Elim}
use Rattle.wy_lin_eliminate.specs.Variables.{Counts}
use Rattle.wy_lin_eliminate.specs.Sums.{Summed, refuting, dropped, beyond, cut}
use Rattle.wy_lin_eliminate.specs.Elimination.{State, Turn, goes_on, refuted}

abbrev pub seen_sum : CodeSummed → Summed
seen_sum (code.Refuting ms) = refuting ms
seen_sum code.Dropped = dropped
seen_sum code.Beyond = beyond
seen_sum (code.Cut d ms f) = cut d ms (linear_form f)

abbrev pub seen_table : Table → State
seen_table t = record { all = map linear_form t.all.items; standing = t.standing; steps = t.steps; wide = t.wide }

abbrev pub seen_turn : Outcome → Turn
seen_turn (outcome.GoesOn t) = goes_on (seen_table t)
seen_turn (outcome.Refuted steps) = refuted steps

-- whatever follows, this is what the definition makes of it
abbrev pub IsNext : Next → ((State → Elim) → Elim) → Type 0
IsNext (next.Ends e) whole = (f : State → Elim) → whole f ≡ e
IsNext (next.GoesOn t) whole = (f : State → Elim) → whole f ≡ f (seen_table t)

-- the variables with their counts
abbrev pub entries_of : Tally → List (ℕ × Counts)
entries_of (tally.Few few) = few.items
entries_of (tally.Many many) = many.entries

-- where, from a number on, the entry of a variable stands
abbrev pub entry_from : List (ℕ × Counts) → ℕ → ℕ → Option ℕ
entry_from [] v k = None
entry_from (e ∷ es) v k = if nat_eq v e.0 then Some k else entry_from es v (suc k)
