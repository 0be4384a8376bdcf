-- How an evaluation begins.
use Rattle.std.proofs.Common.{◌≡◌, ◌≢◌, ℕ, zero, suc, ◌+◌, ◌-◌, ◌<◌, ◌≤◌, ◌⊎◌, inl, inr, List, [], length, Option, Some, refl, sym, ap, ◌∙◌, arith}
use Rattle.std.proofs.lemmas.Bool.{cases_lt}
use Rattle.wy_value.specs.Datum.{Datum}
use Rattle.wy_core.specs.CoreSeen.{seen_routine}
use Rattle.wy_core.specs.CoreTree as tree
use Rattle.wy_core.specs.CoreTree.{Core, routines_of}
use Rattle.wy_core.specs.declared.declarations.Routine.{Routine}
use Rattle.wy_sem.specs.Evaluation.{Declared, callee, contract_cost, evaluate, limited_evaluate, place_of, run, start}
use Rattle.wy_sem.specs.Growth.{Settles}
use Rattle.wy_sem.specs.Meter.{Meter, Outcome, Spent, Run}
use Rattle.wy_sem.proofs.Limits.{limit_is_exact}
use Rattle.wy_eval.specs.Endings.{EndsAs}
use Rattle.wy_eval_exprs.specs.Settings.{here}
use Rattle.wy_eval.proofs.CalleeLemmas.{callee_behind}

pub placed : (rs : List (tree.Routine ℕ)) (n : ℕ) (r : Routine) → callee rs n ≡ Declared (seen_routine r) → r.at ≡ place_of (callee rs n)
placed rs n r is = ap place_of (sym is)

none_placed : (k : ℕ) → 0 ≡ place_of (callee {N = ℕ} [] k)
none_placed zero = refl
none_placed (suc zero) = refl
none_placed (suc (suc k)) = refl

pub placed_behind : (rs : List (tree.Routine ℕ)) (n : ℕ) → length rs ≤ n → 0 ≡ place_of (callee rs n)
placed_behind rs n past =
    let l = length rs in
    let k = n - l in
    let sum : n ≡ l + k = omega arith in
    none_placed k ∙ ap place_of (sym (callee_behind rs n k sum))

-- an evaluation is the run that was made
pub evaluated : (core : Core ℕ) (limit turns entry at ticks calls : ℕ) (vs : List Datum) (m : Meter) (o : Outcome (Option Datum)) → limit ≡ turns → calls ≡ suc ticks → at ≡ place_of (callee (routines_of core) entry) → m ≡ start ticks
    → run here (Some limit) core calls entry at vs m ≡ o → limited_evaluate here (Some turns) core entry vs ticks ≡ o
evaluated core limit turns entry at ticks calls vs m o limited nested there begun is =
    sym (ap (λ l. run here (Some l) core calls entry at vs m) limited
    ∙ (ap (λ j. run here (Some turns) core j entry at vs m) nested
    ∙ (ap (λ a. run here (Some turns) core (suc ticks) entry a vs m) there
    ∙ ap (λ k. run here (Some turns) core (suc ticks) entry (place_of (callee (routines_of core) entry)) vs k) begun)))
    ∙ is

abbrev pub with_output : ℕ → List ℕ → Meter
with_output ticks out = record { ticks = ticks; turns = 0; output = out }

pub starts : (ticks : ℕ) (out : List ℕ) → out ≡ [] → with_output ticks out ≡ start ticks
starts ticks out none = ap (λ o. with_output ticks o) none

-- ---- the limit on turns

ends_by : (turns cost : ℕ) (whole limited : Outcome (Option Datum)) (form : Run (Option Datum)) (out : List ℕ) → Settles turns cost whole limited → ((m : Meter) → form m ≢ Spent) → EndsAs form out limited → (turns < cost) ⊎ (cost ≤ turns) → (cost ≤ turns) × EndsAs form out whole
ends_by turns cost whole limited form out s other (m, is, printed) (inl e) = absurd (other m (sym is ∙ s.beyond e))
ends_by turns cost whole limited form out s other (m, is, printed) (inr e) = (e, (m, sym (s.within e) ∙ is, printed))

spent_by : (turns cost : ℕ) (whole limited : Outcome (Option Datum)) → Settles turns cost whole limited → whole ≢ Spent → limited ≡ Spent → (turns < cost) ⊎ (cost ≤ turns) → turns < cost
spent_by turns cost whole limited s unspent is (inl e) = e
spent_by turns cost whole limited s unspent is (inr e) = absurd (unspent (sym (s.within e) ∙ is))

-- an end of an evaluation with a limit is that of the evaluation without one, whose turns are within the limit
pub ends_exactly : (turns : ℕ) (core : Core ℕ) (entry : ℕ) (vs : List Datum) (ticks : ℕ) (form : Run (Option Datum)) (out : List ℕ) → ((m : Meter) → form m ≢ Spent) → EndsAs form out (limited_evaluate here (Some turns) core entry vs ticks)
    → (contract_cost here core entry vs ticks ≤ turns) × EndsAs form out (evaluate here core entry vs ticks)
ends_exactly turns core entry vs ticks form out other says =
    ends_by turns (contract_cost here core entry vs ticks) (evaluate here core entry vs ticks) (limited_evaluate here (Some turns) core entry vs ticks) form out ((limit_is_exact here core entry vs turns).evaluation ticks) other says (cases_lt turns (contract_cost here core entry vs ticks))

-- a limit that is spent is passed
pub spent_exactly : (turns : ℕ) (core : Core ℕ) (entry : ℕ) (vs : List Datum) (ticks : ℕ) → limited_evaluate here (Some turns) core entry vs ticks ≡ Spent → turns < contract_cost here core entry vs ticks
spent_exactly turns core entry vs ticks is =
    let law = limit_is_exact here core entry vs turns in
    spent_by turns (contract_cost here core entry vs ticks) (evaluate here core entry vs ticks) (limited_evaluate here (Some turns) core entry vs ticks) (law.evaluation ticks) (law.evaluation_unspent ticks) is (cases_lt turns (contract_cost here core entry vs ticks))
