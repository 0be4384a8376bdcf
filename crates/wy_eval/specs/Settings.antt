-- What code goes by: its setting, and the invariants of a loop.
use Rattle.std.specs.Prelude.{◌≡◌, ◌≢◌, ℕ, suc, List, ◌∷◌, map, length, Option, Some, Result, Ok, Err}
use Rattle.wy_core.specs.CoreTree.{Alias, Core, Expr, Step}
use Rattle.wy_term.specs.declared.cond.CondKind.TheVariants.{Keep, Member}
use Rattle.wy_sem.specs.Evaluation.{Callee, Declared, Print, PrintInt, Undeclared, print_call, print_int_call, run}
use Rattle.wy_sem.specs.Expressions.{Setting, Store, clauses}
use Rattle.wy_value.specs.Datum.{Datum}
use Rattle.wy_value.specs.declared.value.Value.{Value}
use Rattle.wy_value.specs.Seen.{seen}
use Rattle.wy_sem.specs.Meter as sem
use Rattle.wy_sem.specs.Meter.{Done, Fault, Run, ◌>>=◌}
use Rattle.wy_sem.specs.Operations as operations
use Rattle.wy_sem.specs.Statements.{Exit, path_of}
use Rattle.wy_sem.specs.TypeTests.{tests}
use Rattle.wy_eval_exprs.specs.declared.stop.Stop.{Stop}
use Rattle.wy_eval_exprs.specs.declared.stop.Stop.TheVariants as stop
use Rattle.wy_eval_exprs.specs.declared.updates.Slot.{Slot}
use Rattle.wy_eval_exprs.specs.Outcomes.{stopped}
use Rattle.wy_eval_exprs.specs.Parts.{seen_slot}
use Rattle.wy_eval_exprs.specs.Settings.{here}

-- code calls the functions and methods of its program, which nest so deep
abbrev pub code : Core ℕ → List (Alias ℕ) → ℕ → ℕ → Setting ℕ
code core types limit calls = record { place = here; limit = Some limit; test = tests here (Some limit) types (suc (length types)); call = run here (Some limit) core calls }

-- the invariants after a turn of a loop
abbrev pub kept : Setting ℕ → List (Expr ℕ) → ℕ → Store → Run Exit → Run Exit
kept w invariants from = clauses w Keep from invariants

-- the parts that the code names
abbrev pub slots_in : List Slot → List operations.Slot
slots_in slots = map seen_slot slots

-- a method that isn't declared
abbrev pub built_in_call : ℕ → Callee ℕ → ℕ → List Datum → Run (Option Datum)
built_in_call limit (Declared r) at vs = Fault Member at
built_in_call limit Print at vs = print_call (Some limit) at vs
built_in_call limit PrintInt at vs = print_int_call at vs
built_in_call limit Undeclared at vs = Fault Member at

-- a step of a path leads to a part and on from it, or stops, whatever follows
abbrev pub StepsTo : Setting ℕ → Store → Step ℕ → Datum → sem.Meter → Result (Slot × Value) Stop → sem.Meter → Type 0
StepsTo w s x d m (Ok taken) k = (steps : List (Step ℕ)) → path_of w s (x ∷ steps) d m ≡ (path_of w s steps (seen taken.1) k >>= (λ slots. Done (seen_slot taken.0 ∷ slots)))
StepsTo w s x d m (Err e) k = e ≢ stop.NoMemory → (steps : List (Step ℕ)) → path_of w s (x ∷ steps) d m ≡ stopped e k
