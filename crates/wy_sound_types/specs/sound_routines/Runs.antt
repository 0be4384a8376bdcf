-- A program from its entry.
use Rattle.std.specs.Prelude.{◌≡◌, ℕ, List, Bool, true, None}
use Rattle.wy_value.specs.Datum.{Datum}
use Rattle.wy_core.specs.CoreTree.{Routine, Core, aliases_of}
use Rattle.wy_sem.specs.TypeTests.{clause_setting}
use Rattle.wy_sem.specs.Precondition.{AreTrue}
use Rattle.wy_sem.specs.Evaluation.{Declared, callee, entry_of, evaluate}
use Rattle.wy_sound_statements.specs.wy_vc_spec.Numbered.{Node}
use Rattle.wy_sound_statements.specs.wy_vc_spec.Walks.{Program}
use Rattle.wy_sound_statements.specs.wy_sound_walks.expressions.Truth.{Good}
use Rattle.wy_sound_statements.specs.calls.CallLaws.{ArgumentsIn, Leaves}
use Rattle.wy_sound_types.specs.sound_routines.Depths.{setting_at, AllTaken}

-- arguments that are taken, of their parameters' types, and of which each requires clause evaluates to true: the evaluation is no fault at any number of ticks, and at its end it leaves what the contract says
abbrev pub RunsAreSound : Type 0
RunsAreSound =
    (place : Node → ℕ) (core : Core Node) (p : Program Node) (members : ℕ → Datum → Bool) (takes : ℕ → List Datum → Bool) → AllTaken place None core p members takes
    → (f : ℕ) (vs : List Datum) (r : Routine Node) → takes f vs ≡ true → callee p.routines f ≡ Declared r → ArgumentsIn members r.params vs → AreTrue (clause_setting place None (aliases_of core)) r.preconditions (entry_of r vs)
    → (ticks : ℕ) → Good (Unit {0}) (evaluate place core f vs ticks) (Leaves (setting_at place None core ticks) p.setting members r vs r.result)
