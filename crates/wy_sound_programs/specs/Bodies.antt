-- The body of a routine, from its entry to what it leaves.
use Rattle.std.specs.Prelude.{◌≡◌, ℕ, ◌≤◌, List, [], ◌++◌, Bool, true, Option, Some, None}
use Rattle.wy_value.specs.Datum.{Datum}
use Rattle.wy_core.specs.Types.{Ty}
use Rattle.wy_core.specs.CoreTree as tree
use Rattle.wy_core.specs.CoreTree.{Routine}
use Rattle.wy_term.specs.Meaning.{Names}
use Rattle.wy_sem.specs.Meter.{Meter, Done, ◌>>=◌}
use Rattle.wy_sem.specs.Expressions as sem
use Rattle.wy_sem.specs.Expressions.{Store}
use Rattle.wy_sem.specs.TypeTests.{Test}
use Rattle.wy_sem.specs.Statements as run
use Rattle.wy_sem.specs.Statements.{Exit, Broke, Continued}
use Rattle.wy_sem.specs.Evaluation.{entry_of, frame_of, result_of}
use Rattle.wy_vc_spec.specs.Numbered.{Node}
use Rattle.wy_vc_spec.specs.Variables.{Vars}
use Rattle.wy_vc_spec.specs.Walks.{Program}
use Rattle.wy_vc_spec.specs.Spots.{Spot}
use Rattle.wy_vc_spec.specs.Statements.{exec_all}
use Rattle.wy_vc_spec.specs.Programs.{body_of, end_of}
use Rattle.wy_sound_statements.specs.wy_sound_walks.expressions.Truth.{AreTrueBy, Good}
use Rattle.wy_sound_statements.specs.wy_sound_walks.expressions.Laws.{AreValTerms}
use Rattle.wy_sound_statements.specs.wy_sound_walks.joins.Points.{IsPoint, At}
use Rattle.wy_sound_statements.specs.calls.CallLaws.{Leaves}
use Rattle.wy_sound_statements.specs.StatementSuits.{BlockSuits}
use Rattle.wy_sound_statements.specs.Ends.{AreDeclared, Rests, AreHandled, GiveValues, code_kinds}

-- no `break` or `continue` ends it
abbrev pub NoneLeft : Exit → Type 0
NoneLeft (Broke s) = ⊥
NoneLeft (Continued at s) = ⊥
NoneLeft other = Unit {0}

-- the walk of a body that has a result doesn't get to the end
abbrev pub EndsBefore : Option tree.Output → Option Spot → Type 0
EndsBefore None ends = Unit {0}
EndsBefore (Some out) ends = ends ≡ None

-- a body, from a store at a point, and its end: where what they owe is true they are no fault, and they leave what the contract says
abbrev pub BodiesLeave : Type 0
BodiesLeave =
    (w : sem.Setting Node) (p : Program Node) (r : Routine Node) (vars : Vars) (members : ℕ → Datum → Bool) (owed : Ty → Datum → Test) (vs : List Datum) (takes calls : ℕ → List Datum → Bool) (n : ℕ) (names : Names)
    → Rests w (body_of p r vars) members owed vs n names → AreHandled w (body_of p r vars) members takes → AreHandled w (body_of p r vars) members calls → GiveValues w takes
    → (q : Spot) (m : ℕ) (k : Meter) → n ≤ m → AreValTerms q.vars → IsPoint m q → At n names m q (entry_of r vs) → AreDeclared (body_of p r vars).types members (entry_of r vs)
    → BlockSuits (code_kinds w (body_of p r vars) members takes) (frame_of owed r vs) (body_of p r vars) members (λ f us. calls f us ≡ true) [] r.body q m (entry_of r vs)
    → ((x : Exit) (i j : Meter) → run.exec_all w (frame_of owed r vs) r.body (entry_of r vs) i ≡ Done x j → NoneLeft x)
    → EndsBefore r.result (exec_all (body_of p r vars) [] r.body q m).ends
    → Good (AreTrueBy members ((exec_all (body_of p r vars) [] r.body q m).owed ++ end_of (body_of p r vars) r.result (exec_all (body_of p r vars) [] r.body q m).ends (exec_all (body_of p r vars) [] r.body q m).count))
    (run.exec_all w (frame_of owed r vs) r.body (entry_of r vs) k >>= result_of w (frame_of owed r vs) r.at)
    (Leaves w p.setting members r vs r.result)
