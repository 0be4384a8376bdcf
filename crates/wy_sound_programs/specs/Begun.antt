-- The point where a body begins, behind its requires clauses; and bodies keep their contracts from there.
use Rattle.std.specs.Prelude.{◌≡◌, ℕ, List, [], ◌∷◌, length, Bool, true, Some, None}
use Rattle.wy_value.specs.Datum.{Datum}
use Rattle.wy_core.specs.Types.{Ty}
use Rattle.wy_core.specs.CoreTree as tree
use Rattle.wy_core.specs.CoreTree.{Param, Routine}
use Rattle.wy_term.specs.Meaning.{Names}
use Rattle.wy_sem.specs.Meter.{Meter, Done}
use Rattle.wy_sem.specs.Expressions as sem
use Rattle.wy_sem.specs.TypeTests.{Test, set_if}
use Rattle.wy_sem.specs.Statements as run
use Rattle.wy_sem.specs.Statements.{Exit, type_at}
use Rattle.wy_sem.specs.Evaluation.{types_of, entry_of, frame_of}
use Rattle.wy_vc_spec.specs.Numbered.{Node}
use Rattle.wy_vc_spec.specs.Values.{named_in}
use Rattle.wy_vc_spec.specs.Clauses.{assume_clauses}
use Rattle.wy_vc_spec.specs.Walks.{Program}
use Rattle.wy_vc_spec.specs.Spots.{is_set, with_hyps}
use Rattle.wy_vc_spec.specs.Statements.{Renewed, renewed, exec_all}
use Rattle.wy_vc_spec.specs.Programs.{enter, body_of, body_conditions}
use Rattle.wy_sound_statements.specs.wy_sound_walks.expressions.Names.{Known, Stand}
use Rattle.wy_sound_statements.specs.wy_sound_walks.expressions.Truth.{AreTrueBy}
use Rattle.wy_sound_statements.specs.wy_sound_walks.expressions.Types.{is_in}
use Rattle.wy_sound_statements.specs.wy_sound_walks.expressions.Written.{IsWritten}
use Rattle.wy_sound_statements.specs.wy_sound_walks.expressions.Laws.{NamesTold, AreValTerms}
use Rattle.wy_sound_statements.specs.wy_sound_walks.clauses.Clauses.{AreSafe, AllPass}
use Rattle.wy_sound_statements.specs.wy_sound_walks.joins.Points.{IsPoint}
use Rattle.wy_sound_statements.specs.calls.CallLaws.{Checks, ClausesFit, KeepsContract, with_params, nothing_seen}
use Rattle.wy_sound_statements.specs.wy_sound_kinds.Bounded.{IsBounded}
use Rattle.wy_sound_statements.specs.wy_sound_kinds.Kinds.{HasValues}
use Rattle.wy_sound_statements.specs.StatementSuits.{BlockSuits}
use Rattle.wy_sound_statements.specs.Ends.{AreDeclared, AreHandled, GiveValues, code_kinds}
use Rattle.wy_sound_programs.specs.Bodies.{NoneLeft, EndsBefore}

-- the point where a body begins
abbrev pub begun : Program Node → Routine Node → Renewed
begun p r =
    let start = enter p.setting r in
    let first = assume_clauses p.setting r.variables r.preconditions start.spot.vars start.spot.hyps start.count in
    renewed first.count (with_hyps first.hyps start.spot)

-- there are names at which the parameters stand for the arguments, and what is assumed of them is known
pub record Begun (members : ℕ → Datum → Bool) (r : Routine Node) (vs : List Datum) (q : Renewed) : Type 0 where
  pub terms : AreValTerms q.spot.vars
  pub point : IsPoint q.count q.spot
  pub names : Names
  pub right : names.is_member ≡ members
  pub known : Known q.count names q.spot.hyps
  pub stand : Stand q.count names q.spot.vars (with_params r.params nothing_seen) (entry_of r vs)
  pub marks : (x : ℕ) → is_set q.spot.set x ≡ true → with_params r.params nothing_seen x ≡ true

-- parameters have the types that the conditions have for them
abbrev pub ParamsTyped : List Ty → List Param → Type 0
ParamsTyped types [] = Unit {0}
ParamsTyped types (p ∷ ps) = (type_at types p.variable ≡ p.ty) × ParamsTyped types ps

-- what a call of a function or method rests on: types that are told and asked about, clauses that fit, and arguments that the store at the entry has
pub record Stated (w : sem.Setting Node) (p : Program Node) (members : ℕ → Datum → Bool) (owed : Ty → Datum → Test) (r : Routine Node) (vs : List Datum) : Type 0 where
  pub told : NamesTold members (named_in p.setting)
  pub checks : Checks p.setting members owed
  pub written : (x : ℕ) → IsWritten (type_at (types_of r) x)
  pub typed : ParamsTyped (types_of r) r.params
  pub fit : ClausesFit w p.setting members r vs
  pub size : length vs ≡ length r.params
  pub values : HasValues (is_set (enter p.setting r).spot.set) (entry_of r vs)
  pub declared : AreDeclared (types_of r) members (entry_of r vs)

-- where the requires clauses are true, a body begins at a point
abbrev pub BodiesAreBegun : Type 0
BodiesAreBegun =
    (w : sem.Setting Node) (p : Program Node) (members : ℕ → Datum → Bool) (owed : Ty → Datum → Test) (r : Routine Node) (vs : List Datum) → Stated w p members owed r vs → AllPass w r.preconditions (entry_of r vs) → Begun members r vs (begun p r)

-- the ensures clauses are safe of each result that is in its type
pub record SafeEnds (w : sem.Setting Node) (members : ℕ → Datum → Bool) (r : Routine Node) (vs : List Datum) : Type 0 where
  pub value : (out : tree.Output) (d : Datum) → r.result ≡ Some out → IsBounded d → is_in members out.ty d ≡ true → AreSafe w r.postconditions (set_if (entry_of r vs) out.variable (Some d))
  pub nothing : r.result ≡ None → AreSafe w r.postconditions (entry_of r vs)

-- a function or method whose body owes what is true keeps its contract
abbrev pub BodiesKeep : Type 0
BodiesKeep =
    (w : sem.Setting Node) (p : Program Node) (members : ℕ → Datum → Bool) (owed : Ty → Datum → Test) (r : Routine Node) (vs : List Datum) (takes calls : ℕ → List Datum → Bool)
    → Stated w p members owed r vs → (AllPass w r.preconditions (entry_of r vs) → SafeEnds w members r vs)
    → AreHandled w (body_of p r (enter p.setting r).spot.vars) members takes → AreHandled w (body_of p r (enter p.setting r).spot.vars) members calls → GiveValues w takes
    → BlockSuits (code_kinds w (body_of p r (enter p.setting r).spot.vars) members takes) (frame_of owed r vs) (body_of p r (enter p.setting r).spot.vars) members (λ f us. calls f us ≡ true) [] r.body (begun p r).spot (begun p r).count (entry_of r vs)
    → ((x : Exit) (i j : Meter) → run.exec_all w (frame_of owed r vs) r.body (entry_of r vs) i ≡ Done x j → NoneLeft x)
    → EndsBefore r.result (exec_all (body_of p r (enter p.setting r).spot.vars) [] r.body (begun p r).spot (begun p r).count).ends
    → AreTrueBy members (body_conditions p r) → KeepsContract w p.setting members owed r vs
