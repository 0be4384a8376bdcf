-- Where the body of a function or method begins: its parameters are marked; and how it ends.
use Rattle.std.specs.Prelude.{◌≡◌, ℕ, Bool, true, false, List, [], ◌∷◌, length}
use Rattle.wy_value.specs.Datum.{Datum}
use Rattle.wy_core.specs.Types.{Ty}
use Rattle.wy_core.specs.CoreTree as tree
use Rattle.wy_core.specs.CoreTree.{Param, Routine}
use Rattle.wy_types.specs.Names.{Declared, Up}
use Rattle.wy_types.specs.Recursion.{RecurThroughParts}
use Rattle.wy_sound_statements.specs.wy_flow_spec.environment.Variables.{Environment, nothing_known}
use Rattle.wy_sound_statements.specs.wy_flow_spec.typing.Outcomes.{Gives}
use Rattle.wy_sound_statements.specs.wy_flow_spec.typing.Contexts.{Program}
use Rattle.wy_sound_statements.specs.wy_flow_spec.typing.Programs.{WithParams, entry}
use Rattle.wy_sem.specs.Meter.{Meter, Done}
use Rattle.wy_sem.specs.Expressions as sem
use Rattle.wy_sem.specs.Expressions.{Store}
use Rattle.wy_sem.specs.Statements as run
use Rattle.wy_sem.specs.Statements.{Exit, Frame}
use Rattle.wy_sem.specs.Evaluation.{types_of, entry_of}
use Rattle.wy_core.specs.formed.Offers.{Offers}
use Rattle.wy_core.specs.formed.Bound as bound
use Rattle.wy_core.specs.formed.Bound.{Around, BoundStmts}
use Rattle.wy_vc_spec.specs.Numbered.{Node, numbered_block}
use Rattle.wy_vc_spec.specs.Values.{Setting}
use Rattle.wy_vc_spec.specs.Spots.{Spot, is_set, mark}
use Rattle.wy_vc_spec.specs.Statements.{Body}
use Rattle.wy_vc_spec.specs.Programs.{enter}
use Rattle.wy_sound_statements.specs.wy_sound_walks.expressions.Types.{is_in}
use Rattle.wy_sound_statements.specs.wy_sound_kinds.Bounded.{IsBounded}
use Rattle.wy_sound_programs.specs.Bodies.{NoneLeft}
use Rattle.wy_sound_programs.specs.Once.{routine_scope, ParamsScoped}
use Rattle.wy_sound_programs.specs.Typed.{Stands, Holds, nothing_kept}

-- the marks with those of parameters
abbrev pub marked_params : List Param → List Bool → List Bool
marked_params [] set = set
marked_params (p ∷ ps) set = marked_params ps (mark set p.variable true)

-- the marks at the entry are those of the parameters
abbrev pub EntriesMarkParams : Type 0
EntriesMarkParams = (s : Setting Node) (r : Routine Node) → (enter s r).spot.set ≡ marked_params r.params []

-- a body that stands in no loop isn't left by `break` or `continue`
abbrev pub BodiesStayInside : Type 0
BodiesStayInside = (w : sem.Setting Node) (fr : Frame Node) (o : Offers) (n : ℕ) (a : Around) (vs : bound.Scope) (block : tree.Stmts ℕ) (k : ℕ) (s : Store) (x : Exit) (m j : Meter) → a.in_loop ≡ false → BoundStmts o n a vs block → run.exec_all w fr (numbered_block block k) s m ≡ Done x j → NoneLeft x

-- arguments that a program may hold, each of the type of its parameter
abbrev pub Arrive : List Declared → (ℕ → Datum → Bool) → List Param → List Datum → Type 0
Arrive names members [] [] = Unit {0}
Arrive names members [] (v ∷ vs) = ⊥
Arrive names members (p ∷ ps) [] = ⊥
Arrive names members (p ∷ ps) (v ∷ vs) = (IsBounded v × (Up names v p.ty ≡ true) × (is_in members p.ty v ≡ true)) × Arrive names members ps vs

-- the point at the entry of a typed body stands at that of typing, and the store with the arguments is as typing has it
pub record BodyBegins (p : Program) (members : ℕ → Datum → Bool) (r : Routine ℕ) (vs : List Datum) (env : Environment) (flow : List Ty) (q : Spot) : Type 0 where
  pub stands : Stands (types_of r) nothing_kept q (entry r env flow)
  pub holds : Holds p.names (types_of r) members (length r.variables) env (is_set q.set) (entry_of r vs)

abbrev pub BodiesBegin : Type 0
BodiesBegin =
    (p : Program) (b : Body Node) (members : ℕ → Datum → Bool) (r : Routine ℕ) (vs : List Datum) (env : Environment) (flow : List Ty) (q : Spot) → RecurThroughParts p.names → ParamsScoped (routine_scope r) r.params → Arrive p.names members r.params vs
    → WithParams p.names r.params nothing_known (Gives env) → q.set ≡ marked_params r.params [] → BodyBegins p members r vs env flow q
