-- How statements end: at the points behind them, and with what the contract says; and the law.
use Rattle.std.specs.Prelude.{◌≡◌, ℕ, ◌≤◌, List, Bool, true, Option, Some, None}
use Rattle.wy_value.specs.Datum.{Datum}
use Rattle.wy_core.specs.Types.{Ty}
use Rattle.wy_core.specs.CoreTree as tree
use Rattle.wy_core.specs.CoreTree.{Expr, Stmts}
use Rattle.wy_term.specs.Term.{Term}
use Rattle.wy_term.specs.Meaning.{Names}
use Rattle.wy_sound_kinds.specs.wy_sem.Meter.{Meter, Done}
use Rattle.wy_sound_kinds.specs.wy_sem.Expressions as sem
use Rattle.wy_sound_kinds.specs.wy_sem.Expressions.{Store, slot}
use Rattle.wy_sound_kinds.specs.wy_sem.TypeTests.{Test, set_if}
use Rattle.wy_sound_kinds.specs.wy_sem.Statements as run
use Rattle.wy_sound_kinds.specs.wy_sem.Statements.{Exit, Went, Broke, Continued, Gave, Frame, type_at}
use Rattle.wy_sound_kinds.specs.wy_sem.Evaluation.{entry_of}
use Rattle.wy_sound_kinds.specs.wy_vc_spec.Numbered.{Node}
use Rattle.wy_sound_kinds.specs.wy_vc_spec.Values.{named_in}
use Rattle.wy_sound_kinds.specs.wy_vc_spec.Calls.{call_walk}
use Rattle.wy_sound_kinds.specs.wy_vc_spec.Spots.{Spot, Flow}
use Rattle.wy_sound_kinds.specs.wy_vc_spec.Statements.{Body, exec_all}
use Rattle.wy_sound_kinds.specs.wy_sound_walks.expressions.Names.{Known, AllMean, Stand}
use Rattle.wy_sound_kinds.specs.wy_sound_walks.expressions.Truth.{AreTrueBy, Good}
use Rattle.wy_sound_kinds.specs.wy_sound_walks.expressions.Types.{is_in}
use Rattle.wy_sound_kinds.specs.wy_sound_walks.expressions.Written.{IsWritten}
use Rattle.wy_sound_kinds.specs.wy_sound_walks.expressions.Suits.{Kinds}
use Rattle.wy_sound_kinds.specs.wy_sound_walks.expressions.Laws.{NamesTold, AreValTerms}
use Rattle.wy_sound_kinds.specs.wy_sound_walks.clauses.Clauses.{AllFit, AreSafe, AreTrueIfDone}
use Rattle.wy_sound_kinds.specs.wy_sound_walks.joins.Points.{IsPoint, At}
use Rattle.wy_sound_kinds.specs.wy_sound_walks.joins.Joins.{IsOne, AtEnd}
use Rattle.wy_sound_kinds.specs.Bounded.{IsBounded}
use Rattle.wy_sound_statements.specs.calls.CallLaws.{Checks, Leaves, Returned, AreValues, with_params, nothing_seen, also_if}
use Rattle.wy_sound_statements.specs.StatementSuits.{BlockSuits}

-- each variable with a value is in its declared type
abbrev pub AreDeclared : List Ty → (ℕ → Datum → Bool) → Store → Type 0
AreDeclared types members s = (x : ℕ) (d : Datum) → slot s x ≡ Some d → is_in members (type_at types x) d ≡ true

-- the store is at one of the points
abbrev pub AtSome : ℕ → Names → ℕ → List Spot → Store → Type 0
AtSome n names m ps s = (p : Spot) × IsOne p ps × At n names m p s

-- the frame of a call: the types of its variables are those of the conditions
abbrev pub frame_at : Body Node → (Ty → Datum → Test) → List Datum → Frame Node
frame_at b owed vs = record { types = b.types; member = owed; result = b.routine.result; postconditions = b.routine.postconditions; entry = entry_of b.routine vs }

-- how statements end: behind them, at a `break`, at a `continue`, where each invariant around is true if it has an answer and what is owed is true, or with what the contract says
abbrev pub Exits : sem.Setting Node → Body Node → (ℕ → Datum → Bool) → List Datum → ℕ → Names → List (Expr Node) → Flow → Exit → Type 0
Exits w b members vs n names around f (Went s) = AtEnd n names f.count f.ends s × AreDeclared b.types members s
Exits w b members vs n names around f (Broke s) = AtSome n names f.count f.breaks s × AreDeclared b.types members s
Exits w b members vs n names around f (Continued at s) = (AreTrueBy members f.owed → AreTrueIfDone w around s) × AreDeclared b.types members s
Exits w b members vs n names around f (Gave v) = Leaves w b.program.setting members b.routine vs b.routine.result v

-- what the statements of a body rest on: types that are told and asked about, the clauses of the contract at the end, which are safe where the result is of its type, and the terms of the parameters at entry
pub record Rests (w : sem.Setting Node) (b : Body Node) (members : ℕ → Datum → Bool) (owed : Ty → Datum → Test) (vs : List Datum) (n : ℕ) (names : Names) : Type 0 where
  pub told : NamesTold members (named_in b.program.setting)
  pub checks : Checks b.program.setting members owed
  pub written : (x : ℕ) → IsWritten (type_at b.types x)
  pub result_written : (out : tree.Output) → b.routine.result ≡ Some out → IsWritten out.ty
  pub value_fits : (out : tree.Output) (d : Datum) → b.routine.result ≡ Some out → IsBounded d → is_in members out.ty d ≡ true → AllFit w b.program.setting members (also_if out.variable (with_params b.routine.params nothing_seen)) b.routine.postconditions (set_if (entry_of b.routine vs) out.variable (Some d))
  pub value_safe : (out : tree.Output) (d : Datum) → b.routine.result ≡ Some out → IsBounded d → is_in members out.ty d ≡ true → AreSafe w b.routine.postconditions (set_if (entry_of b.routine vs) out.variable (Some d))
  pub nothing_fits : b.routine.result ≡ None → AllFit w b.program.setting members (with_params b.routine.params nothing_seen) b.routine.postconditions (entry_of b.routine vs)
  pub nothing_safe : b.routine.result ≡ None → AreSafe w b.routine.postconditions (entry_of b.routine vs)
  pub right : names.is_member ≡ members
  pub entry : AreValTerms b.entry
  pub stand : Stand n names b.entry (with_params b.routine.params nothing_seen) (entry_of b.routine vs)

-- calls that such arguments may be given to: where what is owed is true they are no fault, and what they give the walk's term means
abbrev pub AreHandled : sem.Setting Node → Body Node → (ℕ → Datum → Bool) → (ℕ → List Datum → Bool) → Type 0
AreHandled w b members calls =
    (f from at m : ℕ) (ts hyps : List Term) (names : Names) (vs : List Datum) (k : Meter) → calls f vs ≡ true → names.is_member ≡ members → AreValues ts → AllMean m names ts vs → Known m names hyps
    → Good (AreTrueBy members (call_walk b.program.setting b.program.routines f from ts hyps m).owed) (w.call f at vs k) (Returned m names (call_walk b.program.setting b.program.routines f from ts hyps m))

-- the kinds of code, in which calls take such arguments, and give a value where they stand in expressions
abbrev pub code_kinds : sem.Setting Node → Body Node → (ℕ → Datum → Bool) → (ℕ → List Datum → Bool) → Kinds Node
code_kinds w b members takes = record { setting = w; paid = true; is_number = b.program.setting.is_number; says = is_in members; takes = λ f vs. takes f vs ≡ true }

abbrev pub GiveValues : sem.Setting Node → (ℕ → List Datum → Bool) → Type 0
GiveValues w takes = (f at : ℕ) (vs : List Datum) (m k : Meter) (v : Option Datum) → takes f vs ≡ true → w.call f at vs m ≡ Done v k → (d : Datum) × (v ≡ Some d)

-- a block, from a store at a point: where what it owes is true it is no fault, and it ends so
abbrev pub BlocksAreSound : Type 0
BlocksAreSound =
    (w : sem.Setting Node) (b : Body Node) (members : ℕ → Datum → Bool) (owed : Ty → Datum → Test) (vs : List Datum) (takes calls : ℕ → List Datum → Bool) (n : ℕ) (names : Names)
    → Rests w b members owed vs n names → AreHandled w b members takes → AreHandled w b members calls → GiveValues w takes
    → (around : List (Expr Node)) (block : Stmts Node) (p : Spot) (m : ℕ) (s : Store) (k : Meter) → n ≤ m → AreValTerms p.vars → IsPoint m p → At n names m p s → AreDeclared b.types members s
    → BlockSuits (code_kinds w b members takes) (frame_at b owed vs) b members (λ f us. calls f us ≡ true) around block p m s
    → Good (AreTrueBy members (exec_all b around block p m).owed) (run.exec_all w (frame_at b owed vs) block s k) (Exits w b members vs n names around (exec_all b around block p m))
