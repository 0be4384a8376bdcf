-- A call of a declared function or method, where its body keeps its contract.
use Rattle.std.specs.Prelude.{◌≡◌, ℕ, List, [], ◌∷◌, length, Bool, true, false, Option, Some, None}
use Rattle.wy_value.specs.Datum.{Datum}
use Rattle.wy_core.specs.Types.{Ty}
use Rattle.wy_core.specs.CoreTree as tree
use Rattle.wy_core.specs.CoreTree.{Param, Routine}
use Rattle.wy_term.specs.Term.{Term}
use Rattle.wy_term.specs.Meaning.{Names, sense}
use Rattle.wy_sound_kinds.specs.wy_sem.Meter.{Meter, Outcome, Run, ◌>>=◌}
use Rattle.wy_sound_kinds.specs.wy_sem.Expressions as sem
use Rattle.wy_sound_kinds.specs.wy_sem.TypeTests.{Test, is_constrained, set_if}
use Rattle.wy_sound_kinds.specs.wy_sem.Statements.{exec_all}
use Rattle.wy_sound_kinds.specs.wy_sem.Evaluation.{entry_of, frame_of, result_of, owed_member, routine_call}
use Rattle.wy_sound_kinds.specs.wy_vc_spec.Numbered.{Node}
use Rattle.wy_sound_kinds.specs.wy_vc_spec.Values.{Setting, named_in}
use Rattle.wy_sound_kinds.specs.wy_vc_spec.Calls.{Walked, routine_walk}
use Rattle.wy_sound_kinds.specs.wy_sound_walks.expressions.Names.{Agree, Known, Means, AllMean, also}
use Rattle.wy_sound_kinds.specs.wy_sound_walks.expressions.Truth.{AreTrueBy, Good}
use Rattle.wy_sound_kinds.specs.wy_sound_walks.expressions.Types.{is_in}
use Rattle.wy_sound_kinds.specs.wy_sound_walks.expressions.Written.{IsWritten}
use Rattle.wy_sound_kinds.specs.wy_sound_walks.expressions.Suits.{Answers}
use Rattle.wy_sound_kinds.specs.wy_sound_walks.expressions.Laws.{NamesTold, IsValTerm}
use Rattle.wy_sound_kinds.specs.wy_sound_walks.clauses.Clauses.{AllFit, AreSafe, AllPass}
use Rattle.wy_sound_kinds.specs.Bounded.{IsBounded}

-- the checks of types that calls make, of data that a program may hold: a type from which one with clauses is reached is asked about, and no other
pub record Checks (s : Setting Node) (members : ℕ → Datum → Bool) (owed : Ty → Datum → Test) : Type 0 where
  pub asked : (t : Ty) (d : Datum) (m : Meter) → IsBounded d → is_constrained s.types t ≡ true → Answers (is_in members t d) (owed t d m)
  pub free : (t : Ty) (d : Datum) (m : Meter) → IsBounded d → is_constrained s.types t ≡ false → Answers true (owed t d m)

-- a datum that is given a type: a program may hold it, and where it isn't asked about it is in the type
abbrev pub ComesAs : Setting Node → (ℕ → Datum → Bool) → Ty → Datum → Type 0
ComesAs s members t d = IsBounded d × (is_constrained s.types t ≡ false → is_in members t d ≡ true)

-- each argument that isn't asked about is of its type
abbrev pub ArgumentsFit : Setting Node → (ℕ → Datum → Bool) → List Param → List Datum → Type 0
ArgumentsFit s members [] [] = Unit {0}
ArgumentsFit s members [] (v ∷ vs) = ⊥
ArgumentsFit s members (p ∷ ps) [] = ⊥
ArgumentsFit s members (p ∷ ps) (v ∷ vs) = IsWritten p.ty × ComesAs s members p.ty v × ArgumentsFit s members ps vs

-- each argument is of its type
abbrev pub ArgumentsIn : (ℕ → Datum → Bool) → List Param → List Datum → Type 0
ArgumentsIn members [] vs = Unit {0}
ArgumentsIn members (p ∷ ps) [] = Unit {0}
ArgumentsIn members (p ∷ ps) (v ∷ vs) = (is_in members p.ty v ≡ true) × ArgumentsIn members ps vs

-- the variables that parameters are, and that of the result
abbrev pub with_params : List Param → (ℕ → Bool) → ℕ → Bool
with_params [] seen = seen
with_params (p ∷ ps) seen = with_params ps (also p.variable seen)

abbrev pub nothing_seen : ℕ → Bool
nothing_seen x = false

abbrev pub also_if : Option ℕ → (ℕ → Bool) → ℕ → Bool
also_if None seen = seen
also_if (Some x) seen = also x seen

-- what a body that keeps its contract gives: a value of the result's type, or none, of which the ensures clauses are true
abbrev pub Leaves : sem.Setting Node → Setting Node → (ℕ → Datum → Bool) → Routine Node → List Datum → Option tree.Output → Option Datum → Type 0
Leaves w s members r vs None v = (v ≡ None) × AllPass w r.postconditions (entry_of r vs)
Leaves w s members r vs (Some out) None = ⊥
Leaves w s members r vs (Some out) (Some d) = IsBounded d × (is_in members out.ty d ≡ true) × AllPass w r.postconditions (set_if (entry_of r vs) out.variable (Some d))

-- the clauses fit each store at which they are asked: at the entry, and with a result, which is of its type
pub record ClausesFit (w : sem.Setting Node) (s : Setting Node) (members : ℕ → Datum → Bool) (r : Routine Node) (vs : List Datum) : Type 0 where
  pub first : AllFit w s members (with_params r.params nothing_seen) r.preconditions (entry_of r vs)
  pub last : (out : tree.Output) (d : Datum) → r.result ≡ Some out → IsBounded d → is_in members out.ty d ≡ true → AllFit w s members (also_if out.variable (with_params r.params nothing_seen)) r.postconditions (set_if (entry_of r vs) out.variable (Some d))
  pub none : r.result ≡ None → AllFit w s members (with_params r.params nothing_seen) r.postconditions (entry_of r vs)
  pub written : (out : tree.Output) → r.result ≡ Some out → IsWritten out.ty

-- where the arguments are of their types and the requires clauses are true, the body is no fault, and it leaves what the contract says
abbrev pub KeepsContract : sem.Setting Node → Setting Node → (ℕ → Datum → Bool) → (Ty → Datum → Test) → Routine Node → List Datum → Type 0
KeepsContract w s members owed r vs =
    ArgumentsIn members r.params vs → AllPass w r.preconditions (entry_of r vs) → (m : Meter)
    → Good (Unit {0}) (exec_all w (frame_of owed r vs) r.body (entry_of r vs) m >>= result_of w (frame_of owed r vs) r.at) (Leaves w s members r vs r.result)

-- there are names behind the walk of a call, at which its hypotheses hold and its term means the value
pub record Returned (n : ℕ) (names : Names) (w : Walked) (v : Option Datum) : Type 0 where
  pub later : Names
  pub agree : Agree n names later
  pub known : Known w.count later w.hyps
  pub means : (d : Datum) → v ≡ Some d → Means w.count later w.term d

abbrev pub AreValues : List Term → Type 0
AreValues [] = Unit {0}
AreValues (t ∷ ts) = IsValTerm (Some t) × AreValues ts

-- a call whose requires clauses are safe and whose body keeps its contract: where what it owes is true it is no fault; and what it gives, its walk's term means, where the type of the result and the ensures clauses are known
abbrev pub CallsAreSound : Type 0
CallsAreSound =
    (w : sem.Setting Node) (s : Setting Node) (members : ℕ → Datum → Bool) (owed : Ty → Datum → Test) (r : Routine Node) (from at n : ℕ) (ts hyps : List Term) (names : Names) (vs : List Datum) (m : Meter)
    → NamesTold members (named_in s) → Checks s members owed → length vs ≡ length r.params → ArgumentsFit s members r.params vs → ClausesFit w s members r vs → (ArgumentsIn members r.params vs → AreSafe w r.preconditions (entry_of r vs)) → KeepsContract w s members owed r vs
    → names.is_member ≡ members → AreValues ts → AllMean n names ts vs → Known n names hyps
    → Good (AreTrueBy members (routine_walk s r from ts hyps n).owed) (routine_call w owed r at vs m) (Returned n names (routine_walk s r from ts hyps n))
