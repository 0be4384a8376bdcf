-- A value comes into a variable; a result is given.
use Rattle.std.specs.Prelude.{◌≡◌, ℕ, List, Bool, true, false, Option, Some, None}
use Rattle.wy_value.specs.Datum.{Datum}
use Rattle.wy_core.specs.Types.{Ty}
use Rattle.wy_core.specs.CoreTree as tree
use Rattle.wy_core.specs.CoreTree.{Routine}
use Rattle.wy_term.specs.Term.{Term}
use Rattle.wy_term.specs.Sorts.{val_sort}
use Rattle.wy_term.specs.Meaning.{Names}
use Rattle.wy_term_subst.specs.kept_sorts.SortKept.{HasSort}
use Rattle.wy_sound_kinds.specs.wy_sem.Meter.{Meter}
use Rattle.wy_sound_kinds.specs.wy_sem.Expressions as sem
use Rattle.wy_sound_kinds.specs.wy_sem.TypeTests.{Test, set_if}
use Rattle.wy_sound_kinds.specs.wy_sem.Statements as run
use Rattle.wy_sound_kinds.specs.wy_sem.Statements.{Exit, Went, Gave, Frame}
use Rattle.wy_sound_kinds.specs.wy_sem.Evaluation.{types_of, entry_of, frame_of}
use Rattle.wy_sound_kinds.specs.wy_vc_spec.Numbered.{Node}
use Rattle.wy_sound_kinds.specs.wy_vc_spec.Values.{named_in}
use Rattle.wy_sound_kinds.specs.wy_vc_spec.Spots.{Spot, is_set}
use Rattle.wy_sound_kinds.specs.wy_vc_spec.Owed.{Owed}
use Rattle.wy_sound_kinds.specs.wy_vc_spec.Clauses.{owe_member}
use Rattle.wy_sound_kinds.specs.wy_vc_spec.Statements.{Body, given, leave}
use Rattle.wy_sound_kinds.specs.wy_sound_walks.expressions.Names.{Known, Means, Stand}
use Rattle.wy_sound_kinds.specs.wy_sound_walks.expressions.Truth.{AreTrueBy, Good}
use Rattle.wy_sound_kinds.specs.wy_sound_walks.expressions.Types.{is_in}
use Rattle.wy_sound_kinds.specs.wy_sound_walks.expressions.Written.{IsWritten}
use Rattle.wy_sound_kinds.specs.wy_sound_walks.expressions.Laws.{NamesTold, AreValTerms}
use Rattle.wy_sound_kinds.specs.wy_sound_walks.clauses.Clauses.{AllFit, AreSafe}
use Rattle.wy_sound_kinds.specs.wy_sound_walks.joins.Points.{At}
use Rattle.wy_sound_kinds.specs.wy_sound_walks.joins.Joins.{AtEnd}
use Rattle.wy_sound_statements.specs.calls.CallLaws.{Checks, ComesAs, Leaves, with_params, nothing_seen, also_if}

-- a value of a term, behind an expression: names at which the hypotheses are known, at which the variables of the point stand for the store, and at which the term means the value
pub record Behind (members : ℕ → Datum → Bool) (p : Spot) (hyps : List Term) (n : ℕ) (names : Names) (st : sem.Store) (v : Term) (d : Datum) : Type 0 where
  pub right : names.is_member ≡ members
  pub known : Known n names hyps
  pub stand : Stand n names p.vars (is_set p.set) st
  pub is : HasSort v val_sort
  pub means : Means n names v d

-- the value is in the variable, and the store is at the point behind
abbrev pub IsIn : ℕ → Names → ℕ → Option Spot → sem.Store → Exit → Type 0
IsIn n names m ends st x = (x ≡ Went st) × AtEnd n names m ends st

-- a value comes into a variable of a type: where what is owed is true it is no fault, and then the store with the value is at the point behind
abbrev pub ValuesComeIn : Type 0
ValuesComeIn =
    (fr : Frame Node) (b : Body Node) (members : ℕ → Datum → Bool) → NamesTold members (named_in b.program.setting) → Checks b.program.setting members fr.member
    → (from at : ℕ) (t : Ty) (x : ℕ) (v : Term) (owed : List Owed) (p : Spot) (hyps : List Term) (n : ℕ) (names : Names) (st : sem.Store) (d : Datum) (m : Meter)
    → IsWritten t → ComesAs b.program.setting members t d → Behind members p hyps n names st v d
    → Good (AreTrueBy members (owe_member b.program.setting from t v hyps n).owed) (run.stored fr at x t st d m)
    (IsIn n names (given b from t x v owed p hyps n).count (given b from t x v owed p hyps n).ends (sem.put st x (Some d)))

-- what a result goes by: the routine and its arguments, whose terms at the entry stand for them, and the ensures clauses, which are safe where the result is of its type
pub record Ending (w : sem.Setting Node) (b : Body Node) (members : ℕ → Datum → Bool) (vs : List Datum) (n : ℕ) (names : Names) : Type 0 where
  pub right : names.is_member ≡ members
  pub terms : AreValTerms b.entry
  pub stand : Stand n names b.entry (with_params b.routine.params nothing_seen) (entry_of b.routine vs)

-- a result is given: where what is owed is true it is no fault, and it leaves what the contract says
pub record ResultsLeave : Type 0 where
  pub value : (w : sem.Setting Node) (owed : Ty → Datum → Test) (b : Body Node) (members : ℕ → Datum → Bool) (vs : List Datum) (out : tree.Output) (from at n : ℕ) (v : Term) (hyps : List Term) (names : Names) (d : Datum) (m : Meter)
      → NamesTold members (named_in b.program.setting) → Checks b.program.setting members owed → b.routine.result ≡ Some out → IsWritten out.ty → ComesAs b.program.setting members out.ty d
      → (is_in members out.ty d ≡ true → AllFit w b.program.setting members (also_if out.variable (with_params b.routine.params nothing_seen)) b.routine.postconditions (set_if (entry_of b.routine vs) out.variable (Some d)))
      → (is_in members out.ty d ≡ true → AreSafe w b.routine.postconditions (set_if (entry_of b.routine vs) out.variable (Some d)))
      → Ending w b members vs n names → HasSort v val_sort → Means n names v d → Known n names hyps
      → Good (AreTrueBy members (leave b from (Some v) hyps n).owed) (run.leave w (frame_of owed b.routine vs) at (Some out) (Some d) m) (λ x. (x ≡ Gave (Some d)) × Leaves w b.program.setting members b.routine vs (Some out) (Some d))
  pub nothing : (w : sem.Setting Node) (owed : Ty → Datum → Test) (b : Body Node) (members : ℕ → Datum → Bool) (vs : List Datum) (from at n : ℕ) (hyps : List Term) (names : Names) (m : Meter)
      → NamesTold members (named_in b.program.setting) → b.routine.result ≡ None
      → AllFit w b.program.setting members (with_params b.routine.params nothing_seen) b.routine.postconditions (entry_of b.routine vs) → AreSafe w b.routine.postconditions (entry_of b.routine vs)
      → Ending w b members vs n names → Known n names hyps
      → Good (AreTrueBy members (leave b from None hyps n).owed) (run.leave w (frame_of owed b.routine vs) at None None m) (λ x. (x ≡ Gave None) × Leaves w b.program.setting members b.routine vs None None)
