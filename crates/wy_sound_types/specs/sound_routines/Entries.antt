-- Where a function or method begins: its parameters stand for the arguments, and each is of its type.
use Rattle.std.specs.Prelude.{◌≡◌, ℕ, List, [], ◌∷◌, Bool, true, Some, None, ◌<◌, length}
use Rattle.wy_value.specs.Datum.{Datum}
use Rattle.wy_core.specs.CoreTree as tree
use Rattle.wy_core.specs.CoreTree.{Param, Routine}
use Rattle.wy_term.specs.Meaning.{Names}
use Rattle.wy_sem.specs.Expressions as sem
use Rattle.wy_sem.specs.Expressions.{Store, slot}
use Rattle.wy_sem.specs.TypeTests.{set_if}
use Rattle.wy_sem.specs.Evaluation.{entry_of}
use Rattle.wy_sound_statements.specs.wy_vc_spec.Numbered.{Node}
use Rattle.wy_sound_statements.specs.wy_vc_spec.Values.{Setting, named_in}
use Rattle.wy_sound_statements.specs.wy_vc_spec.Spots.{is_set}
use Rattle.wy_sound_statements.specs.wy_vc_spec.Clauses.{assume_clauses}
use Rattle.wy_sound_statements.specs.wy_vc_spec.Walks.{Program}
use Rattle.wy_sound_statements.specs.wy_vc_spec.Programs.{enter, contract_conditions}
use Rattle.wy_sound_statements.specs.wy_sound_walks.expressions.Names.{Known, Stand}
use Rattle.wy_sound_statements.specs.wy_sound_walks.expressions.Truth.{AreTrueBy}
use Rattle.wy_sound_statements.specs.wy_sound_walks.expressions.Types.{is_in}
use Rattle.wy_sound_statements.specs.wy_sound_walks.expressions.Written.{IsWritten}
use Rattle.wy_sound_statements.specs.wy_sound_walks.expressions.Laws.{NamesTold, AreValTerms}
use Rattle.wy_sound_statements.specs.wy_sound_walks.clauses.Clauses.{AreSafe, AllPass}
use Rattle.wy_sound_statements.specs.wy_sound_walks.joins.Points.{IsPoint}
use Rattle.wy_sound_statements.specs.wy_sound_kinds.Bounded.{IsBounded}
use Rattle.wy_sound_statements.specs.calls.CallLaws.{ArgumentsIn, with_params, nothing_seen, ClausesFit}

-- the value of each parameter in the store is of its type
abbrev pub ParamsIn : (ℕ → Datum → Bool) → List Param → Store → Type 0
ParamsIn members [] st = Unit {0}
ParamsIn members (p ∷ ps) st = (IsWritten p.ty × ((d : Datum) × (slot st p.variable ≡ Some d) × (is_in members p.ty d ≡ true))) × ParamsIn members ps st

-- there is an argument for each parameter
abbrev pub ArgumentsLast : List Param → List Datum → Type 0
ArgumentsLast [] vs = Unit {0}
ArgumentsLast (p ∷ ps) [] = ⊥
ArgumentsLast (p ∷ ps) (v ∷ vs) = ArgumentsLast ps vs

-- names by which the walk of the parameters is right
pub record Entered (s : Setting Node) (members : ℕ → Datum → Bool) (r : Routine Node) (st : Store) : Type 0 where
  pub names : Names
  pub right : names.is_member ≡ members
  pub terms : AreValTerms (enter s r).spot.vars
  pub stand : Stand (enter s r).count names (enter s r).spot.vars (with_params r.params nothing_seen) st
  pub marked : (x : ℕ) → is_set (enter s r).spot.set x ≡ true → with_params r.params nothing_seen x ≡ true
  pub known : Known (enter s r).count names (enter s r).spot.hyps
  pub point : IsPoint (enter s r).count (enter s r).spot

abbrev pub EntriesStand : Type 0
EntriesStand =
    (s : Setting Node) (members : ℕ → Datum → Bool) → NamesTold members (named_in s) → (r : Routine Node) (vs : List Datum) → ArgumentsLast r.params vs → ParamsIn members r.params (entry_of r vs)
    → Entered s members r (entry_of r vs)

-- what a body goes by: the names of its entry, at which the store is at the point where it begins, and the requires clauses are known
pub record BodyBegins (p : Program Node) (members : ℕ → Datum → Bool) (r : Routine Node) (st : Store) : Type 0 where
  pub entered : Entered p.setting members r st
  pub begins : Known (assume_clauses p.setting r.variables r.preconditions (enter p.setting r).spot.vars (enter p.setting r).spot.hyps (enter p.setting r).count).count entered.names
      (assume_clauses p.setting r.variables r.preconditions (enter p.setting r).spot.vars (enter p.setting r).spot.hyps (enter p.setting r).count).hyps

-- where what a contract owes is true: its requires clauses are safe at the entry, and where these passed, its ensures clauses are safe with a result of its type
pub record ContractIsSafe (w : sem.Setting Node) (members : ℕ → Datum → Bool) (r : Routine Node) (vs : List Datum) : Type 0 where
  pub first : AreSafe w r.preconditions (entry_of r vs)
  pub last : AllPass w r.preconditions (entry_of r vs) → (out : tree.Output) (d : Datum) → r.result ≡ Some out → IsBounded d → is_in members out.ty d ≡ true → AreSafe w r.postconditions (set_if (entry_of r vs) out.variable (Some d))
  pub none : AllPass w r.preconditions (entry_of r vs) → r.result ≡ None → AreSafe w r.postconditions (entry_of r vs)

pub record ContractsAreSafe : Type 0 where
  pub safe : (w : sem.Setting Node) (p : Program Node) (members : ℕ → Datum → Bool) → NamesTold members (named_in p.setting) → (r : Routine Node) (vs : List Datum) → Entered p.setting members r (entry_of r vs)
      → ClausesFit w p.setting members r vs → AreTrueBy members (contract_conditions p r) → ContractIsSafe w members r vs
  pub begins : (w : sem.Setting Node) (p : Program Node) (members : ℕ → Datum → Bool) → NamesTold members (named_in p.setting) → (r : Routine Node) (vs : List Datum) → Entered p.setting members r (entry_of r vs)
      → ClausesFit w p.setting members r vs → AllPass w r.preconditions (entry_of r vs) → BodyBegins p members r (entry_of r vs)

-- ---- parameters with different variables

-- none of the parameters is this variable
abbrev pub IsNone : ℕ → List Param → Type 0
IsNone x [] = Unit {0}
IsNone x (p ∷ ps) = (p.variable ≡ x → ⊥) × IsNone x ps

-- each parameter is a variable of its own, one of so many, of a type that a source may write
abbrev pub ParamsApart : ℕ → List Param → Type 0
ParamsApart n [] = Unit {0}
ParamsApart n (p ∷ ps) = (p.variable < n) × IsWritten p.ty × IsNone p.variable ps × ParamsApart n ps

-- so the entry's store has each argument that is of its type, in its parameter
pub record ParametersAreIn : Type 0 where
  pub last : (ps : List Param) (vs : List Datum) → length vs ≡ length ps → ArgumentsLast ps vs
  pub inside : (members : ℕ → Datum → Bool) (r : Routine Node) (vs : List Datum) → ParamsApart (length r.variables) r.params → length vs ≡ length r.params → ArgumentsIn members r.params vs → ParamsIn members r.params (entry_of r vs)
