-- Clauses: when they are no fault, when they are true, and what their goals say.
use Rattle.std.specs.Prelude.{◌≡◌, ℕ, List, [], ◌∷◌, Bool, true, false}
use Rattle.wy_value.specs.Datum.{Datum, Truth}
use Rattle.wy_core.specs.CoreTree.{Expr}
use Rattle.wy_sound_terms.specs.wy_sem.Meter.{Meter, Outcome, Done, Fault, More, Spent}
use Rattle.wy_sound_terms.specs.wy_sem.Expressions as sem
use Rattle.wy_sound_terms.specs.wy_vc_spec.Values.{Setting}
use Rattle.wy_sound_terms.specs.operations.Kinds.{IsTruth}
use Rattle.wy_sound_walks.specs.expressions.Suits.{Kinds, Each, Suits}
use Rattle.wy_sound_walks.specs.expressions.Laws.{kinds_of}
use Rattle.wy_sound_walks.specs.clauses.Quiet.{CallsNothing}

-- what clauses rest on: they call nothing, and their nodes aren't paid
abbrev pub clause_kinds : {N : Type 0} → sem.Setting N → Setting N → (ℕ → Datum → Bool) → Kinds N
clause_kinds w s members = kinds_of (sem.quiet w) false s members

-- what the clause meets is of the kinds that it asks for, and its answers are truth values
pub record Fits {N : Type 0} (w : sem.Setting N) (s : Setting N) (members : ℕ → Datum → Bool) (seen : ℕ → Bool) (e : Expr N) (st : sem.Store) : Type 0 where
  pub quiet : CallsNothing e
  pub suits : Suits (clause_kinds w s members) true seen e st
  pub truth : Each (clause_kinds w s members) e st IsTruth

abbrev pub AllFit : {N : Type 0} → sem.Setting N → Setting N → (ℕ → Datum → Bool) → (ℕ → Bool) → List (Expr N) → sem.Store → Type 0
AllFit w s members seen [] st = Unit {0}
AllFit w s members seen (e ∷ es) st = Fits w s members seen e st × AllFit w s members seen es st

-- the clause is a fault from no meter
abbrev pub IsNoFault : Outcome Datum → Type 0
IsNoFault (Done v m) = Unit {0}
IsNoFault (Fault kind at m) = ⊥
IsNoFault (More m) = Unit {0}
IsNoFault Spent = Unit {0}

abbrev pub IsSafe : {N : Type 0} → sem.Setting N → Expr N → sem.Store → Type 0
IsSafe w e st = (m : Meter) → IsNoFault (sem.eval (sem.quiet w) false e st m)

-- it evaluates to true
abbrev pub Passes : {N : Type 0} → sem.Setting N → Expr N → sem.Store → Type 0
Passes w e st = (m : Meter) × (k : Meter) × (sem.eval (sem.quiet w) false e st m ≡ Done (Truth true) k)

abbrev pub AllPass : {N : Type 0} → sem.Setting N → List (Expr N) → sem.Store → Type 0
AllPass w [] st = Unit {0}
AllPass w (e ∷ es) st = Passes w e st × AllPass w es st

-- each clause is safe where those before it passed
abbrev pub AreSafe : {N : Type 0} → sem.Setting N → List (Expr N) → sem.Store → Type 0
AreSafe w [] st = Unit {0}
AreSafe w (e ∷ es) st = IsSafe w e st × (Passes w e st → AreSafe w es st)

-- each answer of the clause is true
abbrev pub IsTrueIfDone : {N : Type 0} → sem.Setting N → Expr N → sem.Store → Type 0
IsTrueIfDone w e st = (v : Datum) (m k : Meter) → sem.eval (sem.quiet w) false e st m ≡ Done v k → v ≡ Truth true

abbrev pub AreTrueIfDone : {N : Type 0} → sem.Setting N → List (Expr N) → sem.Store → Type 0
AreTrueIfDone w [] st = Unit {0}
AreTrueIfDone w (e ∷ es) st = IsTrueIfDone w e st × AreTrueIfDone w es st
