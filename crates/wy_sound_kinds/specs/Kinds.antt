-- What is known of a store by the types of its variables, and of an answer by the type of its expression.
use Rattle.std.specs.Prelude.{◌≡◌, ℕ, List, [], ◌∷◌, ◌++◌, length, Bool, true, false, Option, Some, None, slice_get}
use Rattle.wy_value.specs.Datum.{Datum, Truth}
use Rattle.wy_core.specs.Types.{Ty}
use Rattle.wy_types.specs.Names.{Declared, Up, Down}
use Rattle.wy_types.specs.Recursion.{RecurThroughParts}
use Rattle.wy_flow_spec.specs.environment.Variables.{Environment, Changes, type_of}
use Rattle.wy_flow_spec.specs.typing.Contexts.{Program, Signature, Found}
use Rattle.wy_sound_walks.specs.wy_sem.Meter.{Meter, Done}
use Rattle.wy_sound_walks.specs.wy_sem.Expressions.{Store, slot, Setting}
use Rattle.wy_sound_walks.specs.wy_vc_spec.Numbered.{Node}
use Rattle.wy_sound_kinds.specs.Bounded.{IsBounded, AllBounded}
use Rattle.wy_sound_kinds.specs.Ready.{Rules}

-- ---- stores

-- each marked variable has a value that a program may hold
abbrev pub HasValues : (ℕ → Bool) → Store → Type 0
HasValues seen s = (x : ℕ) → seen x ≡ true → (d : Datum) × (slot s x ≡ Some d) × IsBounded d

-- the value of each marked variable is in its type, by the environment under the changes
abbrev pub HasTypes : List Declared → Environment → Changes → (ℕ → Bool) → Store → Type 0
HasTypes names env over seen s = (x : ℕ) (d : Datum) → seen x ≡ true → slot s x ≡ Some d → Up names d (type_of env over x) ≡ true

-- ---- answers

-- of an expression of which this was found
pub record Kind (names : List Declared) (env : Environment) (over : Changes) (seen : ℕ → Bool) (s : Store) (v : Found) (d : Datum) : Type 0 where
  pub bounded : IsBounded d
  pub inside : Up names d v.ty ≡ true
  pub if_true : d ≡ Truth true → HasTypes names env (over ++ v.yes) seen s
  pub if_false : d ≡ Truth false → HasTypes names env (over ++ v.no) seen s

-- ---- calls

-- the arguments are in the types of the parameters, as long as both last
abbrev pub AreIn : List Declared → List Ty → List Datum → Type 0
AreIn names [] vs = Unit {0}
AreIn names (t ∷ ts) [] = Unit {0}
AreIn names (t ∷ ts) (v ∷ vs) = (Up names v t ≡ true) × AreIn names ts vs

abbrev pub AreArguments : List Declared → Option Signature → List Datum → Type 0
AreArguments names None vs = Unit {0}
AreArguments names (Some s) vs = AreIn names s.params vs

abbrev pub IsOfResult : List Declared → Option Ty → Datum → Type 0
IsOfResult names None d = ⊥
IsOfResult names (Some t) d = Up names d t ≡ true

-- the value is in the type of the result
abbrev pub IsResult : List Declared → Option Signature → Datum → Type 0
IsResult names None d = ⊥
IsResult names (Some s) d = IsOfResult names s.result d

-- a call with these arguments
pub record AreFor (p : Program) (r : Rules) (f : ℕ) (vs : List Datum) : Type 0 where
  pub called : r.called f (length vs) ≡ true
  pub bounded : AllBounded vs
  pub arguments : AreArguments p.names (slice_get p.signatures f) vs

-- ---- what an evaluation rests on

-- declared types recur through records or arrays; each answer of a test is what the type says, which is at least what the downward reading says and at most what the upward one does; and calls with arguments of their parameters' types give values of their results' types
pub record Rests (p : Program) (r : Rules) (w : Setting Node) (paid : Bool) (says : Ty → Datum → Bool) : Type 0 where
  pub recur : RecurThroughParts p.names
  pub answers : (t : Ty) (d : Datum) (m k : Meter) (b : Bool) → r.tested t ≡ true → IsBounded d → w.test paid t d m ≡ Done b k → b ≡ says t d
  pub upward : (t : Ty) (d : Datum) → r.tested t ≡ true → IsBounded d → says t d ≡ true → Up p.names d t ≡ true
  pub downward : (t : Ty) (d : Datum) → r.tested t ≡ true → IsBounded d → Down p.names d t ≡ true → says t d ≡ true
  pub gives : (f at : ℕ) (vs : List Datum) (d : Datum) (m k : Meter) → AreFor p r f vs → w.call f at vs m ≡ Done (Some d) k → IsBounded d × IsResult p.names (slice_get p.signatures f) d
