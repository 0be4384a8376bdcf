-- What is tried, and what does a probe find?
use Rattle.std.specs.Prelude.{◌≡◌, ◌≤◌, ◌<◌, ◌⊎◌, ◌++◌, ℕ, suc, List, [], ◌∷◌, map, length, get_or, slice_get, Some}
use Rattle.wy_term.specs.declared.cond.CondKind.{CondKind}
use Rattle.wy_value.specs.Datum.{Datum, Null}
use Rattle.wy_value.specs.Seen.{seen}
use Rattle.wy_core.specs.CoreTree.{Core, Param, Routine, routines_of}
use Rattle.wy_types.specs.Names.{names_in}
use Rattle.wy_sem.specs.Evaluation as sem
use Rattle.wy_sem.specs.Evaluation.{Callee, callee, contract_cost, evaluate}
use Rattle.wy_sem.specs.Meter.{Meter, Fault}
use Rattle.wy_sem.specs.Precondition.{Meets, cost}
use Rattle.wy_eval_exprs.specs.Settings.{here}
use Rattle.wy_probe.specs.Candidates.{lists_of}
use Rattle.wy_probe.specs.Tuples.{first_tuples}
use Rattle.wy_probe.specs.declared.probing.ProbeEnd.{ProbeEnd}
use Rattle.wy_probe.specs.declared.probing.ProbeEnd.TheVariants as end

-- how many visits of types and turns of quantifiers a test of arguments may take, and how many the contracts of a run
abbrev pub turns : ℕ
turns = 1000000

-- a function or method of a program, by its number, and the ticks of a run
pub record Probe : Type 0 where
  pub core : Core ℕ
  pub entry : ℕ
  pub ticks : ℕ

-- ---- one tuple

-- it meets the precondition, and that is told within the turns
pub record IsMet (p : Probe) (vs : List Datum) : Type 0 where
  pub within : cost here p.core p.entry vs ≤ turns
  pub meets : Meets here p.core p.entry vs

-- the test of the precondition passes the turns, or it is met and the contracts of the run pass them
abbrev pub IsUndecided : Probe → List Datum → Type 0
IsUndecided p vs = (turns < cost here p.core p.entry vs) ⊎ (IsMet p vs × (turns < contract_cost here p.core p.entry vs p.ticks))

-- it is met and not undecided, and its run faults within the ticks, by this kind at this place
pub record DoesFault (p : Probe) (vs : List Datum) (kind : CondKind) (at : ℕ) : Type 0 where
  pub met : IsMet p vs
  pub decided : contract_cost here p.core p.entry vs p.ticks ≤ turns
  pub rest : Meter
  pub faults : evaluate here p.core p.entry vs p.ticks ≡ Fault kind at rest

abbrev pub NeverFaults : Probe → List Datum → Type 0
NeverFaults p vs = (kind : CondKind) (at : ℕ) → DoesFault p vs kind at → ⊥

-- ---- the tuples

-- the values at these positions
abbrev pub picked : List (List Datum) → List ℕ → List Datum
picked [] ps = []
picked (ds ∷ lists) [] = []
picked (ds ∷ lists) (p ∷ ps) = get_or ds p Null ∷ picked lists ps

-- the first so many tuples of these lists
abbrev pub first_of : List (List Datum) → ℕ → List (List Datum)
first_of lists n = map (picked lists) (first_tuples (map length lists) n)

abbrev pub params_of : Callee ℕ → List Param
params_of (sem.Declared r) = r.params
params_of sem.Print = []
params_of sem.PrintInt = []
params_of sem.Undeclared = []

-- the first so many tuples of the function or method
abbrev pub tuples_of : Probe → ℕ → List (List Datum)
tuples_of p n = first_of (lists_of (names_in p.core) (params_of (callee (routines_of p.core) p.entry))) n

-- ---- all of them

abbrev pub NoneFaults : Probe → List (List Datum) → Type 0
NoneFaults p [] = Unit {0}
NoneFaults p (vs ∷ rest) = NeverFaults p vs × NoneFaults p rest

-- so many of the tuples are such
pub data Counted (P : List Datum → Type 0) : List (List Datum) → ℕ → Type 0 where
  no_more : Counted P [] 0
  one_more : {vs : List Datum} {rest : List (List Datum)} {n : ℕ} → P vs → Counted P rest n → Counted P (vs ∷ rest) (suc n)
  not_one : {vs : List Datum} {rest : List (List Datum)} {n : ℕ} → (P vs → ⊥) → Counted P rest n → Counted P (vs ∷ rest) n

-- what a probe finds: the first tuple that faults, with its number, from 1, and its fault; or how many tuples were tried, are met, and are undecided
pub data Finding : Type 0 where
  Faulted : (number : ℕ) (vs : List Datum) (kind : CondKind) (at : ℕ) → Finding
  Faultless : (tried met undecided : ℕ) → Finding

-- the first tuple that faults has this number
pub record FoundIn (p : Probe) (all : List (List Datum)) (number : ℕ) (vs : List Datum) (kind : CondKind) (at : ℕ) : Type 0 where
  pub before : List (List Datum)
  pub behind : List (List Datum)
  pub all_are : all ≡ before ++ vs ∷ behind
  pub number_is : number ≡ suc (length before)
  pub none_before : NoneFaults p before
  pub faults : DoesFault p vs kind at

-- none of the tuples faults, and so many were tried, are met, and are undecided
pub record NoneIn (p : Probe) (all : List (List Datum)) (tried met undecided : ℕ) : Type 0 where
  pub none : NoneFaults p all
  pub tried_are : tried ≡ length all
  pub met_are : Counted (IsMet p) all met
  pub undecided_are : Counted (IsUndecided p) all undecided

-- what a probe of these tuples finds
abbrev pub Finds : Probe → List (List Datum) → Finding → Type 0
Finds p all (Faulted number vs kind at) = FoundIn p all number vs kind at
Finds p all (Faultless tried met undecided) = NoneIn p all tried met undecided

-- there is a finding: so if one of the tuples faults, a first one does
abbrev pub FindsSome : Type 0
FindsSome = (p : Probe) (all : List (List Datum)) → (f : Finding) × Finds p all f

-- there is only one
abbrev pub FindsOnce : Type 0
FindsOnce = (p : Probe) (all : List (List Datum)) (f g : Finding) → Finds p all f → Finds p all g → f ≡ g

-- what the end of the code says
abbrev pub seen_end : ProbeEnd → Finding
seen_end (end.Found number args kind at) = Faulted number (map seen args.items) kind at
seen_end (end.None tried met undecided) = Faultless tried met undecided

-- what is found among the first so many tuples of the function or method
abbrev pub FindsFirst : Probe → ℕ → Finding → Type 0
FindsFirst p n f = Finds p (tuples_of p n) f

-- the number is that of a declared function or method
abbrev pub IsRoutine : Core ℕ → ℕ → Type 0
IsRoutine core entry = (r : Routine ℕ) × (slice_get (routines_of core) entry ≡ Some r)
