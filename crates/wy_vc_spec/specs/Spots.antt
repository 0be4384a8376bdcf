-- What is known at a point of a body, and how statements end.
use Rattle.std.specs.Prelude.{ℕ, zero, suc, List, [], ◌∷◌, ◌++◌, Bool, true, false, Option, Some, None}
use Rattle.wy_sem.specs.wy_term.Term.{Term}
use Rattle.wy_vc_spec.specs.Variables.{Vars, put}
use Rattle.wy_vc_spec.specs.Owed.{Owed}

-- what is assumed, the terms of variables, and which variables have a value on each path to here
pub record Spot : Type 0 where
  pub hyps : List Term
  pub vars : Vars
  pub set : List Bool

abbrev pub spot : List Term → Vars → List Bool → Spot
spot hyps vars set = record { hyps = hyps; vars = vars; set = set }

-- whether the variable has a value; one that was never marked has none
abbrev pub is_set : List Bool → ℕ → Bool
is_set [] x = false
is_set (b ∷ bs) zero = b
is_set (b ∷ bs) (suc x) = is_set bs x

abbrev pub mark : List Bool → ℕ → Bool → List Bool
mark [] zero b = b ∷ []
mark [] (suc x) b = false ∷ mark [] x b
mark (c ∷ bs) zero b = b ∷ bs
mark (c ∷ bs) (suc x) b = c ∷ mark bs x b

-- the variable has this term and a value
abbrev pub assign : ℕ → Term → Spot → Spot
assign x t p = record p { vars = put p.vars x t; set = mark p.set x true }

-- the variable has this term and no value
abbrev pub declare : ℕ → Term → Spot → Spot
declare x t p = record p { vars = put p.vars x t; set = mark p.set x false }

-- one more formula, or these in their place, are assumed
abbrev pub with_hyps : List Term → Spot → Spot
with_hyps hyps p = record p { hyps = hyps }

-- how statements end: behind them, where a path gets there, and at the `break`s of the loop around, with the names made and what was owed
pub record Flow : Type 0 where
  pub count : ℕ
  pub ends : Option Spot
  pub breaks : List Spot
  pub owed : List Owed

-- a path goes on
abbrev pub goes : ℕ → Spot → List Owed → Flow
goes n p owed = record { count = n; ends = Some p; breaks = []; owed = owed }

-- no path goes on
abbrev pub stops : ℕ → List Owed → Flow
stops n owed = record { count = n; ends = None; breaks = []; owed = owed }

-- the `break` leaves the loop around
abbrev pub leaves : ℕ → Spot → Flow
leaves n p = record { count = n; ends = None; breaks = p ∷ []; owed = [] }

-- what follows statements: nothing where no path goes on
abbrev pub go_on : Option Spot → ℕ → (Spot → ℕ → Flow) → Flow
go_on None n next = stops n []
go_on (Some p) n next = next p n

abbrev pub followed : Flow → Flow → Flow
followed first rest = record { count = rest.count; ends = rest.ends; breaks = first.breaks ++ rest.breaks; owed = first.owed ++ rest.owed }

abbrev pub and_then : Flow → (Spot → ℕ → Flow) → Flow
and_then first next = followed first (go_on first.ends first.count next)

-- the paths that get behind statements: one or none
abbrev pub as_list : Option Spot → List Spot
as_list None = []
as_list (Some p) = p ∷ []
