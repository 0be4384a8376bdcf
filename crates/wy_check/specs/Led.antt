-- To which nodes a step leads, as the code keeps it.
use Rattle.std.specs.Prelude.{◌≡◌, ℕ, ◌<◌, List, [], ◌∷◌, ◌++◌, map, All, Option, Some, None}
use Rattle.wy_term.specs.Term.{Term}
use Rattle.wy_vc_laws.specs.wy_check_spec.judge.Node.{Node, added, denied_one, with_formulas}
use Rattle.wy_check_splits.specs.wy_check_nodes.declared.trail.Trail.{Trail}
use Rattle.wy_check_splits.specs.wy_check_nodes.Trail.{nodes_of}
use Rattle.wy_check.specs.declared.outcome.Outcome.{Outcome}
use Rattle.wy_check.specs.declared.outcome.Outcome.TheVariants.{Closes, Adds, Splits}

-- the nodes to which a step leads, where `at` gives the term of a number
abbrev pub led : (ℕ → Term) → Node → Outcome → List Node
led at node Closes = []
led at node (Adds fs) = with_formulas node (map at fs.items) ∷ []
led at node (Splits f) = added node (at f) ∷ denied_one node (at f) ∷ []

-- the formulas are of the first n terms
abbrev pub IsOutcomeOver : ℕ → Outcome → Type 0
IsOutcomeOver n Closes = Unit {0}
IsOutcomeOver n (Adds fs) = All (λ k. k < n) fs.items
IsOutcomeOver n (Splits f) = f < n

-- the trail has the nodes to which a step leads, and behind them the rest; there is none where the step isn't valid
abbrev pub IsTurned : (ℕ → Term) → Option (List Node) → List Node → Option Trail → Type 0
IsTurned at next rest None = next ≡ None
IsTurned at next rest (Some t) = (below : List Node) × (next ≡ Some below) × (nodes_of at t ≡ below ++ rest)
