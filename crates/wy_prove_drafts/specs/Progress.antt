-- Steps of a certificate as far as it is written, and the node at which the next one stands.
use Rattle.std.specs.Prelude.{◌≡◌, List, [], ◌∷◌, ◌++◌, Bool, true, false, Some, None}
use Rattle.wy_term.specs.Term.{Term}
use Rattle.wy_term.specs.Condition.{Entry}
use Rattle.wy_search_laws.specs.wy_check_spec.judge.Node.{Node, is_atom}
use Rattle.wy_cert.specs.Steps.{Written, split}
use Rattle.wy_search_laws.specs.wy_check_spec.valid.Validity.{after, closed}
use Rattle.wy_search_laws.specs.wy_check_laws.sound.Sortedness.{IsSortedStep}

pub record Progress : Type 0 where
  pub steps : List Written
  pub node : Node

-- ---- steps behind one another

-- the steps, whose terms have sorted parts, lead from one node to the last one, each to one node alone
abbrev pub Leads : List Entry → Node → List Written → Node → Type 0
Leads types node [] last = node ≡ last
Leads types node (s ∷ steps) last = (next : Node) × (after types node s ≡ Some (next ∷ [])) × IsSortedStep s × Leads types next steps last

-- steps were written behind the old ones, and lead from the old node to the new one
pub record Goes (types : List Entry) (old new : Progress) : Type 0 where
  pub more : List Written
  pub written : new.steps ≡ old.steps ++ more
  pub leads : Leads types old.node more new.node

-- steps were written behind the old ones, the last of which closes the node to which the others lead
pub record Ends (types : List Entry) (old new : Progress) : Type 0 where
  pub more : List Written
  pub last : Written
  pub middle : Node
  pub written : new.steps ≡ old.steps ++ (more ++ last ∷ [])
  pub leads : Leads types old.node more middle
  pub closes : after types middle last ≡ closed
  pub sorted : IsSortedStep last

-- ---- one step

-- The step is valid and leads to the new node: it was written, or it adds nothing. Or it isn't valid, and nothing was written.
abbrev pub Writes : List Entry → Written → Progress → Progress → Bool → Type 0
Writes types s old new true = (after types old.node s ≡ Some (new.node ∷ [])) × (IsSortedStep s → Goes types old new)
Writes types s old new false = (after types old.node s ≡ None) × (new ≡ old)

-- the step closes the node, and was written; or it doesn't, and nothing was
abbrev pub Closes : List Entry → Written → Progress → Progress → Bool → Type 0
Closes types s old new true = (after types old.node s ≡ closed) × (new ≡ record { steps = old.steps ++ s ∷ []; node = old.node })
Closes types s old new false = (after types old.node s ≡ None) × (new ≡ old)

-- the formula is an atom, and the split on it was written, the node as it is; or it isn't, and nothing was
abbrev pub Splits : Term → Progress → Progress → Bool → Type 0
Splits a old new true = (is_atom a ≡ true) × (new ≡ record { steps = old.steps ++ split a ∷ []; node = old.node })
Splits a old new false = (is_atom a ≡ false) × (new ≡ old)
