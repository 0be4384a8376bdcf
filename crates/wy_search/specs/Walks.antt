-- How the walk goes on behind a node, where `at` gives the term of a number.
use Rattle.std.specs.Prelude.{◌≡◌, ◌≤◌, ℕ, List, [], ◌∷◌, map, Option, Some}
use Rattle.wy_term.specs.Term.{Term}
use Rattle.wy_term.specs.Condition.{Condition}
use Rattle.wy_term.specs.Nodes.{Plain}
use Rattle.wy_search_facts.specs.wy_search_spec.Expansion as search
use Rattle.wy_search_facts.specs.wy_search_spec.Tree as tree
use Rattle.wy_search_facts.specs.declared.spot.Spot.{Spot}
use Rattle.wy_search_facts.specs.Seen.{seen_spot, IsSpot}
use Rattle.wy_search.specs.declared.walk.Walk.{Walk}
use Rattle.wy_search.specs.declared.walk.Turned.{Turned}
use Rattle.wy_search.specs.declared.walk.Turned.TheVariants as turned
use Rattle.wy_search.specs.Seen.{seen_verdict, NamesItsTerms}

abbrev pub AreSpots : List Plain → List Spot → Type 0
AreSpots nodes [] = Unit {0}
AreSpots nodes (p ∷ ps) = IsSpot nodes p × AreSpots nodes ps

-- the numbers in the nodes to come are those of terms, and no more leaves were passed than the budget allows
pub record IsWalk (nodes : List Plain) (budget : ℕ) (w : Walk) : Type 0 where
  pub spots : AreSpots nodes w.spots.items
  pub counted : w.leaves ≤ budget

abbrev pub IsTurnedOver : List Plain → ℕ → Turned → Type 0
IsTurnedOver nodes budget (turned.Ends v) = NamesItsTerms v
IsTurnedOver nodes budget (turned.GoesOn w) = IsWalk nodes budget w

-- whichever way the rest goes, it ends so, or goes on with these leaves and nodes
abbrev pub Leads : ((ℕ → List search.Spot → Option tree.Verdict) → Option tree.Verdict) → (ℕ → Term) → Turned → Type 0
Leads step at (turned.Ends v) = (go : ℕ → List search.Spot → Option tree.Verdict) → step go ≡ Some (seen_verdict v)
Leads step at (turned.GoesOn w) = (go : ℕ → List search.Spot → Option tree.Verdict) → step go ≡ go w.leaves (map (seen_spot at) w.spots.items)

-- where the verdict that the walk comes to from here is that of the condition
pub record Reaches (c : Condition) (budget n : ℕ) (ps : List search.Spot) : Type 0 where
  pub verdict : (turns : ℕ) (v : tree.Verdict) → tree.searched c.types budget turns n ps ≡ Some v → tree.IsVerdict c budget v

-- what a turn ended in is the verdict of the condition, or that to which the walk comes from here
abbrev pub Comes : Condition → ℕ → (ℕ → Term) → Turned → Type 0
Comes c budget at (turned.Ends v) = tree.IsVerdict c budget (seen_verdict v)
Comes c budget at (turned.GoesOn w) = Reaches c budget w.leaves (map (seen_spot at) w.spots.items)
