-- What becomes of a node of the search, where `at` gives the term of a number.
use Rattle.std.specs.Prelude.{◌≡◌, ◌<◌, ℕ, List, Bool, true, false, Option, Some, None, length}
use Rattle.wy_term.specs.Term.{Term}
use Rattle.wy_term.specs.Condition.{Entry}
use Rattle.wy_term.specs.Nodes.{Plain}
use Rattle.wy_prove_rounds.specs.wy_check_spec.judge.Node.{Node}
use Rattle.wy_prove_rounds.specs.wy_check_spec.valid.Literals.{is_shut}
use Rattle.wy_prove_rounds.specs.wy_cong.Seen.{terms_of, IsPresent}
use Rattle.wy_prove_leaves.specs.wy_search_spec.Standing.{present}
use Rattle.wy_prove_leaves.specs.wy_search_spec.Classes.{clashes}
use Rattle.wy_prove_leaves.specs.wy_search_spec.Bounds.{Ending, refuted, consistent, crowded, wide, ending}
use Rattle.wy_prove_leaves.specs.wy_search_spec.Splitting.{next_atom}
use Rattle.wy_prove_leaves.specs.wy_search_spec.Expansion as search
use Rattle.wy_prove_leaves.specs.wy_search_spec.Tree as tree
use Rattle.wy_prove_rounds.specs.wy_search.StatedSeen.{seen_spot, IsSpot}
use Rattle.wy_prove_rounds.specs.wy_search.Spot.{Spot}
use Rattle.wy_prove_rounds.specs.wy_search.Turns.{with_side}
use Rattle.wy_prove_leaves.specs.wy_search_laws.rounds.Leaves.{IsLeaf}
use Rattle.wy_prove_rounds.specs.wy_prove_drafts.Progress.{Progress, Goes}
use Rattle.wy_prove_rounds.specs.Rounds.{IsBeside}
use Rattle.wy_prove.specs.declared.turning.Plan.{Plan}
use Rattle.wy_prove.specs.declared.turning.Leaf.{Leaf}
use Rattle.wy_prove.specs.declared.turning.Next.{Next}
use Rattle.wy_prove.specs.declared.turning.Next.TheVariants as next

-- elimination ended in a refutation
abbrev pub is_refutation : Ending → Bool
is_refutation refuted = true
is_refutation consistent = false
is_refutation crowded = false
is_refutation wide = false

-- neither its literals and pending formulas nor its classes nor elimination close the node
pub record IsOpenNode (node : Node) : Type 0 where
  pub shut : is_shut node ≡ false
  pub clashes : clashes node ≡ false
  pub refuted : ending node ≡ refuted → ⊥

-- the classes or elimination close the node, and these terms are present; or neither does
abbrev pub IsClosing : (ℕ → Term) → Node → Option Plan → Type 0
IsClosing at node None = (clashes node ≡ false) × (ending node ≡ refuted → ⊥)
IsClosing at node (Some plan) = IsLeaf node × (terms_of at plan.present ≡ present node)

abbrev pub IsJudged : (ℕ → Term) → search.Spot → Next → Type 0
IsJudged at p next.Shut = is_shut p.node ≡ true
IsJudged at p (next.Closes leaf) = IsLeaf p.node × (seen_spot at leaf.spot ≡ p) × (terms_of at leaf.plan.present ≡ present p.node)
IsJudged at p (next.Splits a l r) = IsOpenNode p.node × (next_atom p.node ≡ Some (at a)) × (seen_spot at l ≡ with_side p (at a) true) × (seen_spot at r ≡ with_side p (at a) false)
IsJudged at p (next.Stays q) = IsOpenNode p.node × (next_atom p.node ≡ None) × (seen_spot at q ≡ p)

-- the round adds something, and its steps were written; or the search stays with an open leaf
abbrev pub IsRound : List Entry → search.Spot → Ending → (ℕ → Term) → Progress → Progress → Option Spot → Type 0
IsRound types p e at old new None = tree.on_expansion types p e ≡ tree.stays_open (tree.why_open e)
IsRound types p e at old new (Some q) = (tree.on_expansion types p e ≡ tree.goes_on (seen_spot at q)) × Goes types old new × IsBeside types (seen_spot at q) new

-- ---- numbers of terms

abbrev pub IsPlanOver : List Plain → Plan → Type 0
IsPlanOver nodes plan = IsPresent nodes plan.present

abbrev pub IsLeafOver : List Plain → Leaf → Type 0
IsLeafOver nodes leaf = IsSpot nodes leaf.spot × IsPlanOver nodes leaf.plan

abbrev pub IsNext : List Plain → Next → Type 0
IsNext nodes next.Shut = Unit {0}
IsNext nodes (next.Closes leaf) = IsLeafOver nodes leaf
IsNext nodes (next.Splits atom left right) = (atom < length nodes) × IsSpot nodes left × IsSpot nodes right
IsNext nodes (next.Stays p) = IsSpot nodes p
