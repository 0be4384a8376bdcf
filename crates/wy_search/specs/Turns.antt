-- What becomes of a node, where `at` gives the term of a number.
use Rattle.std.specs.Prelude.{◌≡◌, ℕ, List, [], Bool, Option, Some, None}
use Rattle.wy_term.specs.Term.{Term}
use Rattle.wy_term.specs.Condition.{Entry}
use Rattle.wy_term.specs.Nodes.{Plain}
use Rattle.wy_search_facts.specs.wy_check_spec.judge.Node.{Node, added, denied_one}
use Rattle.wy_check_nodes.specs.Seen.{seen_branch}
use Rattle.wy_check_nodes.specs.Tasks.{after_one}
use Rattle.wy_search_bounds.specs.declared.ending.Ending.{Ending}
use Rattle.wy_search_bounds.specs.Seen.{seen_ending}
use Rattle.wy_search_facts.specs.wy_search_spec.Bounds.{refuted}
use Rattle.wy_search_facts.specs.wy_search_spec.Expansion as search
use Rattle.wy_search_facts.specs.wy_search_spec.Tree as tree
use Rattle.wy_search_facts.specs.Seen.{seen_spot, IsSpot}
use Rattle.wy_search.specs.declared.turning.Next.{Next}
use Rattle.wy_search.specs.declared.turning.Next.TheVariants as next
use Rattle.wy_search.specs.Seen.{seen_why}

-- the terms of which instances are stated, where these are the names of witnesses
abbrev pub index_terms_in : Node → List Term → List Term
index_terms_in node names = search.index_terms (record { node = node; had = []; names = names; rounds = 0 })

-- the node with an atom more, or with its denial
abbrev pub with_side : search.Spot → Term → Bool → search.Spot
with_side p a holds = search.with_node p (after_one p.node a holds)

-- both of these
abbrev pub split_on : search.Spot → Term → tree.Next
split_on p a = tree.splits (search.with_node p (added p.node a)) (search.with_node p (denied_one p.node a))

-- how elimination ends, if not with a refutation
abbrev pub IsUnlessRefuted : Ending → Option Ending → Type 0
IsUnlessRefuted end None = seen_ending end ≡ refuted
IsUnlessRefuted end (Some e) = seen_ending e ≡ seen_ending end

-- the node is closed, or it goes on by how its elimination ends
abbrev pub IsEnding : Node → Option Ending → Type 0
IsEnding node None = (types : List Entry) (p : search.Spot) → p.node ≡ node → tree.next types p ≡ tree.closed
IsEnding node (Some e) = (types : List Entry) (p : search.Spot) → p.node ≡ node → tree.next types p ≡ tree.by_ending types p (seen_ending e)

-- the node before anything came to it on a path
abbrev pub begun : Node → search.Spot
begun node = record { node = node; had = []; names = []; rounds = 0 }

-- the code's answer is what becomes of the node; an open leaf comes with the node itself
abbrev pub Follows : (ℕ → Term) → search.Spot → tree.Next → Next → Type 0
Follows at p n next.Closed = n ≡ tree.closed
Follows at p n (next.Open q why) = (n ≡ tree.stays_open (seen_why why)) × (seen_branch at q.branch ≡ p.node)
Follows at p n (next.Splits l r) = n ≡ tree.splits (seen_spot at l) (seen_spot at r)
Follows at p n (next.GoesOn q) = n ≡ tree.goes_on (seen_spot at q)

-- the numbers in it are those of terms
abbrev pub IsNextOver : List Plain → Next → Type 0
IsNextOver nodes next.Closed = Unit {0}
IsNextOver nodes (next.Open q why) = IsSpot nodes q
IsNextOver nodes (next.Splits l r) = IsSpot nodes l × IsSpot nodes r
IsNextOver nodes (next.GoesOn q) = IsSpot nodes q
