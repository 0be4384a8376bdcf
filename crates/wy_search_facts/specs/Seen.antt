-- What nodes on a path of the search stand for, where `at` gives the term of a number.
use Rattle.std.specs.Prelude.{ℕ, List, map, length}
use Rattle.wy_term.specs.Term.{Term}
use Rattle.wy_term.specs.Nodes.{Plain}
use Rattle.wy_check_nodes.specs.Seen.{AreBelow, IsBranch, seen_branch}
use Rattle.wy_cong.specs.wy_search_spec.Expansion as search
use Rattle.wy_search_facts.specs.declared.spot.Spot.{Spot}

-- what had a witness is kept as the literals of a node
abbrev pub seen_spot : (ℕ → Term) → Spot → search.Spot
seen_spot at p = record { node = seen_branch at p.branch; had = (seen_branch at p.had).literals; names = map at p.names.items; rounds = p.rounds }

-- the numbers in it are those of terms
pub record IsSpot (nodes : List Plain) (p : Spot) : Type 0 where
  pub branch : IsBranch nodes p.branch
  pub had : IsBranch nodes p.had
  pub names : AreBelow (length nodes) p.names.items
