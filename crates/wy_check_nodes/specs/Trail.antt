-- Which nodes are still to be closed.
use Rattle.std.specs.Prelude.{ℕ, ◌<◌, ◌≤◌, List, [], ◌∷◌, Bool, true, false, map, take, length}
use Rattle.wy_check_spec.specs.wy_term.Term.{Term}
use Rattle.wy_check_spec.specs.wy_term.Nodes.{Plain}
use Rattle.wy_check_spec.specs.judge.Node.{Node, denied_one}
use Rattle.wy_check_nodes.specs.declared.branch.Branch.{Branch}
use Rattle.wy_check_nodes.specs.Seen.{seen_literal, seen_formula, seen_branch, IsBranch}
use Rattle.wy_check_nodes.specs.declared.trail.Waiting.{Waiting}
use Rattle.wy_check_nodes.specs.declared.trail.Trail.{Trail}

-- the second node of a split
abbrev pub second_node : (ℕ → Term) → Branch → Waiting → Node
second_node at b w = denied_one (record { literals = map (seen_literal at) (take w.literals b.literals.keys); pending = map (seen_formula at) (take w.pending b.pending.keys) }) (at w.atom)

abbrev pub second_nodes : (ℕ → Term) → Branch → List Waiting → List Node
second_nodes at b [] = []
second_nodes at b (w ∷ ws) = second_node at b w ∷ second_nodes at b ws

abbrev pub open_nodes : (ℕ → Term) → Branch → List Waiting → Bool → List Node
open_nodes at b ws true = seen_branch at b ∷ second_nodes at b ws
open_nodes at b ws false = []

-- the nodes that are still to be closed, next first
abbrev pub nodes_of : (ℕ → Term) → Trail → List Node
nodes_of at t = open_nodes at t.branch t.waiting.items t.open

-- each node that waits has no more than another one; its atom is there
abbrev pub AreWaiting : ℕ → ℕ → ℕ → List Waiting → Type 0
AreWaiting n literals pending [] = Unit {0}
AreWaiting n literals pending (w ∷ ws) = (w.literals ≤ literals) × (w.pending ≤ pending) × (w.atom < n) × AreWaiting n w.literals w.pending ws

pub record IsTrail (nodes : List Plain) (t : Trail) : Type 0 where
  pub branch : IsBranch nodes t.branch
  pub waiting : AreWaiting (length nodes) (length t.branch.literals.keys) (length t.branch.pending.keys) t.waiting.items
