-- Certificates as trees: a step, and below it a tree for each node to which it leads.
use Rattle.std.specs.Prelude.{◌≡◌, ◌↔◌, List, [], ◌∷◌, ◌++◌, Some}
use Rattle.wy_lin.specs.wy_term.Condition.{Entry, Condition}
use Rattle.wy_check_spec.specs.judge.Node.{Node, first_node}
use Rattle.wy_cert.specs.Steps.{Written}
use Rattle.wy_check_spec.specs.valid.Validity.{after, IsValid}

mutual
  pub data Tree : Type 0 where
    stem : (step : Written) (below : Trees) → Tree

  pub data Trees : Type 0 where
    no_trees : Trees
    tree : (first : Tree) (rest : Trees) → Trees

abbrev mutual
  -- the steps of a tree in prefix order
  pub steps_in : Tree → List Written
  steps_in (stem s below) = s ∷ steps_in_all below

  pub steps_in_all : Trees → List Written
  steps_in_all no_trees = []
  steps_in_all (tree t ts) = steps_in t ++ steps_in_all ts

abbrev mutual
  -- the step at the root is valid at the node, and the trees below it close the nodes to which it leads
  pub Closes : List Entry → Tree → Node → Type 0
  Closes types (stem s below) node = (nodes : List Node) × (after types node s ≡ Some nodes) × CloseAll types below nodes

  -- each tree closes the node at its place
  pub CloseAll : List Entry → Trees → List Node → Type 0
  CloseAll types no_trees [] = Unit {0}
  CloseAll types no_trees (n ∷ ns) = ⊥
  CloseAll types (tree t ts) [] = ⊥
  CloseAll types (tree t ts) (n ∷ ns) = Closes types t n × CloseAll types ts ns

-- the steps are those of a tree that closes the first node of the condition
pub record IsTreeFor (c : Condition) (steps : List Written) : Type 0 where
  pub whole : Tree
  pub spelled : steps ≡ steps_in whole
  pub closes : Closes c.types whole (first_node c)

-- the valid certificates are the trees that close their conditions
abbrev pub ValidIsATree : Type 0
ValidIsATree = (c : Condition) (steps : List Written) → IsValid c steps ↔ IsTreeFor c steps
