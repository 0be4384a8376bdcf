-- What the code's instances and answers stand for, where `at` gives the term of a number.
use Rattle.std.specs.Prelude.{◌≡◌, ◌<◌, ◌≤◌, ℕ, List, map, All, length}
use Rattle.wy_term_subst.specs.wy_term.Term.{Term}
use Rattle.wy_term_subst.specs.wy_term.Nodes.{Plain, tree_at}
use Rattle.wy_facts.specs.declared.schema.Instance.{Instance}
use Rattle.wy_facts.specs.Schema as schema

-- the terms of these numbers
abbrev pub terms_at : List Plain → List ℕ → List Term
terms_at nodes ks = map (tree_at nodes) ks

abbrev pub seen_instance : List Plain → Instance → schema.Instance
seen_instance nodes i = record { schema = i.schema; parts = terms_at nodes i.parts.items }

-- the numbers are those of the first n terms
abbrev pub AreBelow : ℕ → List ℕ → Type 0
AreBelow n ks = All (λ k. k < n) ks

-- what the old numbers named they still name, and none is lost
pub record Stays (old new : List Plain) : Type 0 where
  pub grows : length old ≤ length new
  pub trees : (t : ℕ) → t < length old → tree_at new t ≡ tree_at old t
