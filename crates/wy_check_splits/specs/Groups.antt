-- What the code's groups of terms of one kind stand for, and when two have a term in common.
use Rattle.std.specs.Prelude.{ℕ, List, [], ◌∷◌, ◌++◌, map, Bool, true, false, ◌||◌, not}
use Rattle.wy_check_nodes.specs.wy_term.Term.{Term}
use Rattle.wy_check_nodes.specs.wy_term.Nodes.{plain_kind}
use Rattle.wy_check_nodes.specs.wy_term.Same.{same_term}
use Rattle.wy_check_nodes.specs.wy_facts.Seen.{AreBelow}
use Rattle.wy_check_nodes.specs.wy_check_spec.valid.Kinds.{Kinded, each_of_kind, in_one_kind, in_two_kinds}
use Rattle.wy_check_splits.specs.declared.given.Group.{Group}
use Rattle.wy_check_splits.specs.declared.given.Groups.{Groups}

-- each term of a group with the group's kind
abbrev pub of_group : (ℕ → Term) → Group → List Kinded
of_group at g = each_of_kind (plain_kind g.kind) (map at g.terms.items)

-- those of both groups
abbrev pub kinded : (ℕ → Term) → Groups → List Kinded
kinded at gs = of_group at gs.first ++ of_group at gs.second

-- the terms of the groups are among the first n
pub record AreGroups (n : ℕ) (gs : Groups) : Type 0 where
  pub first : AreBelow n gs.first.terms.items
  pub second : AreBelow n gs.second.terms.items

-- ---- terms in common

-- the term is one of these
abbrev pub is_one_of : Term → List Term → Bool
is_one_of t [] = false
is_one_of t (u ∷ us) = same_term t u || is_one_of t us

-- one of the first is one of the second
abbrev pub have_common : List Term → List Term → Bool
have_common [] us = false
have_common (t ∷ ts) us = is_one_of t us || have_common ts us

-- the test of two kinds: that they are the same, or that they aren't
abbrev pub as_wanted : Bool → Bool → Bool
as_wanted true same = same
as_wanted false same = not same

-- the test of two terms with their kinds: one term in one kind, or one term in two kinds
abbrev pub in_kinds : Bool → Kinded → Kinded → Bool
in_kinds true = in_one_kind
in_kinds false = in_two_kinds
