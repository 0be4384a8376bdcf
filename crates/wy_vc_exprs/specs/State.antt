-- What a walk has assumed and owes.
use Rattle.std.specs.Prelude.{◌≡◌, ℕ, ◌<◌, List, ◌++◌, All, map, length, take}
use Rattle.wy_term.specs.Term.{Term}
use Rattle.wy_term.specs.Nodes.{Plain, tree_at}
use Rattle.wy_term.specs.Numbers.{IsAt}
use Rattle.wy_term.specs.declared.cond.CondKind.{CondKind}
use Rattle.wy_vc_terms.specs.wy_vc_spec.Owed.{Owed}
use Rattle.wy_vc_terms.specs.wy_vc_spec.Clauses.{Passed, passed}
use Rattle.wy_vc_terms.specs.wy_vc_spec.Calls.{Walked}
use Rattle.wy_vc_terms.specs.wy_vc_spec.Walks.{WalkedAll}
use Rattle.wy_vc_operations.specs.Growing.{Kept, AreBelow, AreAt}
use Rattle.wy_vc_exprs.specs.Numbered.{trees_of}
use Rattle.wy_vc_exprs.specs.declared.walk.Walk.{Walk}
use Rattle.wy_vc_exprs.specs.declared.goal.Goal.{Goal}

-- the numbers of a goal are those of terms of the list
pub record IsGoal (nodes : List Plain) (g : Goal) : Type 0 where
  pub hyps : AreBelow (length nodes) g.hyps.items
  pub goal : g.goal < length nodes

-- a goal that is owed
abbrev pub goal_of : CondKind → ℕ → List Term → Term → Owed
goal_of kind at hyps goal = record { kind = kind; at = at; hyps = hyps; goal = goal }

-- the goal that numbers spell
abbrev pub seen_goal : List Plain → Goal → Owed
seen_goal nodes g = goal_of g.kind g.at (trees_of nodes g.hyps.items) (tree_at nodes g.goal)

-- what is assumed
abbrev pub hyps_of : Walk → List Term
hyps_of w = trees_of w.maker.terms w.hyps.items

-- what is owed so far
abbrev pub owed_of : Walk → List Owed
owed_of w = map (seen_goal w.maker.terms) w.owed.items

-- all its numbers are those of its terms
pub record IsSound (w : Walk) : Type 0 where
  pub hyps : AreBelow (length w.maker.terms) w.hyps.items
  pub owed : All (IsGoal w.maker.terms) w.owed.items

-- from the one walk to the other so many names are made and so much is assumed, and this is owed on the way; terms and hypotheses are added only
pub record Steps (old new : Walk) (p : Passed) : Type 0 where
  pub sound : IsSound new
  pub kept : Kept old.maker.terms new.maker.terms
  pub count : new.maker.count ≡ p.count
  pub hyps : hyps_of new ≡ p.hyps
  pub owed : owed_of new ≡ owed_of old ++ p.owed
  pub longer : take (length old.hyps.items) new.hyps.items ≡ old.hyps.items

-- a walk without its term
abbrev pub passed_by : Walked → Passed
passed_by w = passed w.count w.hyps w.owed

-- the same, with a term
pub record Walks (old new : Walk) (r : ℕ) (w : Walked) : Type 0 where
  pub steps : Steps old new (passed_by w)
  pub is : IsAt new.maker.terms r w.term

-- the same of many
abbrev pub passed_by_all : WalkedAll → Passed
passed_by_all w = passed w.count w.hyps w.owed

pub record WalksAll (old new : Walk) (ks : List ℕ) (w : WalkedAll) : Type 0 where
  pub steps : Steps old new (passed_by_all w)
  pub are : AreAt new.maker.terms ks w.terms
