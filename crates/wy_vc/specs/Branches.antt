-- The sides of a branch, by numbers of terms.
use Rattle.std.specs.Prelude.{◌≡◌, ◌≤◌, ℕ, List, [], length, take, Option}
use Rattle.wy_term.specs.Nodes.{tree_at}
use Rattle.wy_term.specs.Numbers.{IsAt}
use Rattle.wy_vc_spec.specs.Making.{denied, formula}
use Rattle.wy_vc_spec.specs.Owed.{assume}
use Rattle.wy_vc_spec.specs.Clauses.{passed}
use Rattle.wy_vc_spec.specs.Calls.{Walked}
use Rattle.wy_vc_spec.specs.Spots.{as_list}
use Rattle.wy_vc_body.specs.declared.here.Here.{Here}
use Rattle.wy_vc_body.specs.wy_vc_exprs.Numbered.{trees_of}
use Rattle.wy_vc_body.specs.wy_vc_exprs.State.{Steps, hyps_of, passed_by}
use Rattle.wy_vc_body.specs.wy_vc_exprs.declared.walk.Walk.{Walk}
use Rattle.wy_vc_body.specs.declared.paths.Path.{Path}
use Rattle.wy_vc_body.specs.Paths.{ArePaths, seen_ends}
use Rattle.wy_vc.specs.declared.branches.Fork.{Fork}
use Rattle.wy_vc.specs.declared.branches.Tested.{Tested}
use Rattle.wy_vc.specs.Flows.{Moves, end_of}

-- a test was walked: how many hypotheses there are behind it, and the formulas that it is true and that it is false
pub record IsTested (old new : Walk) (t : Tested) (v : Walked) : Type 0 where
  pub steps : Steps old new (passed_by v)
  pub base : t.base ≡ length new.hyps.items
  pub holds : IsAt new.maker.terms t.holds (formula v.term)
  pub fails : IsAt new.maker.terms t.fails (denied (formula v.term))

-- the test is assumed, and what the other side begins with is kept
pub record Forks (old new : Walk) (h : Here) (fork : Fork) (v : Walked) : Type 0 where
  pub steps : Steps old new (passed v.count (assume v.hyps (formula v.term)) v.owed)
  pub before : length old.hyps.items ≤ fork.base
  pub within : fork.base ≤ length new.hyps.items
  pub front : trees_of new.maker.terms (take fork.base new.hyps.items) ≡ v.hyps
  pub fails : IsAt new.maker.terms fork.fails (denied (formula v.term))
  pub vars : fork.here.vars.items ≡ h.vars.items
  pub set : fork.here.set.items ≡ h.set.items

-- the first side has ended, and the other is begun
pub record Turns (old new : Walk) (base fails : ℕ) (end : Option Here) (paths : List Path) : Type 0 where
  pub moves : Moves old new base old.maker.count []
  pub hyps : hyps_of new ≡ assume (trees_of old.maker.terms (take base old.hyps.items)) (tree_at old.maker.terms fails)
  pub within : base ≤ length new.hyps.items
  pub are : ArePaths new.maker.terms paths
  pub ends : seen_ends new.maker.terms (take base old.hyps.items) paths ≡ as_list (end_of old end)
