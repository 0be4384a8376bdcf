-- From a point, what is behind a block is one too.
use Rattle.std.specs.Prelude.{ℕ, ◌≤◌, List, [], ◌∷◌, Option, Some, None}
use Rattle.wy_core.specs.CoreTree.{Expr, Stmts}
use Rattle.wy_sound_terms.specs.wy_vc_spec.Numbered.{Node}
use Rattle.wy_sound_terms.specs.wy_vc_spec.Spots.{Spot, Flow}
use Rattle.wy_sound_terms.specs.wy_vc_spec.Statements.{Body, exec_all}
use Rattle.wy_sound_walks.specs.expressions.Laws.{AreValTerms}
use Rattle.wy_sound_walks.specs.joins.Points.{IsPoint}

abbrev pub EndIsPoint : ℕ → Option Spot → Type 0
EndIsPoint n None = Unit {0}
EndIsPoint n (Some p) = IsPoint n p

abbrev pub AllArePoints : ℕ → List Spot → Type 0
AllArePoints n [] = Unit {0}
AllArePoints n (p ∷ ps) = IsPoint n p × AllArePoints n ps

-- names are made from this count on, and behind the flow and at its `break`s are points
pub record StaysPoint (n : ℕ) (f : Flow) : Type 0 where
  pub grows : n ≤ f.count
  pub ends : EndIsPoint f.count f.ends
  pub breaks : AllArePoints f.count f.breaks

abbrev pub PointsStayPoints : Type 0
PointsStayPoints = (b : Body Node) (around : List (Expr Node)) (block : Stmts Node) (p : Spot) (n : ℕ) → AreValTerms p.vars → IsPoint n p → StaysPoint n (exec_all b around block p n)
