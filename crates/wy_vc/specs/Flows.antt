-- How statements go on, and the `break`s in them, by numbers of terms.
use Rattle.std.specs.Prelude.{◌≡◌, ℕ, List, ◌++◌, take, Option, Some, None, option_map}
use Rattle.wy_term.specs.Nodes.{Plain}
use Rattle.wy_vc_spec.specs.Owed.{Owed}
use Rattle.wy_vc_spec.specs.Spots.{Spot, Flow}
use Rattle.wy_vc_body.specs.wy_vc_operations.Growing.{Kept}
use Rattle.wy_vc_body.specs.declared.here.Here.{Here}
use Rattle.wy_vc_body.specs.wy_vc_exprs.Slots.{AreSlots}
use Rattle.wy_vc_body.specs.wy_vc_exprs.State.{IsSound, owed_of}
use Rattle.wy_vc_body.specs.wy_vc_exprs.declared.walk.Walk.{Walk}
use Rattle.wy_vc_body.specs.declared.paths.Path.{Path}
use Rattle.wy_vc_body.specs.Paths.{ArePaths, seen_ends, spot_of}
use Rattle.wy_vc_body.specs.Going.{Went}

-- from the one walk to the other so much was owed, so many names were made, and a path goes on with this or none does; the paths of `break`s, which parted behind so many hypotheses, are those before and those of the statements
pub record Flows (old new : Walk) (base : ℕ) (before after : List Path) (h : Option Here) (f : Flow) : Type 0 where
  pub went : Went old new h f
  pub paths : ArePaths new.maker.terms after
  pub breaks : seen_ends new.maker.terms (take base old.hyps.items) after ≡ seen_ends old.maker.terms (take base old.hyps.items) before ++ f.breaks

-- so many names are made and this was owed on the way; of the hypotheses the first so many stay
pub record Moves (old new : Walk) (base n : ℕ) (os : List Owed) : Type 0 where
  pub sound : IsSound new
  pub kept : Kept old.maker.terms new.maker.terms
  pub front : take base new.hyps.items ≡ take base old.hyps.items
  pub count : new.maker.count ≡ n
  pub owed : owed_of new ≡ owed_of old ++ os

-- where a path goes on, its numbers are those of terms
abbrev pub IsEndOf : List Plain → Option Here → Type 0
IsEndOf nodes None = Unit {0}
IsEndOf nodes (Some h) = AreSlots nodes h.vars.items

-- what is known where a path goes on
abbrev pub end_of : Walk → Option Here → Option Spot
end_of w h = option_map (spot_of w) h
