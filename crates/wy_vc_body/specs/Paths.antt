-- Paths that come together, by numbers of terms.
use Rattle.std.specs.Prelude.{◌≡◌, ℕ, List, ◌++◌, All, map, length, take, Option, Some, None}
use Rattle.wy_term.specs.Nodes.{Plain}
use Rattle.wy_vc_exprs.specs.wy_vc_spec.Joins as spec
use Rattle.wy_vc_exprs.specs.wy_vc_spec.Spots.{Spot, spot}
use Rattle.wy_vc_exprs.specs.wy_vc_operations.Growing.{Kept, AreBelow}
use Rattle.wy_vc_body.specs.declared.here.Here.{Here}
use Rattle.wy_vc_exprs.specs.Numbered.{trees_of}
use Rattle.wy_vc_exprs.specs.Slots.{AreSlots, slots_of}
use Rattle.wy_vc_exprs.specs.State.{IsSound, hyps_of, owed_of}
use Rattle.wy_vc_exprs.specs.declared.walk.Walk.{Walk}
use Rattle.wy_vc_body.specs.declared.paths.Path.{Path}

-- what numbers spell
abbrev pub seen_path : List Plain → Path → spec.Path
seen_path nodes p = record { since = trees_of nodes p.since.items; vars = slots_of nodes p.here.vars.items; set = p.here.set.items }

abbrev pub seen_paths : List Plain → List Path → List spec.Path
seen_paths nodes ps = map (seen_path nodes) ps

-- the numbers are those of terms of the list
pub record IsPath (nodes : List Plain) (p : Path) : Type 0 where
  pub since : AreBelow (length nodes) p.since.items
  pub vars : AreSlots nodes p.here.vars.items

abbrev pub ArePaths : List Plain → List Path → Type 0
ArePaths nodes ps = All (IsPath nodes) ps

-- a path whose paths parted behind these hypotheses
abbrev pub seen_end : List Plain → List ℕ → Path → Spot
seen_end nodes base p = spot (trees_of nodes (base ++ p.since.items)) (slots_of nodes p.here.vars.items) p.here.set.items

abbrev pub seen_ends : List Plain → List ℕ → List Path → List Spot
seen_ends nodes base ps = map (seen_end nodes base) ps

-- what is known at a point of a walk
abbrev pub spot_of : Walk → Here → Spot
spot_of w h = spot (hyps_of w) (slots_of w.maker.terms h.vars.items) h.set.items

-- the numbers are those of terms of the walk, and this is known
pub record IsSpot (w : Walk) (h : Here) (p : Spot) : Type 0 where
  pub slots : AreSlots w.maker.terms h.vars.items
  pub is : spot_of w h ≡ p

-- a path goes on, or none does
abbrev pub IsEnd : Walk → Option Here → Option Spot → Type 0
IsEnd w None None = Unit {0}
IsEnd w None (Some p) = ⊥
IsEnd w (Some h) None = ⊥
IsEnd w (Some h) (Some p) = IsSpot w h p

-- behind paths that parted behind so many hypotheses: nothing was owed, and terms were added only
pub record Meets (old new : Walk) (base : ℕ) (h : Option Here) (m : spec.Met) : Type 0 where
  pub sound : IsSound new
  pub kept : Kept old.maker.terms new.maker.terms
  pub count : new.maker.count ≡ m.count
  pub owed : owed_of new ≡ owed_of old
  pub front : take base new.hyps.items ≡ take base old.hyps.items
  pub ends : IsEnd new h m.ends
