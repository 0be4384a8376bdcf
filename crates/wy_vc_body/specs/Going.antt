-- How steps of a body go on, by numbers of terms.
use Rattle.std.specs.Prelude.{◌≡◌, ◌++◌, length, take, Option}
use Rattle.wy_vc_exprs.specs.wy_vc_spec.Spots.{Flow}
use Rattle.wy_vc_exprs.specs.wy_vc_operations.Growing.{Kept}
use Rattle.wy_vc_body.specs.declared.here.Here.{Here}
use Rattle.wy_vc_exprs.specs.State.{IsSound, owed_of}
use Rattle.wy_vc_exprs.specs.declared.walk.Walk.{Walk}
use Rattle.wy_vc_body.specs.Paths.{IsEnd}

-- from the one walk to the other so much was owed, and so many names were made; a path goes on with this, or none does
pub record Went (old new : Walk) (h : Option Here) (f : Flow) : Type 0 where
  pub sound : IsSound new
  pub kept : Kept old.maker.terms new.maker.terms
  pub longer : take (length old.hyps.items) new.hyps.items ≡ old.hyps.items
  pub count : new.maker.count ≡ f.count
  pub owed : owed_of new ≡ owed_of old ++ f.owed
  pub ends : IsEnd new h f.ends
