-- What is known where contracts and bodies begin, and what declarations owe.
use Rattle.std.specs.Prelude.{◌≡◌, ◌⊎◌, ℕ, List, [], ◌++◌, length, Option, true, nat_lt}
use Rattle.wy_vc_spec.specs.Clauses.{passed}
use Rattle.wy_vc_spec.specs.Owed.{Owed}
use Rattle.wy_vc_spec.specs.Statements.{Renewed}
use Rattle.wy_vc_body.specs.wy_vc_operations.Growing.{Kept}
use Rattle.wy_vc_body.specs.wy_vc_exprs.Slots.{AreSlots, slots_of}
use Rattle.wy_vc_body.specs.wy_vc_exprs.State.{IsSound, Steps, owed_of}
use Rattle.wy_vc_body.specs.wy_vc_exprs.declared.walk.Walk.{Walk}

-- this is assumed, and the variables stand for these terms; nothing was owed
pub record Enters (old new : Walk) (vs : List (Option ℕ)) (r : Renewed) : Type 0 where
  pub steps : Steps old new (passed r.count r.spot.hyps [])
  pub slots : AreSlots new.maker.terms vs
  pub vars : slots_of new.maker.terms vs ≡ r.spot.vars

-- from the one walk to the other this was owed, whatever was assumed for it; terms were added only
pub record Owes (old new : Walk) (os : List Owed) : Type 0 where
  pub sound : IsSound new
  pub kept : Kept old.maker.terms new.maker.terms
  pub owed : owed_of new ≡ owed_of old ++ os

-- from the one walk to the other the first of these were owed: all, or some where more than so many are owed then; terms were added only
pub record OwesFirst (most : ℕ) (old new : Walk) (os : List Owed) : Type 0 where
  pub rest : List Owed
  pub sound : IsSound new
  pub kept : Kept old.maker.terms new.maker.terms
  pub owed : owed_of new ++ rest ≡ owed_of old ++ os
  pub whole : (rest ≡ []) ⊎ (nat_lt most (length new.owed.items) ≡ true)
