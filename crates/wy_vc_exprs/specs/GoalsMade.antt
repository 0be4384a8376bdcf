-- The goals of a clause as they are made.
use Rattle.std.specs.Prelude.{◌≡◌, ℕ, List}
use Rattle.wy_vc_terms.specs.wy_vc_spec.Values.{ValuedAll}
use Rattle.wy_vc_operations.specs.Growing.{Kept, AreAt}
use Rattle.wy_vc_terms.specs.declared.maker.Maker.{Maker}

-- the numbers name these terms, and so many names were made; what old numbers name, they still name
pub record AreMade (old new : Maker) (made : List ℕ) (vs : ValuedAll) : Type 0 where
  pub terms : AreAt new.terms made vs.terms
  pub kept : Kept old.terms new.terms
  pub names : new.count ≡ vs.count
