-- What is made, and how far walks have come.
use Rattle.std.specs.Prelude.{◌≡◌, ◌++◌, ℕ, List}
use Rattle.wy_term.specs.Term.{Term}
use Rattle.wy_term.specs.Nodes.{Plain}
use Rattle.wy_vc_tables.specs.wy_vc_spec.Values.{Valued, ValuedAll}
use Rattle.wy_vc_operations.specs.Growing.{Makes, Kept, AreAt}
use Rattle.wy_vc_terms.specs.declared.maker.Maker.{Maker}

-- the number names the term, and so many names were made; what old numbers name, they still name
pub record IsMadeAt (old new : List Plain) (made count : ℕ) (v : Valued) : Type 0 where
  pub term : Makes old new made v.term
  pub names : count ≡ v.count

-- the same of terms in order
pub record AreMade (old new : List Plain) (made : List ℕ) (count : ℕ) (vs : ValuedAll) : Type 0 where
  pub terms : AreAt new made vs.terms
  pub kept : Kept old new
  pub names : count ≡ vs.count

-- these were made, and with those that are left they are all
pub record IsUnderway (old new : List Plain) (made : List ℕ) (left all : ValuedAll) : Type 0 where
  pub done : List Term
  pub terms : AreAt new made done
  pub kept : Kept old new
  pub joined : done ++ left.terms ≡ all.terms
  pub names : left.count ≡ all.count

-- a maker made the term with this number, and so many names; what old numbers name, they still name
pub record IsMade (old new : Maker) (made : ℕ) (v : Valued) : Type 0 where
  pub term : Makes old.terms new.terms made v.term
  pub names : new.count ≡ v.count
