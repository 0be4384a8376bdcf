-- The term that comes of a term when it is made from the leaves up, each node folded.
use Rattle.std.specs.Prelude.{◌≡◌, ℕ, List}
use Rattle.wy_term.specs.Term.{Term, Of, Parts, no_parts, part}
use Rattle.wy_term.specs.Folding.{folded}
use Rattle.wy_term.specs.Sorts.{Sort, int_sort, val_sort}
use Rattle.wy_term_text.specs.spell.Grammar.{Spells}

abbrev mutual
  pub made : Term → Term
  made (Of symbol ps) = folded (Of symbol (made_parts ps))

  pub made_parts : Parts → Parts
  made_parts no_parts = no_parts
  made_parts (part t ps) = part (made t) (made_parts ps)

-- the text spells a term of this sort, of which this one is made
pub record IsSpelled (sort : Sort) (text : List ℕ) (r : Term) : Type 0 where
  pub raw : Term
  pub spells : Spells sort text raw
  pub folds : r ≡ made raw

-- the text spells no term of this sort
pub record SpellsNone (sort : Sort) (text : List ℕ) : Type 0 where
  pub none : (raw : Term) → Spells sort text raw → ⊥

-- each term of this sort that the text spells is made to this one
pub record IsOnly (sort : Sort) (text : List ℕ) (r : Term) : Type 0 where
  pub only : (raw : Term) → Spells sort text raw → made raw ≡ r

-- the text spells neither an Int term nor a Val term
pub record SpellsNoTerm (text : List ℕ) : Type 0 where
  pub no_int : SpellsNone int_sort text
  pub no_val : SpellsNone val_sort text

-- each Int term and each Val term that the text spells is made to this one
pub record IsOnlyTerm (text : List ℕ) (r : Term) : Type 0 where
  pub only_int : IsOnly int_sort text r
  pub only_val : IsOnly val_sort text r
