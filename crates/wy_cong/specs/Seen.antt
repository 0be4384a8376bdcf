-- What the terms present stand for.
use Rattle.std.specs.Prelude.{ℕ, List, map, nat_eq, length}
use Rattle.std.specs.HashMap.{get}
use Rattle.wy_items.specs.few.Places as places
use Rattle.wy_term.specs.Nodes.{Plain}
use Rattle.wy_term.specs.Term.{Term}
use Rattle.wy_check_splits.specs.wy_check_nodes.Seen.{AreBelow}
use Rattle.wy_cong.specs.declared.present.Present.{Present}

-- the terms present, where `at` gives the term of a number
abbrev pub terms_of : (ℕ → Term) → Present → List Term
terms_of at p = map at p.numbers.items

-- where there are more than a few, each number has the place at which it stands first
abbrev pub ArePlaced : Present → Type 0
ArePlaced p = places.ArePlaced p.numbers.items (get nat_eq p.places)

-- the numbers are those of terms, and they have their places
pub record IsPresent (nodes : List Plain) (p : Present) : Type 0 where
  pub below : AreBelow (length nodes) p.numbers.items
  pub places : ArePlaced p
