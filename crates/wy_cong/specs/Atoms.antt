-- What the code's list of atoms stands for.
use Rattle.std.specs.Prelude.{ℕ, nat_eq}
use Rattle.std.specs.HashMap.{get}
use Rattle.wy_items.specs.few.Places.{ArePlaced}
use Rattle.wy_check_splits.specs.wy_check_nodes.Seen.{AreBelow}
use Rattle.wy_cong.specs.declared.atoms.Atoms.{Atoms}

-- the numbers are those of the first n terms, and their places are noted
pub record AreAtoms (n : ℕ) (s : Atoms) : Type 0 where
  pub below : AreBelow n s.list.items
  pub placed : ArePlaced s.list.items (get nat_eq s.places)
