-- How much a grammar lets through.
use Rattle.std.specs.Prelude.{◌≡◌, ◌≤◌, ℕ, Bool, true}

-- how deep a text may nest, and whether the further checks are made
pub record Mode : Type 0 where
  pub depth : ℕ
  pub strict : Bool

-- the second lets through all that the first does
abbrev pub Looser : Mode → Mode → Type 0
Looser n m = (n.depth ≤ m.depth) × (m.strict ≡ true → n.strict ≡ true)
