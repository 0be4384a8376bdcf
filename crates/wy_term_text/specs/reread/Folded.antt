-- Which terms are folded throughout.
use Rattle.std.specs.Prelude.{◌≡◌}
use Rattle.wy_term.specs.Term.{Term, Of, Parts, no_parts, part}
use Rattle.wy_term.specs.Folding.{folded}

abbrev mutual
  -- the term is folded to itself, and so are its parts
  pub IsFolded : Term → Type 0
  IsFolded (Of symbol ps) = (folded (Of symbol ps) ≡ Of symbol ps) × AreFolded ps

  pub AreFolded : Parts → Type 0
  AreFolded no_parts = Unit {0}
  AreFolded (part t ps) = IsFolded t × AreFolded ps
