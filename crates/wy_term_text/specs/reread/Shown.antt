-- Terms that can be written: each part is of the sort that its place wants, and names and numbers are within their ranges.
use Rattle.std.specs.Prelude.{◌≡◌, [], ◌∷◌, Option, Some, None}
use Rattle.wy_term.specs.Term.{Term, Of, Parts, no_parts, part}
use Rattle.wy_term.specs.Sorts.{Sort, sort_of}
use Rattle.wy_term_text.specs.spell.Grammar.{Layout, gapped, first_of, more_of, Place, IsInRange, layout, next_place}

-- no part has to come any more
abbrev pub MayEnd : Layout → Type 0
MayEnd (gapped []) = Unit {0}
MayEnd (gapped (g ∷ gs)) = ⊥
MayEnd (first_of s) = Unit {0}
MayEnd (more_of s) = Unit {0}

-- a part fits its place, and the others what is left of the layout
abbrev pub FitsPlace : Option Place → (Sort → Type 0) → (Layout → Type 0) → Type 0
FitsPlace None fits rest = ⊥
FitsPlace (Some p) fits rest = fits p.sort × rest p.rest

abbrev mutual
  -- the term is of this sort, and so are its parts of theirs
  pub IsOf : Term → Sort → Type 0
  IsOf (Of symbol ps) sort = (sort_of symbol ≡ sort) × IsInRange symbol × AreOf ps (layout symbol)

  pub AreOf : Parts → Layout → Type 0
  AreOf no_parts layout = MayEnd layout
  AreOf (part t ps) layout = FitsPlace (next_place layout) (IsOf t) (AreOf ps)
