-- Which terms have parts of the sorts that their places want.
use Rattle.std.specs.Prelude.{◌≡◌, List, [], ◌∷◌}
use Rattle.wy_term.specs.Term.{Symbol, Term, Of, Parts, no_parts, part}
use Rattle.wy_term.specs.Term as term
use Rattle.wy_term.specs.Sorts.{Sort, int_sort, val_sort, formula_sort, sort_in}

-- the sorts of the parts of a term: these, in order, or any number of parts of one sort
pub data Places : Type 0 where
  these : (sorts : List Sort) → Places
  each : (sort : Sort) → Places

abbrev pub places : Symbol → Places
places (term.number z) = these []
places (term.int_name word n) = these []
places term.add = these (int_sort ∷ int_sort ∷ [])
places term.sub = these (int_sort ∷ int_sort ∷ [])
places term.neg = these (int_sort ∷ [])
places term.mul = these (int_sort ∷ int_sort ∷ [])
places term.div = these (int_sort ∷ int_sort ∷ [])
places term.rem = these (int_sort ∷ int_sort ∷ [])
places term.num = these (val_sort ∷ [])
places term.len = these (val_sort ∷ [])
places (term.val_name word n) = these []
places term.null = these []
places (term.truth b) = these []
places term.int = these (int_sort ∷ [])
places term.bool = these (formula_sort ∷ [])
places term.array = each val_sort
places term.repeat = these (val_sort ∷ int_sort ∷ [])
places term.update = these (val_sort ∷ int_sort ∷ val_sort ∷ [])
places term.get = these (val_sort ∷ int_sort ∷ [])
places (term.fields names) = each val_sort
places (term.field name) = these (val_sort ∷ [])
places (term.set_field name) = these (val_sort ∷ val_sort ∷ [])
places term.at_most = these (int_sort ∷ int_sort ∷ [])
places term.equal = these (val_sort ∷ val_sort ∷ [])
places (term.of_kind kind) = these (val_sort ∷ [])
places (term.in_type n) = these (val_sort ∷ [])
places (term.every word n) = these (int_sort ∷ int_sort ∷ formula_sort ∷ [])
places (term.exists word n) = these (int_sort ∷ int_sort ∷ formula_sort ∷ [])
places term.denied = these (formula_sort ∷ [])
places term.all_of = each formula_sort
places term.any_of = each formula_sort

-- no part has to come any more
abbrev pub MayEnd : Places → Type 0
MayEnd (these []) = Unit {0}
MayEnd (these (s ∷ ss)) = ⊥
MayEnd (each s) = Unit {0}

-- a part of this sort may come
abbrev pub MayCome : Places → Sort → Type 0
MayCome (these []) sort = ⊥
MayCome (these (s ∷ ss)) sort = sort ≡ s
MayCome (each s) sort = sort ≡ s

-- what may come behind it
abbrev pub behind : Places → Places
behind (these []) = these []
behind (these (s ∷ ss)) = these ss
behind (each s) = each s

abbrev mutual
  -- each part is of the sort that its place wants, and so are its own parts
  pub IsSorted : Term → Type 0
  IsSorted (Of symbol ps) = AreSorted ps (places symbol)

  pub AreSorted : Parts → Places → Type 0
  AreSorted no_parts wanted = MayEnd wanted
  AreSorted (part t ps) wanted = MayCome wanted (sort_in t) × IsSorted t × AreSorted ps (behind wanted)
