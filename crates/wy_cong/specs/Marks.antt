-- What stands at a place, and whether a name that stands free in it is bound there.
use Rattle.std.specs.Prelude.{List, [], ◌∷◌, ◌++◌, Bool, false, ◌||◌, if◌then◌else◌}
use Rattle.wy_search_spec.specs.wy_check_spec.judge.Node.{has_formula}
use Rattle.wy_search_spec.specs.Standing.{Standing, have_common}
use Rattle.wy_check_splits.specs.Free.{is_among}
use Rattle.wy_term.specs.Scope.{free_names}
use Rattle.wy_term.specs.Term.{Term, Of, leaf, int_name, every, exists}

-- the quantifier binds one of these names
abbrev pub binds_one : Term → List Term → Bool
binds_one (Of (every word n) ps) names = is_among (leaf (int_name word n)) names
binds_one (Of (exists word n) ps) names = is_among (leaf (int_name word n)) names
binds_one t names = false

-- one of the quantifiers binds one of these names
abbrev pub is_any_bound : List Term → List Term → Bool
is_any_bound [] names = false
is_any_bound (q ∷ qs) names = binds_one q names || is_any_bound qs names

-- what stands there, and whether a name that is free in it is bound there, or by the quantifiers around
abbrev pub marked : List Term → Standing → Term × Bool
marked around s = (s.what, is_any_bound around (free_names s.what) || have_common (free_names s.what) s.around)

abbrev pub all_marked : List Term → List Standing → List (Term × Bool)
all_marked around [] = []
all_marked around (s ∷ ss) = marked around s ∷ all_marked around ss

-- a term more, unless a name of it is bound or it is there
abbrev pub listed_unless : Bool → List Term → Term → List Term
listed_unless caught done t = if caught then done else (if has_formula done t then done else done ++ t ∷ [])

abbrev pub with_unmarked : List Term → List (Term × Bool) → List Term
with_unmarked done [] = done
with_unmarked done (p ∷ ps) = with_unmarked (listed_unless p.1 done p.0) ps
