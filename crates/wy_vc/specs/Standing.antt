-- Hypotheses that stand one on the other, and the named types that they test.
use Rattle.std.specs.Prelude.{◌≡◌, ℕ, ◌≤◌, List, [], ◌∷◌, ◌++◌, length, map, take}
use Rattle.wy_term.specs.Nodes.{Plain, tree_at}
use Rattle.wy_vc_spec.specs.Limits.{is_among, tests_in_all}
use Rattle.wy_vc.specs.declared.standing.Standing.{Standing}

-- the same numbers are among both
abbrev pub AreAlike : List ℕ → List ℕ → Type 0
AreAlike ks js = (n : ℕ) → is_among ks n ≡ is_among js n

-- what is new among these numbers stands behind the old ones
pub record AreJoined (old more new : List ℕ) : Type 0 where
  pub fresh : List ℕ
  pub is : new ≡ old ++ fresh
  pub alike : AreAlike new (old ++ more)

-- the hypotheses that were seen test so many types or more, and these are the types
pub record AreTested (nodes : List Plain) (seen : List ℕ) (least : ℕ) (types : List ℕ) : Type 0 where
  pub no_fewer : least ≤ length types
  pub alike : AreAlike types (tests_in_all (map (tree_at nodes) seen))

-- of all types the first so many are those that the hypotheses that were seen test
pub record AreFirst (nodes : List Plain) (seen : List ℕ) (least count : ℕ) (types : List ℕ) : Type 0 where
  pub no_fewer : least ≤ count
  pub within : count ≤ length types
  pub alike : AreAlike (take count types) (tests_in_all (map (tree_at nodes) seen))

-- behind the hypotheses that were seen come these, each with how many of the types those before it test
abbrev pub Stand : List Plain → List ℕ → ℕ → List ℕ → List ℕ → List ℕ → Type 0
Stand nodes seen least types [] [] = AreTested nodes seen least types
Stand nodes seen least types [] (c ∷ cs) = ⊥
Stand nodes seen least types (h ∷ hs) [] = ⊥
Stand nodes seen least types (h ∷ hs) (c ∷ cs) = AreFirst nodes seen least c types × Stand nodes (seen ++ h ∷ []) c types hs cs

-- the types of all that stand are at hand, and of each front of them
abbrev pub Stands : List Plain → Standing → Type 0
Stands nodes s = Stand nodes [] 0 s.types.items s.hyps.items s.counts.items
