-- Which names stand free in a term. A quantifier binds its name in its body, and not in its bounds.
use Rattle.std.specs.Prelude.{ℕ, List, [], ◌∷◌, ◌++◌, if◌then◌else◌, slice_index_or}
use Rattle.wy_term.specs.Term.{Symbol, Term, Of, Parts, no_parts, part, leaf}
use Rattle.wy_term.specs.Term as term
use Rattle.wy_term.specs.Same.{same_term}

-- the names but this one
abbrev pub without : Term → List Term → List Term
without x [] = []
without x (y ∷ ys) = if same_term x y then without x ys else y ∷ without x ys

-- those of the part with this number, from 0
abbrev pub of_part : List (List Term) → ℕ → List Term
of_part parts k = slice_index_or parts k []

abbrev pub of_all : List (List Term) → List Term
of_all [] = []
of_all (xs ∷ rest) = xs ++ of_all rest

-- those of two bounds, and behind them those of a body but the name that is bound there
abbrev pub of_bound : Term → List (List Term) → List Term
of_bound x parts = of_part parts 0 ++ (of_part parts 1 ++ without x (of_part parts 2))

-- the names that stand free in a term with this symbol, by those of its parts
abbrev pub free_by : Symbol → List (List Term) → List Term
free_by (term.int_name word n) parts = leaf (term.int_name word n) ∷ []
free_by (term.val_name word n) parts = leaf (term.val_name word n) ∷ []
free_by (term.every word n) parts = of_bound (leaf (term.int_name word n)) parts
free_by (term.exists word n) parts = of_bound (leaf (term.int_name word n)) parts
free_by symbol parts = of_all parts

abbrev mutual
  -- the names that stand free in a term, from left to right
  pub free_names : Term → List Term
  free_names (Of symbol parts) = free_by symbol (free_in parts)

  -- those of each part
  pub free_in : Parts → List (List Term)
  free_in no_parts = []
  free_in (part t rest) = free_names t ∷ free_in rest
