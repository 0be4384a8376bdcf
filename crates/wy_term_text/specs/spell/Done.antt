-- The terms that are done, by their numbers in a list.
use Rattle.std.specs.Prelude.{◌≡◌, ℕ, ◌≤◌, List, [], ◌∷◌, ◌++◌, length, map, take, drop}
use Rattle.wy_term.specs.Term.{Symbol, Term, Of}
use Rattle.wy_term.specs.Folding.{folded}
use Rattle.wy_term.specs.Nodes.{Plain, tree_at}
use Rattle.wy_term_text.specs.spell.Todo.{arity, Has, as_parts, Work, Goes}

abbrev pub trees : List Plain → List ℕ → List Term
trees nodes ks = map (tree_at nodes) ks

-- the terms from this number on were put together to one
pub record IsMade (symbol : Symbol) (base : ℕ) (old new : List Term) : Type 0 where
  pub within : base ≤ length old
  pub has : Has (arity symbol) (length (drop base old))
  pub is : new ≡ take base old ++ folded (Of symbol (as_parts (drop base old))) ∷ []

-- the terms from this number on are no parts of such a node
pub record CannotBe (symbol : Symbol) (base : ℕ) (done : List Term) : Type 0 where
  pub none : base ≤ length done → Has (arity symbol) (length (drop base done)) → ⊥

-- nothing is left to be read, and this is the only term that is done
pub record IsEnded (i done : List ℕ) (t : ℕ) : Type 0 where
  pub ends : i ≡ []
  pub one : done ≡ t ∷ []

-- something is left to be read, or not just one term is done
pub record NotEnded (i done : List ℕ) : Type 0 where
  pub none : i ≡ [] → length done ≡ 1 → ⊥

-- ---- turns

-- what may come of the first thing and others may come of the new list, and no more: with the text and the terms that are done before and after
pub record Turns (w : Work) (i : List ℕ) (done : List Term) (others new : List Work) (k : List ℕ) (then_done : List Term) : Type 0 where
  pub sound : (r : Term) → Goes new k then_done r → Goes (w ∷ others) i done r
  pub complete : (r : Term) → Goes (w ∷ others) i done r → Goes new k then_done r

-- nothing may come of the first thing and others
pub record Blocks (w : Work) (i : List ℕ) (done : List Term) (others : List Work) : Type 0 where
  pub none : (r : Term) → Goes (w ∷ others) i done r → ⊥

-- the same, whatever terms are done, if they are so many
pub record Puts (w : Work) (i : List ℕ) (base : ℕ) (others new : List Work) (k : List ℕ) : Type 0 where
  pub turns : (done : List Term) → length done ≡ base → Turns w i done others new k done
