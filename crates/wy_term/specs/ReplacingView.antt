-- How the code keeps what names stand for, and what it has made already.
use Rattle.std.specs.Prelude.{◌≡◌, ℕ, ◌<◌, ◌≤◌, List, [], ◌∷◌, All, length, Bool, true, false, Option, Some, None, ℤ, pos, ◌+ℤ◌, ◌<ℤ◌, ◌^◌}
use Rattle.wy_term.specs.Term.{Symbol, Term, Of, Parts, part, no_parts, leaf, int_name, val_name, every, exists}
use Rattle.wy_term.specs.declared.node.Node.{Node}
use Rattle.wy_term.specs.declared.node.Node.TheVariants as node
use Rattle.wy_term.specs.declared.node.Quantifier.{Quantifier}
use Rattle.wy_term.specs.declared.replace.Shape.{Shape}
use Rattle.wy_term.specs.declared.replace.Shape.TheVariants as shape
use Rattle.wy_term.specs.Nodes.{Plain, tree_at, parts_at}
use Rattle.wy_term.specs.Numbers.{IsAt}
use Rattle.wy_term.specs.Folding.{replaced, binder, span_of, number_or_zero}

-- the trees of pairs of numbers
abbrev pub seen_pairs : (ℕ → Term) → List (ℕ × ℕ) → List (Term × Term)
seen_pairs at [] = []
seen_pairs at (p ∷ ps) = (at p.0, at p.1) ∷ seen_pairs at ps

-- the pairs' numbers are below a bound
abbrev pub AreBelow : ℕ → List (ℕ × ℕ) → Type 0
AreBelow n ps = All (λ (p : ℕ × ℕ). (p.0 < n) × (p.1 < n)) ps

-- the tree that a number names, where names stand for the terms of these pairs
abbrev pub image_at : List Plain → List (ℕ × ℕ) → ℕ → Term
image_at nodes pairs t = replaced (tree_at nodes t) (seen_pairs (tree_at nodes) pairs)

-- what was made already: each number that is looked up names what comes of the tree that it is looked up by
pub record AreMade (nodes : List Plain) (pairs : List (ℕ × ℕ)) (lookup : ℕ → Option ℕ) : Type 0 where
  pub made : (q r : ℕ) → lookup q ≡ Some r → (q < length nodes) × IsAt nodes r (image_at nodes pairs q)

-- it is a name, or binds one
abbrev pub names_one : Symbol → Bool
names_one (int_name word n) = true
names_one (val_name word n) = true
names_one (every word n) = true
names_one (exists word n) = true
names_one symbol = false

abbrev pub is_name : Symbol → Bool
is_name (int_name word n) = true
is_name (val_name word n) = true
is_name symbol = false

abbrev pub IsOther : Term → Type 0
IsOther (Of symbol ps) = names_one symbol ≡ false

abbrev pub IsName : Term → Type 0
IsName (Of symbol no_parts) = is_name symbol ≡ true
IsName (Of symbol (part t ps)) = ⊥

-- a quantifier with these numbers
abbrev pub bound_by : (ℕ → Term) → Bool → Quantifier → Term
bound_by at all q = Of (binder all q.word q.number) (parts_at at (q.from ∷ q.below ∷ q.body ∷ []))

-- the parts of a quantifier are below a bound
pub record IsWithin (n : ℕ) (q : Quantifier) : Type 0 where
  pub from : q.from < n
  pub below : q.below < n
  pub body : q.body < n

-- what a term is, as far as names go
abbrev pub IsShape : List Plain → ℕ → Shape → Type 0
IsShape nodes t shape.Name = IsName (tree_at nodes t)
IsShape nodes t (shape.Quantifier all q) = (tree_at nodes t ≡ bound_by (tree_at nodes) all q) × IsWithin t q
IsShape nodes t shape.Other = IsOther (tree_at nodes t)

-- the first number of a range and how many there are, where they are few
abbrev pub IsSpan : Option ℤ → Option ℤ → Option (ℤ × ℕ) → Type 0
IsSpan a b None = span_of a b ≡ None
IsSpan a b (Some r) = (span_of a b ≡ Some r.1) × (number_or_zero a ≡ r.0) × ((r.0 +ℤ pos r.1) <ℤ pos (2 ^ 127))
