-- What becomes of a draft where cuts are written.
use Rattle.std.specs.Prelude.{◌≡◌, ℕ, ◌*◌, ◌==◌, List, ◌++◌, map, Bool, true, false, Option, Some, None}
use Rattle.wy_term.specs.Term.{Term, two, at_most}
use Rattle.wy_term.specs.Condition.{Entry}
use Rattle.wy_lin.specs.Linear.{◌>>=◌, Linear}
use Rattle.wy_lin.specs.Seen.{seen}
use Rattle.wy_prove_drafts.specs.wy_check_spec.judge.Node.{Literal, Node}
use Rattle.wy_prove_drafts.specs.wy_check_spec.valid.Literals.{literal_at}
use Rattle.wy_prove_drafts.specs.wy_check_spec.valid.Sums.{summed, cut_of}
use Rattle.wy_lin_eliminate.specs.Division.{common}
use Rattle.wy_search_spec.specs.Bounds.{all_fit}
use Rattle.wy_prove_drafts.specs.Progress.{Progress, Goes}
use Rattle.wy_prove_leaves.specs.stated_sums.Named.{holding, IsNamed}

-- the second node has literals behind those of the first, and is the same else
pub record Appends (old new : Node) : Type 0 where
  pub more : List Literal
  pub literals : new.literals ≡ old.literals ++ more
  pub pending : new.pending ≡ old.pending

-- steps were written that add literals alone
pub record Grows (types : List Entry) (old new : Progress) : Type 0 where
  pub goes : Goes types old new
  pub appends : Appends old.node new.node

-- what a cut states of these literals
abbrev pub cut_among : List Literal → ℕ → List (ℕ × ℕ) → Option Term
cut_among ls d pairs = summed ls pairs >>= λ f. cut_of d f

-- the atom is stated, and the number is that of its literal
abbrev pub States : List Entry → Term → Progress → Progress → Option ℕ → Type 0
States types a old new None = ⊥
States types a old new (Some k) = Grows types old new × (literal_at new.node.literals k ≡ Some (holding a))

-- where the cut states a bound
abbrev pub StatesCut : List Entry → ℕ → List (ℕ × ℕ) → Progress → Progress → Option ℕ → Type 0
StatesCut types d pairs old new o = (s t : Term) → cut_among old.node.literals d pairs ≡ Some (two at_most s t) → States types (two at_most s t) old new o

-- each multiplier twice
abbrev pub twice : List (ℕ × ℕ) → List (ℕ × ℕ)
twice ps = map (λ (p : ℕ × ℕ). (2 * p.0, p.1)) ps

-- these are the pairs, and there are some
abbrev pub ArePairs : List (ℕ × ℕ) → Option (List (ℕ × ℕ)) → Type 0
ArePairs ps None = ⊥
ArePairs ps (Some qs) = qs ≡ ps

-- the sum is cut by the divisor; by 2, where that is 1, of the sum taken twice
abbrev pub StatesBy : Bool → List Entry → ℕ → List (ℕ × ℕ) → Progress → Progress → Option ℕ → Type 0
StatesBy true types d pairs old new o = all_fit (twice pairs) ≡ true → StatesCut types 2 (twice pairs) old new o
StatesBy false types d pairs old new o = StatesCut types d pairs old new o

-- so for the common divisor of the sum's coefficients
abbrev pub StatesDivided : List Entry → List (ℕ × ℕ) → Progress → Progress → Option ℕ → Type 0
StatesDivided types pairs old new o = (at : ℕ → Term) (f : Linear ℕ) → summed old.node.literals pairs ≡ Some (seen at f) → StatesBy (common f.parts == 1) types (common f.parts) pairs old new o

-- a literal with this form is stated or there, and the number is its
abbrev pub Gives : List Entry → Node → Linear ℕ → Progress → Progress → Option ℕ → Type 0
Gives types base f old new None = ⊥
Gives types base f old new (Some k) = Grows types old new × IsNamed base new.node.literals k f
