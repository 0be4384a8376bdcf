-- What the code's nodes stand for, where `at` gives the term of a number.
use Rattle.std.specs.Prelude.{◌≡◌, ℕ, ◌<◌, List, [], ◌∷◌, ◌++◌, ◌-◌, ◌==◌, ◌&&◌, Bool, true, false, Option, None, if◌then◌else◌, slice_get, map, All, length, nat_eq}
use Rattle.std.specs.Bool.{beq}
use Rattle.wy_check_spec.specs.wy_term.Term.{Term, Of, no_parts, part, Not, denied}
use Rattle.wy_check_spec.specs.wy_term.Nodes.{Plain, tree_at}
use Rattle.wy_check_spec.specs.judge.Node.{Literal, Node}
use Rattle.wy_check_nodes.specs.declared.branch.Branch.{Branch}

abbrev pub seen_literal : (ℕ → Term) → ℕ × Bool → Literal
seen_literal at p = record { atom = at p.0; holds = p.1 }

-- the formula, or its denial
abbrev pub signed : Term → Bool → Term
signed f true = f
signed f false = Not f

abbrev pub seen_formula : (ℕ → Term) → ℕ × Bool → Term
seen_formula at p = signed (at p.0) p.1

-- the node that the code's node stands for
abbrev pub seen_branch : (ℕ → Term) → Branch → Node
seen_branch at b = record { literals = map (seen_literal at) b.literals.keys; pending = map (seen_formula at) b.pending.keys }

-- the numbers are those of the first n terms
abbrev pub AreBelow : ℕ → List ℕ → Type 0
AreBelow n ks = All (λ k. k < n) ks

abbrev pub AreOver : ℕ → List (ℕ × Bool) → Type 0
AreOver n [] = Unit {0}
AreOver n (p ∷ ps) = (p.0 < n) × AreOver n ps

-- the formula is a denial
abbrev pub is_denied : Term → Bool
is_denied (Of denied (part f no_parts)) = true
is_denied f = false

-- a denial is given by the formula that it denies
abbrev pub IsBare : (ℕ → Term) → ℕ × Bool → Type 0
IsBare at p = p.1 ≡ true → is_denied (at p.0) ≡ false

abbrev pub AreBare : (ℕ → Term) → List (ℕ × Bool) → Type 0
AreBare at [] = Unit {0}
AreBare at (p ∷ ps) = IsBare at p × AreBare at ps

-- the numbers in a node are those of terms, and none of its pending formulas is given as a denial
pub record IsBranch (nodes : List Plain) (b : Branch) : Type 0 where
  pub literals : AreOver (length nodes) b.literals.keys
  pub pending : AreOver (length nodes) b.pending.keys
  pub bare : AreBare (tree_at nodes) b.pending.keys

-- the two pairs are equal
abbrev pub same_signed : ℕ × Bool → ℕ × Bool → Bool
same_signed p q = nat_eq p.0 q.0 && beq p.1 q.1

-- the second list begins with the first
abbrev pub StartsWith : List (ℕ × Bool) → List (ℕ × Bool) → Type 0
StartsWith xs ys = (more : List (ℕ × Bool)) × (ys ≡ xs ++ more)

-- the second node has what the first has, and behind it more
pub record Extends (b c : Branch) : Type 0 where
  pub literals : StartsWith b.literals.keys c.literals.keys
  pub pending : StartsWith b.pending.keys c.pending.keys

-- the literal with this number, from 1
abbrev pub literal_numbered : List Literal → ℕ → Option Literal
literal_numbered ls i = if i == 0 then None else slice_get ls (i - 1)
