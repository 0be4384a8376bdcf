-- How the code keeps what a term is made of, and the names and numbers in it.
use Rattle.std.specs.Prelude.{◌≡◌, ℕ, ◌<◌, ◌≤◌, List, [], ◌∷◌, ◌++◌, length, Bool, true, false, ◌&&◌, ◌||◌, bytes_eq, nat_eq}
use Rattle.std.specs.HashSet.{contains}
use Rattle.wy_term.specs.Term.{Symbol, Term, Of}
use Rattle.wy_term.specs.Nodes.{Plain, tree_at}
use Rattle.wy_term_subst.specs.declared.names.Taken.{Taken}
use Rattle.wy_term_subst.specs.Names.{any_symbol, numbers_by, is_in, top}

-- what the old numbers name, they still name
pub record Kept (old new : List Plain) : Type 0 where
  pub grows : length old ≤ length new
  pub trees : (t : ℕ) → t < length old → tree_at new t ≡ tree_at old t

abbrev pub symbol_in : Term → Symbol
symbol_in (Of symbol ps) = symbol

-- the symbol at the root of the term with this number
abbrev pub symbol_at : List Plain → ℕ → Symbol
symbol_at nodes k = symbol_in (tree_at nodes k)

-- ---- what a term is made of

-- the test holds of the symbol of one of these terms
abbrev pub any_at : List Plain → (Symbol → Bool) → List ℕ → Bool
any_at nodes test [] = false
any_at nodes test (k ∷ ks) = test (symbol_at nodes k) || any_at nodes test ks

-- each of these numbers is noted
abbrev pub all_noted : (ℕ → Bool) → List ℕ → Bool
all_noted noted [] = true
all_noted noted (k ∷ ks) = noted k && all_noted noted ks

-- each symbol in the term with the number k stands in that with the number root
abbrev pub IsInside : List Plain → ℕ → ℕ → Type 0
IsInside nodes root k = (k < length nodes) × ((test : Symbol → Bool) → any_symbol test (tree_at nodes k) ≡ true → any_symbol test (tree_at nodes root) ≡ true)

abbrev pub AreInside : List Plain → ℕ → List ℕ → Type 0
AreInside nodes root [] = Unit {0}
AreInside nodes root (k ∷ ks) = IsInside nodes root k × AreInside nodes root ks

-- the terms that are listed stand in the root, and with each that is noted all that it is made of is listed
pub record IsListed (nodes : List Plain) (root : ℕ) (all : List ℕ) (noted : ℕ → Bool) (todo : List ℕ) : Type 0 where
  pub below : AreInside nodes root all
  pub inside : (test : Symbol → Bool) → any_at nodes test all ≡ true → any_symbol test (tree_at nodes root) ≡ true
  pub whole : (q : ℕ) → noted q ≡ true → (test : Symbol → Bool) → any_symbol test (tree_at nodes q) ≡ true → any_at nodes test all ≡ true
  pub left : AreInside nodes root todo

-- ---- numbers

-- these numbers, and before them those of the names that these terms are, or bind, the last one first
abbrev pub noted_numbers : List Plain → List ℕ → List ℕ → List ℕ
noted_numbers nodes [] ns = ns
noted_numbers nodes (k ∷ ks) ns = noted_numbers nodes ks (numbers_by (symbol_at nodes k) ++ ns)

-- the numbers that are taken are these
pub record Counts (taken : Taken) (ns : List ℕ) : Type 0 where
  pub numbers : (n : ℕ) → contains nat_eq taken.numbers n ≡ is_in n ns
  pub greatest : taken.greatest ≡ top ns

-- ---- names

-- the two names have one word and one number
abbrev pub same_name : List ℕ × ℕ → List ℕ × ℕ → Bool
same_name p q = bytes_eq p.0 q.0 && nat_eq p.1 q.1
