-- Congruences on the terms present that have a node's equations, and what the classes are among them.
use Rattle.std.specs.Prelude.{◌≡◌, ◌⊎◌, List, Bool, true}
use Rattle.wy_check_spec.specs.wy_term.Term.{Symbol, Term, Of, Parts, no_parts, part, two, equal}
use Rattle.wy_check_spec.specs.judge.Node.{Literal, has_formula, has_literal}
use Rattle.wy_search_spec.specs.Classes.{classes, in_one_class}

-- the term is one of the list
abbrev pub IsAmong : List Term → Term → Type 0
IsAmong ts t = has_formula ts t ≡ true

-- the test relates the two terms, which are both of the list
pub record AreBoth (ts : List Term) (R : Term → Term → Bool) (s t : Term) : Type 0 where
  pub first : IsAmong ts s
  pub second : IsAmong ts t
  pub related : R s t ≡ true

-- as many parts of both, which are pairwise one term or two related ones of the list
abbrev pub AreAlike : List Term → (Term → Term → Bool) → Parts → Parts → Type 0
AreAlike ts R no_parts no_parts = Unit {0}
AreAlike ts R no_parts (part t qs) = ⊥
AreAlike ts R (part s ps) no_parts = ⊥
AreAlike ts R (part s ps) (part t qs) = ((s ≡ t) ⊎ AreBoth ts R s t) × AreAlike ts R ps qs

-- The test says which terms of the list are equal: an equivalence that has both sides of each equation among the literals, and each two terms of one symbol with such parts. A part that isn't of the list, as a formula, is equal to itself alone.
pub record IsCongruence (ts : List Term) (ls : List Literal) (R : Term → Term → Bool) : Type 0 where
  pub reflexive : (t : Term) → IsAmong ts t → R t t ≡ true
  pub symmetric : (s t : Term) → IsAmong ts s → IsAmong ts t → R s t ≡ true → R t s ≡ true
  pub transitive : (s t u : Term) → IsAmong ts s → IsAmong ts t → IsAmong ts u → R s t ≡ true → R t u ≡ true → R s u ≡ true
  pub has : (v w : Term) → IsAmong ts v → IsAmong ts w → has_literal ls (record { atom = two equal v w; holds = true }) ≡ true → R v w ≡ true
  pub congruent : (a : Symbol) (ps qs : Parts) → IsAmong ts (Of a ps) → IsAmong ts (Of a qs) → AreAlike ts R ps qs → R (Of a ps) (Of a qs) ≡ true

-- the two terms are equal in the least congruence on the list that has the equations: in each one
abbrev pub AreSame : List Term → List Literal → Term → Term → Type 0
AreSame ts ls s t = (R : Term → Term → Bool) → IsCongruence ts ls R → R s t ≡ true

-- two terms of the list are in one class exactly where they are equal in the least congruence
pub record AreLeast (ts : List Term) (ls : List Literal) (s t : Term) : Type 0 where
  pub sound : in_one_class ts (classes ts ls) s t ≡ true → AreSame ts ls s t
  pub least : AreSame ts ls s t → in_one_class ts (classes ts ls) s t ≡ true

-- so for each two terms of each list
abbrev pub ClassesAreLeast : Type 0
ClassesAreLeast = (ts : List Term) (ls : List Literal) (s t : Term) → IsAmong ts s → IsAmong ts t → AreLeast ts ls s t

-- the classes are themselves such a congruence
abbrev pub ClassesAreCongruent : Type 0
ClassesAreCongruent = (ts : List Term) (ls : List Literal) → IsCongruence ts ls (in_one_class ts (classes ts ls))
