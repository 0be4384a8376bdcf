-- Congruences that have a node's equations, and what the classes are in each of them.
use Rattle.std.specs.Prelude.{◌≡◌, List, Bool, true}
use Rattle.wy_term.specs.Term.{Symbol, Term, Of, Parts, no_parts, part, two, equal}
use Rattle.wy_search_spec.specs.wy_check_spec.judge.Node.{Literal, has_literal}
use Rattle.wy_search_spec.specs.Classes.{classes, in_one_class}

-- pairwise related, and as many of both
abbrev pub AreRelated : (Term → Term → Bool) → Parts → Parts → Type 0
AreRelated R no_parts no_parts = Unit {0}
AreRelated R no_parts (part t qs) = ⊥
AreRelated R (part s ps) no_parts = ⊥
AreRelated R (part s ps) (part t qs) = (R s t ≡ true) × AreRelated R ps qs

-- an equivalence of terms that has both sides of each equation among the literals, and each two terms of one symbol with such parts
pub record IsCongruence (ls : List Literal) (R : Term → Term → Bool) : Type 0 where
  pub reflexive : (t : Term) → R t t ≡ true
  pub symmetric : (s t : Term) → R s t ≡ true → R t s ≡ true
  pub transitive : (s t u : Term) → R s t ≡ true → R t u ≡ true → R s u ≡ true
  pub has : (v w : Term) → has_literal ls (record { atom = two equal v w; holds = true }) ≡ true → R v w ≡ true
  pub congruent : (a : Symbol) (ps qs : Parts) → AreRelated R ps qs → R (Of a ps) (Of a qs) ≡ true

-- terms in one class are equal in each congruence that has the equations
abbrev pub ClassesAreSound : Type 0
ClassesAreSound = (ts : List Term) (ls : List Literal) (R : Term → Term → Bool) → IsCongruence ls R → (s t : Term) → in_one_class ts (classes ts ls) s t ≡ true → R s t ≡ true
