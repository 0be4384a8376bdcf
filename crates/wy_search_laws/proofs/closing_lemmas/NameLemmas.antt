-- Which names are written in a node that has a formula more, and what nodes with the same names have in common.
use Rattle.std.proofs.Common.{◌≡◌, ◌⊎◌, ◌+◌, ℕ, zero, suc, List, [], ◌∷◌, ◌++◌, Bool, true, false, cond, ltb, ◌||◌, inl, inr, refl, sym, ap, ◌∙◌}
use Rattle.std.specs.Prelude.{◌^◌}
use Rattle.wy_lemmas.proofs.Choices.{or_none, or_cases as or_either, same_test as both_ways_same, or_left, or_right, or_assoc}
use Rattle.wy_search_bounds.specs.wy_term.Term as term
use Rattle.wy_search_bounds.specs.wy_term.Term.{Symbol, Term, Of, Parts, no_parts, part, Not, leaf, int_name}
use Rattle.wy_search_bounds.specs.wy_term.Same.{same_term}
use Rattle.wy_search_bounds.proofs.wy_term_proofs.SameLemmas.{terms_are, terms_self}
use Rattle.wy_search_bounds.specs.wy_term_subst.Names.{any_symbol, any_in_parts, numbers_in, is_in, top, first_free, new_number}
use Rattle.wy_search_bounds.proofs.wy_term_subst_proofs.NameLemmas.{is_in-append, has_number, is_in-numbers_in, top_same}
use Rattle.wy_search_bounds.specs.wy_check_spec.judge.Node.{Literal, Node, same_literal, has_literal, has_formula, with_literal, with_pending, is_atom, with_atom, added, added_denial, denied_one, added_all, denied_all, with_formulas}
use Rattle.wy_search_bounds.specs.wy_check_spec.valid.Ranges.{Range, numbers_in_literals, numbers_in_formulas, numbers_in_node, witness}
use Rattle.wy_search_laws.specs.closing.AtLeast.{IsAtLeast, any_in_literals, any_in_formulas, any_in_node, TestsNames, IsNear}
use Rattle.wy_search_laws.proofs.closing_lemmas.AtLeastLemmas.{literal_is, literal_self, at_least_self, at_least_added, at_least_denied}

-- ---- truth values

or_swap : (a b c : Bool) → ((a || b) || c) ≡ ((a || c) || b)
or_swap true b c = refl
or_swap false true true = refl
or_swap false true false = refl
or_swap false false true = refl
or_swap false false false = refl

-- what is one of them adds nothing
or_in : (a b : Bool) → (b ≡ true → a ≡ true) → a ≡ (a || b)
or_in true b h = refl
or_in false true h = h refl
or_in false false h = refl

-- ---- symbols of a node

module _ (test : Symbol → Bool) where
  any_literals_push : (ls : List Literal) (k : Literal) → any_in_literals test (ls ++ k ∷ []) ≡ (any_in_literals test ls || any_symbol test k.atom)
  any_literals_push [] k = or_none (any_symbol test k.atom)
  any_literals_push (l ∷ ls) k = ap (λ (b : Bool). any_symbol test l.atom || b) (any_literals_push ls k) ∙ sym (or_assoc (any_symbol test l.atom) (any_in_literals test ls) (any_symbol test k.atom))

  any_formulas_push : (fs : List Term) (g : Term) → any_in_formulas test (fs ++ g ∷ []) ≡ (any_in_formulas test fs || any_symbol test g)
  any_formulas_push [] g = or_none (any_symbol test g)
  any_formulas_push (f ∷ fs) g = ap (λ (b : Bool). any_symbol test f || b) (any_formulas_push fs g) ∙ sym (or_assoc (any_symbol test f) (any_in_formulas test fs) (any_symbol test g))

  pub any_literal_there : (ls : List Literal) (k : Literal) → has_literal ls k ≡ true → any_symbol test k.atom ≡ true → any_in_literals test ls ≡ true
  any_literal_there [] k e f = absurd cc
  any_literal_there (l ∷ ls) k e f = by (same_literal l k) refl e (λ h. any_literal_there ls k h f)
    where
      by : (b : Bool) → same_literal l k ≡ b → cond b true (has_literal ls k) ≡ true → (has_literal ls k ≡ true → any_in_literals test ls ≡ true) → (any_symbol test l.atom || any_in_literals test ls) ≡ true
      by true g h rest = or_left (any_symbol test l.atom) (any_in_literals test ls) (ap (λ (m : Literal). any_symbol test m.atom) (literal_is l k g) ∙ f)
      by false g h rest = or_right (any_symbol test l.atom) (any_in_literals test ls) (rest h)

  any_formula_there : (fs : List Term) (g : Term) → has_formula fs g ≡ true → any_symbol test g ≡ true → any_in_formulas test fs ≡ true
  any_formula_there [] g e h = absurd cc
  any_formula_there (f ∷ fs) g e h = by (same_term f g) refl e (λ i. any_formula_there fs g i h)
    where
      by : (b : Bool) → same_term f g ≡ b → cond b true (has_formula fs g) ≡ true → (has_formula fs g ≡ true → any_in_formulas test fs ≡ true) → (any_symbol test f || any_in_formulas test fs) ≡ true
      by true k i rest = or_left (any_symbol test f) (any_in_formulas test fs) (ap (any_symbol test) (terms_are f g k) ∙ h)
      by false k i rest = or_right (any_symbol test f) (any_in_formulas test fs) (rest i)

  any_literal : (node : Node) (k : Literal) → any_in_node test (with_literal node k) ≡ (any_in_node test node || any_symbol test k.atom)
  any_literal node k = by (has_literal node.literals k) refl
    where
      by : (b : Bool) → has_literal node.literals k ≡ b → any_in_node test (cond b node (record { literals = node.literals ++ k ∷ []; pending = node.pending })) ≡ (any_in_node test node || any_symbol test k.atom)
      by true e = or_in (any_in_node test node) (any_symbol test k.atom) (λ f. or_left (any_in_literals test node.literals) (any_in_formulas test node.pending) (any_literal_there node.literals k e f))
      by false e =
          ap (λ (b : Bool). b || any_in_formulas test node.pending) (any_literals_push node.literals k)
          ∙ or_swap (any_in_literals test node.literals) (any_symbol test k.atom) (any_in_formulas test node.pending)

  any_pending : (node : Node) (g : Term) → any_in_node test (with_pending node g) ≡ (any_in_node test node || any_symbol test g)
  any_pending node g = by (has_formula node.pending g) refl
    where
      by : (b : Bool) → has_formula node.pending g ≡ b → any_in_node test (cond b node (record { literals = node.literals; pending = node.pending ++ g ∷ [] })) ≡ (any_in_node test node || any_symbol test g)
      by true e = or_in (any_in_node test node) (any_symbol test g) (λ f. or_right (any_in_literals test node.literals) (any_in_formulas test node.pending) (any_formula_there node.pending g e f))
      by false e =
          ap (λ (b : Bool). any_in_literals test node.literals || b) (any_formulas_push node.pending g)
          ∙ sym (or_assoc (any_in_literals test node.literals) (any_in_formulas test node.pending) (any_symbol test g))

  any_in_more_literals : (ls more : List Literal) → ((l : Literal) → has_literal ls l ≡ true → has_literal more l ≡ true) → any_in_literals test ls ≡ true → any_in_literals test more ≡ true
  any_in_more_literals [] more among f = absurd cc
  any_in_more_literals (l ∷ ls) more among f = by (or_either (any_symbol test l.atom) (any_in_literals test ls) f) (λ g. any_in_more_literals ls more (λ k there. among k (right (same_literal l k) k there)) g)
    where
      right : (b : Bool) (k : Literal) → has_literal ls k ≡ true → cond b true (has_literal ls k) ≡ true
      right true k g = refl
      right false k g = g

      by : (any_symbol test l.atom ≡ true) ⊎ (any_in_literals test ls ≡ true) → (any_in_literals test ls ≡ true → any_in_literals test more ≡ true) → any_in_literals test more ≡ true
      by (inl g) rest = any_literal_there more l (among l (ap (λ (b : Bool). cond b true (has_literal ls l)) (literal_self l))) g
      by (inr g) rest = rest g

  any_in_more_formulas : (fs more : List Term) → ((f : Term) → has_formula fs f ≡ true → has_formula more f ≡ true) → any_in_formulas test fs ≡ true → any_in_formulas test more ≡ true
  any_in_more_formulas [] more among f = absurd cc
  any_in_more_formulas (g ∷ gs) more among f = by (or_either (any_symbol test g) (any_in_formulas test gs) f) (λ i. any_in_more_formulas gs more (λ k there. among k (right (same_term g k) k there)) i)
    where
      right : (b : Bool) (k : Term) → has_formula gs k ≡ true → cond b true (has_formula gs k) ≡ true
      right true k i = refl
      right false k i = i

      by : (any_symbol test g ≡ true) ⊎ (any_in_formulas test gs ≡ true) → (any_in_formulas test gs ≡ true → any_in_formulas test more ≡ true) → any_in_formulas test more ≡ true
      by (inl i) rest = any_formula_there more g (among g (ap (λ (b : Bool). cond b true (has_formula gs g)) (terms_self g))) i
      by (inr i) rest = rest i

  -- what a symbol of a node has, each node has that has at least as much
  pub any_more : (less more : Node) → IsAtLeast less more → any_in_node test less ≡ true → any_in_node test more ≡ true
  any_more less more h e = by (or_either (any_in_literals test less.literals) (any_in_formulas test less.pending) e)
    where
      by : (any_in_literals test less.literals ≡ true) ⊎ (any_in_formulas test less.pending ≡ true) → any_in_node test more ≡ true
      by (inl f) = or_left (any_in_literals test more.literals) (any_in_formulas test more.pending) (any_in_more_literals less.literals more.literals h.literals f)
      by (inr f) = or_right (any_in_literals test more.literals) (any_in_formulas test more.pending) (any_in_more_formulas less.pending more.pending h.pending f)

  -- ---- a formula more

  module _ (names : TestsNames test) where
    any_denial : (f : Term) → any_symbol test (Not f) ≡ any_symbol test f
    any_denial f = ap (λ (b : Bool). b || (any_symbol test f || false)) (names term.denied refl) ∙ or_none (any_symbol test f)

    any_atom : (node : Node) (f : Term) (holds : Bool) (whole : Term) → any_symbol test whole ≡ any_symbol test f → any_in_node test (with_atom node f holds whole) ≡ (any_in_node test node || any_symbol test f)
    any_atom node f holds whole same = by (is_atom f)
      where
        by : (b : Bool) → any_in_node test (cond b (with_literal node (record { atom = f; holds = holds })) (with_pending node whole)) ≡ (any_in_node test node || any_symbol test f)
        by true = any_literal node (record { atom = f; holds = holds })
        by false = any_pending node whole ∙ ap (λ (b : Bool). any_in_node test node || b) same

    under : (s : Symbol) (b c : Bool) → test s ≡ false → (b || c) ≡ (b || (test s || c))
    under s b c e = ap (λ (d : Bool). b || (d || c)) (sym e)

    mutual
      -- the symbols of a node with a formula more are those of the node and of the formula
      pub any_added : (node : Node) (f : Term) → any_in_node test (added node f) ≡ (any_in_node test node || any_symbol test f)
      any_added node (Of term.all_of ps) = any_added_all node ps ∙ under term.all_of (any_in_node test node) (any_in_parts test ps) (names term.all_of refl)
      any_added node (Of term.denied (part f no_parts)) = any_added_denial node f ∙ ap (λ (b : Bool). any_in_node test node || b) (sym (any_denial f))
      any_added node t = any_atom node t true t refl

      any_added_denial : (node : Node) (f : Term) → any_in_node test (added_denial node f) ≡ (any_in_node test node || any_symbol test f)
      any_added_denial node (Of term.any_of ps) = any_denied_all node ps ∙ under term.any_of (any_in_node test node) (any_in_parts test ps) (names term.any_of refl)
      any_added_denial node t = any_atom node t false (Not t) (any_denial t)

      pub any_denied : (node : Node) (f : Term) → any_in_node test (denied_one node f) ≡ (any_in_node test node || any_symbol test f)
      any_denied node (Of term.denied (part f no_parts)) = any_added node f ∙ ap (λ (b : Bool). any_in_node test node || b) (sym (any_denial f))
      any_denied node (Of term.any_of ps) = any_denied_all node ps ∙ under term.any_of (any_in_node test node) (any_in_parts test ps) (names term.any_of refl)
      any_denied node t = any_atom node t false (Not t) (any_denial t)

      any_added_all : (node : Node) (ps : Parts) → any_in_node test (added_all node ps) ≡ (any_in_node test node || any_in_parts test ps)
      any_added_all node no_parts = sym (or_none (any_in_node test node))
      any_added_all node (part f fs) =
          any_added_all (added node f) fs
          ∙ (ap (λ (b : Bool). b || any_in_parts test fs) (any_added node f) ∙ or_assoc (any_in_node test node) (any_symbol test f) (any_in_parts test fs))

      any_denied_all : (node : Node) (ps : Parts) → any_in_node test (denied_all node ps) ≡ (any_in_node test node || any_in_parts test ps)
      any_denied_all node no_parts = sym (or_none (any_in_node test node))
      any_denied_all node (part f fs) =
          any_denied_all (denied_one node f) fs
          ∙ (ap (λ (b : Bool). b || any_in_parts test fs) (any_denied node f) ∙ or_assoc (any_in_node test node) (any_symbol test f) (any_in_parts test fs))

-- ---- near nodes

pub near_self : (node : Node) → IsNear node node
near_self node = record { at_least = at_least_self node; names = λ test tests e. e }

-- names that stay among those of a node where both get the same
stays_among : (a b c d s : Bool) → (b ≡ true → a ≡ true) → c ≡ (a || s) → d ≡ (b || s) → d ≡ true → c ≡ true
stays_among a b c d s among is_c is_d e = is_c ∙ by (or_either b s (sym is_d ∙ e))
  where
    by : (b ≡ true) ⊎ (s ≡ true) → (a || s) ≡ true
    by (inl f) = or_left a s (among f)
    by (inr f) = or_right a s f

-- both with one formula more
pub near_added : (less more : Node) (f : Term) → IsNear less more → IsNear (added less f) (added more f)
near_added less more f h = record {
  at_least = at_least_added less more f h.at_least;
  names = λ test tests. stays_among (any_in_node test less) (any_in_node test more) (any_in_node test (added less f)) (any_in_node test (added more f)) (any_symbol test f) (h.names test tests) (any_added test tests less f) (any_added test tests more f);
}

pub near_denied : (less more : Node) (f : Term) → IsNear less more → IsNear (denied_one less f) (denied_one more f)
near_denied less more f h = record {
  at_least = at_least_denied less more f h.at_least;
  names = λ test tests. stays_among (any_in_node test less) (any_in_node test more) (any_in_node test (denied_one less f)) (any_in_node test (denied_one more f)) (any_symbol test f) (h.names test tests) (any_denied test tests less f) (any_denied test tests more f);
}

pub near_formulas : (less more : Node) (fs : List Term) → IsNear less more → IsNear (with_formulas less fs) (with_formulas more fs)
near_formulas less more [] h = h
near_formulas less more (f ∷ fs) h = near_formulas (added less f) (added more f) fs (near_added less more f h)

-- the names of a formula are those of a node
abbrev pub IsNamedIn : Term → Node → Type 0
IsNamedIn f node = (test : Symbol → Bool) → TestsNames test → any_symbol test f ≡ true → any_in_node test node ≡ true

-- ---- numbers of names

pub number_tests : (n : ℕ) → TestsNames (has_number n)
number_tests n s e = ap (is_in n) e

numbers_literals : (n : ℕ) (ls : List Literal) → is_in n (numbers_in_literals ls) ≡ any_in_literals (has_number n) ls
numbers_literals n [] = refl
numbers_literals n (l ∷ ls) =
    is_in-append n (numbers_in l.atom) (numbers_in_literals ls)
    ∙ (ap (λ (b : Bool). b || is_in n (numbers_in_literals ls)) (is_in-numbers_in n l.atom) ∙ ap (λ (b : Bool). any_symbol (has_number n) l.atom || b) (numbers_literals n ls))

numbers_formulas : (n : ℕ) (fs : List Term) → is_in n (numbers_in_formulas fs) ≡ any_in_formulas (has_number n) fs
numbers_formulas n [] = refl
numbers_formulas n (f ∷ fs) =
    is_in-append n (numbers_in f) (numbers_in_formulas fs)
    ∙ (ap (λ (b : Bool). b || is_in n (numbers_in_formulas fs)) (is_in-numbers_in n f) ∙ ap (λ (b : Bool). any_symbol (has_number n) f || b) (numbers_formulas n fs))

numbers_node : (n : ℕ) (node : Node) → is_in n (numbers_in_node node) ≡ any_in_node (has_number n) node
numbers_node n node =
    is_in-append n (numbers_in_literals node.literals) (numbers_in_formulas node.pending)
    ∙ (ap (λ (b : Bool). b || is_in n (numbers_in_formulas node.pending)) (numbers_literals n node.literals) ∙ ap (λ (b : Bool). any_in_literals (has_number n) node.literals || b) (numbers_formulas n node.pending))

-- near nodes have the same numbers of names
same_numbers : (less more : Node) → IsNear less more → (n : ℕ) → is_in n (numbers_in_node less) ≡ is_in n (numbers_in_node more)
same_numbers less more h n =
    numbers_node n less
    ∙ (both_ways_same (any_in_node (has_number n) less) (any_in_node (has_number n) more) (any_more (has_number n) less more h.at_least) (h.names (has_number n) (number_tests n))
    ∙ sym (numbers_node n more))

-- ---- a new number depends on which numbers there are alone

free_same : (ms ns : List ℕ) → ((n : ℕ) → is_in n ms ≡ is_in n ns) → (k n : ℕ) → first_free k n ms ≡ first_free k n ns
free_same ms ns same zero n = refl
free_same ms ns same (suc k) n = ap (λ (b : Bool). cond b (first_free k (n + 1) ms) n) (same n) ∙ ap (λ (m : ℕ). cond (is_in n ns) m n) (free_same ms ns same k (n + 1))

new_same : (ms ns : List ℕ) → ((n : ℕ) → is_in n ms ≡ is_in n ns) → new_number ms ≡ new_number ns
new_same ms ns same =
    ap (λ (t : ℕ). cond (ltb (t + 1) (2 ^ 127)) (t + 1) (first_free (t + 1) 0 ms)) (top_same ms ns same)
    ∙ ap (λ (m : ℕ). cond (ltb (top ns + 1) (2 ^ 127)) (top ns + 1) m) (free_same ms ns same (top ns + 1) 0)

-- a witness has one name in near nodes
pub witness_same : (less more : Node) (r : Range) → IsNear less more → witness less r ≡ witness more r
witness_same less more r h = ap (λ (n : ℕ). leaf (int_name r.word n)) (new_same (numbers_in_node less) (numbers_in_node more) (same_numbers less more h))
