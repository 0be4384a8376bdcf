-- Terms that are one or joined, and chains between them.
use Rattle.std.proofs.Common.{◌≡◌, ◌⊎◌, ◌∙◌, List, true, ◌||◌, inl, inr, refl, sym, ap, subst}
use Rattle.wy_lemmas.proofs.Choices.{both_parts as and_both, or_left as first_true, both_true, or_right as second_true}
use Rattle.wy_search_bounds.specs.wy_term.Term.{Symbol, Term, Of, Parts, no_parts, part, two, at_most, equal}
use Rattle.wy_search_bounds.specs.wy_term.Same.{same_symbol, same_term}
use Rattle.wy_search_bounds.specs.wy_term.Sorts.{Sort, int_sort, val_sort, formula_sort, sort_in}
use Rattle.wy_search_bounds.proofs.wy_term_proofs.SameLemmas.{terms_are, terms_self, symbols_self}
use Rattle.wy_search_bounds.specs.wy_check_spec.judge.Node.{Literal, Node}
use Rattle.wy_search_bounds.specs.wy_check_spec.valid.Literals.{has_atom, are_equated, are_between, joined_by, are_joined, arguments_joined, are_alike}
use Rattle.wy_search_bounds.proofs.wy_check_laws_proofs.sound_lemmas.Basics.{or_cases}
use Rattle.wy_search_laws.specs.chains.Chains.{HasLiterals}

-- ---- turned

equated_turned : (ls : List Literal) (s t : Term) → are_equated ls s t ≡ true → are_equated ls t s ≡ true
equated_turned ls s t e =
    or_cases (has_atom ls (two equal s t)) (has_atom ls (two equal t s)) (are_equated ls t s ≡ true) e
    (λ f. second_true (has_atom ls (two equal t s)) (has_atom ls (two equal s t)) f)
    (λ f. first_true (has_atom ls (two equal t s)) (has_atom ls (two equal s t)) f)

between_turned : (ls : List Literal) (s t : Term) → are_between ls s t ≡ true → are_between ls t s ≡ true
between_turned ls s t e =
    let h = and_both (has_atom ls (two at_most s t)) (has_atom ls (two at_most t s)) e in
    both_true (has_atom ls (two at_most t s)) (has_atom ls (two at_most s t)) h.1 h.0

joined_by_turned : (a b : Sort) (ls : List Literal) (s t : Term) → joined_by a b ls s t ≡ true → joined_by b a ls t s ≡ true
joined_by_turned int_sort int_sort ls s t e = between_turned ls s t e
joined_by_turned val_sort val_sort ls s t e = equated_turned ls s t e
joined_by_turned a b ls s t e = absurd cc

pub joined_turned : (ls : List Literal) (s t : Term) → are_joined ls s t ≡ true → are_joined ls t s ≡ true
joined_turned ls s t e = joined_by_turned (sort_in s) (sort_in t) ls s t e

one_turned : (ls : List Literal) (s t : Term) → (same_term s t || are_joined ls s t) ≡ true → (same_term t s || are_joined ls t s) ≡ true
one_turned ls s t e =
    or_cases (same_term s t) (are_joined ls s t) ((same_term t s || are_joined ls t s) ≡ true) e
    (λ f. first_true (same_term t s) (are_joined ls t s) (ap (λ (x : Term). same_term t x) (terms_are s t f) ∙ terms_self t))
    (λ f. second_true (same_term t s) (are_joined ls t s) (joined_turned ls s t f))

pub arguments_turned : (ls : List Literal) (ps qs : Parts) → arguments_joined ls ps qs ≡ true → arguments_joined ls qs ps ≡ true
arguments_turned ls no_parts no_parts e = refl
arguments_turned ls no_parts (part t qs) e = absurd cc
arguments_turned ls (part s ps) no_parts e = absurd cc
arguments_turned ls (part s ps) (part t qs) e =
    let h = and_both (same_term s t || are_joined ls s t) (arguments_joined ls ps qs) e in
    both_true (same_term t s || are_joined ls t s) (arguments_joined ls qs ps) (one_turned ls s t h.0) (arguments_turned ls ps qs h.1)

pub alike : (ls : List Literal) (a : Symbol) (ps qs : Parts) → arguments_joined ls ps qs ≡ true → are_alike ls (Of a ps) (Of a qs) ≡ true
alike ls a ps qs e = both_true (same_symbol a a) (arguments_joined ls ps qs) (symbols_self a) e

-- ---- with more literals

joined_by_more : (n m : Node) → HasLiterals n m → (a b : Sort) (s t : Term) → joined_by a b n.literals s t ≡ true → joined_by a b m.literals s t ≡ true
joined_by_more n m h int_sort int_sort s t e =
    let g = and_both (has_atom n.literals (two at_most s t)) (has_atom n.literals (two at_most t s)) e in
    both_true (has_atom m.literals (two at_most s t)) (has_atom m.literals (two at_most t s)) (h.has (record { atom = two at_most s t; holds = true }) g.0) (h.has (record { atom = two at_most t s; holds = true }) g.1)
joined_by_more n m h val_sort val_sort s t e =
    or_cases (has_atom n.literals (two equal s t)) (has_atom n.literals (two equal t s)) (are_equated m.literals s t ≡ true) e
    (λ f. first_true (has_atom m.literals (two equal s t)) (has_atom m.literals (two equal t s)) (h.has (record { atom = two equal s t; holds = true }) f))
    (λ f. second_true (has_atom m.literals (two equal s t)) (has_atom m.literals (two equal t s)) (h.has (record { atom = two equal t s; holds = true }) f))
joined_by_more n m h a b s t e = absurd cc

pub joined_more : (n m : Node) → HasLiterals n m → (s t : Term) → are_joined n.literals s t ≡ true → are_joined m.literals s t ≡ true
joined_more n m h s t e = joined_by_more n m h (sort_in s) (sort_in t) s t e

-- ---- links

-- the terms are one, or joined by literals of the node
abbrev pub AreLinked : Node → Term → Term → Type 0
AreLinked node s t = (s ≡ t) ⊎ (are_joined node.literals s t ≡ true)

pub linked_turned : (node : Node) (s t : Term) → AreLinked node s t → AreLinked node t s
linked_turned node s t (inl e) = inl (sym e)
linked_turned node s t (inr e) = inr (joined_turned node.literals s t e)

pub linked_more : (n m : Node) → HasLiterals n m → (s t : Term) → AreLinked n s t → AreLinked m s t
linked_more n m h s t (inl e) = inl e
linked_more n m h s t (inr e) = inr (joined_more n m h s t e)

-- so two arguments of one place may differ
pub linked_argument : (node : Node) (s t : Term) → AreLinked node s t → (same_term s t || are_joined node.literals s t) ≡ true
linked_argument node s t (inl e) = first_true (same_term s t) (are_joined node.literals s t) (ap (λ (x : Term). same_term s x) (sym e) ∙ terms_self s)
linked_argument node s t (inr e) = second_true (same_term s t) (are_joined node.literals s t) e

-- a Val term is joined by an equation
equated_by : (b : Sort) (ls : List Literal) (s t : Term) → joined_by val_sort b ls s t ≡ true → are_equated ls s t ≡ true
equated_by int_sort ls s t e = absurd cc
equated_by val_sort ls s t e = e
equated_by formula_sort ls s t e = absurd cc

pub equated : (ls : List Literal) (s t : Term) → sort_in s ≡ val_sort → are_joined ls s t ≡ true → are_equated ls s t ≡ true
equated ls s t is e = equated_by (sort_in t) ls s t (subst (λ (a : Sort). joined_by a (sort_in t) ls s t ≡ true) is e)

-- an equation of two Val terms joins them
pub equation_joins : (ls : List Literal) (s t : Term) → sort_in s ≡ val_sort → sort_in t ≡ val_sort → has_atom ls (two equal s t) ≡ true → are_joined ls s t ≡ true
equation_joins ls s t is it e =
    subst (λ (a : Sort). joined_by a (sort_in t) ls s t ≡ true) (sym is)
    (subst (λ (b : Sort). joined_by val_sort b ls s t ≡ true) (sym it) (first_true (has_atom ls (two equal s t)) (has_atom ls (two equal t s)) e))

-- and so do two bounds of two Int terms
pub bounds_join : (ls : List Literal) (s t : Term) → sort_in s ≡ int_sort → sort_in t ≡ int_sort → has_atom ls (two at_most s t) ≡ true → has_atom ls (two at_most t s) ≡ true → are_joined ls s t ≡ true
bounds_join ls s t is it e f =
    subst (λ (a : Sort). joined_by a (sort_in t) ls s t ≡ true) (sym is)
    (subst (λ (b : Sort). joined_by int_sort b ls s t ≡ true) (sym it) (both_true (has_atom ls (two at_most s t)) (has_atom ls (two at_most t s)) e f))
