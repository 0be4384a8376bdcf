-- Literals by their numbers, which terms they join, and which formula a step adds.
use Rattle.std.specs.Prelude.{ℕ, ◌-◌, ◌==◌, List, [], ◌∷◌, Bool, true, false, ◌&&◌, ◌||◌, not, if◌then◌else◌, Option, None, slice_get}
pub use Rattle.wy_facts.specs.Schema.{only_if}
use Rattle.wy_lin.specs.wy_term.Term.{Term, Of, Parts, no_parts, part, two, Not, at_most, equal}
use Rattle.wy_lin.specs.wy_term.Same.{same_symbol, same_term}
use Rattle.wy_lin.specs.wy_term.Sorts.{Sort, int_sort, val_sort, sort_in}
use Rattle.wy_check_spec.specs.judge.Node.{Literal, has_literal, Node}
use Rattle.wy_check_spec.specs.declared.judge.verdict.Verdict.{Verdict}
use Rattle.wy_check_spec.specs.declared.judge.verdict.Verdict.TheVariants.{Yes, No, Open}
use Rattle.wy_check_spec.specs.judge.Judgement.{judged}

-- the literal with this number, from 1
abbrev pub literal_at : List Literal → ℕ → Option Literal
literal_at ls i = if i == 0 then None else slice_get ls (i - 1)

-- an atom, or its denial
abbrev pub signed : Term → Bool → Term
signed a true = a
signed a false = Not a

-- the formula that a literal says
abbrev pub formula_of : Literal → Term
formula_of l = signed l.atom l.holds

-- the atom stands among the literals
abbrev pub has_atom : List Literal → Term → Bool
has_atom ls a = has_literal ls (record { atom = a; holds = true })

-- ---- a node that can't be

-- one of these literals is denied by one of all
abbrev pub stands_both_ways : List Literal → List Literal → Bool
stands_both_ways all [] = false
stands_both_ways all (l ∷ ls) = has_literal all (record { atom = l.atom; holds = not l.holds }) || stands_both_ways all ls

abbrev pub is_no : Verdict → Bool
is_no Yes = false
is_no No = true
is_no Open = false

-- one of these formulas is judged no
abbrev pub any_no : List Literal → List Term → Bool
any_no ls [] = false
any_no ls (f ∷ fs) = is_no (judged ls f) || any_no ls fs

-- a literal stands both ways, or a pending formula is judged no
abbrev pub is_shut : Node → Bool
is_shut node = stands_both_ways node.literals node.literals || any_no node.literals node.pending

-- ---- joined terms

-- an equation of the two terms, in either order, is a literal
abbrev pub are_equated : List Literal → Term → Term → Bool
are_equated ls v w = has_atom ls (two equal v w) || has_atom ls (two equal w v)

-- each of the two is at most the other, by two literals
abbrev pub are_between : List Literal → Term → Term → Bool
are_between ls s t = has_atom ls (two at_most s t) && has_atom ls (two at_most t s)

abbrev pub joined_by : Sort → Sort → List Literal → Term → Term → Bool
joined_by int_sort int_sort ls s t = are_between ls s t
joined_by val_sort val_sort ls s t = are_equated ls s t
joined_by a b ls s t = false

-- two Int terms are joined by two literals, two Val terms by an equation
abbrev pub are_joined : List Literal → Term → Term → Bool
are_joined ls s t = joined_by (sort_in s) (sort_in t) ls s t

-- the arguments are pairwise the same or joined
abbrev pub arguments_joined : List Literal → Parts → Parts → Bool
arguments_joined ls no_parts no_parts = true
arguments_joined ls no_parts (part t ts) = false
arguments_joined ls (part s ss) no_parts = false
arguments_joined ls (part s ss) (part t ts) = (same_term s t || are_joined ls s t) && arguments_joined ls ss ts

-- the terms have one head, and their arguments are pairwise the same or joined
abbrev pub are_alike : List Literal → Term → Term → Bool
are_alike ls (Of a ps) (Of b qs) = same_symbol a b && arguments_joined ls ps qs

-- each of these terms is joined with the one before it, or alike
abbrev pub is_chain : List Literal → Term → List Term → Bool
is_chain ls s [] = true
is_chain ls s (t ∷ ts) = (are_joined ls s t || are_alike ls s t) && is_chain ls t ts

-- the last of these terms
abbrev pub last_of : Term → List Term → Term
last_of s [] = s
last_of s (t ∷ ts) = last_of t ts
