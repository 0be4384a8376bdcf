-- The classes of the least congruence that has a node's equations, and when they clash.
use Rattle.std.specs.Prelude.{ℕ, zero, suc, List, [], ◌∷◌, ◌++◌, map, length, ◌==◌, Bool, true, false, ◌&&◌, ◌||◌, if◌then◌else◌, Option, Some, None, slice_index}
use Rattle.wy_check_spec.specs.wy_term.Term.{DataKind, Term, Of, Parts, no_parts, part, equal, of_kind}
use Rattle.wy_check_spec.specs.wy_term.Same.{same_symbol, same_term}
use Rattle.wy_check_spec.specs.wy_term.Rewriting.{as_constant, kind_given}
use Rattle.wy_check_spec.specs.judge.Node.{Literal, Node}
use Rattle.wy_check_spec.specs.valid.Kinds.{Kinded, are_apart, in_two_kinds, in_one_kind}
use Rattle.wy_search_spec.specs.Standing.{present}

-- ---- classes, each as a label of its terms

-- where, from a number on, the term stands
abbrev pub place_from : List Term → Term → ℕ → Option ℕ
place_from [] t k = None
place_from (u ∷ us) t k = if same_term u t then Some k else place_from us t (suc k)

abbrev pub label_of : List ℕ → Option ℕ → Option ℕ
label_of labels None = None
label_of labels (Some k) = Some (slice_index labels k)

abbrev pub same_label : Option ℕ → Option ℕ → Bool
same_label None b = false
same_label (Some a) None = false
same_label (Some a) (Some b) = a == b

-- the terms are equal, or both are present and in one class
abbrev pub in_one_class : List Term → List ℕ → Term → Term → Bool
in_one_class ts labels s t = same_term s t || same_label (label_of labels (place_from ts s 0)) (label_of labels (place_from ts t 0))

abbrev pub arguments_equal : List Term → List ℕ → Parts → Parts → Bool
arguments_equal ts labels no_parts no_parts = true
arguments_equal ts labels no_parts (part t qs) = false
arguments_equal ts labels (part s ps) no_parts = false
arguments_equal ts labels (part s ps) (part t qs) = in_one_class ts labels s t && arguments_equal ts labels ps qs

-- one head, and arguments that are pairwise in one class
abbrev pub are_congruent : List Term → List ℕ → Term → Term → Bool
are_congruent ts labels (Of a ps) (Of b qs) = same_symbol a b && arguments_equal ts labels ps qs

-- the label of one class becomes that of another
abbrev pub relabelled : ℕ → ℕ → List ℕ → List ℕ
relabelled from into labels = map (λ l. if l == from then into else l) labels

abbrev pub joined : List ℕ → Option ℕ → Option ℕ → List ℕ
joined labels None b = labels
joined labels (Some a) None = labels
joined labels (Some a) (Some b) = relabelled a b labels

-- the classes of two terms become one
abbrev pub with_equal : List Term → List ℕ → Term → Term → List ℕ
with_equal ts labels s t = joined labels (label_of labels (place_from ts s 0)) (label_of labels (place_from ts t 0))

-- so for both sides of each equation among the literals
abbrev pub with_literal : List Term → List ℕ → Bool → Term → List ℕ
with_literal ts labels true (Of equal (part v (part w no_parts))) = with_equal ts labels v w
with_literal ts labels holds a = labels

abbrev pub with_equations : List Term → List ℕ → List Literal → List ℕ
with_equations ts labels [] = labels
with_equations ts labels (l ∷ ls) = with_equations ts (with_literal ts labels l.holds l.atom) ls

-- and for a term and each that is congruent to it
abbrev pub with_congruent : List Term → List ℕ → Term → List Term → List ℕ
with_congruent ts labels s [] = labels
with_congruent ts labels s (t ∷ us) = with_congruent ts (if are_congruent ts labels s t then with_equal ts labels s t else labels) s us

abbrev pub with_all_congruent : List Term → List ℕ → List Term → List ℕ
with_all_congruent ts labels [] = labels
with_all_congruent ts labels (s ∷ us) = with_all_congruent ts (with_congruent ts labels s ts) us

-- each round but the last joins two classes, so there are at most as many as terms
abbrev pub rounds : ℕ → List Term → List ℕ → List ℕ
rounds zero ts labels = labels
rounds (suc n) ts labels = rounds n ts (with_all_congruent ts labels ts)

abbrev pub numbers_from : ℕ → List Term → List ℕ
numbers_from k [] = []
numbers_from k (t ∷ ts) = k ∷ numbers_from (suc k) ts

-- the labels of the terms' classes in the least congruence
abbrev pub classes : List Term → List Literal → List ℕ
classes ts ls = rounds (length ts) ts (with_equations ts (numbers_from 0 ts) ls)

-- ---- clashes

-- a denied equation stands inside a class
abbrev pub denies_equal : List Term → List ℕ → Bool → Term → Bool
denies_equal ts labels false (Of equal (part v (part w no_parts))) = in_one_class ts labels v w
denies_equal ts labels holds a = false

abbrev pub any_denies : List Term → List ℕ → List Literal → Bool
any_denies ts labels [] = false
any_denies ts labels (l ∷ ls) = denies_equal ts labels l.holds l.atom || any_denies ts labels ls

-- two different constants in one class
abbrev pub constants_apart : List Term → List ℕ → Term → List Term → Bool
constants_apart ts labels s [] = false
constants_apart ts labels s (t ∷ us) = (are_apart (as_constant s) (as_constant t) && in_one_class ts labels s t) || constants_apart ts labels s us

abbrev pub any_apart : List Term → List ℕ → List Term → Bool
any_apart ts labels [] = false
any_apart ts labels (s ∷ us) = constants_apart ts labels s ts || any_apart ts labels us

-- the kinds that literals give or deny, by their sign
abbrev pub kind_by : Bool → Bool → Term → List Kinded
kind_by true true (Of (of_kind kind) (part v no_parts)) = (v, kind) ∷ []
kind_by false false (Of (of_kind kind) (part v no_parts)) = (v, kind) ∷ []
kind_by sign holds a = []

abbrev pub kinds_by : Bool → List Literal → List Kinded
kinds_by sign [] = []
kinds_by sign (l ∷ ls) = kind_by sign l.holds l.atom ++ kinds_by sign ls

abbrev pub own_kind : Term → Option DataKind → List Kinded
own_kind t None = []
own_kind t (Some kind) = (t, kind) ∷ []

-- the kinds of constants and constructors
abbrev pub own_kinds : List Term → List Kinded
own_kinds [] = []
own_kinds (t ∷ ts) = own_kind t (kind_given t) ++ own_kinds ts

-- the test holds of the kinds of two terms in one class
abbrev pub kinds_with : (Kinded → Kinded → Bool) → List Term → List ℕ → Kinded → List Kinded → Bool
kinds_with test ts labels p [] = false
kinds_with test ts labels p (q ∷ qs) = (in_one_class ts labels p.0 q.0 && test p (p.0, q.1)) || kinds_with test ts labels p qs

abbrev pub any_kinds : (Kinded → Kinded → Bool) → List Term → List ℕ → List Kinded → List Kinded → Bool
any_kinds test ts labels [] qs = false
any_kinds test ts labels (p ∷ ps) qs = kinds_with test ts labels p qs || any_kinds test ts labels ps qs

abbrev pub classes_clash : List Term → List ℕ → List Literal → Bool
classes_clash ts labels ls =
    any_denies ts labels ls || (any_apart ts labels ts
    || (any_kinds in_two_kinds ts labels (kinds_by true ls ++ own_kinds ts) (kinds_by true ls ++ own_kinds ts)
    || any_kinds in_one_kind ts labels (kinds_by true ls ++ own_kinds ts) (kinds_by false ls)))

-- the classes of the node clash
abbrev pub clashes : Node → Bool
clashes node = classes_clash (present node) (classes (present node) node.literals) node.literals
