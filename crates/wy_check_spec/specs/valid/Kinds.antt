-- Which kinds literals give to terms, and when literals can't be by the kinds that they give.
use Rattle.std.specs.Prelude.{List, [], ◌∷◌, ◌++◌, Bool, true, false, ◌&&◌, ◌||◌, not, if◌then◌else◌, Option, Some, None}
use Rattle.wy_cert.specs.wy_value.Datum.{Datum}
use Rattle.wy_lin.specs.wy_term.Data.{same_datum}
use Rattle.wy_lin.specs.wy_term.Term.{DataKind, Term, Of, no_parts, part, equal, of_kind}
use Rattle.wy_lin.specs.wy_term.Same.{same_kind, same_term}
use Rattle.wy_lin.specs.wy_term.Rewriting.{as_constant, kind_given}
use Rattle.wy_check_spec.specs.judge.Node.{Literal}

-- ---- one literal

abbrev pub are_apart : Option Datum → Option Datum → Bool
are_apart (Some d) (Some e) = not (same_datum d e)
are_apart (Some d) None = false
are_apart None e = false

abbrev pub of_two_kinds : Option DataKind → Option DataKind → Bool
of_two_kinds (Some k) (Some l) = not (same_kind k l)
of_two_kinds (Some k) None = false
of_two_kinds None l = false

-- an atom with this sign denies that a term is itself, or equates two different constants, or two constants or written out data of different kinds
abbrev pub clashes_with : Bool → Term → Bool
clashes_with true (Of equal (part v (part w no_parts))) = are_apart (as_constant v) (as_constant w) || of_two_kinds (kind_given v) (kind_given w)
clashes_with false (Of equal (part v (part w no_parts))) = same_term v w
clashes_with holds a = false

abbrev pub clashes_alone : Literal → Bool
clashes_alone l = clashes_with l.holds l.atom

-- ---- two literals

-- the other side of an equation of which this term is a side
abbrev pub other_side : Term → Term → Term → List Term
other_side v w s = (if same_term v s then w ∷ [] else []) ++ (if same_term w s then v ∷ [] else [])

abbrev pub sides_of : Bool → Term → Term → List Term
sides_of true (Of equal (part v (part w no_parts))) s = other_side v w s
sides_of holds a s = []

-- the terms that an equation among the literals joins to this one
abbrev pub equated_to : List Literal → Term → List Term
equated_to [] s = []
equated_to (l ∷ ls) s = sides_of l.holds l.atom s ++ equated_to ls s

-- a term with a kind
abbrev pub Kinded : Type 0
Kinded = Term × DataKind

abbrev pub each_of_kind : DataKind → List Term → List Kinded
each_of_kind kind [] = []
each_of_kind kind (t ∷ ts) = (t, kind) ∷ each_of_kind kind ts

-- a term that is equated with something of this kind, if it is of a known one
abbrev pub of_kind_given : Term → Option DataKind → List Kinded
of_kind_given t None = []
of_kind_given t (Some kind) = (t, kind) ∷ []

abbrev pub given_by : Bool → Term → List Literal → List Kinded
given_by true (Of (of_kind kind) (part s no_parts)) ls = each_of_kind kind (s ∷ equated_to ls s)
given_by true (Of equal (part v (part w no_parts))) ls = of_kind_given v (kind_given w) ++ of_kind_given w (kind_given v)
given_by holds a ls = []

-- the kinds that a literal gives: to a term and what is joined to it, where it says its kind; to a side of an equation, where the other is a constant or written out
abbrev pub kinds_given : List Literal → Literal → List Kinded
kinds_given ls l = given_by l.holds l.atom ls

abbrev pub denied_by : Bool → Term → List Literal → List Kinded
denied_by false (Of (of_kind kind) (part s no_parts)) ls = each_of_kind kind (s ∷ equated_to ls s)
denied_by holds a ls = []

-- the kinds that a literal denies, to a term and what is joined to it
abbrev pub kinds_denied : List Literal → Literal → List Kinded
kinds_denied ls l = denied_by l.holds l.atom ls

abbrev pub in_two_kinds : Kinded → Kinded → Bool
in_two_kinds p q = same_term p.0 q.0 && not (same_kind p.1 q.1)

abbrev pub in_one_kind : Kinded → Kinded → Bool
in_one_kind p q = same_term p.0 q.0 && same_kind p.1 q.1

abbrev pub any_with : (Kinded → Kinded → Bool) → Kinded → List Kinded → Bool
any_with test p [] = false
any_with test p (q ∷ qs) = test p q || any_with test p qs

-- the test holds of one of the first and one of the second
abbrev pub any_pair : (Kinded → Kinded → Bool) → List Kinded → List Kinded → Bool
any_pair test [] qs = false
any_pair test (p ∷ ps) qs = any_with test p qs || any_pair test ps qs

-- the two literals give one term two kinds, or one gives a kind that the other denies
abbrev pub clash_together : List Literal → Literal → Literal → Bool
clash_together ls l k =
    any_pair in_two_kinds (kinds_given ls l) (kinds_given ls k) || (any_pair in_one_kind (kinds_given ls l) (kinds_denied ls k) || any_pair in_one_kind (kinds_denied ls l) (kinds_given ls k))
