-- Terms and formulas, each folded as it is made.
use Rattle.std.specs.Prelude.{ℕ, List, [], ◌∷◌, Bool, true, false, ℤ}
use Rattle.wy_sem.specs.wy_term.Term.{DataKind, Symbol, Term, Of, Parts, no_parts, part}
use Rattle.wy_sem.specs.wy_term.Term as term
use Rattle.wy_sem.specs.wy_term.Folding.{folded}

abbrev pub leaf : Symbol → Term
leaf symbol = folded (Of symbol no_parts)

abbrev pub of_one : Symbol → Term → Term
of_one symbol s = folded (Of symbol (part s no_parts))

abbrev pub of_two : Symbol → Term → Term → Term
of_two symbol s t = folded (Of symbol (part s (part t no_parts)))

abbrev pub of_three : Symbol → Term → Term → Term → Term
of_three symbol s t u = folded (Of symbol (part s (part t (part u no_parts))))

abbrev pub parts_of : List Term → Parts
parts_of [] = no_parts
parts_of (t ∷ ts) = part t (parts_of ts)

abbrev pub of_all : Symbol → List Term → Term
of_all symbol ts = folded (Of symbol (parts_of ts))

-- ---- Int terms

abbrev pub number_of : ℤ → Term
number_of z = leaf (term.number z)

abbrev pub int_name : List ℕ → ℕ → Term
int_name word n = leaf (term.int_name word n)

abbrev pub num : Term → Term
num v = of_one term.num v

abbrev pub len : Term → Term
len v = of_one term.len v

-- ---- Val terms

abbrev pub val_name : List ℕ → ℕ → Term
val_name word n = leaf (term.val_name word n)

abbrev pub null : Term
null = leaf term.null

abbrev pub truth : Bool → Term
truth b = leaf (term.truth b)

abbrev pub int : Term → Term
int s = of_one term.int s

-- the truth of a formula, as a datum
abbrev pub value_of : Term → Term
value_of f = of_one term.bool f

abbrev pub get : Term → Term → Term
get v s = of_two term.get v s

abbrev pub field : List ℕ → Term → Term
field name v = of_one (term.field name) v

-- ---- formulas

abbrev pub all_of : List Term → Term
all_of fs = of_all term.all_of fs

abbrev pub any_of : List Term → Term
any_of fs = of_all term.any_of fs

abbrev pub falsehood : Term
falsehood = any_of []

abbrev pub denied : Term → Term
denied f = of_one term.denied f

abbrev pub at_most : Term → Term → Term
at_most s t = of_two term.at_most s t

-- s < t: not t <= s
abbrev pub less_than : Term → Term → Term
less_than s t = denied (at_most t s)

abbrev pub equal : Term → Term → Term
equal v w = of_two term.equal v w

abbrev pub of_kind : DataKind → Term → Term
of_kind kind v = of_one (term.of_kind kind) v

abbrev pub in_type : ℕ → Term → Term
in_type n v = of_one (term.in_type n) v

-- a truth value as a formula: it is `true`
abbrev pub formula : Term → Term
formula v = equal v (truth true)

-- `all` or `some` of a name from a number on and below another
abbrev pub bound : Bool → List ℕ → ℕ → Term → Term → Term → Term
bound true word n s t f = of_three (term.every word n) s t f
bound false word n s t f = of_three (term.exists word n) s t f
