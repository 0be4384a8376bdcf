-- Terms and formulas as they are made: folded, from their parts up.
use Rattle.wy_term_subst.specs.wy_term.Term.{Symbol, Term, Of, no_parts, part, one, two, at_most, equal, denied, all_of, any_of}
use Rattle.wy_term_subst.specs.wy_term.Folding.{folded}

-- a term of one part
abbrev pub made_one : Symbol → Term → Term
made_one symbol s = folded (one symbol s)

-- a term of two parts
abbrev pub made_two : Symbol → Term → Term → Term
made_two symbol s t = folded (two symbol s t)

-- s <= t
abbrev pub is_at_most : Term → Term → Term
is_at_most s t = made_two at_most s t

-- v = w
abbrev pub is_equal : Term → Term → Term
is_equal v w = made_two equal v w

abbrev pub denial : Term → Term
denial f = made_one denied f

-- s < t
abbrev pub is_below : Term → Term → Term
is_below s t = denial (is_at_most t s)

abbrev pub both : Term → Term → Term
both f g = folded (Of all_of (part f (part g no_parts)))

abbrev pub all_three : Term → Term → Term → Term
all_three f g h = folded (Of all_of (part f (part g (part h no_parts))))

abbrev pub all_four : Term → Term → Term → Term → Term
all_four f g h k = folded (Of all_of (part f (part g (part h (part k no_parts)))))

abbrev pub either : Term → Term → Term
either f g = folded (Of any_of (part f (part g no_parts)))

abbrev pub one_of_three : Term → Term → Term → Term
one_of_three f g h = folded (Of any_of (part f (part g (part h no_parts))))

-- f implies g
abbrev pub implies : Term → Term → Term
implies f g = either (denial f) g

-- f holds exactly where g does
abbrev pub exactly_where : Term → Term → Term
exactly_where f g = both (implies f g) (implies g f)

-- two Int terms are equal
abbrev pub same_number : Term → Term → Term
same_number s t = both (is_at_most s t) (is_at_most t s)
