-- Made terms and formulas are of their sorts.
use Rattle.std.proofs.Common.{ℕ, List, ℤ, refl}
use Rattle.wy_check_spec.specs.wy_term.Term as term
use Rattle.wy_check_spec.specs.wy_term.Term.{DataKind, Term, Of, no_parts, part, one, two, Number}
use Rattle.wy_check_spec.specs.wy_term.Sorts.{int_sort, val_sort, formula_sort}
use Rattle.wy_check_spec.specs.wy_term_subst.kept_sorts.SortKept.{HasSort}
use Rattle.wy_check_spec.proofs.wy_term_subst_proofs.kept_sorts_lemmas.SortLemmas.{folded_sorted}
use Rattle.wy_check_spec.specs.wy_facts.Made.{made_one, made_two, is_at_most, is_equal, denial, is_below, both, all_three, all_four, either, one_of_three, implies, exactly_where, same_number}

abbrev pub IsInt : Term → Type 0
IsInt t = HasSort t int_sort

abbrev pub IsVal : Term → Type 0
IsVal t = HasSort t val_sort

abbrev pub IsFormula : Term → Type 0
IsFormula t = HasSort t formula_sort

pub number_sorted : (z : ℤ) → IsInt (Number z)
number_sorted z = (tt, refl)

pub at_most_sorted : (s t : Term) → IsInt s → IsInt t → IsFormula (is_at_most s t)
at_most_sorted s t f g = folded_sorted (two term.at_most s t) (f.1, f.0, (g.1, g.0, tt))

pub equal_sorted : (v w : Term) → IsVal v → IsVal w → IsFormula (is_equal v w)
equal_sorted v w f g = folded_sorted (two term.equal v w) (f.1, f.0, (g.1, g.0, tt))

pub denial_sorted : (f : Term) → IsFormula f → IsFormula (denial f)
denial_sorted f g = folded_sorted (one term.denied f) (g.1, g.0, tt)

pub below_sorted : (s t : Term) → IsInt s → IsInt t → IsFormula (is_below s t)
below_sorted s t f g = denial_sorted (is_at_most t s) (at_most_sorted t s g f)

pub both_sorted : (f g : Term) → IsFormula f → IsFormula g → IsFormula (both f g)
both_sorted f g a b = folded_sorted (Of term.all_of (part f (part g no_parts))) (a.1, a.0, (b.1, b.0, tt))

pub three_sorted : (f g h : Term) → IsFormula f → IsFormula g → IsFormula h → IsFormula (all_three f g h)
three_sorted f g h a b c = folded_sorted (Of term.all_of (part f (part g (part h no_parts)))) (a.1, a.0, (b.1, b.0, (c.1, c.0, tt)))

pub four_sorted : (f g h k : Term) → IsFormula f → IsFormula g → IsFormula h → IsFormula k → IsFormula (all_four f g h k)
four_sorted f g h k a b c d = folded_sorted (Of term.all_of (part f (part g (part h (part k no_parts))))) (a.1, a.0, (b.1, b.0, (c.1, c.0, (d.1, d.0, tt))))

pub either_sorted : (f g : Term) → IsFormula f → IsFormula g → IsFormula (either f g)
either_sorted f g a b = folded_sorted (Of term.any_of (part f (part g no_parts))) (a.1, a.0, (b.1, b.0, tt))

pub one_of_three_sorted : (f g h : Term) → IsFormula f → IsFormula g → IsFormula h → IsFormula (one_of_three f g h)
one_of_three_sorted f g h a b c = folded_sorted (Of term.any_of (part f (part g (part h no_parts)))) (a.1, a.0, (b.1, b.0, (c.1, c.0, tt)))

pub implies_sorted : (f g : Term) → IsFormula f → IsFormula g → IsFormula (implies f g)
implies_sorted f g a b = either_sorted (denial f) g (denial_sorted f a) b

pub exactly_sorted : (f g : Term) → IsFormula f → IsFormula g → IsFormula (exactly_where f g)
exactly_sorted f g a b = both_sorted (implies f g) (implies g f) (implies_sorted f g a b) (implies_sorted g f b a)

pub same_number_sorted : (s t : Term) → IsInt s → IsInt t → IsFormula (same_number s t)
same_number_sorted s t a b = both_sorted (is_at_most s t) (is_at_most t s) (at_most_sorted s t a b) (at_most_sorted t s b a)

pub len_sorted : (v : Term) → IsVal v → IsInt (made_one term.len v)
len_sorted v f = folded_sorted (one term.len v) (f.1, f.0, tt)

pub num_sorted : (v : Term) → IsVal v → IsInt (made_one term.num v)
num_sorted v f = folded_sorted (one term.num v) (f.1, f.0, tt)

pub int_sorted : (s : Term) → IsInt s → IsVal (made_one term.int s)
int_sorted s f = folded_sorted (one term.int s) (f.1, f.0, tt)

pub neg_sorted : (s : Term) → IsInt s → IsInt (made_one term.neg s)
neg_sorted s f = folded_sorted (one term.neg s) (f.1, f.0, tt)

pub kind_sorted : (kind : DataKind) (v : Term) → IsVal v → IsFormula (made_one (term.of_kind kind) v)
kind_sorted kind v f = folded_sorted (one (term.of_kind kind) v) (f.1, f.0, tt)

pub field_sorted : (name : List ℕ) (v : Term) → IsVal v → IsVal (made_one (term.field name) v)
field_sorted name v f = folded_sorted (one (term.field name) v) (f.1, f.0, tt)

pub add_sorted : (s t : Term) → IsInt s → IsInt t → IsInt (made_two term.add s t)
add_sorted s t f g = folded_sorted (two term.add s t) (f.1, f.0, (g.1, g.0, tt))

pub mul_sorted : (s t : Term) → IsInt s → IsInt t → IsInt (made_two term.mul s t)
mul_sorted s t f g = folded_sorted (two term.mul s t) (f.1, f.0, (g.1, g.0, tt))

pub div_sorted : (s t : Term) → IsInt s → IsInt t → IsInt (made_two term.div s t)
div_sorted s t f g = folded_sorted (two term.div s t) (f.1, f.0, (g.1, g.0, tt))

pub rem_sorted : (s t : Term) → IsInt s → IsInt t → IsInt (made_two term.rem s t)
rem_sorted s t f g = folded_sorted (two term.rem s t) (f.1, f.0, (g.1, g.0, tt))

pub get_sorted : (v s : Term) → IsVal v → IsInt s → IsVal (made_two term.get v s)
get_sorted v s f g = folded_sorted (two term.get v s) (f.1, f.0, (g.1, g.0, tt))
