-- What is made of terms of the sorts of its places is of its own sort.
use Rattle.std.proofs.Common.{ℕ, List, [], ◌∷◌, ◌++◌, Bool, true, false, ℤ, refl}
use Rattle.wy_vc_spec.specs.wy_core.declared.expressions.Op.{Op}
use Rattle.wy_vc_spec.specs.wy_core.declared.expressions.Op.TheVariants.{Add, Sub, Mul, Div, Mod, Equal, Less, LessEqual, Greater, GreaterEqual, And, Or}
use Rattle.wy_term_subst.specs.wy_term.Term as term
use Rattle.wy_term_subst.specs.wy_term.Term.{DataKind, Term, Of, no_parts, part}
use Rattle.wy_term_subst.specs.wy_term.Sorts.{Sort, int_sort, val_sort, formula_sort}
use Rattle.wy_term_subst.specs.sorted.Sorted.{each, AreSorted}
use Rattle.wy_term_subst.specs.kept_sorts.SortKept.{HasSort}
use Rattle.wy_term_subst.proofs.kept_sorts_lemmas.SortLemmas.{folded_sorted}
use Rattle.wy_vc_spec.specs.Making.{parts_of, number_of, int_name, num, len, val_name, null, truth, int, value_of, get, field, all_of, any_of, falsehood, denied, at_most, less_than, equal, of_kind, in_type, formula, bound}
use Rattle.wy_vc_spec.specs.Operations as op

-- ---- terms of a sort

-- the term is of the sort, and its parts are of the sorts of their places
pub record IsOf (sort : Sort) (t : Term) : Type 0 where
  pub has : HasSort t sort

-- so is each of these
pub data AllOf (sort : Sort) : List Term → Type 0 where
  none : AllOf sort []
  more : {t : Term} {ts : List Term} → IsOf sort t → AllOf sort ts → AllOf sort (t ∷ ts)

pub all_before : {sort : Sort} {ts us : List Term} → AllOf sort ts → AllOf sort us → AllOf sort (ts ++ us)
all_before none also = also
all_before (more h all) also = more h (all_before all also)

pub parts_sorted : {sort : Sort} {ts : List Term} → AllOf sort ts → AreSorted (parts_of ts) (each sort)
parts_sorted none = tt
parts_sorted (more h all) = (h.has.1, h.has.0, parts_sorted all)

-- ---- Int terms

pub number_sorted : (z : ℤ) → IsOf int_sort (number_of z)
number_sorted z = record { has = (tt, refl) }

pub int_name_sorted : (word : List ℕ) (n : ℕ) → IsOf int_sort (int_name word n)
int_name_sorted word n = record { has = (tt, refl) }

pub num_sorted : {v : Term} → IsOf val_sort v → IsOf int_sort (num v)
num_sorted {v} h = record { has = folded_sorted (Of term.num (part v no_parts)) (h.has.1, h.has.0, tt) }

pub len_sorted : {v : Term} → IsOf val_sort v → IsOf int_sort (len v)
len_sorted {v} h = record { has = folded_sorted (Of term.len (part v no_parts)) (h.has.1, h.has.0, tt) }

-- ---- Val terms

pub val_name_sorted : (word : List ℕ) (n : ℕ) → IsOf val_sort (val_name word n)
val_name_sorted word n = record { has = (tt, refl) }

pub null_sorted : IsOf val_sort null
null_sorted = record { has = (tt, refl) }

pub truth_sorted : (b : Bool) → IsOf val_sort (truth b)
truth_sorted b = record { has = (tt, refl) }

pub int_sorted : {s : Term} → IsOf int_sort s → IsOf val_sort (int s)
int_sorted {s} h = record { has = folded_sorted (Of term.int (part s no_parts)) (h.has.1, h.has.0, tt) }

pub value_sorted : {f : Term} → IsOf formula_sort f → IsOf val_sort (value_of f)
value_sorted {f} h = record { has = folded_sorted (Of term.bool (part f no_parts)) (h.has.1, h.has.0, tt) }

pub get_sorted : {v s : Term} → IsOf val_sort v → IsOf int_sort s → IsOf val_sort (get v s)
get_sorted {v} {s} h g = record { has = folded_sorted (Of term.get (part v (part s no_parts))) (h.has.1, h.has.0, (g.has.1, g.has.0, tt)) }

pub field_sorted : (name : List ℕ) {v : Term} → IsOf val_sort v → IsOf val_sort (field name v)
field_sorted name {v} h = record { has = folded_sorted (Of (term.field name) (part v no_parts)) (h.has.1, h.has.0, tt) }

-- ---- formulas

pub all_sorted : {fs : List Term} → AllOf formula_sort fs → IsOf formula_sort (all_of fs)
all_sorted {fs} all = record { has = folded_sorted (Of term.all_of (parts_of fs)) (parts_sorted all) }

pub any_sorted : {fs : List Term} → AllOf formula_sort fs → IsOf formula_sort (any_of fs)
any_sorted {fs} all = record { has = folded_sorted (Of term.any_of (parts_of fs)) (parts_sorted all) }

pub falsehood_sorted : IsOf formula_sort falsehood
falsehood_sorted = any_sorted none

pub denied_sorted : {f : Term} → IsOf formula_sort f → IsOf formula_sort (denied f)
denied_sorted {f} h = record { has = folded_sorted (Of term.denied (part f no_parts)) (h.has.1, h.has.0, tt) }

pub at_most_sorted : {s t : Term} → IsOf int_sort s → IsOf int_sort t → IsOf formula_sort (at_most s t)
at_most_sorted {s} {t} h g = record { has = folded_sorted (Of term.at_most (part s (part t no_parts))) (h.has.1, h.has.0, (g.has.1, g.has.0, tt)) }

pub less_sorted : {s t : Term} → IsOf int_sort s → IsOf int_sort t → IsOf formula_sort (less_than s t)
less_sorted h g = denied_sorted (at_most_sorted g h)

pub equal_sorted : {v w : Term} → IsOf val_sort v → IsOf val_sort w → IsOf formula_sort (equal v w)
equal_sorted {v} {w} h g = record { has = folded_sorted (Of term.equal (part v (part w no_parts))) (h.has.1, h.has.0, (g.has.1, g.has.0, tt)) }

pub kind_sorted : (kind : DataKind) {v : Term} → IsOf val_sort v → IsOf formula_sort (of_kind kind v)
kind_sorted kind {v} h = record { has = folded_sorted (Of (term.of_kind kind) (part v no_parts)) (h.has.1, h.has.0, tt) }

pub in_type_sorted : (n : ℕ) {v : Term} → IsOf val_sort v → IsOf formula_sort (in_type n v)
in_type_sorted n {v} h = record { has = folded_sorted (Of (term.in_type n) (part v no_parts)) (h.has.1, h.has.0, tt) }

pub formula_sorted : {v : Term} → IsOf val_sort v → IsOf formula_sort (formula v)
formula_sorted h = equal_sorted h (truth_sorted true)

pub bound_sorted : (all : Bool) (word : List ℕ) (n : ℕ) {s t f : Term} → IsOf int_sort s → IsOf int_sort t → IsOf formula_sort f → IsOf formula_sort (bound all word n s t f)
bound_sorted true word n {s} {t} {f} a b c =
    record { has = folded_sorted (Of (term.every word n) (part s (part t (part f no_parts)))) (a.has.1, a.has.0, (b.has.1, b.has.0, (c.has.1, c.has.0, tt))) }
bound_sorted false word n {s} {t} {f} a b c =
    record { has = folded_sorted (Of (term.exists word n) (part s (part t (part f no_parts)))) (a.has.1, a.has.0, (b.has.1, b.has.0, (c.has.1, c.has.0, tt))) }

-- ---- operations on data

pub negated_sorted : {v : Term} → IsOf val_sort v → IsOf val_sort (op.negated v)
negated_sorted {v} h = let n = num_sorted h in int_sorted (record { has = folded_sorted (Of term.neg (part (num v) no_parts)) (n.has.1, n.has.0, tt) })

pub denial_sorted : {v : Term} → IsOf val_sort v → IsOf val_sort (op.with_denial v)
denial_sorted h = value_sorted (denied_sorted (formula_sorted h))

pub length_sorted : {v : Term} → IsOf val_sort v → IsOf val_sort (op.length v)
length_sorted h = int_sorted (len_sorted h)

pub element_sorted : {v i : Term} → IsOf val_sort v → IsOf val_sort i → IsOf val_sort (op.element v i)
element_sorted h g = get_sorted h (num_sorted g)

pub repeated_sorted : {v n : Term} → IsOf val_sort v → IsOf val_sort n → IsOf val_sort (op.repeated v n)
repeated_sorted {v} {n} h g = let m = num_sorted g in record { has = folded_sorted (Of term.repeat (part v (part (num n) no_parts))) (h.has.1, h.has.0, (m.has.1, m.has.0, tt)) }

pub with_element_sorted : {v i w : Term} → IsOf val_sort v → IsOf val_sort i → IsOf val_sort w → IsOf val_sort (op.with_element v i w)
with_element_sorted {v} {i} {w} h g f =
    let m = num_sorted g in record { has = folded_sorted (Of term.update (part v (part (num i) (part w no_parts)))) (h.has.1, h.has.0, (m.has.1, m.has.0, (f.has.1, f.has.0, tt))) }

pub with_field_sorted : (name : List ℕ) {v w : Term} → IsOf val_sort v → IsOf val_sort w → IsOf val_sort (op.with_field name v w)
with_field_sorted name {v} {w} h g = record { has = folded_sorted (Of (term.set_field name) (part v (part w no_parts))) (h.has.1, h.has.0, (g.has.1, g.has.0, tt)) }

pub list_sorted : {vs : List Term} → AllOf val_sort vs → IsOf val_sort (op.list vs)
list_sorted {vs} all = record { has = folded_sorted (Of term.array (parts_of vs)) (parts_sorted all) }

pub record_sorted : (names : List (List ℕ)) {vs : List Term} → AllOf val_sort vs → IsOf val_sort (op.record_of names vs)
record_sorted names {vs} all = record { has = folded_sorted (Of (term.fields names) (parts_of vs)) (parts_sorted all) }

equality_sorted : (numbers : Bool) {v w : Term} → IsOf val_sort v → IsOf val_sort w → IsOf val_sort (op.equality numbers v w)
equality_sorted true h g = value_sorted (all_sorted (more (at_most_sorted (num_sorted h) (num_sorted g)) (more (at_most_sorted (num_sorted g) (num_sorted h)) none)))
equality_sorted false h g = value_sorted (equal_sorted h g)

pub operated_sorted : (o : Op) (numbers : Bool) {v w : Term} → IsOf val_sort v → IsOf val_sort w → IsOf val_sort (op.operated o numbers v w)
operated_sorted Add numbers {v} {w} h g =
    let a = num_sorted h in let b = num_sorted g in int_sorted (record { has = folded_sorted (Of term.add (part (num v) (part (num w) no_parts))) (a.has.1, a.has.0, (b.has.1, b.has.0, tt)) })
operated_sorted Sub numbers {v} {w} h g =
    let a = num_sorted h in let b = num_sorted g in int_sorted (record { has = folded_sorted (Of term.sub (part (num v) (part (num w) no_parts))) (a.has.1, a.has.0, (b.has.1, b.has.0, tt)) })
operated_sorted Mul numbers {v} {w} h g =
    let a = num_sorted h in let b = num_sorted g in int_sorted (record { has = folded_sorted (Of term.mul (part (num v) (part (num w) no_parts))) (a.has.1, a.has.0, (b.has.1, b.has.0, tt)) })
operated_sorted Div numbers {v} {w} h g =
    let a = num_sorted h in let b = num_sorted g in int_sorted (record { has = folded_sorted (Of term.div (part (num v) (part (num w) no_parts))) (a.has.1, a.has.0, (b.has.1, b.has.0, tt)) })
operated_sorted Mod numbers {v} {w} h g =
    let a = num_sorted h in let b = num_sorted g in int_sorted (record { has = folded_sorted (Of term.rem (part (num v) (part (num w) no_parts))) (a.has.1, a.has.0, (b.has.1, b.has.0, tt)) })
operated_sorted Equal numbers h g = equality_sorted numbers h g
operated_sorted Less numbers h g = value_sorted (less_sorted (num_sorted h) (num_sorted g))
operated_sorted LessEqual numbers h g = value_sorted (at_most_sorted (num_sorted h) (num_sorted g))
operated_sorted Greater numbers h g = value_sorted (less_sorted (num_sorted g) (num_sorted h))
operated_sorted GreaterEqual numbers h g = value_sorted (at_most_sorted (num_sorted g) (num_sorted h))
operated_sorted And numbers h g = value_sorted (all_sorted (more (formula_sorted h) (more (formula_sorted g) none)))
operated_sorted Or numbers h g = value_sorted (any_sorted (more (formula_sorted h) (more (formula_sorted g) none)))

pub quantified_sorted : (all : Bool) (word : List ℕ) (n : ℕ) {v w u : Term} → IsOf val_sort v → IsOf val_sort w → IsOf val_sort u → IsOf val_sort (op.quantified all word n v w u)
quantified_sorted all word n h g f = value_sorted (bound_sorted all word n (num_sorted h) (num_sorted g) (formula_sorted f))
