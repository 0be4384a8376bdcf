-- What is made of terms has their free names, but for the one that a quantifier binds.
use Rattle.std.proofs.Common.{ℕ, List, [], ◌∷◌, Bool, true, false, ℤ}
use Rattle.wy_vc_spec.specs.wy_core.declared.expressions.Op.{Op}
use Rattle.wy_vc_spec.specs.wy_core.declared.expressions.Op.TheVariants.{Add, Sub, Mul, Div, Mod, Equal, Less, LessEqual, Greater, GreaterEqual, And, Or}
use Rattle.wy_term_subst.specs.wy_term.Term as term
use Rattle.wy_term_subst.specs.wy_term.Term.{DataKind, Term, Of, no_parts, part}
use Rattle.wy_term_subst.specs.wy_term.Rewriting.{as_number}
use Rattle.wy_term_subst.specs.wy_term.Folding.{span_of}
use Rattle.wy_vc_spec.specs.Making.{parts_of, number_of, int_name, num, len, null, truth, int, value_of, get, field, all_of, any_of, falsehood, denied, at_most, less_than, equal, of_kind, in_type, formula, bound}
use Rattle.wy_vc_spec.specs.Operations as op
use Rattle.wy_sound_terms.proofs.formed_lemmas.FreeLemmas.{IsWithin, AllWithin, no_part, and_part, part_names, range_within, made_within}

-- ---- lists of terms

pub data EachWithin (ps : List Term) : List Term → Type 0 where
  none : EachWithin ps []
  more : {t : Term} {ts : List Term} → IsWithin ps t → EachWithin ps ts → EachWithin ps (t ∷ ts)

list_within : {ps ts : List Term} → EachWithin ps ts → AllWithin ps (parts_of ts)
list_within none = no_part
list_within (more h all) = and_part h (list_within all)

-- ---- Int terms

pub number_within : {ps : List Term} (z : ℤ) → IsWithin ps (number_of z)
number_within z = record { names = tt }

pub num_within : {ps : List Term} {v : Term} → IsWithin ps v → IsWithin ps (num v)
num_within {v = v} h = made_within (Of term.num (part v no_parts)) (record { names = part_names (and_part h no_part) })

pub len_within : {ps : List Term} {v : Term} → IsWithin ps v → IsWithin ps (len v)
len_within {v = v} h = made_within (Of term.len (part v no_parts)) (record { names = part_names (and_part h no_part) })

-- ---- Val terms

pub null_within : {ps : List Term} → IsWithin ps null
null_within = record { names = tt }

pub truth_within : {ps : List Term} (b : Bool) → IsWithin ps (truth b)
truth_within b = record { names = tt }

pub int_within : {ps : List Term} {s : Term} → IsWithin ps s → IsWithin ps (int s)
int_within {s = s} h = made_within (Of term.int (part s no_parts)) (record { names = part_names (and_part h no_part) })

pub value_within : {ps : List Term} {f : Term} → IsWithin ps f → IsWithin ps (value_of f)
value_within {f = f} h = made_within (Of term.bool (part f no_parts)) (record { names = part_names (and_part h no_part) })

pub get_within : {ps : List Term} {v s : Term} → IsWithin ps v → IsWithin ps s → IsWithin ps (get v s)
get_within {v = v} {s = s} h g = made_within (Of term.get (part v (part s no_parts))) (record { names = part_names (and_part h (and_part g no_part)) })

pub field_within : {ps : List Term} (name : List ℕ) {v : Term} → IsWithin ps v → IsWithin ps (field name v)
field_within name {v} h = made_within (Of (term.field name) (part v no_parts)) (record { names = part_names (and_part h no_part) })

-- ---- formulas

pub all_within : {ps fs : List Term} → EachWithin ps fs → IsWithin ps (all_of fs)
all_within {fs = fs} all = made_within (Of term.all_of (parts_of fs)) (record { names = part_names (list_within all) })

pub any_within : {ps fs : List Term} → EachWithin ps fs → IsWithin ps (any_of fs)
any_within {fs = fs} all = made_within (Of term.any_of (parts_of fs)) (record { names = part_names (list_within all) })

pub falsehood_within : {ps : List Term} → IsWithin ps falsehood
falsehood_within = any_within none

pub denied_within : {ps : List Term} {f : Term} → IsWithin ps f → IsWithin ps (denied f)
denied_within {f = f} h = made_within (Of term.denied (part f no_parts)) (record { names = part_names (and_part h no_part) })

pub at_most_within : {ps : List Term} {s t : Term} → IsWithin ps s → IsWithin ps t → IsWithin ps (at_most s t)
at_most_within {s = s} {t = t} h g = made_within (Of term.at_most (part s (part t no_parts))) (record { names = part_names (and_part h (and_part g no_part)) })

less_within : {ps : List Term} {s t : Term} → IsWithin ps s → IsWithin ps t → IsWithin ps (less_than s t)
less_within h g = denied_within (at_most_within g h)

equal_within : {ps : List Term} {v w : Term} → IsWithin ps v → IsWithin ps w → IsWithin ps (equal v w)
equal_within {v = v} {w = w} h g = made_within (Of term.equal (part v (part w no_parts))) (record { names = part_names (and_part h (and_part g no_part)) })

pub kind_within : {ps : List Term} (kind : DataKind) {v : Term} → IsWithin ps v → IsWithin ps (of_kind kind v)
kind_within kind {v} h = made_within (Of (term.of_kind kind) (part v no_parts)) (record { names = part_names (and_part h no_part) })

pub in_type_within : {ps : List Term} (n : ℕ) {v : Term} → IsWithin ps v → IsWithin ps (in_type n v)
in_type_within n {v} h = made_within (Of (term.in_type n) (part v no_parts)) (record { names = part_names (and_part h no_part) })

pub formula_within : {ps : List Term} {v : Term} → IsWithin ps v → IsWithin ps (formula v)
formula_within h = equal_within h (truth_within true)

pub bound_within : {ps : List Term} (all : Bool) (word : List ℕ) (n : ℕ) {s t f : Term} → IsWithin ps s → IsWithin ps t → IsWithin (int_name word n ∷ ps) f → IsWithin ps (bound all word n s t f)
bound_within true word n {s} {t} a b c = range_within true word n (span_of (as_number s) (as_number t)) a b c
bound_within false word n {s} {t} a b c = range_within false word n (span_of (as_number s) (as_number t)) a b c

-- ---- operations on data

pub negated_within : {ps : List Term} {v : Term} → IsWithin ps v → IsWithin ps (op.negated v)
negated_within {v = v} h = int_within (made_within (Of term.neg (part (num v) no_parts)) (record { names = part_names (and_part (num_within h) no_part) }))

pub denial_within : {ps : List Term} {v : Term} → IsWithin ps v → IsWithin ps (op.with_denial v)
denial_within h = value_within (denied_within (formula_within h))

pub length_within : {ps : List Term} {v : Term} → IsWithin ps v → IsWithin ps (op.length v)
length_within h = int_within (len_within h)

pub element_within : {ps : List Term} {v i : Term} → IsWithin ps v → IsWithin ps i → IsWithin ps (op.element v i)
element_within h g = get_within h (num_within g)

pub repeated_within : {ps : List Term} {v n : Term} → IsWithin ps v → IsWithin ps n → IsWithin ps (op.repeated v n)
repeated_within {v = v} {n = n} h g = made_within (Of term.repeat (part v (part (num n) no_parts))) (record { names = part_names (and_part h (and_part (num_within g) no_part)) })

pub array_within : {ps vs : List Term} → EachWithin ps vs → IsWithin ps (op.list vs)
array_within {vs = vs} all = made_within (Of term.array (parts_of vs)) (record { names = part_names (list_within all) })

pub record_within : {ps : List Term} (names : List (List ℕ)) {vs : List Term} → EachWithin ps vs → IsWithin ps (op.record_of names vs)
record_within names {vs} all = made_within (Of (term.fields names) (parts_of vs)) (record { names = part_names (list_within all) })

equality_within : {ps : List Term} (numbers : Bool) {v w : Term} → IsWithin ps v → IsWithin ps w → IsWithin ps (op.equality numbers v w)
equality_within true h g = value_within (all_within (more (at_most_within (num_within h) (num_within g)) (more (at_most_within (num_within g) (num_within h)) none)))
equality_within false h g = value_within (equal_within h g)

pub operated_within : {ps : List Term} (o : Op) (numbers : Bool) {v w : Term} → IsWithin ps v → IsWithin ps w → IsWithin ps (op.operated o numbers v w)
operated_within Add numbers {v} {w} h g =
    int_within (made_within (Of term.add (part (num v) (part (num w) no_parts))) (record { names = part_names (and_part (num_within h) (and_part (num_within g) no_part)) }))
operated_within Sub numbers {v} {w} h g =
    int_within (made_within (Of term.sub (part (num v) (part (num w) no_parts))) (record { names = part_names (and_part (num_within h) (and_part (num_within g) no_part)) }))
operated_within Mul numbers {v} {w} h g =
    int_within (made_within (Of term.mul (part (num v) (part (num w) no_parts))) (record { names = part_names (and_part (num_within h) (and_part (num_within g) no_part)) }))
operated_within Div numbers {v} {w} h g =
    int_within (made_within (Of term.div (part (num v) (part (num w) no_parts))) (record { names = part_names (and_part (num_within h) (and_part (num_within g) no_part)) }))
operated_within Mod numbers {v} {w} h g =
    int_within (made_within (Of term.rem (part (num v) (part (num w) no_parts))) (record { names = part_names (and_part (num_within h) (and_part (num_within g) no_part)) }))
operated_within Equal numbers h g = equality_within numbers h g
operated_within Less numbers h g = value_within (less_within (num_within h) (num_within g))
operated_within LessEqual numbers h g = value_within (at_most_within (num_within h) (num_within g))
operated_within Greater numbers h g = value_within (less_within (num_within g) (num_within h))
operated_within GreaterEqual numbers h g = value_within (at_most_within (num_within g) (num_within h))
operated_within And numbers h g = value_within (all_within (more (formula_within h) (more (formula_within g) none)))
operated_within Or numbers h g = value_within (any_within (more (formula_within h) (more (formula_within g) none)))

pub quantified_within : {ps : List Term} (all : Bool) (word : List ℕ) (n : ℕ) {v w u : Term} → IsWithin ps v → IsWithin ps w → IsWithin (int_name word n ∷ ps) u → IsWithin ps (op.quantified all word n v w u)
quantified_within all word n h g f = value_within (bound_within all word n (num_within h) (num_within g) (formula_within f))
