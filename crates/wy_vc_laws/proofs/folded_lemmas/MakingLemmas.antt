-- What is made of folded terms is folded.
use Rattle.std.proofs.Common.{ℕ, List, [], ◌∷◌, ◌++◌, Bool, true, false, ℤ}
use Rattle.wy_sound_terms.specs.wy_core.declared.expressions.Op.{Op}
use Rattle.wy_sound_terms.specs.wy_core.declared.expressions.Op.TheVariants.{Add, Sub, Mul, Div, Mod, Equal, Less, LessEqual, Greater, GreaterEqual, And, Or}
use Rattle.wy_check_laws.specs.wy_term.Term as term
use Rattle.wy_check_laws.specs.wy_term.Term.{DataKind, Symbol, Term, no_parts, part}
use Rattle.wy_check_laws.specs.wy_term_text.reread.Folded.{IsFolded, AreFolded}
use Rattle.wy_check_laws.proofs.wy_term_text_proofs.reread_lemmas.FoldedLemmas.{folded_is}
use Rattle.wy_sound_terms.specs.wy_vc_spec.Making.{leaf, of_one, of_two, of_three, of_all, parts_of, number_of, int_name, num, len, val_name, null, truth, int, value_of, get, field, all_of, any_of, falsehood, denied, at_most, less_than, equal, of_kind, in_type, formula, bound}
use Rattle.wy_sound_terms.specs.wy_vc_spec.Operations as op

-- ---- folded terms

-- the term is folded throughout
pub record Folds (t : Term) : Type 0 where
  pub is : IsFolded t

-- so is each of these
pub data AllFold : List Term → Type 0 where
  none : AllFold []
  more : {t : Term} {ts : List Term} → Folds t → AllFold ts → AllFold (t ∷ ts)

pub all_before : {ts us : List Term} → AllFold ts → AllFold us → AllFold (ts ++ us)
all_before none also = also
all_before (more h all) also = more h (all_before all also)

parts_fold : {ts : List Term} → AllFold ts → AreFolded (parts_of ts)
parts_fold none = tt
parts_fold (more h all) = (h.is, parts_fold all)

-- ---- terms of so many parts

pub leaf_folds : (symbol : Symbol) → Folds (leaf symbol)
leaf_folds symbol = record { is = folded_is symbol no_parts tt }

pub one_folds : (symbol : Symbol) {s : Term} → Folds s → Folds (of_one symbol s)
one_folds symbol {s} h = record { is = folded_is symbol (part s no_parts) (h.is, tt) }

pub two_folds : (symbol : Symbol) {s t : Term} → Folds s → Folds t → Folds (of_two symbol s t)
two_folds symbol {s} {t} h g = record { is = folded_is symbol (part s (part t no_parts)) (h.is, (g.is, tt)) }

pub three_folds : (symbol : Symbol) {s t u : Term} → Folds s → Folds t → Folds u → Folds (of_three symbol s t u)
three_folds symbol {s} {t} {u} h g f = record { is = folded_is symbol (part s (part t (part u no_parts))) (h.is, (g.is, (f.is, tt))) }

pub all_folds : (symbol : Symbol) {ts : List Term} → AllFold ts → Folds (of_all symbol ts)
all_folds symbol {ts} all = record { is = folded_is symbol (parts_of ts) (parts_fold all) }

-- ---- terms and formulas

pub number_folds : (z : ℤ) → Folds (number_of z)
number_folds z = leaf_folds (term.number z)

pub int_name_folds : (word : List ℕ) (n : ℕ) → Folds (int_name word n)
int_name_folds word n = leaf_folds (term.int_name word n)

pub num_folds : {v : Term} → Folds v → Folds (num v)
num_folds h = one_folds term.num h

pub len_folds : {v : Term} → Folds v → Folds (len v)
len_folds h = one_folds term.len h

pub val_name_folds : (word : List ℕ) (n : ℕ) → Folds (val_name word n)
val_name_folds word n = leaf_folds (term.val_name word n)

pub null_folds : Folds null
null_folds = leaf_folds term.null

pub truth_folds : (b : Bool) → Folds (truth b)
truth_folds b = leaf_folds (term.truth b)

pub int_folds : {s : Term} → Folds s → Folds (int s)
int_folds h = one_folds term.int h

pub value_folds : {f : Term} → Folds f → Folds (value_of f)
value_folds h = one_folds term.bool h

pub get_folds : {v s : Term} → Folds v → Folds s → Folds (get v s)
get_folds h g = two_folds term.get h g

pub field_folds : (name : List ℕ) {v : Term} → Folds v → Folds (field name v)
field_folds name h = one_folds (term.field name) h

pub and_folds : {fs : List Term} → AllFold fs → Folds (all_of fs)
and_folds all = all_folds term.all_of all

pub or_folds : {fs : List Term} → AllFold fs → Folds (any_of fs)
or_folds all = all_folds term.any_of all

pub falsehood_folds : Folds falsehood
falsehood_folds = or_folds none

pub denied_folds : {f : Term} → Folds f → Folds (denied f)
denied_folds h = one_folds term.denied h

pub at_most_folds : {s t : Term} → Folds s → Folds t → Folds (at_most s t)
at_most_folds h g = two_folds term.at_most h g

pub less_folds : {s t : Term} → Folds s → Folds t → Folds (less_than s t)
less_folds h g = denied_folds (at_most_folds g h)

pub equal_folds : {v w : Term} → Folds v → Folds w → Folds (equal v w)
equal_folds h g = two_folds term.equal h g

pub kind_folds : (kind : DataKind) {v : Term} → Folds v → Folds (of_kind kind v)
kind_folds kind h = one_folds (term.of_kind kind) h

pub in_type_folds : (n : ℕ) {v : Term} → Folds v → Folds (in_type n v)
in_type_folds n h = one_folds (term.in_type n) h

pub formula_folds : {v : Term} → Folds v → Folds (formula v)
formula_folds h = equal_folds h (truth_folds true)

pub bound_folds : (all : Bool) (word : List ℕ) (n : ℕ) {s t f : Term} → Folds s → Folds t → Folds f → Folds (bound all word n s t f)
bound_folds true word n a b c = three_folds (term.every word n) a b c
bound_folds false word n a b c = three_folds (term.exists word n) a b c

-- ---- operations on data

pub negated_folds : {v : Term} → Folds v → Folds (op.negated v)
negated_folds h = int_folds (one_folds term.neg (num_folds h))

pub denial_folds : {v : Term} → Folds v → Folds (op.with_denial v)
denial_folds h = value_folds (denied_folds (formula_folds h))

pub length_folds : {v : Term} → Folds v → Folds (op.length v)
length_folds h = int_folds (len_folds h)

pub element_folds : {v i : Term} → Folds v → Folds i → Folds (op.element v i)
element_folds h g = get_folds h (num_folds g)

pub repeated_folds : {v n : Term} → Folds v → Folds n → Folds (op.repeated v n)
repeated_folds h g = two_folds term.repeat h (num_folds g)

pub with_element_folds : {v i w : Term} → Folds v → Folds i → Folds w → Folds (op.with_element v i w)
with_element_folds h g f = three_folds term.update h (num_folds g) f

pub with_field_folds : (name : List ℕ) {v w : Term} → Folds v → Folds w → Folds (op.with_field name v w)
with_field_folds name h g = two_folds (term.set_field name) h g

pub list_folds : {vs : List Term} → AllFold vs → Folds (op.list vs)
list_folds all = all_folds term.array all

pub record_folds : (names : List (List ℕ)) {vs : List Term} → AllFold vs → Folds (op.record_of names vs)
record_folds names all = all_folds (term.fields names) all

equality_folds : (numbers : Bool) {v w : Term} → Folds v → Folds w → Folds (op.equality numbers v w)
equality_folds true h g = value_folds (and_folds (more (at_most_folds (num_folds h) (num_folds g)) (more (at_most_folds (num_folds g) (num_folds h)) none)))
equality_folds false h g = value_folds (equal_folds h g)

pub operated_folds : (o : Op) (numbers : Bool) {v w : Term} → Folds v → Folds w → Folds (op.operated o numbers v w)
operated_folds Add numbers h g = int_folds (two_folds term.add (num_folds h) (num_folds g))
operated_folds Sub numbers h g = int_folds (two_folds term.sub (num_folds h) (num_folds g))
operated_folds Mul numbers h g = int_folds (two_folds term.mul (num_folds h) (num_folds g))
operated_folds Div numbers h g = int_folds (two_folds term.div (num_folds h) (num_folds g))
operated_folds Mod numbers h g = int_folds (two_folds term.rem (num_folds h) (num_folds g))
operated_folds Equal numbers h g = equality_folds numbers h g
operated_folds Less numbers h g = value_folds (less_folds (num_folds h) (num_folds g))
operated_folds LessEqual numbers h g = value_folds (at_most_folds (num_folds h) (num_folds g))
operated_folds Greater numbers h g = value_folds (less_folds (num_folds g) (num_folds h))
operated_folds GreaterEqual numbers h g = value_folds (at_most_folds (num_folds g) (num_folds h))
operated_folds And numbers h g = value_folds (and_folds (more (formula_folds h) (more (formula_folds g) none)))
operated_folds Or numbers h g = value_folds (or_folds (more (formula_folds h) (more (formula_folds g) none)))

pub quantified_folds : (all : Bool) (word : List ℕ) (n : ℕ) {v w u : Term} → Folds v → Folds w → Folds u → Folds (op.quantified all word n v w u)
quantified_folds all word n h g f = value_folds (bound_folds all word n (num_folds h) (num_folds g) (formula_folds f))
