-- What is read as a term is of its sort, and names and numbers in it are within their ranges.
use Rattle.std.proofs.Common.{◌≡◌, ◌<◌, ◌≤◌, ◌+◌, ◌^◌, ℕ, zero, suc, List, [], ◌∷◌, ◌++◌, Bool, true, false, cond, codes, length, ℤ, pos, negsuc, neg_ℤ, ◌+ℤ◌, ◌-ℤ◌, ◌*ℤ◌, ◌<ℤ◌, ◌≤ℤ◌, Option, Some, None, ◌⊎◌, inl, inr, refl, sym, ap, subst, arith}
use Rattle.std.specs.Fmt.{decimal, signed_decimal}
use Rattle.std.specs.Prelude.{bytes_eq, nat_le}
use Rattle.std.proofs.lemmas.Bool.{lt-ltb}
use Rattle.std.proofs.lemmas.Int.{ints}
use Rattle.std.proofs.lemmas.List.{length-append}
use Rattle.wy_term.specs.wy_data.scan.Numbers.{is_wide}
use Rattle.wy_term.proofs.wy_data_proofs.scan_lemmas.NumberLemmas.{wide_neg, wide_pos}
use Rattle.wy_term.specs.wy_value.Datum.{Datum}
use Rattle.wy_term.specs.Term as term
use Rattle.wy_term.specs.Term.{DataKind, null_kind, bool_kind, int_kind, array_kind, record_kind, Symbol, Term, Of, Parts, no_parts, part, leaf, one, two, Number, Not, int_name, val_name, every, exists}
use Rattle.wy_term.specs.Data.{same_datum}
use Rattle.wy_term.specs.Same.{same_kind, same_term}
use Rattle.wy_term.specs.Meaning as meaning
use Rattle.wy_term.specs.Rewriting.{as_number, as_int, as_bool, as_array, as_denied, as_record, as_constant, is_true, is_false, is_truth, True, False, decided, fits, fitted, number_or, on_one, on_two, fold_num, count, fold_len, nth_part, part_at, fold_get, fold_order, fold_at_most, fold_not, has_false, has_true, without_true, without_false, joined, fold_and, fold_or, field_part, fold_field, kind_given, fold_kind, fold_bool, fold_apart, fold_equal, rewritten}
use Rattle.wy_term.specs.Folding.{found, found_or, hidden, span, span_of, instances, number_or_zero, binder, joined_by, quantified, parts_of, replaced, replacers, fold_range, folded}
use Rattle.wy_term.specs.Sorts.{Sort, int_sort, val_sort, formula_sort, sort_of, sort_in}
use Rattle.wy_term.proofs.SameLemmas.{terms_are}
use Rattle.wy_term_text.specs.spell.Grammar.{Before, Gap, IsConstant, IsInRange, IsNumbered, Laid, Layout, Series, Spans, Stops, between, binding, closing, elements, field_gaps, field_list, first_of, gapped, kind_before, layout, members, more_names, more_of, next_place, opening, sort_in as series_sort, texts, worded}
use Rattle.wy_term_text.specs.spell.Made.{IsSpelled, made, made_parts}
use Rattle.wy_term_text.specs.reread.Shown.{AreOf, FitsPlace, IsOf, MayEnd}

-- ---- terms of a sort whose names and numbers are within their ranges, and whose arrays have fewer than 2^127 elements

abbrev IsShort : Symbol → Parts → Type 0
IsShort term.array ps = count ps < 2 ^ 127
IsShort symbol ps = Unit {0}

abbrev mutual
  IsFine : Term → Sort → Type 0
  IsFine (Of symbol ps) sort = (sort_of symbol ≡ sort) × IsInRange symbol × IsShort symbol ps × AreFine ps (layout symbol)

  AreFine : Parts → Layout → Type 0
  AreFine no_parts l = MayEnd l
  AreFine (part t ps) l = FitsPlace (next_place l) (IsFine t) (AreFine ps)

mutual
  fine_of : (t : Term) (sort : Sort) → IsFine t sort → IsOf t sort
  fine_of (Of symbol ps) sort h = (h.0, h.1, fine_parts ps (layout symbol) h.3)

  fine_parts : (ps : Parts) (l : Layout) → AreFine ps l → AreOf ps l
  fine_parts no_parts l h = h
  fine_parts (part t ps) (gapped []) h = absurd h
  fine_parts (part t ps) (gapped (g ∷ gs)) h = (fine_of t g.0 h.0, fine_parts ps (gapped gs) h.1)
  fine_parts (part t ps) (first_of s) h = (fine_of t (series_sort s) h.0, fine_parts ps (more_of s) h.1)
  fine_parts (part t ps) (more_of s) h = (fine_of t (series_sort s) h.0, fine_parts ps (more_of s) h.1)

own_sort : (t : Term) (sort : Sort) → IsFine t sort → IsFine t (sort_in t)
own_sort (Of symbol ps) sort h = (refl, h.1, h.2, h.3)

is_sort : (t : Term) (sort : Sort) → IsFine t sort → sort_in t ≡ sort
is_sort (Of symbol ps) sort h = h.0

-- ---- lists of parts of one sort

abbrev AreAll : Sort → Parts → Type 0
AreAll sort no_parts = Unit {0}
AreAll sort (part t ps) = IsFine t sort × AreAll sort ps

from_more : (s : Series) (ps : Parts) → AreFine ps (more_of s) → AreAll (series_sort s) ps
from_more s no_parts h = tt
from_more s (part t ps) h = (h.0, from_more s ps h.1)

from_first : (s : Series) (ps : Parts) → AreFine ps (first_of s) → AreAll (series_sort s) ps
from_first s no_parts h = tt
from_first s (part t ps) h = (h.0, from_more s ps h.1)

to_more : (s : Series) (ps : Parts) → AreAll (series_sort s) ps → AreFine ps (more_of s)
to_more s no_parts h = tt
to_more s (part t ps) h = (h.0, to_more s ps h.1)

to_first : (s : Series) (ps : Parts) → AreAll (series_sort s) ps → AreFine ps (first_of s)
to_first s no_parts h = tt
to_first s (part t ps) h = (h.0, to_more s ps h.1)

from_gaps : (ns : List (List ℕ)) (ps : Parts) → AreFine ps (gapped (field_gaps ns)) → AreAll val_sort ps
from_gaps [] no_parts h = absurd h
from_gaps [] (part t no_parts) h = (h.0, tt)
from_gaps [] (part t (part u ps)) h = absurd h.1
from_gaps (n ∷ ns) no_parts h = absurd h
from_gaps (n ∷ ns) (part t ps) h = (h.0, from_gaps ns ps h.1)

from_record : (names : List (List ℕ)) (ps : Parts) → AreFine ps (layout (term.fields names)) → AreAll val_sort ps
from_record [] no_parts h = tt
from_record [] (part t ps) h = absurd h
from_record (n ∷ ns) ps h = from_gaps ns ps h

-- ---- numbers

abbrev IsWide : Option ℤ → Type 0
IsWide None = Unit {0}
IsWide (Some z) = is_wide z ≡ true

fits_wide : (z : ℤ) → fits z ≡ true → is_wide z ≡ true
fits_wide (pos n) e = e
fits_wide (negsuc n) e = e

fitted_wide : (z : ℤ) → IsWide (fitted z)
fitted_wide z = either (fits z) refl
  where
    some : ℤ → Option ℤ
    some y = Some y

    either : (b : Bool) → fits z ≡ b → IsWide (cond b (let o : Option ℤ = Some z in o) None)
    either true e = fits_wide z e
    either false e = tt

one_wide : (f : ℤ → ℤ) (a : Option ℤ) → IsWide (on_one f a)
one_wide f None = tt
one_wide f (Some z) = fitted_wide (f z)

two_wide : (f : ℤ → ℤ → ℤ) (a b : Option ℤ) → IsWide (on_two f a b)
two_wide f None b = tt
two_wide f (Some a) None = tt
two_wide f (Some a) (Some b) = fitted_wide (f a b)

number_wide : (s : Term) (sort : Sort) → IsFine s sort → IsWide (as_number s)
number_wide (Of (term.number z) ps) sort h = h.1
number_wide (Of symbol ps) sort h = tt

low : (z : ℤ) → is_wide z ≡ true → neg_ℤ (pos (2 ^ 127)) ≤ℤ z
low (pos n) e = omega (arith, ints)
low (negsuc n) e = omega (arith, ints, wide_neg n e)

high : (z : ℤ) → is_wide z ≡ true → z <ℤ pos (2 ^ 127)
high (pos n) e = omega (arith, ints, wide_pos n e)
high (negsuc n) e = omega (arith, ints)

within : (z : ℤ) → neg_ℤ (pos (2 ^ 127)) ≤ℤ z → z <ℤ pos (2 ^ 127) → is_wide z ≡ true
within (pos n) a b = lt-ltb n (2 ^ 127) (omega (arith, ints, b))
within (negsuc n) a b = lt-ltb n (2 ^ 127) (omega (arith, ints, a))

-- so many numbers from this one on
abbrev AreWideFrom : ℤ → ℕ → Type 0
AreWideFrom z zero = Unit {0}
AreWideFrom z (suc k) = (is_wide z ≡ true) × AreWideFrom (z +ℤ pos 1) k

wide_from : (z b : ℤ) (k : ℕ) → neg_ℤ (pos (2 ^ 127)) ≤ℤ z → b <ℤ pos (2 ^ 127) → (z +ℤ pos k) ≤ℤ b → AreWideFrom z k
wide_from z b zero a h e = tt
wide_from z b (suc k) a h e =
    (within z a (omega (arith, ints, h, e)), wide_from (z +ℤ pos 1) b k (omega (arith, ints, a)) h (omega (arith, ints, e)))

span_within : (d : ℤ) (m : ℕ) → span d ≡ Some m → (m ≡ 0) ⊎ (d ≡ pos m)
span_within (pos n) m e = either (nat_le n 256) refl e
  where
    either : (b : Bool) → nat_le n 256 ≡ b → cond b (let o : Option ℕ = Some n in o) None ≡ Some m → (m ≡ 0) ⊎ (pos n ≡ pos m)
    either true le is = let same : n ≡ m = cc in inr (ap (λ (k : ℕ). pos k) same)
    either false le is = absurd cc
span_within (negsuc n) m e = either (nat_le n 255) refl e
  where
    either : (b : Bool) → nat_le n 255 ≡ b → cond b (let o : Option ℕ = Some 0 in o) None ≡ Some m → (m ≡ 0) ⊎ (negsuc n ≡ pos m)
    either true le is = let same : 0 ≡ m = cc in inl (sym same)
    either false le is = absurd cc

span_wide : (o p : Option ℤ) (m : ℕ) → IsWide o → IsWide p → span_of o p ≡ Some m → AreWideFrom (number_or_zero o) m
span_wide None p m v w e = absurd cc
span_wide (Some a) None m v w e = absurd cc
span_wide (Some a) (Some b) m v w e = by (span_within (b -ℤ a) m e)
  where
    by : (m ≡ 0) ⊎ ((b -ℤ a) ≡ pos m) → AreWideFrom a m
    by (inl none) = subst (AreWideFrom a) (sym none) tt
    by (inr is) = wide_from a b m (low a v) (high b w) (omega (arith, ints, is))

-- ---- leaves

number_fine : (z : ℤ) → is_wide z ≡ true → IsFine (Number z) int_sort
number_fine z wide = (refl, wide, tt, tt)

null_fine : IsFine (leaf term.null) val_sort
null_fine = (refl, tt, tt, tt)

decided_fine : (b : Bool) → IsFine (decided b) formula_sort
decided_fine true = (refl, tt, tt, tt)
decided_fine false = (refl, tt, tt, tt)

number_or_fine : (t : Term) (o : Option ℤ) → IsWide o → IsFine t int_sort → IsFine (number_or t o) int_sort
number_or_fine t None wide h = h
number_or_fine t (Some z) wide h = number_fine z wide

-- ---- parts of a term

int_part : (v s : Term) (sort : Sort) → IsFine v sort → as_int v ≡ Some s → IsFine s int_sort
int_part (Of term.int (part u no_parts)) s sort f e = let same : u ≡ s = cc in subst (λ (x : Term). IsFine x int_sort) same f.3.0
int_part v s sort f e = absurd cc

bool_part : (v s : Term) (sort : Sort) → IsFine v sort → as_bool v ≡ Some s → IsFine s formula_sort
bool_part (Of term.bool (part u no_parts)) s sort f e = let same : u ≡ s = cc in subst (λ (x : Term). IsFine x formula_sort) same f.3.0
bool_part v s sort f e = absurd cc

denied_part : (v s : Term) (sort : Sort) → IsFine v sort → as_denied v ≡ Some s → IsFine s formula_sort
denied_part (Of term.denied (part u no_parts)) s sort f e = let same : u ≡ s = cc in subst (λ (x : Term). IsFine x formula_sort) same f.3.0
denied_part v s sort f e = absurd cc

abbrev IsArray : Parts → Type 0
IsArray ps = (count ps < 2 ^ 127) × AreAll val_sort ps

array_parts : (v : Term) (ps : Parts) (sort : Sort) → IsFine v sort → as_array v ≡ Some ps → IsArray ps
array_parts (Of term.array qs) ps sort f e = let same : qs ≡ ps = cc in subst IsArray same (f.2, from_first elements qs f.3)
array_parts v ps sort f e = absurd cc

record_parts : (v : Term) (r : List (List ℕ) × Parts) (sort : Sort) → IsFine v sort → as_record v ≡ Some r → AreAll val_sort r.1
record_parts (Of (term.fields names) qs) r sort f e =
    let same : (names, qs) ≡ r = cc in
    subst (λ (q : List (List ℕ) × Parts). AreAll val_sort q.1) same (from_record names qs f.3)
record_parts v r sort f e = absurd cc

nth_fine : (ps : Parts) (k : ℕ) → AreAll val_sort ps → IsFine (nth_part ps k) val_sort
nth_fine no_parts k f = null_fine
nth_fine (part t ps) zero f = f.0
nth_fine (part t ps) (suc k) f = nth_fine ps k f.1

at_fine : (ps : Parts) (k : ℤ) → AreAll val_sort ps → IsFine (part_at ps k) val_sort
at_fine ps (pos k) f = nth_fine ps k f
at_fine ps (negsuc k) f = null_fine

field_fine : (ns : List (List ℕ)) (ps : Parts) (name : List ℕ) → AreAll val_sort ps → IsFine (field_part ns ps name) val_sort
field_fine [] ps name f = null_fine
field_fine (n ∷ ns) no_parts name f = null_fine
field_fine (n ∷ ns) (part t ps) name f = either (bytes_eq n name) f.0 (field_fine ns ps name f.1)
  where
    either : (b : Bool) → IsFine t val_sort → IsFine (field_part ns ps name) val_sort → IsFine (cond b t (field_part ns ps name)) val_sort
    either true g h = g
    either false g h = h

-- ---- numbers, arrays and records

num_fine : (v : Term) (o : Option Term) → as_int v ≡ o → IsFine v val_sort → IsFine (one term.num v) int_sort → IsFine (fold_num v o) int_sort
num_fine v None e f h = h
num_fine v (Some s) e f h = int_part v s val_sort f e

len_fine : (v : Term) (o : Option Parts) → as_array v ≡ o → IsFine v val_sort → IsFine (one term.len v) int_sort → IsFine (fold_len v o) int_sort
len_fine v None e f h = h
len_fine v (Some ps) e f h = number_fine (pos (count ps)) (lt-ltb (count ps) (2 ^ 127) (array_parts v ps val_sort f e).0)

get_fine : (v s : Term) (o : Option Parts) (k : Option ℤ) → as_array v ≡ o → IsFine v val_sort → IsFine (two term.get v s) val_sort → IsFine (fold_get v s o k) val_sort
get_fine v s None k e f h = h
get_fine v s (Some ps) None e f h = h
get_fine v s (Some ps) (Some k) e f h = at_fine ps k (array_parts v ps val_sort f e).1

record_fine : (name : List ℕ) (v : Term) (o : Option (List (List ℕ) × Parts)) → as_record v ≡ o → IsFine v val_sort → IsFine (one (term.field name) v) val_sort → IsFine (fold_field name v o) val_sort
record_fine name v None e f h = h
record_fine name v (Some r) e f h = field_fine r.0 r.1 name (record_parts v r val_sort f e)

-- ---- tests

order_fine : (t : Term) (a b : Option ℤ) → IsFine t formula_sort → IsFine (fold_order t a b) formula_sort
order_fine t None b h = h
order_fine t (Some x) None h = h
order_fine t (Some x) (Some y) h = decided_fine (meaning.at_most x y)

at_most_fine : (s t : Term) → IsFine (two term.at_most s t) formula_sort → IsFine (fold_at_most s t) formula_sort
at_most_fine s t h = either (same_term s t)
  where
    either : (b : Bool) → IsFine (cond b True (fold_order (two term.at_most s t) (as_number s) (as_number t))) formula_sort
    either true = decided_fine true
    either false = order_fine (two term.at_most s t) (as_number s) (as_number t) h

kind_fine : (kind : DataKind) (v : Term) (o : Option DataKind) → IsFine (one (term.of_kind kind) v) formula_sort → IsFine (fold_kind kind v o) formula_sort
kind_fine kind v None h = h
kind_fine kind v (Some given) h = decided_fine (same_kind given kind)

not_fine : (f : Term) (o : Option Term) → as_denied f ≡ o → IsFine f formula_sort → IsFine (Not f) formula_sort → IsFine (fold_not f o) formula_sort
not_fine f None e g h = h
not_fine f (Some x) e g h = denied_part f x formula_sort g e

truth_fine : (v w : Term) (o : Option Term) (b : Bool) → as_bool v ≡ o → IsFine v val_sort → IsFine (two term.equal v w) formula_sort → IsFine (fold_bool (two term.equal v w) o b) formula_sort
truth_fine v w None b e f h = h
truth_fine v w (Some g) true e f h = bool_part v g val_sort f e
truth_fine v w (Some g) false e f h = h

apart_fine : (v w : Term) (d e : Option Datum) → IsFine v val_sort → IsFine (two term.equal v w) formula_sort → IsFine (fold_apart v w d e) formula_sort
apart_fine v w (Some d) (Some e) f h = decided_fine (same_datum d e)
apart_fine v w (Some d) None f h = h
apart_fine v w None e f h = truth_fine v w (as_bool v) (is_truth w) refl f h

equal_fine : (v w : Term) → IsFine v val_sort → IsFine (two term.equal v w) formula_sort → IsFine (fold_equal v w) formula_sort
equal_fine v w f h = either (same_term v w)
  where
    either : (b : Bool) → IsFine (cond b True (fold_apart v w (as_constant v) (as_constant w))) formula_sort
    either true = decided_fine true
    either false = apart_fine v w (as_constant v) (as_constant w) f h

-- ---- connectives

abbrev AreFormulas : Parts → Type 0
AreFormulas ps = AreAll formula_sort ps

without_true_fine : (fs : Parts) → AreFormulas fs → AreFormulas (without_true fs)
without_true_fine no_parts f = tt
without_true_fine (part g fs) f = either (is_true g) (without_true_fine fs f.1)
  where
    either : (b : Bool) → AreFormulas (without_true fs) → AreFormulas (cond b (without_true fs) (part g (without_true fs)))
    either true rest = rest
    either false rest = (f.0, rest)

without_false_fine : (fs : Parts) → AreFormulas fs → AreFormulas (without_false fs)
without_false_fine no_parts f = tt
without_false_fine (part g fs) f = either (is_false g) (without_false_fine fs f.1)
  where
    either : (b : Bool) → AreFormulas (without_false fs) → AreFormulas (cond b (without_false fs) (part g (without_false fs)))
    either true rest = rest
    either false rest = (f.0, rest)

joined_all : (fs : Parts) → AreFormulas fs → IsFine (joined term.all_of fs) formula_sort
joined_all no_parts f = (refl, tt, tt, tt)
joined_all (part g no_parts) f = f.0
joined_all (part g (part h fs)) f = (refl, tt, tt, to_first members (part g (part h fs)) f)

joined_any : (fs : Parts) → AreFormulas fs → IsFine (joined term.any_of fs) formula_sort
joined_any no_parts f = (refl, tt, tt, tt)
joined_any (part g no_parts) f = f.0
joined_any (part g (part h fs)) f = (refl, tt, tt, to_first members (part g (part h fs)) f)

and_fine : (fs : Parts) → AreFormulas fs → IsFine (fold_and fs) formula_sort
and_fine fs f = either (has_false fs)
  where
    either : (b : Bool) → IsFine (cond b False (joined term.all_of (without_true fs))) formula_sort
    either true = decided_fine false
    either false = joined_all (without_true fs) (without_true_fine fs f)

or_fine : (fs : Parts) → AreFormulas fs → IsFine (fold_or fs) formula_sort
or_fine fs f = either (has_true fs)
  where
    either : (b : Bool) → IsFine (cond b True (joined term.any_of (without_false fs))) formula_sort
    either true = decided_fine true
    either false = joined_any (without_false fs) (without_false_fine fs f)

joined_by_fine : (all : Bool) (fs : Parts) → AreFormulas fs → IsFine (joined_by all fs) formula_sort
joined_by_fine true fs f = and_fine fs f
joined_by_fine false fs f = or_fine fs f

-- ---- terms that aren't quantifiers

rewritten_fine : (symbol : Symbol) (ps : Parts) → IsFine (Of symbol ps) (sort_of symbol) → IsFine (rewritten (Of symbol ps)) (sort_of symbol)
rewritten_fine term.add (part s (part t no_parts)) f = number_or_fine (two term.add s t) (on_two (λ a b. a +ℤ b) (as_number s) (as_number t)) (two_wide (λ a b. a +ℤ b) (as_number s) (as_number t)) f
rewritten_fine term.sub (part s (part t no_parts)) f = number_or_fine (two term.sub s t) (on_two (λ a b. a -ℤ b) (as_number s) (as_number t)) (two_wide (λ a b. a -ℤ b) (as_number s) (as_number t)) f
rewritten_fine term.neg (part s no_parts) f = number_or_fine (one term.neg s) (on_one neg_ℤ (as_number s)) (one_wide neg_ℤ (as_number s)) f
rewritten_fine term.mul (part s (part t no_parts)) f = number_or_fine (two term.mul s t) (on_two (λ a b. a *ℤ b) (as_number s) (as_number t)) (two_wide (λ a b. a *ℤ b) (as_number s) (as_number t)) f
rewritten_fine term.num (part v no_parts) f = num_fine v (as_int v) refl f.3.0 f
rewritten_fine term.len (part v no_parts) f = len_fine v (as_array v) refl f.3.0 f
rewritten_fine term.get (part v (part s no_parts)) f = get_fine v s (as_array v) (as_number s) refl f.3.0 f
rewritten_fine term.at_most (part s (part t no_parts)) f = at_most_fine s t f
rewritten_fine (term.field name) (part v no_parts) f = record_fine name v (as_record v) refl f.3.0 f
rewritten_fine term.equal (part v (part w no_parts)) f = equal_fine v w f.3.0 f
rewritten_fine (term.of_kind kind) (part v no_parts) f = kind_fine kind v (kind_given v) f
rewritten_fine term.denied (part g no_parts) f = not_fine g (as_denied g) refl f.3.0 f
rewritten_fine term.all_of fs f = and_fine fs (from_first members fs f.3)
rewritten_fine term.any_of fs f = or_fine fs (from_first members fs f.3)
rewritten_fine symbol ps f = f

-- ---- what names stand for

-- each name stands for a term of its sort
abbrev ArePairs : List (Term × Term) → Type 0
ArePairs [] = Unit {0}
ArePairs (p ∷ ps) = IsFine p.1 (sort_in p.0) × ArePairs ps

found_fine : (env : List (Term × Term)) (x : Term) → IsFine x (sort_in x) → ArePairs env → IsFine (found_or (found env x) x) (sort_in x)
found_fine [] x f are = f
found_fine (p ∷ ps) x f are = either (same_term p.0 x) refl (found_fine ps x f are.1)
  where
    either : (b : Bool) → same_term p.0 x ≡ b → IsFine (found_or (found ps x) x) (sort_in x) → IsFine (found_or (cond b (Some p.1) (found ps x)) x) (sort_in x)
    either true e rest = subst (λ (y : Term). IsFine p.1 (sort_in y)) (terms_are p.0 x e) are.0
    either false e rest = rest

hidden_fine : (o : Option Term) (w : List ℕ) (n : ℕ) (env : List (Term × Term)) → IsNumbered w n → ArePairs env → ArePairs (hidden o (leaf (int_name w n)) env)
hidden_fine None w n env name are = are
hidden_fine (Some u) w n env name are = either (same_term u (leaf (int_name w n)))
  where
    either : (b : Bool) → ArePairs (cond b env ((leaf (int_name w n), leaf (int_name w n)) ∷ env))
    either true = are
    either false = ((refl, name, tt, tt), are)

-- what makes a term of this sort, where names stand for terms of their sorts
abbrev Makes : Sort → (List (Term × Term) → Term) → Type 0
Makes sort body = (env : List (Term × Term)) → ArePairs env → IsFine (body env) sort

-- likewise for parts as a layout wants them
abbrev MakeAll : Layout → List (List (Term × Term) → Term) → Type 0
MakeAll l [] = MayEnd l
MakeAll l (b ∷ bs) = FitsPlace (next_place l) (λ sort. Makes sort b) (λ rest. MakeAll rest bs)

instances_fine : (body : List (Term × Term) → Term) (w : List ℕ) (n : ℕ) (env : List (Term × Term)) (z : ℤ) (k : ℕ) → AreWideFrom z k → Makes formula_sort body → ArePairs env → AreFormulas (instances body (leaf (int_name w n)) env z k)
instances_fine body w n env z zero wide make are = tt
instances_fine body w n env z (suc k) wide make are = (make ((leaf (int_name w n), Number z) ∷ env) (number_fine z wide.0, are), instances_fine body w n env (z +ℤ pos 1) k wide.1 make are)

bound_fine : (all : Bool) (w : List ℕ) (n : ℕ) (s t f : Term) → IsNumbered w n → IsFine s int_sort → IsFine t int_sort → IsFine f formula_sort → IsFine (Of (binder all w n) (part s (part t (part f no_parts)))) formula_sort
bound_fine true w n s t f name a b c = (refl, name, tt, (a, (b, (c, tt))))
bound_fine false w n s t f name a b c = (refl, name, tt, (a, (b, (c, tt))))

quantified_fine : (all : Bool) (w : List ℕ) (n : ℕ) (body : List (Term × Term) → Term) (env : List (Term × Term)) (s t : Term) (o : Option ℕ) → span_of (as_number s) (as_number t) ≡ o → IsNumbered w n → Makes formula_sort body → ArePairs env → IsFine s int_sort → IsFine t int_sort
    → IsFine (quantified all w n body env s t o) formula_sort
quantified_fine all w n body env s t None e name make are a b =
    let henv = hidden (found env (leaf (int_name w n))) (leaf (int_name w n)) env in
    bound_fine all w n s t (body henv) name a b (make henv (hidden_fine (found env (leaf (int_name w n))) w n env name are))
quantified_fine all w n body env s t (Some m) e name make are a b =
    joined_by_fine all (instances body (leaf (int_name w n)) env (number_or_zero (as_number s)) m)
    (instances_fine body w n env (number_or_zero (as_number s)) m (span_wide (as_number s) (as_number t) m (number_wide s int_sort a) (number_wide t int_sort b) e) make are)

parts_made_fine : (bodies : List (List (Term × Term) → Term)) (l : Layout) (env : List (Term × Term)) → MakeAll l bodies → ArePairs env → AreFine (parts_of bodies env) l
parts_made_fine [] l env make are = make
parts_made_fine (b ∷ bs) (gapped []) env make are = absurd make
parts_made_fine (b ∷ bs) (gapped (g ∷ gs)) env make are = (make.0 env are, parts_made_fine bs (gapped gs) env make.1 are)
parts_made_fine (b ∷ bs) (first_of s) env make are = (make.0 env are, parts_made_fine bs (more_of s) env make.1 are)
parts_made_fine (b ∷ bs) (more_of s) env make are = (make.0 env are, parts_made_fine bs (more_of s) env make.1 are)

-- there are as many
as_many : (ps : Parts) (env : List (Term × Term)) → count (parts_of (replacers ps) env) ≡ count ps
as_many no_parts env = refl
as_many (part t ps) env = ap suc (as_many ps env)

short_still : (symbol : Symbol) (ps : Parts) (env : List (Term × Term)) → IsShort symbol ps → IsShort symbol (parts_of (replacers ps) env)
short_still term.array ps env h = subst (λ (n : ℕ). n < 2 ^ 127) (sym (as_many ps env)) h
short_still symbol ps env h = h

quantifier_fine : (all : Bool) (w : List ℕ) (n : ℕ) (s u f : Term) (env : List (Term × Term)) → IsNumbered w n → Makes int_sort (replaced s) → Makes int_sort (replaced u) → Makes formula_sort (replaced f) → ArePairs env
    → IsFine (quantified all w n (replaced f) env (replaced s env) (replaced u env) (span_of (as_number (replaced s env)) (as_number (replaced u env)))) formula_sort
quantifier_fine all w n s u f env name ms mu mf are =
    quantified_fine all w n (replaced f) env (replaced s env) (replaced u env) (span_of (as_number (replaced s env)) (as_number (replaced u env))) refl name mf are (ms env are) (mu env are)

remade_fine : (symbol : Symbol) (ps : Parts) → IsInRange symbol → IsShort symbol ps → MakeAll (layout symbol) (replacers ps) → Makes (sort_of symbol) (replaced (Of symbol ps))
remade_fine (int_name w n) ps range short make env are = found_fine env (leaf (int_name w n)) (refl, range, tt, tt) are
remade_fine (val_name w n) ps range short make env are = found_fine env (leaf (val_name w n)) (refl, range, tt, tt) are
remade_fine (every w n) (part s (part u (part f no_parts))) range short make env are = quantifier_fine true w n s u f env range make.0 make.1.0 make.1.1.0 are
remade_fine (every w n) no_parts range short make env are = absurd make
remade_fine (every w n) (part s no_parts) range short make env are = absurd make.1
remade_fine (every w n) (part s (part u no_parts)) range short make env are = absurd make.1.1
remade_fine (every w n) (part s (part u (part f (part g ps)))) range short make env are = absurd make.1.1.1
remade_fine (exists w n) (part s (part u (part f no_parts))) range short make env are = quantifier_fine false w n s u f env range make.0 make.1.0 make.1.1.0 are
remade_fine (exists w n) no_parts range short make env are = absurd make
remade_fine (exists w n) (part s no_parts) range short make env are = absurd make.1
remade_fine (exists w n) (part s (part u no_parts)) range short make env are = absurd make.1.1
remade_fine (exists w n) (part s (part u (part f (part g ps)))) range short make env are = absurd make.1.1.1
remade_fine symbol ps range short make env are = rewritten_fine symbol (parts_of (replacers ps) env) (refl, range, short_still symbol ps env short, parts_made_fine (replacers ps) (layout symbol) env make are)

mutual
  replaced_fine : (t : Term) (sort : Sort) → IsFine t sort → Makes sort (replaced t)
  replaced_fine (Of symbol ps) sort h = subst (λ (s : Sort). Makes s (replaced (Of symbol ps))) h.0 (remade_fine symbol ps h.1 h.2 (replacers_fine ps (layout symbol) h.3))

  replacers_fine : (ps : Parts) (l : Layout) → AreFine ps l → MakeAll l (replacers ps)
  replacers_fine no_parts l h = h
  replacers_fine (part t ps) (gapped []) h = absurd h
  replacers_fine (part t ps) (gapped (g ∷ gs)) h = (replaced_fine t g.0 h.0, replacers_fine ps (gapped gs) h.1)
  replacers_fine (part t ps) (first_of s) h = (replaced_fine t (series_sort s) h.0, replacers_fine ps (more_of s) h.1)
  replacers_fine (part t ps) (more_of s) h = (replaced_fine t (series_sort s) h.0, replacers_fine ps (more_of s) h.1)

-- ---- folding

range_fine : (all : Bool) (w : List ℕ) (n : ℕ) (s u f : Term) (o : Option ℕ) → span_of (as_number s) (as_number u) ≡ o → IsNumbered w n → IsFine s int_sort → IsFine u int_sort → IsFine f formula_sort → IsFine (fold_range all w n s u f o) formula_sort
range_fine all w n s u f None e name a b c = bound_fine all w n s u f name a b c
range_fine all w n s u f (Some m) e name a b c =
    joined_by_fine all (instances (replaced f) (leaf (int_name w n)) [] (number_or_zero (as_number s)) m)
    (instances_fine (replaced f) w n [] (number_or_zero (as_number s)) m (span_wide (as_number s) (as_number u) m (number_wide s int_sort a) (number_wide u int_sort b) e) (replaced_fine f formula_sort c) tt)

folded_fine : (symbol : Symbol) (ps : Parts) → IsFine (Of symbol ps) (sort_of symbol) → IsFine (folded (Of symbol ps)) (sort_of symbol)
folded_fine (every w n) (part s (part u (part f no_parts))) h = range_fine true w n s u f (span_of (as_number s) (as_number u)) refl h.1 h.3.0 h.3.1.0 h.3.1.1.0
folded_fine (exists w n) (part s (part u (part f no_parts))) h = range_fine false w n s u f (span_of (as_number s) (as_number u)) refl h.1 h.3.0 h.3.1.0 h.3.1.1.0
folded_fine symbol ps h = rewritten_fine symbol ps h

-- there are as many
many_made : (ps : Parts) → count (made_parts ps) ≡ count ps
many_made no_parts = refl
many_made (part t ps) = ap suc (many_made ps)

short_made : (symbol : Symbol) (ps : Parts) → IsShort symbol ps → IsShort symbol (made_parts ps)
short_made term.array ps h = subst (λ (n : ℕ). n < 2 ^ 127) (sym (many_made ps)) h
short_made symbol ps h = h

mutual
  made_fine : (t : Term) (sort : Sort) → IsFine t sort → IsFine (made t) sort
  made_fine (Of symbol ps) sort h = subst (IsFine (made (Of symbol ps))) h.0 (folded_fine symbol (made_parts ps) (refl, h.1, short_made symbol ps h.2, parts_fine ps (layout symbol) h.3))

  parts_fine : (ps : Parts) (l : Layout) → AreFine ps l → AreFine (made_parts ps) l
  parts_fine no_parts l h = h
  parts_fine (part t ps) (gapped []) h = absurd h
  parts_fine (part t ps) (gapped (g ∷ gs)) h = (made_fine t g.0 h.0, parts_fine ps (gapped gs) h.1)
  parts_fine (part t ps) (first_of s) h = (made_fine t (series_sort s) h.0, parts_fine ps (more_of s) h.1)
  parts_fine (part t ps) (more_of s) h = (made_fine t (series_sort s) h.0, parts_fine ps (more_of s) h.1)

-- ---- what is spelled

abbrev Grows : Before → Type 0
Grows f = (i : List ℕ) → length i ≤ length (f i)

behind_one : (a i : List ℕ) → length i ≤ length (a ++ i)
behind_one a i = omega (arith, length-append a i)

behind_two : (a b i : List ℕ) → length i ≤ length (a ++ (b ++ i))
behind_two a b i = omega (arith, behind_one b i, behind_one a (b ++ i))

behind_three : (a b c i : List ℕ) → length i ≤ length (a ++ (b ++ (c ++ i)))
behind_three a b c i = omega (arith, behind_one c i, behind_two a b (c ++ i))

more_grow : (ns : List (List ℕ)) → Grows (more_names ns)
more_grow [] i = omega arith
more_grow (n ∷ ns) i = omega (arith, more_grow ns i, behind_two (codes ", ") n (more_names ns i))

list_grows : (ns : List (List ℕ)) → Grows (field_list ns)
list_grows [] i = omega arith
list_grows (n ∷ ns) i = omega (arith, more_grow ns i, behind_one n (more_names ns i))

kind_grows : (kind : DataKind) → Grows (kind_before kind)
kind_grows null_kind i = behind_one (codes "null") i
kind_grows bool_kind i = behind_one (codes "bool") i
kind_grows int_kind i = behind_one (codes "int") i
kind_grows array_kind i = behind_one (codes "array") i
kind_grows (record_kind names) i = omega (arith, behind_one (codes "}") i, list_grows names (codes "}" ++ i), behind_one (codes "{") (field_list names (codes "}" ++ i)))

abbrev GapsGrow : List Gap → Type 0
GapsGrow [] = Unit {0}
GapsGrow (g ∷ gs) = Grows g.1 × GapsGrow gs

abbrev LayoutGrows : Layout → Type 0
LayoutGrows (gapped gs) = GapsGrow gs
LayoutGrows (first_of s) = Unit {0}
LayoutGrows (more_of s) = Unit {0}

worded_grow : (gs : List (Sort × List ℕ)) → GapsGrow (worded gs)
worded_grow [] = tt
worded_grow (g ∷ gs) = ((λ i. behind_one g.1 i), worded_grow gs)

fields_grow : (ns : List (List ℕ)) → GapsGrow (field_gaps ns)
fields_grow [] = ((λ i. behind_one (codes "}") i), tt)
fields_grow (n ∷ ns) = ((λ i. behind_three (codes ", ") n (codes ": ") i), fields_grow ns)

layout_grows : (symbol : Symbol) → LayoutGrows (layout symbol)
layout_grows term.array = tt
layout_grows term.all_of = tt
layout_grows term.any_of = tt
layout_grows (term.fields []) = tt
layout_grows (term.fields (n ∷ ns)) = fields_grow ns
layout_grows (term.field name) = ((λ i. behind_three (codes ", ") name (codes ")") i), tt)
layout_grows (term.set_field name) = ((λ i. behind_three (codes ", ") name (codes ", ") i), ((λ i. behind_one (codes ")") i), tt))
layout_grows (term.of_kind kind) = ((λ i. omega (arith, behind_one (codes ")") i, kind_grows kind (codes ")" ++ i), behind_one (codes ", ") (kind_before kind (codes ")" ++ i)))), tt)
layout_grows (term.in_type n) = ((λ i. behind_three (codes ", ") (decimal n) (codes ")") i), tt)
layout_grows symbol = worded_grow (texts symbol)

binding_grows : (quantifier word : List ℕ) (n : ℕ) → Grows (binding quantifier word n)
binding_grows quantifier word n i = omega (arith, behind_three (codes "#") (decimal n) (codes " in ") i, behind_two quantifier word (codes "#" ++ (decimal n ++ (codes " in " ++ i))))

opening_grows : (symbol : Symbol) → Grows (opening symbol)
opening_grows (term.number z) i = behind_one (signed_decimal z) i
opening_grows (term.int_name word n) i = behind_three word (codes "#") (decimal n) i
opening_grows term.add i = behind_one (codes "add(") i
opening_grows term.sub i = behind_one (codes "sub(") i
opening_grows term.neg i = behind_one (codes "neg(") i
opening_grows term.mul i = behind_one (codes "mul(") i
opening_grows term.div i = behind_one (codes "div(") i
opening_grows term.rem i = behind_one (codes "mod(") i
opening_grows term.num i = behind_one (codes "num(") i
opening_grows term.len i = behind_one (codes "len(") i
opening_grows (term.val_name word n) i = behind_three word (codes ".") (decimal n) i
opening_grows term.null i = behind_one (codes "null") i
opening_grows (term.truth true) i = behind_one (codes "true") i
opening_grows (term.truth false) i = behind_one (codes "false") i
opening_grows term.int i = behind_one (codes "int(") i
opening_grows term.bool i = behind_one (codes "bool(") i
opening_grows term.array i = behind_one (codes "arr[") i
opening_grows term.repeat i = behind_one (codes "rep(") i
opening_grows term.update i = behind_one (codes "upd(") i
opening_grows term.get i = behind_one (codes "get(") i
opening_grows (term.fields []) i = behind_one (codes "rec{}") i
opening_grows (term.fields (n ∷ ns)) i = behind_three (codes "rec{") n (codes ": ") i
opening_grows (term.field name) i = behind_one (codes "fld(") i
opening_grows (term.set_field name) i = behind_one (codes "setf(") i
opening_grows term.at_most i = omega arith
opening_grows term.equal i = omega arith
opening_grows (term.of_kind kind) i = behind_one (codes "kind(") i
opening_grows (term.in_type n) i = behind_one (codes "in(") i
opening_grows (term.every word n) i = binding_grows (codes "all ") word n i
opening_grows (term.exists word n) i = binding_grows (codes "some ") word n i
opening_grows term.denied i = behind_one (codes "not ") i
opening_grows term.all_of i = behind_one (codes "and(") i
opening_grows term.any_of i = behind_one (codes "or(") i

-- how many parts there are of a series, and how many bytes short of them a text may be
abbrev counted : Layout → Parts → ℕ
counted (gapped gs) ps = 0
counted (first_of s) ps = count ps
counted (more_of s) ps = count ps

abbrev slack : Layout → ℕ
slack (gapped gs) = 0
slack (first_of s) = 1
slack (more_of s) = 0

between_some : (s : Series) → 1 ≤ length (between s)
between_some elements = omega arith
between_some members = omega arith

constant_fine : (symbol : Symbol) (ps : Parts) (i j : List ℕ) → IsConstant symbol ps i j → AreFine ps (layout symbol) × IsShort symbol ps × (length j ≤ length i)
constant_fine term.all_of no_parts i j h = (tt, tt, omega (arith, ap (λ (x : List ℕ). length x) h.0, behind_one (codes "true") j))
constant_fine term.any_of no_parts i j h = (tt, tt, omega (arith, ap (λ (x : List ℕ). length x) h.0, behind_one (codes "false") j))
constant_fine symbol ps i j h = absurd h

short_by : (symbol : Symbol) (ps : Parts) → counted (layout symbol) ps < 2 ^ 127 → IsShort symbol ps
short_by term.array ps h = h
short_by symbol ps h = tt

slack_small : (l : Layout) → slack l ≤ 1
slack_small (gapped gs) = omega arith
slack_small (first_of s) = omega arith
slack_small (more_of s) = omega arith

mutual
  spans_fine : (t : Term) (sort : Sort) (i j : List ℕ) → length i < 2 ^ 126 → Spans t sort i j → IsFine t sort × (length j ≤ length i)
  spans_fine (Of symbol ps) sort i j few h = by (λ k grows small laid. laid_fine ps (layout symbol) k j grows small laid) h.2
    where
      by : ((k : List ℕ) → LayoutGrows (layout symbol) → length k < 2 ^ 126 → Laid ps (layout symbol) k j → AreFine ps (layout symbol) × (counted (layout symbol) ps + length j ≤ length k + slack (layout symbol)) × (length j ≤ length k))
          → IsConstant symbol ps i j ⊎ ((k : List ℕ) × (i ≡ opening symbol k) × Laid ps (layout symbol) k j × Stops symbol j) → IsFine (Of symbol ps) sort × (length j ≤ length i)
      by later (inl c) = let f = constant_fine symbol ps i j c in ((h.0, h.1, f.1, f.0), f.2)
      by later (inr o) =
          let opens = opening_grows symbol o.0 in
          let same = ap (λ (x : List ℕ). length x) o.1 in
          let laid = later o.0 (layout_grows symbol) (omega (arith, few, opens, same)) o.2 in
          let small = slack_small (layout symbol) in
          ((h.0, h.1, short_by symbol ps (omega (arith, laid.1, small, few, opens, same)), laid.0), omega (arith, laid.2, opens, same))

  laid_fine : (ps : Parts) (l : Layout) (i j : List ℕ) → LayoutGrows l → length i < 2 ^ 126 → Laid ps l i j → AreFine ps l × (counted l ps + length j ≤ length i + slack l) × (length j ≤ length i)
  laid_fine no_parts (gapped []) i j grows few h = let same = ap (λ (x : List ℕ). length x) h in (tt, omega (arith, same), omega (arith, same))
  laid_fine no_parts (gapped (g ∷ gs)) i j grows few h = absurd h
  laid_fine no_parts (first_of s) i j grows few h = let same = ap (λ (x : List ℕ). length x) h in let more = behind_one (closing s) j in (tt, omega (arith, same, more), omega (arith, same, more))
  laid_fine no_parts (more_of s) i j grows few h = let same = ap (λ (x : List ℕ). length x) h in let more = behind_one (closing s) j in (tt, omega (arith, same, more), omega (arith, same, more))
  laid_fine (part t ps) (gapped []) i j grows few h = absurd h
  laid_fine (part t ps) (gapped (g ∷ gs)) i j grows few h =
      let same = ap (λ (x : List ℕ). length x) h.3 in
      let behind = ap (λ (x : List ℕ). length x) h.5 in
      let gap = grows.0 h.2 in
      let first = spans_fine t g.0 h.0 h.1 (omega (arith, few, same)) h.4 in
      let rest = laid_fine ps (gapped gs) h.2 j grows.1 (omega (arith, few, same, behind, gap, first.1)) h.6 in
      ((first.0, rest.0), omega (arith, same, behind, gap, first.1, rest.2), omega (arith, same, behind, gap, first.1, rest.2))
  laid_fine (part t ps) (first_of s) i j grows few h =
      let same = ap (λ (x : List ℕ). length x) h.3 in
      let behind = ap (λ (x : List ℕ). length x) h.5 in
      let first = spans_fine t (series_sort s) h.0 h.1 (omega (arith, few, same)) h.4 in
      let rest = laid_fine ps (more_of s) h.2 j tt (omega (arith, few, same, behind, first.1)) h.6 in
      ((first.0, rest.0), omega (arith, same, behind, first.1, rest.1), omega (arith, same, behind, first.1, rest.2))
  laid_fine (part t ps) (more_of s) i j grows few h =
      let same = ap (λ (x : List ℕ). length x) h.3 in
      let behind = ap (λ (x : List ℕ). length x) h.5 in
      let before = length-append (between s) h.0 in
      let some = between_some s in
      let first = spans_fine t (series_sort s) h.0 h.1 (omega (arith, few, same, before)) h.4 in
      let rest = laid_fine ps (more_of s) h.2 j tt (omega (arith, few, same, before, behind, first.1)) h.6 in
      ((first.0, rest.0), omega (arith, same, before, some, behind, first.1, rest.1), omega (arith, same, before, behind, first.1, rest.2))

pub read_is_of : (sort : Sort) (text : List ℕ) (t : Term) → length text < 2 ^ 126 → IsSpelled sort text t → IsOf t sort
read_is_of sort text t few h = subst (λ (x : Term). IsOf x sort) (sym h.folds) (fine_of (made h.raw) sort (made_fine h.raw sort (spans_fine h.raw sort text [] few h.spells).0))
