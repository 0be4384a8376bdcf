-- Folding and putting a term for a name keep sorts.
use Rattle.std.proofs.Common.{◌≡◌, ℕ, zero, suc, ◌+◌, List, [], ◌∷◌, ◌++◌, Bool, true, false, cond, ℤ, pos, negsuc, neg_ℤ, ◌+ℤ◌, ◌-ℤ◌, ◌*ℤ◌, Option, Some, None, refl, sym, subst}
use Rattle.std.specs.Prelude.{bytes_eq, nat_lt}
use Rattle.wy_term.specs.wy_value.Datum.{Datum}
use Rattle.wy_term.specs.Term as term
use Rattle.wy_term.specs.Term.{DataKind, Symbol, Term, Of, Parts, no_parts, part, leaf, one, two, Number, Not, int_name, val_name, every, exists}
use Rattle.wy_term.specs.Data.{same_datum}
use Rattle.wy_term.specs.Same.{same_kind, same_term}
use Rattle.wy_term.specs.Meaning as meaning
use Rattle.wy_term.specs.Rewriting.{as_number, as_int, as_bool, as_array, as_denied, as_record, as_constant, is_true, is_false, is_truth, True, False, decided, number_or, on_one, on_two, fold_num, count, fold_len, nth_part, part_at, fold_get, fold_order, fold_at_most, fold_not, has_false, has_true, without_true, without_false, joined, fold_and, fold_or, field_part, fold_field, kind_given, fold_kind, fold_bool, fold_apart, fold_equal, rewritten}
use Rattle.wy_term.specs.Folding.{found, found_or, hidden, span_of, instances, number_or_zero, binder, joined_by, quantified, parts_of, replaced, replacers, fold_range, folded}
use Rattle.wy_term.specs.Sorts.{Sort, int_sort, val_sort, formula_sort, sort_of, sort_in}
use Rattle.wy_term.proofs.SameLemmas.{terms_are}
use Rattle.wy_term_subst.specs.sorted.Sorted.{Places, each, places, MayCome, behind, IsSorted, AreSorted}
use Rattle.wy_term_subst.specs.Names.{stands_in, numbers_in, new_number}
use Rattle.wy_term_subst.specs.Substitution.{with_new_name, binder_of, entered_by, entered, env_at, finished, put, put_parts, substituted}
use Rattle.wy_term_subst.specs.kept_sorts.SortKept.{HasSort}

-- ---- leaves

number_sorted : (z : ℤ) → HasSort (Number z) int_sort
number_sorted z = (tt, refl)

null_sorted : HasSort (leaf term.null) val_sort
null_sorted = (tt, refl)

decided_sorted : (b : Bool) → HasSort (decided b) formula_sort
decided_sorted true = (tt, refl)
decided_sorted false = (tt, refl)

number_or_sorted : (t : Term) (o : Option ℤ) → HasSort t int_sort → HasSort (number_or t o) int_sort
number_or_sorted t None h = h
number_or_sorted t (Some z) h = number_sorted z

-- ---- parts of a sorted term

int_part : (v s : Term) → IsSorted v → as_int v ≡ Some s → HasSort s int_sort
int_part (Of term.int (part u no_parts)) s f e = let same : u ≡ s = cc in subst (λ (x : Term). HasSort x int_sort) same (f.1, f.0)
int_part v s f e = absurd cc

bool_part : (v s : Term) → IsSorted v → as_bool v ≡ Some s → HasSort s formula_sort
bool_part (Of term.bool (part u no_parts)) s f e = let same : u ≡ s = cc in subst (λ (x : Term). HasSort x formula_sort) same (f.1, f.0)
bool_part v s f e = absurd cc

denied_part : (v s : Term) → IsSorted v → as_denied v ≡ Some s → HasSort s formula_sort
denied_part (Of term.denied (part u no_parts)) s f e = let same : u ≡ s = cc in subst (λ (x : Term). HasSort x formula_sort) same (f.1, f.0)
denied_part v s f e = absurd cc

array_parts : (v : Term) (ps : Parts) → IsSorted v → as_array v ≡ Some ps → AreSorted ps (each val_sort)
array_parts (Of term.array qs) ps f e = let same : qs ≡ ps = cc in subst (λ (rs : Parts). AreSorted rs (each val_sort)) same f
array_parts v ps f e = absurd cc

record_parts : (v : Term) (r : List (List ℕ) × Parts) → IsSorted v → as_record v ≡ Some r → AreSorted r.1 (each val_sort)
record_parts (Of (term.fields names) qs) r f e =
    let same : (names, qs) ≡ r = cc in
    subst (λ (q : List (List ℕ) × Parts). AreSorted q.1 (each val_sort)) same f
record_parts v r f e = absurd cc

nth_sorted : (ps : Parts) (k : ℕ) → AreSorted ps (each val_sort) → HasSort (nth_part ps k) val_sort
nth_sorted no_parts k f = null_sorted
nth_sorted (part t ps) zero f = (f.1, f.0)
nth_sorted (part t ps) (suc k) f = nth_sorted ps k f.2

at_sorted : (ps : Parts) (k : ℤ) → AreSorted ps (each val_sort) → HasSort (part_at ps k) val_sort
at_sorted ps (pos k) f = nth_sorted ps k f
at_sorted ps (negsuc k) f = null_sorted

field_sorted : (ns : List (List ℕ)) (ps : Parts) (name : List ℕ) → AreSorted ps (each val_sort) → HasSort (field_part ns ps name) val_sort
field_sorted [] ps name f = null_sorted
field_sorted (n ∷ ns) no_parts name f = null_sorted
field_sorted (n ∷ ns) (part t ps) name f = either (bytes_eq n name) (f.1, f.0) (field_sorted ns ps name f.2)
  where
    either : (b : Bool) → HasSort t val_sort → HasSort (field_part ns ps name) val_sort → HasSort (cond b t (field_part ns ps name)) val_sort
    either true g h = g
    either false g h = h

-- ---- numbers, arrays and records

num_sorted : (v : Term) (o : Option Term) → as_int v ≡ o → IsSorted v → HasSort (one term.num v) int_sort → HasSort (fold_num v o) int_sort
num_sorted v None e f h = h
num_sorted v (Some s) e f h = int_part v s f e

len_sorted : (v : Term) (o : Option Parts) → HasSort (one term.len v) int_sort → HasSort (fold_len v o) int_sort
len_sorted v None h = h
len_sorted v (Some ps) h = number_sorted (pos (count ps))

get_sorted : (v s : Term) (o : Option Parts) (k : Option ℤ) → as_array v ≡ o → IsSorted v → HasSort (two term.get v s) val_sort → HasSort (fold_get v s o k) val_sort
get_sorted v s None k e f h = h
get_sorted v s (Some ps) None e f h = h
get_sorted v s (Some ps) (Some k) e f h = at_sorted ps k (array_parts v ps f e)

fields_sorted : (name : List ℕ) (v : Term) (o : Option (List (List ℕ) × Parts)) → as_record v ≡ o → IsSorted v → HasSort (one (term.field name) v) val_sort → HasSort (fold_field name v o) val_sort
fields_sorted name v None e f h = h
fields_sorted name v (Some r) e f h = field_sorted r.0 r.1 name (record_parts v r f e)

-- ---- tests

order_sorted : (t : Term) (a b : Option ℤ) → HasSort t formula_sort → HasSort (fold_order t a b) formula_sort
order_sorted t None b h = h
order_sorted t (Some x) None h = h
order_sorted t (Some x) (Some y) h = decided_sorted (meaning.at_most x y)

at_most_sorted : (s t : Term) → HasSort (two term.at_most s t) formula_sort → HasSort (fold_at_most s t) formula_sort
at_most_sorted s t h = either (same_term s t)
  where
    either : (b : Bool) → HasSort (cond b True (fold_order (two term.at_most s t) (as_number s) (as_number t))) formula_sort
    either true = decided_sorted true
    either false = order_sorted (two term.at_most s t) (as_number s) (as_number t) h

not_sorted : (f : Term) (o : Option Term) → as_denied f ≡ o → IsSorted f → HasSort (Not f) formula_sort → HasSort (fold_not f o) formula_sort
not_sorted f None e is h = h
not_sorted f (Some g) e is h = denied_part f g is e

kind_sorted : (kind : DataKind) (v : Term) (o : Option DataKind) → HasSort (one (term.of_kind kind) v) formula_sort → HasSort (fold_kind kind v o) formula_sort
kind_sorted kind v None h = h
kind_sorted kind v (Some given) h = decided_sorted (same_kind given kind)

bool_sorted : (v w : Term) (o : Option Term) (b : Bool) → as_bool v ≡ o → IsSorted v → HasSort (two term.equal v w) formula_sort → HasSort (fold_bool (two term.equal v w) o b) formula_sort
bool_sorted v w None b e f h = h
bool_sorted v w (Some g) true e f h = bool_part v g f e
bool_sorted v w (Some g) false e f h = h

apart_sorted : (v w : Term) (d e : Option Datum) → IsSorted v → HasSort (two term.equal v w) formula_sort → HasSort (fold_apart v w d e) formula_sort
apart_sorted v w (Some d) (Some e) f h = decided_sorted (same_datum d e)
apart_sorted v w (Some d) None f h = h
apart_sorted v w None e f h = bool_sorted v w (as_bool v) (is_truth w) refl f h

equal_sorted : (v w : Term) → IsSorted v → HasSort (two term.equal v w) formula_sort → HasSort (fold_equal v w) formula_sort
equal_sorted v w f h = either (same_term v w)
  where
    either : (b : Bool) → HasSort (cond b True (fold_apart v w (as_constant v) (as_constant w))) formula_sort
    either true = decided_sorted true
    either false = apart_sorted v w (as_constant v) (as_constant w) f h

-- ---- connectives

without_true_sorted : (fs : Parts) → AreSorted fs (each formula_sort) → AreSorted (without_true fs) (each formula_sort)
without_true_sorted no_parts f = tt
without_true_sorted (part g fs) f = either (is_true g) (without_true_sorted fs f.2)
  where
    either : (b : Bool) → AreSorted (without_true fs) (each formula_sort) → AreSorted (cond b (without_true fs) (part g (without_true fs))) (each formula_sort)
    either true rest = rest
    either false rest = (f.0, f.1, rest)

without_false_sorted : (fs : Parts) → AreSorted fs (each formula_sort) → AreSorted (without_false fs) (each formula_sort)
without_false_sorted no_parts f = tt
without_false_sorted (part g fs) f = either (is_false g) (without_false_sorted fs f.2)
  where
    either : (b : Bool) → AreSorted (without_false fs) (each formula_sort) → AreSorted (cond b (without_false fs) (part g (without_false fs))) (each formula_sort)
    either true rest = rest
    either false rest = (f.0, f.1, rest)

joined_all : (fs : Parts) → AreSorted fs (each formula_sort) → HasSort (joined term.all_of fs) formula_sort
joined_all no_parts f = (tt, refl)
joined_all (part g no_parts) f = (f.1, f.0)
joined_all (part g (part h fs)) f = (f, refl)

joined_any : (fs : Parts) → AreSorted fs (each formula_sort) → HasSort (joined term.any_of fs) formula_sort
joined_any no_parts f = (tt, refl)
joined_any (part g no_parts) f = (f.1, f.0)
joined_any (part g (part h fs)) f = (f, refl)

and_sorted : (fs : Parts) → AreSorted fs (each formula_sort) → HasSort (fold_and fs) formula_sort
and_sorted fs f = either (has_false fs)
  where
    either : (b : Bool) → HasSort (cond b False (joined term.all_of (without_true fs))) formula_sort
    either true = decided_sorted false
    either false = joined_all (without_true fs) (without_true_sorted fs f)

or_sorted : (fs : Parts) → AreSorted fs (each formula_sort) → HasSort (fold_or fs) formula_sort
or_sorted fs f = either (has_true fs)
  where
    either : (b : Bool) → HasSort (cond b True (joined term.any_of (without_false fs))) formula_sort
    either true = decided_sorted true
    either false = joined_any (without_false fs) (without_false_sorted fs f)

joined_by_sorted : (all : Bool) (fs : Parts) → AreSorted fs (each formula_sort) → HasSort (joined_by all fs) formula_sort
joined_by_sorted true fs f = and_sorted fs f
joined_by_sorted false fs f = or_sorted fs f

-- ---- terms that aren't quantifiers

rewritten_sorted : (t : Term) → IsSorted t → HasSort (rewritten t) (sort_in t)
rewritten_sorted (Of term.add (part s (part t no_parts))) f = number_or_sorted (two term.add s t) (on_two (λ a b. a +ℤ b) (as_number s) (as_number t)) (f, refl)
rewritten_sorted (Of term.sub (part s (part t no_parts))) f = number_or_sorted (two term.sub s t) (on_two (λ a b. a -ℤ b) (as_number s) (as_number t)) (f, refl)
rewritten_sorted (Of term.neg (part s no_parts)) f = number_or_sorted (one term.neg s) (on_one neg_ℤ (as_number s)) (f, refl)
rewritten_sorted (Of term.mul (part s (part t no_parts))) f = number_or_sorted (two term.mul s t) (on_two (λ a b. a *ℤ b) (as_number s) (as_number t)) (f, refl)
rewritten_sorted (Of term.num (part v no_parts)) f = num_sorted v (as_int v) refl f.1 (f, refl)
rewritten_sorted (Of term.len (part v no_parts)) f = len_sorted v (as_array v) (f, refl)
rewritten_sorted (Of term.get (part v (part s no_parts))) f = get_sorted v s (as_array v) (as_number s) refl f.1 (f, refl)
rewritten_sorted (Of term.at_most (part s (part t no_parts))) f = at_most_sorted s t (f, refl)
rewritten_sorted (Of (term.field name) (part v no_parts)) f = fields_sorted name v (as_record v) refl f.1 (f, refl)
rewritten_sorted (Of term.equal (part v (part w no_parts))) f = equal_sorted v w f.1 (f, refl)
rewritten_sorted (Of (term.of_kind kind) (part v no_parts)) f = kind_sorted kind v (kind_given v) (f, refl)
rewritten_sorted (Of term.denied (part g no_parts)) f = not_sorted g (as_denied g) refl f.1 (f, refl)
rewritten_sorted (Of term.all_of fs) f = and_sorted fs f
rewritten_sorted (Of term.any_of fs) f = or_sorted fs f
rewritten_sorted t f = (f, refl)

-- ---- what names stand for

-- each name stands for a term of its sort
abbrev pub ArePairs : List (Term × Term) → Type 0
ArePairs [] = Unit {0}
ArePairs (p ∷ ps) = HasSort p.1 (sort_in p.0) × ArePairs ps

pub found_sorted : (env : List (Term × Term)) (x : Term) → IsSorted x → ArePairs env → HasSort (found_or (found env x) x) (sort_in x)
found_sorted [] x f are = (f, refl)
found_sorted (p ∷ ps) x f are = either (same_term p.0 x) refl (found_sorted ps x f are.1)
  where
    either : (b : Bool) → same_term p.0 x ≡ b → HasSort (found_or (found ps x) x) (sort_in x) → HasSort (found_or (cond b (Some p.1) (found ps x)) x) (sort_in x)
    either true e rest = subst (λ (y : Term). HasSort p.1 (sort_in y)) (terms_are p.0 x e) are.0
    either false e rest = rest

hidden_sorted : (o : Option Term) (w : List ℕ) (n : ℕ) (env : List (Term × Term)) → ArePairs env → ArePairs (hidden o (leaf (int_name w n)) env)
hidden_sorted None w n env are = are
hidden_sorted (Some u) w n env are = either (same_term u (leaf (int_name w n)))
  where
    either : (b : Bool) → ArePairs (cond b env ((leaf (int_name w n), leaf (int_name w n)) ∷ env))
    either true = are
    either false = ((tt, refl), are)

-- what makes a term of this sort, where names stand for terms of their sorts
abbrev Makes : Sort → (List (Term × Term) → Term) → Type 0
Makes sort body = (env : List (Term × Term)) → ArePairs env → HasSort (body env) sort

abbrev MakeAll : Parts → List (List (Term × Term) → Term) → Type 0
MakeAll no_parts [] = Unit {0}
MakeAll no_parts (b ∷ bs) = ⊥
MakeAll (part t ps) [] = ⊥
MakeAll (part t ps) (b ∷ bs) = Makes (sort_in t) b × MakeAll ps bs

instances_sorted : (body : List (Term × Term) → Term) (w : List ℕ) (n : ℕ) (env : List (Term × Term)) (z : ℤ) (k : ℕ) → Makes formula_sort body → ArePairs env → AreSorted (instances body (leaf (int_name w n)) env z k) (each formula_sort)
instances_sorted body w n env z zero make are = tt
instances_sorted body w n env z (suc k) make are =
    let first = make ((leaf (int_name w n), Number z) ∷ env) (number_sorted z, are) in
    (first.1, first.0, instances_sorted body w n env (z +ℤ pos 1) k make are)

bound_sorted : (all : Bool) (w : List ℕ) (n : ℕ) (s t f : Term) → HasSort s int_sort → HasSort t int_sort → HasSort f formula_sort → HasSort (Of (binder all w n) (part s (part t (part f no_parts)))) formula_sort
bound_sorted true w n s t f a b c = ((a.1, a.0, (b.1, b.0, (c.1, c.0, tt))), refl)
bound_sorted false w n s t f a b c = ((a.1, a.0, (b.1, b.0, (c.1, c.0, tt))), refl)

quantified_sorted : (all : Bool) (w : List ℕ) (n : ℕ) (body : List (Term × Term) → Term) (env : List (Term × Term)) (s t : Term) (o : Option ℕ) → Makes formula_sort body → ArePairs env → HasSort s int_sort → HasSort t int_sort → HasSort (quantified all w n body env s t o) formula_sort
quantified_sorted all w n body env s t None make are a b =
    let henv = hidden (found env (leaf (int_name w n))) (leaf (int_name w n)) env in
    bound_sorted all w n s t (body henv) a b (make henv (hidden_sorted (found env (leaf (int_name w n))) w n env are))
quantified_sorted all w n body env s t (Some m) make are a b =
    joined_by_sorted all (instances body (leaf (int_name w n)) env (number_or_zero (as_number s)) m) (instances_sorted body w n env (number_or_zero (as_number s)) m make are)

makes_as : (s r : Sort) (body : List (Term × Term) → Term) → s ≡ r → Makes s body → Makes r body
makes_as s r body e make = subst (λ (x : Sort). Makes x body) e make

come_same : (wanted : Places) (s r : Sort) → s ≡ r → MayCome wanted r → MayCome wanted s
come_same wanted s r e come = subst (MayCome wanted) (sym e) come

parts_sorted : (ps : Parts) (wanted : Places) (bodies : List (List (Term × Term) → Term)) (env : List (Term × Term)) → AreSorted ps wanted → MakeAll ps bodies → ArePairs env → AreSorted (parts_of bodies env) wanted
parts_sorted no_parts wanted [] env sorted make are = sorted
parts_sorted no_parts wanted (b ∷ bs) env sorted make are = absurd make
parts_sorted (part t ps) wanted [] env sorted make are = absurd make
parts_sorted (part t ps) wanted (b ∷ bs) env sorted make are =
    let here = make.0 env are in
    (come_same wanted (sort_in (b env)) (sort_in t) here.1 sorted.0, here.0, parts_sorted ps (behind wanted) bs env sorted.2 make.1 are)

quantifier_sorted : (all : Bool) (w : List ℕ) (n : ℕ) (s u f : Term) (env : List (Term × Term)) → sort_in s ≡ int_sort → sort_in u ≡ int_sort → sort_in f ≡ formula_sort → Makes (sort_in s) (replaced s) → Makes (sort_in u) (replaced u) → Makes (sort_in f) (replaced f) → ArePairs env → HasSort (quantified all w n (replaced f) env (replaced s env) (replaced u env) (span_of (as_number (replaced s env)) (as_number (replaced u env)))) formula_sort
quantifier_sorted all w n s u f env is_s is_u is_f ms mu mf are =
    quantified_sorted all w n (replaced f) env (replaced s env) (replaced u env) (span_of (as_number (replaced s env)) (as_number (replaced u env))) (makes_as (sort_in f) formula_sort (replaced f) is_f mf) are (makes_as (sort_in s) int_sort (replaced s) is_s ms env are) (makes_as (sort_in u) int_sort (replaced u) is_u mu env are)

remade_sorted : (symbol : Symbol) (ps : Parts) → AreSorted ps (places symbol) → MakeAll ps (replacers ps) → Makes (sort_of symbol) (replaced (Of symbol ps))
remade_sorted (int_name w n) ps sorted make env are = found_sorted env (leaf (int_name w n)) tt are
remade_sorted (val_name w n) ps sorted make env are = found_sorted env (leaf (val_name w n)) tt are
remade_sorted (every w n) no_parts sorted make env are = absurd sorted
remade_sorted (every w n) (part s no_parts) sorted make env are = absurd sorted.2
remade_sorted (every w n) (part s (part u no_parts)) sorted make env are = absurd sorted.2.2
remade_sorted (every w n) (part s (part u (part f no_parts))) sorted make env are = quantifier_sorted true w n s u f env sorted.0 sorted.2.0 sorted.2.2.0 make.0 make.1.0 make.1.1.0 are
remade_sorted (every w n) (part s (part u (part f (part g ps)))) sorted make env are = absurd sorted.2.2.2.0
remade_sorted (exists w n) no_parts sorted make env are = absurd sorted
remade_sorted (exists w n) (part s no_parts) sorted make env are = absurd sorted.2
remade_sorted (exists w n) (part s (part u no_parts)) sorted make env are = absurd sorted.2.2
remade_sorted (exists w n) (part s (part u (part f no_parts))) sorted make env are = quantifier_sorted false w n s u f env sorted.0 sorted.2.0 sorted.2.2.0 make.0 make.1.0 make.1.1.0 are
remade_sorted (exists w n) (part s (part u (part f (part g ps)))) sorted make env are = absurd sorted.2.2.2.0
remade_sorted symbol ps sorted make env are = rewritten_sorted (Of symbol (parts_of (replacers ps) env)) (parts_sorted ps (places symbol) (replacers ps) env sorted make are)

mutual
  replaced_sorted : (t : Term) → IsSorted t → Makes (sort_in t) (replaced t)
  replaced_sorted (Of symbol ps) sorted = remade_sorted symbol ps sorted (replacers_sorted ps (places symbol) sorted)

  replacers_sorted : (ps : Parts) (wanted : Places) → AreSorted ps wanted → MakeAll ps (replacers ps)
  replacers_sorted no_parts wanted sorted = tt
  replacers_sorted (part t ps) wanted sorted = (replaced_sorted t sorted.1, replacers_sorted ps (behind wanted) sorted.2)

-- ---- folding

range_sorted : (all : Bool) (w : List ℕ) (n : ℕ) (s u f : Term) (o : Option ℕ) → HasSort s int_sort → HasSort u int_sort → HasSort f formula_sort → HasSort (fold_range all w n s u f o) formula_sort
range_sorted all w n s u f None a b c = bound_sorted all w n s u f a b c
range_sorted all w n s u f (Some m) a b c =
    joined_by_sorted all (instances (replaced f) (leaf (int_name w n)) [] (number_or_zero (as_number s)) m) (instances_sorted (replaced f) w n [] (number_or_zero (as_number s)) m (makes_as (sort_in f) formula_sort (replaced f) c.1 (replaced_sorted f c.0)) tt)

pub folded_sorted : (t : Term) → IsSorted t → HasSort (folded t) (sort_in t)
folded_sorted (Of (every w n) (part s (part u (part f no_parts)))) h = range_sorted true w n s u f (span_of (as_number s) (as_number u)) (h.1, h.0) (h.2.1, h.2.0) (h.2.2.1, h.2.2.0)
folded_sorted (Of (exists w n) (part s (part u (part f no_parts)))) h = range_sorted false w n s u f (span_of (as_number s) (as_number u)) (h.1, h.0) (h.2.1, h.2.0) (h.2.2.1, h.2.2.0)
folded_sorted t h = rewritten_sorted t h

-- ---- a term put for a name

pub entered_sorted : (t : Term) (o : Option (List ℕ × ℕ)) (env : List (Term × Term)) (ns : List ℕ) → ArePairs env → ArePairs (entered_by t o env ns).inner
entered_sorted t None env ns are = are
entered_sorted t (Some name) env ns are = either (stands_in name.0 name.1 t)
  where
    kept : ArePairs (hidden (found env (leaf (int_name name.0 name.1))) (leaf (int_name name.0 name.1)) env)
    kept = hidden_sorted (found env (leaf (int_name name.0 name.1))) name.0 name.1 env are

    either : (b : Bool) → ArePairs (cond b (with_new_name name.0 name.1 (new_number ns) env ns) (record { number = name.1; inner = hidden (found env (leaf (int_name name.0 name.1))) (leaf (int_name name.0 name.1)) env; taken = ns })).inner
    either true = ((tt, refl), are)
    either false = kept

finished_sorted : (symbol : Symbol) (env : List (Term × Term)) (n : ℕ) (ps : Parts) → ArePairs env → AreSorted ps (places symbol) → HasSort (finished symbol env n ps) (sort_of symbol)
finished_sorted (int_name w m) env n ps are sorted = found_sorted env (leaf (int_name w m)) tt are
finished_sorted (val_name w m) env n ps are sorted = found_sorted env (leaf (val_name w m)) tt are
finished_sorted (every w m) env n ps are sorted = folded_sorted (Of (every w n) ps) sorted
finished_sorted (exists w m) env n ps are sorted = folded_sorted (Of (exists w n) ps) sorted
finished_sorted symbol env n ps are sorted = folded_sorted (Of symbol ps) sorted

pub env_at_sorted : (k : ℕ) (env inner : List (Term × Term)) → ArePairs env → ArePairs inner → ArePairs (env_at k env inner)
env_at_sorted k env inner are also = either (nat_lt k 2)
  where
    either : (b : Bool) → ArePairs (cond b env inner)
    either true = are
    either false = also

mutual
  pub put_sorted : (t f : Term) (env : List (Term × Term)) (ns : List ℕ) → IsSorted f → ArePairs env → HasSort (put t f env ns).term (sort_in f)
  put_sorted t (Of symbol ps) env ns sorted are =
      let e = entered t symbol env ns in
      finished_sorted symbol env e.number (put_parts t ps 0 env e.inner e.taken).parts are (put_parts_sorted t ps 0 env e.inner e.taken (places symbol) sorted are (entered_sorted t (binder_of symbol) env ns are))

  pub put_parts_sorted : (t : Term) (ps : Parts) (k : ℕ) (env inner : List (Term × Term)) (ns : List ℕ) (wanted : Places) → AreSorted ps wanted → ArePairs env → ArePairs inner → AreSorted (put_parts t ps k env inner ns).parts wanted
  put_parts_sorted t no_parts k env inner ns wanted sorted are also = sorted
  put_parts_sorted t (part f ps) k env inner ns wanted sorted are also =
      let first = put t f (env_at k env inner) ns in
      let here = put_sorted t f (env_at k env inner) ns sorted.1 (env_at_sorted k env inner are also) in
      (come_same wanted (sort_in first.term) (sort_in f) here.1 sorted.0, here.0, put_parts_sorted t ps (k + 1) env inner first.taken (behind wanted) sorted.2 are also)

pub substituted_sorted : (f x t : Term) → IsSorted f → HasSort t (sort_in x) → HasSort (substituted f x t) (sort_in f)
substituted_sorted f x t sorted has = put_sorted t f ((x, t) ∷ []) (numbers_in f ++ numbers_in t) sorted (has, tt)
