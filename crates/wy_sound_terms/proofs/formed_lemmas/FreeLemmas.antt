-- Folding brings no free names into a term.
use Rattle.std.proofs.Common.{◌≡◌, ℕ, zero, suc, List, [], ◌∷◌, ◌++◌, Bool, true, false, cond, ℤ, pos, negsuc, neg_ℤ, ◌+ℤ◌, ◌-ℤ◌, ◌*ℤ◌, Option, Some, None, ◌⊎◌, inl, inr, refl, sym, subst}
use Rattle.std.specs.Prelude.{bytes_eq}
use Rattle.wy_term_subst.specs.wy_value.Datum.{Datum}
use Rattle.wy_term_subst.specs.wy_term.Term as term
use Rattle.wy_term_subst.specs.wy_term.Term.{DataKind, Symbol, Term, Of, Parts, no_parts, part, leaf, one, two, Number, Not, int_name, val_name, every, exists}
use Rattle.wy_term_subst.specs.wy_term.Data.{same_datum}
use Rattle.wy_term_subst.specs.wy_term.Same.{same_kind, same_term}
use Rattle.wy_term_subst.specs.wy_term.Meaning as meaning
use Rattle.wy_term_subst.specs.wy_term.Scope.{without, of_part, of_all, of_bound, free_names, free_in}
use Rattle.wy_term_subst.specs.wy_term.Rewriting.{as_number, as_int, as_bool, as_array, as_denied, as_record, as_constant, is_true, is_false, is_truth, decided, number_or, on_one, on_two, fold_num, count, fold_len, nth_part, part_at, fold_get, fold_order, fold_not, has_false, has_true, without_true, without_false, joined, fold_and, fold_or, field_part, fold_field, kind_given, fold_kind, fold_bool, fold_apart, rewritten}
use Rattle.wy_term_subst.specs.wy_term.Folding.{found, found_or, hidden, span_of, instances, number_or_zero, binder, joined_by, part_of, quantified, quantifier_of, parts_of, replaced, replacers, fold_range}
use Rattle.wy_term_subst.proofs.wy_term_proofs.SameLemmas.{terms_are, terms_self}

-- ---- names among others

-- the name is one of these
abbrev pub Among : List Term → Term → Type 0
Among [] x = ⊥
Among (y ∷ ys) x = (x ≡ y) ⊎ Among ys x

-- so is each of them
abbrev pub AllAmong : List Term → List Term → Type 0
AllAmong ps [] = Unit {0}
AllAmong ps (x ∷ xs) = Among ps x × AllAmong ps xs

among_front : (ps xs ys : List Term) → AllAmong ps (xs ++ ys) → AllAmong ps xs
among_front ps [] ys h = tt
among_front ps (x ∷ xs) ys h = (h.0, among_front ps xs ys h.1)

among_back : (ps xs ys : List Term) → AllAmong ps (xs ++ ys) → AllAmong ps ys
among_back ps [] ys h = h
among_back ps (x ∷ xs) ys h = among_back ps xs ys h.1

pub among_both : (ps xs ys : List Term) → AllAmong ps xs → AllAmong ps ys → AllAmong ps (xs ++ ys)
among_both ps [] ys h g = g
among_both ps (x ∷ xs) ys h g = (h.0, among_both ps xs ys h.1 g)

pub among_more : (k : Term) (ps xs : List Term) → AllAmong ps xs → AllAmong (k ∷ ps) xs
among_more k ps [] h = tt
among_more k ps (x ∷ xs) h = (inr h.0, among_more k ps xs h.1)

-- ---- names but one

-- a name that isn't this one
not_self : (k x : Term) → same_term k x ≡ false → x ≡ k → ⊥
not_self k x f e = let t : same_term k x ≡ true = subst (λ (y : Term). same_term k y ≡ true) (sym e) (terms_self k) in absurd cc

other_than : (k x : Term) (ps : List Term) → same_term k x ≡ false → Among (k ∷ ps) x → Among ps x
other_than k x ps f (inl e) = absurd (not_self k x f e)
other_than k x ps f (inr a) = a

among_without : (k : Term) (ps xs : List Term) → AllAmong (k ∷ ps) xs → AllAmong ps (without k xs)
among_without k ps [] h = tt
among_without k ps (x ∷ xs) h = by (same_term k x) refl (among_without k ps xs h.1)
  where
    by : (b : Bool) → same_term k x ≡ b → AllAmong ps (without k xs) → AllAmong ps (cond b (without k xs) (x ∷ without k xs))
    by true t rest = rest
    by false f rest = (other_than k x ps f h.0, rest)

within_binder : (k : Term) (ps xs : List Term) → AllAmong ps (without k xs) → AllAmong (k ∷ ps) xs
within_binder k ps [] h = tt
within_binder k ps (x ∷ xs) h = by (same_term k x) refl (λ g. within_binder k ps xs g) h
  where
    by : (b : Bool) → same_term k x ≡ b → (AllAmong ps (without k xs) → AllAmong (k ∷ ps) xs) → AllAmong ps (cond b (without k xs) (x ∷ without k xs)) → AllAmong (k ∷ ps) (x ∷ xs)
    by true t rest g = (inl (sym (terms_are k x t)), rest g)
    by false f rest g = (inr g.0, rest g.1)

-- ---- terms whose free names are among others

pub record IsWithin (ps : List Term) (t : Term) : Type 0 where
  pub names : AllAmong ps (free_names t)

pub within_more : {ps : List Term} {t : Term} (k : Term) → IsWithin ps t → IsWithin (k ∷ ps) t
within_more {ps} {t} k h = record { names = among_more k ps (free_names t) h.names }

-- so are those of each part
pub data AllWithin (ps : List Term) : Parts → Type 0 where
  no_part : AllWithin ps no_parts
  and_part : {t : Term} {ts : Parts} → IsWithin ps t → AllWithin ps ts → AllWithin ps (part t ts)

pub part_names : {ps : List Term} {ts : Parts} → AllWithin ps ts → AllAmong ps (of_all (free_in ts))
part_names no_part = tt
part_names {ps} (and_part {t = t} {ts = ts} h all) = among_both ps (free_names t) (of_all (free_in ts)) h.names (part_names all)

parts_within : {ps : List Term} (ts : Parts) → AllAmong ps (of_all (free_in ts)) → AllWithin ps ts
parts_within no_parts h = no_part
parts_within {ps} (part t ts) h =
    and_part (record { names = among_front ps (free_names t) (of_all (free_in ts)) h }) (parts_within ts (among_back ps (free_names t) (of_all (free_in ts)) h))

first_part : {ps : List Term} {t : Term} {ts : Parts} → AllWithin ps (part t ts) → IsWithin ps t
first_part (and_part h all) = h

number_within : {ps : List Term} (z : ℤ) → IsWithin ps (Number z)
number_within z = record { names = tt }

null_within : {ps : List Term} → IsWithin ps (leaf term.null)
null_within = record { names = tt }

decided_within : {ps : List Term} (b : Bool) → IsWithin ps (decided b)
decided_within true = record { names = tt }
decided_within false = record { names = tt }

number_or_within : {ps : List Term} {t : Term} (o : Option ℤ) → IsWithin ps t → IsWithin ps (number_or t o)
number_or_within None h = h
number_or_within (Some z) h = number_within z

-- ---- parts that stand for the whole

int_part : {ps : List Term} (v s : Term) → IsWithin ps v → as_int v ≡ Some s → IsWithin ps s
int_part {ps} (Of term.int (part u no_parts)) s h e = let same : u ≡ s = cc in subst (IsWithin ps) same (first_part (parts_within (part u no_parts) h.names))
int_part v s h e = absurd cc

bool_part : {ps : List Term} (v s : Term) → IsWithin ps v → as_bool v ≡ Some s → IsWithin ps s
bool_part {ps} (Of term.bool (part u no_parts)) s h e = let same : u ≡ s = cc in subst (IsWithin ps) same (first_part (parts_within (part u no_parts) h.names))
bool_part v s h e = absurd cc

denied_part : {ps : List Term} (v s : Term) → IsWithin ps v → as_denied v ≡ Some s → IsWithin ps s
denied_part {ps} (Of term.denied (part u no_parts)) s h e = let same : u ≡ s = cc in subst (IsWithin ps) same (first_part (parts_within (part u no_parts) h.names))
denied_part v s h e = absurd cc

array_parts : {ps : List Term} (v : Term) (ts : Parts) → IsWithin ps v → as_array v ≡ Some ts → AllWithin ps ts
array_parts {ps} (Of term.array us) ts h e = let same : us ≡ ts = cc in subst (AllWithin ps) same (parts_within us h.names)
array_parts v ts h e = absurd cc

record_parts : {ps : List Term} (v : Term) (r : List (List ℕ) × Parts) → IsWithin ps v → as_record v ≡ Some r → AllWithin ps r.1
record_parts {ps} (Of (term.fields names) us) r h e =
    let same : (names, us) ≡ r = cc in
    subst (λ (q : List (List ℕ) × Parts). AllWithin ps q.1) same (parts_within us h.names)
record_parts v r h e = absurd cc

nth_within : {ps : List Term} {ts : Parts} (k : ℕ) → AllWithin ps ts → IsWithin ps (nth_part ts k)
nth_within k no_part = null_within
nth_within zero (and_part h all) = h
nth_within (suc k) (and_part h all) = nth_within k all

at_within : {ps : List Term} {ts : Parts} (k : ℤ) → AllWithin ps ts → IsWithin ps (part_at ts k)
at_within (pos k) all = nth_within k all
at_within (negsuc k) all = null_within

either_within : {ps : List Term} {t u : Term} (b : Bool) → IsWithin ps t → IsWithin ps u → IsWithin ps (cond b t u)
either_within true h g = h
either_within false h g = g

field_within : {ps : List Term} {ts : Parts} (ns : List (List ℕ)) (name : List ℕ) → AllWithin ps ts → IsWithin ps (field_part ns ts name)
field_within [] name all = null_within
field_within (n ∷ ns) name no_part = null_within
field_within (n ∷ ns) name (and_part h all) = either_within (bytes_eq n name) h (field_within ns name all)

-- ---- connectives

either_parts : {ps : List Term} {ts us : Parts} (b : Bool) → AllWithin ps ts → AllWithin ps us → AllWithin ps (cond b ts us)
either_parts true h g = h
either_parts false h g = g

true_dropped : {ps : List Term} {fs : Parts} → AllWithin ps fs → AllWithin ps (without_true fs)
true_dropped no_part = no_part
true_dropped (and_part {t = f} h all) = either_parts (is_true f) (true_dropped all) (and_part h (true_dropped all))

false_dropped : {ps : List Term} {fs : Parts} → AllWithin ps fs → AllWithin ps (without_false fs)
false_dropped no_part = no_part
false_dropped (and_part {t = f} h all) = either_parts (is_false f) (false_dropped all) (and_part h (false_dropped all))

joined_all : {ps : List Term} {fs : Parts} → AllWithin ps fs → IsWithin ps (joined term.all_of fs)
joined_all no_part = record { names = tt }
joined_all (and_part h no_part) = h
joined_all (and_part h (and_part g all)) = record { names = part_names (and_part h (and_part g all)) }

joined_any : {ps : List Term} {fs : Parts} → AllWithin ps fs → IsWithin ps (joined term.any_of fs)
joined_any no_part = record { names = tt }
joined_any (and_part h no_part) = h
joined_any (and_part h (and_part g all)) = record { names = part_names (and_part h (and_part g all)) }

and_within : {ps : List Term} {fs : Parts} → AllWithin ps fs → IsWithin ps (fold_and fs)
and_within {fs = fs} all = either_within (has_false fs) (decided_within false) (joined_all (true_dropped all))

or_within : {ps : List Term} {fs : Parts} → AllWithin ps fs → IsWithin ps (fold_or fs)
or_within {fs = fs} all = either_within (has_true fs) (decided_within true) (joined_any (false_dropped all))

joined_within : {ps : List Term} {fs : Parts} (all : Bool) → AllWithin ps fs → IsWithin ps (joined_by all fs)
joined_within true h = and_within h
joined_within false h = or_within h

-- ---- terms that aren't quantifiers

num_within : {ps : List Term} (v : Term) (o : Option Term) → as_int v ≡ o → IsWithin ps v → IsWithin ps (one term.num v) → IsWithin ps (fold_num v o)
num_within v None e h g = g
num_within v (Some s) e h g = int_part v s h e

len_within : {ps : List Term} (v : Term) (o : Option Parts) → IsWithin ps (one term.len v) → IsWithin ps (fold_len v o)
len_within v None g = g
len_within v (Some us) g = number_within (pos (count us))

get_within : {ps : List Term} (v s : Term) (o : Option Parts) (k : Option ℤ) → as_array v ≡ o → IsWithin ps v → IsWithin ps (two term.get v s) → IsWithin ps (fold_get v s o k)
get_within v s None k e h g = g
get_within v s (Some us) None e h g = g
get_within v s (Some us) (Some k) e h g = at_within k (array_parts v us h e)

fields_within : {ps : List Term} (name : List ℕ) (v : Term) (o : Option (List (List ℕ) × Parts)) → as_record v ≡ o → IsWithin ps v → IsWithin ps (one (term.field name) v) → IsWithin ps (fold_field name v o)
fields_within name v None e h g = g
fields_within name v (Some r) e h g = field_within r.0 name (record_parts v r h e)

order_within : {ps : List Term} {t : Term} (a b : Option ℤ) → IsWithin ps t → IsWithin ps (fold_order t a b)
order_within None b h = h
order_within (Some x) None h = h
order_within (Some x) (Some y) h = decided_within (meaning.at_most x y)

not_within : {ps : List Term} (f : Term) (o : Option Term) → as_denied f ≡ o → IsWithin ps f → IsWithin ps (Not f) → IsWithin ps (fold_not f o)
not_within f None e h g = g
not_within f (Some u) e h g = denied_part f u h e

kind_within : {ps : List Term} (kind : DataKind) (v : Term) (o : Option DataKind) → IsWithin ps (one (term.of_kind kind) v) → IsWithin ps (fold_kind kind v o)
kind_within kind v None g = g
kind_within kind v (Some given) g = decided_within (same_kind given kind)

bool_within : {ps : List Term} (v w : Term) (o : Option Term) (b : Bool) → as_bool v ≡ o → IsWithin ps v → IsWithin ps (two term.equal v w) → IsWithin ps (fold_bool (two term.equal v w) o b)
bool_within v w None b e h g = g
bool_within v w (Some f) true e h g = bool_part v f h e
bool_within v w (Some f) false e h g = g

apart_within : {ps : List Term} (v w : Term) (d e : Option Datum) → IsWithin ps v → IsWithin ps (two term.equal v w) → IsWithin ps (fold_apart v w d e)
apart_within v w (Some d) (Some e) h g = decided_within (same_datum d e)
apart_within v w (Some d) None h g = g
apart_within v w None e h g = bool_within v w (as_bool v) (is_truth w) refl h g

front : {ps : List Term} (t : Term) (ts : Parts) → AllAmong ps (of_all (free_in (part t ts))) → IsWithin ps t
front t ts h = first_part (parts_within (part t ts) h)

rewritten_within : {ps : List Term} (t : Term) → IsWithin ps t → IsWithin ps (rewritten t)
rewritten_within (Of term.add (part s (part t no_parts))) h = number_or_within (on_two (λ a b. a +ℤ b) (as_number s) (as_number t)) h
rewritten_within (Of term.sub (part s (part t no_parts))) h = number_or_within (on_two (λ a b. a -ℤ b) (as_number s) (as_number t)) h
rewritten_within (Of term.neg (part s no_parts)) h = number_or_within (on_one neg_ℤ (as_number s)) h
rewritten_within (Of term.mul (part s (part t no_parts))) h = number_or_within (on_two (λ a b. a *ℤ b) (as_number s) (as_number t)) h
rewritten_within (Of term.num (part v no_parts)) h = num_within v (as_int v) refl (front v no_parts h.names) h
rewritten_within (Of term.len (part v no_parts)) h = len_within v (as_array v) h
rewritten_within (Of term.get (part v (part s no_parts))) h = get_within v s (as_array v) (as_number s) refl (front v (part s no_parts) h.names) h
rewritten_within (Of term.at_most (part s (part t no_parts))) h = either_within (same_term s t) (decided_within true) (order_within (as_number s) (as_number t) h)
rewritten_within (Of (term.field name) (part v no_parts)) h = fields_within name v (as_record v) refl (front v no_parts h.names) h
rewritten_within (Of term.equal (part v (part w no_parts))) h =
    either_within (same_term v w) (decided_within true) (apart_within v w (as_constant v) (as_constant w) (front v (part w no_parts) h.names) h)
rewritten_within (Of (term.of_kind kind) (part v no_parts)) h = kind_within kind v (kind_given v) h
rewritten_within (Of term.denied (part g no_parts)) h = not_within g (as_denied g) refl (front g no_parts h.names) h
rewritten_within (Of term.all_of fs) h = and_within (parts_within fs h.names)
rewritten_within (Of term.any_of fs) h = or_within (parts_within fs h.names)
rewritten_within t h = h

-- ---- names that stand for terms

-- each of these names stands for a term whose free names are among those
record Leads (qs ps : List Term) (env : List (Term × Term)) : Type 0 where
  pub leads : (x : Term) → free_names x ≡ x ∷ [] → Among qs x → IsWithin ps (found_or (found env x) x)

itself : (ps : List Term) (x : Term) → free_names x ≡ x ∷ [] → Among ps x → IsWithin ps x
itself ps x is a = record { names = subst (AllAmong ps) (sym is) (a, tt) }

-- a name that stands for a number
numbered_leads : (k : Term) (z : ℤ) (qs ps : List Term) (env : List (Term × Term)) → Leads qs ps env → Leads (k ∷ qs) ps ((k, Number z) ∷ env)
numbered_leads k z qs ps env l = record { leads = λ x is a. by x is a (same_term k x) refl }
  where
    by : (x : Term) → free_names x ≡ x ∷ [] → Among (k ∷ qs) x → (b : Bool) → same_term k x ≡ b → IsWithin ps (found_or (cond b (Some (Number z)) (found env x)) x)
    by x is a true t = number_within z
    by x is a false f = l.leads x is (other_than k x qs f a)

-- a bound name stands for itself
shown_leads : (k : Term) → free_names k ≡ k ∷ [] → (qs ps : List Term) (env : List (Term × Term)) → Leads qs ps env → Leads (k ∷ qs) (k ∷ ps) ((k, k) ∷ env)
shown_leads k is_k qs ps env l = record { leads = λ x is a. by x is a (same_term k x) refl }
  where
    by : (x : Term) → free_names x ≡ x ∷ [] → Among (k ∷ qs) x → (b : Bool) → same_term k x ≡ b → IsWithin (k ∷ ps) (found_or (cond b (Some k) (found env x)) x)
    by x is a true t = itself (k ∷ ps) k is_k (inl refl)
    by x is a false f = within_more k (l.leads x is (other_than k x qs f a))

-- the same, where it stood for itself already
same_leads : (k : Term) → free_names k ≡ k ∷ [] → (qs ps : List Term) (env : List (Term × Term)) → found_or (found env k) k ≡ k → Leads qs ps env → Leads (k ∷ qs) (k ∷ ps) env
same_leads k is_k qs ps env stays l = record { leads = λ x is a. by x is a }
  where
    by : (x : Term) → free_names x ≡ x ∷ [] → Among (k ∷ qs) x → IsWithin (k ∷ ps) (found_or (found env x) x)
    by x is (inl e) = subst (λ (y : Term). IsWithin (k ∷ ps) (found_or (found env y) y)) (sym e) (subst (IsWithin (k ∷ ps)) (sym stays) (itself (k ∷ ps) k is_k (inl refl)))
    by x is (inr a) = within_more k (l.leads x is a)

hidden_leads : (k : Term) → free_names k ≡ k ∷ [] → (qs ps : List Term) (env : List (Term × Term)) → (o : Option Term) → found env k ≡ o → Leads qs ps env → Leads (k ∷ qs) (k ∷ ps) (hidden o k env)
hidden_leads k is_k qs ps env None e l = same_leads k is_k qs ps env (subst (λ (o : Option Term). found_or o k ≡ k) (sym e) refl) l
hidden_leads k is_k qs ps env (Some u) e l = by (same_term u k) refl
  where
    by : (b : Bool) → same_term u k ≡ b → Leads (k ∷ qs) (k ∷ ps) (cond b env ((k, k) ∷ env))
    by true t = same_leads k is_k qs ps env (subst (λ (o : Option Term). found_or o k ≡ k) (sym e) (terms_are u k t)) l
    by false f = shown_leads k is_k qs ps env l

-- ---- terms where names stand for others

-- what makes a term of the part with this number
abbrev Carries : List Term → (List (Term × Term) → Term) → Type 0
Carries xs body = (qs ps : List Term) (env : List (Term × Term)) → Leads qs ps env → AllAmong qs xs → IsWithin ps (body env)

instances_within : (body : List (Term × Term) → Term) (xs : List Term) (k : Term) (qs ps : List Term) (env : List (Term × Term)) (z : ℤ) (m : ℕ) → Carries xs body → Leads qs ps env → AllAmong (k ∷ qs) xs → AllWithin ps (instances body k env z m)
instances_within body xs k qs ps env z zero carries l h = no_part
instances_within body xs k qs ps env z (suc m) carries l h =
    and_part (carries (k ∷ qs) ps ((k, Number z) ∷ env) (numbered_leads k z qs ps env l) h) (instances_within body xs k qs ps env (z +ℤ pos 1) m carries l h)

-- a quantifier whose bounds and body are within
bound_within : {ps : List Term} (all : Bool) (w : List ℕ) (n : ℕ) {s t f : Term} → IsWithin ps s → IsWithin ps t → IsWithin (leaf (int_name w n) ∷ ps) f → IsWithin ps (Of (binder all w n) (part s (part t (part f no_parts))))
bound_within {ps} true w n {s} {t} {f} a b c = record {
  names = among_both ps (free_names s) (free_names t ++ without (leaf (int_name w n)) (free_names f)) a.names (among_both ps (free_names t) (without (leaf (int_name w n)) (free_names f)) b.names (among_without (leaf (int_name w n)) ps (free_names f) c.names));
}
bound_within {ps} false w n {s} {t} {f} a b c = record {
  names = among_both ps (free_names s) (free_names t ++ without (leaf (int_name w n)) (free_names f)) a.names (among_both ps (free_names t) (without (leaf (int_name w n)) (free_names f)) b.names (among_without (leaf (int_name w n)) ps (free_names f) c.names));
}

quantified_within : (all : Bool) (w : List ℕ) (n : ℕ) (body : List (Term × Term) → Term) (xs : List Term) (qs ps : List Term) (env : List (Term × Term)) (s t : Term) (o : Option ℕ) → Carries xs body → Leads qs ps env → AllAmong (leaf (int_name w n) ∷ qs) xs → IsWithin ps s → IsWithin ps t → IsWithin ps (quantified all w n body env s t o)
quantified_within all w n body xs qs ps env s t None carries l h a b =
    let k = leaf (int_name w n) in
    bound_within all w n a b (carries (k ∷ qs) (k ∷ ps) (hidden (found env k) k env) (hidden_leads k refl qs ps env (found env k) refl l) h)
quantified_within all w n body xs qs ps env s t (Some m) carries l h a b =
    joined_within all (instances_within body xs (leaf (int_name w n)) qs ps env (number_or_zero (as_number s)) m carries l h)

abbrev PartsCarry : Parts → Type 0
PartsCarry ts = (k : ℕ) → Carries (of_part (free_in ts) k) (part_of (replacers ts) k)

abbrev AllCarry : Parts → Type 0
AllCarry ts = (qs ps : List Term) (env : List (Term × Term)) → Leads qs ps env → AllAmong qs (of_all (free_in ts)) → AllWithin ps (parts_of (replacers ts) env)

quantifier_within : (all : Bool) (w : List ℕ) (n : ℕ) (ts : Parts) → PartsCarry ts → (qs ps : List Term) (env : List (Term × Term)) → Leads qs ps env → AllAmong qs (of_bound (leaf (int_name w n)) (free_in ts)) → IsWithin ps (quantifier_of all w n (replacers ts) env)
quantifier_within all w n ts carry qs ps env l h =
    let k = leaf (int_name w n) in
    let a = of_part (free_in ts) 0 in
    let b = of_part (free_in ts) 1 in
    let c = of_part (free_in ts) 2 in
    let behind = among_back qs a (b ++ without k c) h in
    let s = part_of (replacers ts) 0 env in
    let t = part_of (replacers ts) 1 env in
    quantified_within all w n (part_of (replacers ts) 2) c qs ps env s t (span_of (as_number s) (as_number t)) (carry 2) l (within_binder k qs c (among_back qs b (without k c) behind)) (carry 0 qs ps env l (among_front qs a (b ++ without k c) h)) (carry 1 qs ps env l (among_front qs b (without k c) behind))

remade_within : (symbol : Symbol) (ts : Parts) → PartsCarry ts → AllCarry ts → Carries (free_names (Of symbol ts)) (replaced (Of symbol ts))
remade_within (int_name w n) ts carry all qs ps env l h = l.leads (leaf (int_name w n)) refl h.0
remade_within (val_name w n) ts carry all qs ps env l h = l.leads (leaf (val_name w n)) refl h.0
remade_within (every w n) ts carry all qs ps env l h = quantifier_within true w n ts carry qs ps env l h
remade_within (exists w n) ts carry all qs ps env l h = quantifier_within false w n ts carry qs ps env l h
remade_within symbol ts carry all qs ps env l h = rewritten_within (Of symbol (parts_of (replacers ts) env)) (record { names = part_names (all qs ps env l h) })

mutual
  replaced_within : (t : Term) → Carries (free_names t) (replaced t)
  replaced_within (Of symbol ts) = remade_within symbol ts (parts_carry ts) (all_carry ts)

  parts_carry : (ts : Parts) → PartsCarry ts
  parts_carry no_parts k qs ps env l h = number_within (pos 0)
  parts_carry (part t ts) zero qs ps env l h = replaced_within t qs ps env l h
  parts_carry (part t ts) (suc k) qs ps env l h = parts_carry ts k qs ps env l h

  all_carry : (ts : Parts) → AllCarry ts
  all_carry no_parts qs ps env l h = no_part
  all_carry (part t ts) qs ps env l h =
      and_part (replaced_within t qs ps env l (among_front qs (free_names t) (of_all (free_in ts)) h)) (all_carry ts qs ps env l (among_back qs (free_names t) (of_all (free_in ts)) h))

-- ---- folding

no_names_lead : (ps : List Term) → Leads ps ps []
no_names_lead ps = record { leads = λ x is a. itself ps x is a }

pub range_within : {ps : List Term} (all : Bool) (w : List ℕ) (n : ℕ) {s t f : Term} → (o : Option ℕ) → IsWithin ps s → IsWithin ps t → IsWithin (leaf (int_name w n) ∷ ps) f → IsWithin ps (fold_range all w n s t f o)
range_within all w n None a b c = bound_within all w n a b c
range_within {ps} all w n {s} {t} {f} (Some m) a b c =
    joined_within all (instances_within (replaced f) (free_names f) (leaf (int_name w n)) ps ps [] (number_or_zero (as_number s)) m (replaced_within f) (no_names_lead ps) c.names)

-- a term that is no quantifier, by its parts
pub made_within : {ps : List Term} (t : Term) → IsWithin ps t → IsWithin ps (rewritten t)
made_within t h = rewritten_within t h
