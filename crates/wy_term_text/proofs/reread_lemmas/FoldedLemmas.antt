-- Folding twice is folding once.
use Rattle.std.proofs.Common.{◌≡◌, ℕ, zero, suc, List, [], ◌∷◌, Bool, true, false, cond, ℤ, pos, negsuc, neg_ℤ, ◌+ℤ◌, ◌-ℤ◌, ◌*ℤ◌, Option, Some, None, refl, ap, ◌∙◌, subst}
use Rattle.std.specs.Prelude.{bytes_eq}
use Rattle.wy_term.specs.wy_value.Datum.{Datum}
use Rattle.wy_term.specs.Term as term
use Rattle.wy_term.specs.Term.{DataKind, Symbol, Term, Of, Parts, no_parts, part, leaf, one, two, Number, Not, int_name, val_name, every, exists}
use Rattle.wy_term.specs.Data.{same_datum}
use Rattle.wy_term.specs.Same.{same_kind, same_term}
use Rattle.wy_term.specs.Meaning as meaning
use Rattle.wy_term.specs.Rewriting.{as_number, as_int, as_bool, as_array, as_denied, as_record, as_constant, is_true, is_false, is_truth, True, False, decided, number_or, on_one, on_two, fold_num, count, fold_len, nth_part, part_at, fold_get, fold_order, fold_at_most, fold_not, has_false, has_true, without_true, without_false, joined, fold_and, fold_or, field_part, fold_field, kind_given, fold_kind, fold_bool, fold_apart, fold_equal, rewritten}
use Rattle.wy_term.specs.Folding.{found, found_or, hidden, span_of, instances, number_or_zero, binder, joined_by, quantified, part_of, parts_of, quantifier_of, remade, replaced, replacers, fold_range, folded}
use Rattle.wy_term_text.specs.reread.Folded.{IsFolded, AreFolded}

-- ---- leaves

pub number_folded : (z : ℤ) → IsFolded (Number z)
number_folded z = (refl, tt)

pub null_folded : IsFolded (leaf term.null)
null_folded = (refl, tt)

decided_folded : (b : Bool) → IsFolded (decided b)
decided_folded true = (refl, tt)
decided_folded false = (refl, tt)

number_or_folded : (t : Term) (o : Option ℤ) → (o ≡ None → IsFolded t) → IsFolded (number_or t o)
number_or_folded t None f = f refl
number_or_folded t (Some z) f = number_folded z

-- ---- parts of a folded term

int_part : (v s : Term) → IsFolded v → as_int v ≡ Some s → IsFolded s
int_part (Of term.int (part u no_parts)) s f e = let same : u ≡ s = cc in subst IsFolded same f.1.0
int_part v s f e = absurd cc

bool_part : (v s : Term) → IsFolded v → as_bool v ≡ Some s → IsFolded s
bool_part (Of term.bool (part u no_parts)) s f e = let same : u ≡ s = cc in subst IsFolded same f.1.0
bool_part v s f e = absurd cc

denied_part : (v s : Term) → IsFolded v → as_denied v ≡ Some s → IsFolded s
denied_part (Of term.denied (part u no_parts)) s f e = let same : u ≡ s = cc in subst IsFolded same f.1.0
denied_part v s f e = absurd cc

array_parts : (v : Term) (ps : Parts) → IsFolded v → as_array v ≡ Some ps → AreFolded ps
array_parts (Of term.array qs) ps f e = let same : qs ≡ ps = cc in subst AreFolded same f.1
array_parts v ps f e = absurd cc

record_parts : (v : Term) (r : List (List ℕ) × Parts) → IsFolded v → as_record v ≡ Some r → AreFolded r.1
record_parts (Of (term.fields names) qs) r f e =
    let same : (names, qs) ≡ r = cc in
    subst (λ (q : List (List ℕ) × Parts). AreFolded q.1) same f.1
record_parts v r f e = absurd cc

nth_folded : (ps : Parts) (k : ℕ) → AreFolded ps → IsFolded (nth_part ps k)
nth_folded no_parts k f = null_folded
nth_folded (part t ps) zero f = f.0
nth_folded (part t ps) (suc k) f = nth_folded ps k f.1

at_folded : (ps : Parts) (k : ℤ) → AreFolded ps → IsFolded (part_at ps k)
at_folded ps (pos k) f = nth_folded ps k f
at_folded ps (negsuc k) f = null_folded

field_folded : (ns : List (List ℕ)) (ps : Parts) (name : List ℕ) → AreFolded ps → IsFolded (field_part ns ps name)
field_folded [] ps name f = null_folded
field_folded (n ∷ ns) no_parts name f = null_folded
field_folded (n ∷ ns) (part t ps) name f = either (bytes_eq n name) f.0 (field_folded ns ps name f.1)
  where
    either : (b : Bool) → IsFolded t → IsFolded (field_part ns ps name) → IsFolded (cond b t (field_part ns ps name))
    either true g h = g
    either false g h = h

-- ---- numbers, arrays and records

num_folded : (v : Term) (o : Option Term) → as_int v ≡ o → IsFolded v → IsFolded (fold_num v o)
num_folded v None e f = (ap (fold_num v) e, (f, tt))
num_folded v (Some s) e f = int_part v s f e

len_folded : (v : Term) (o : Option Parts) → as_array v ≡ o → IsFolded v → IsFolded (fold_len v o)
len_folded v None e f = (ap (fold_len v) e, (f, tt))
len_folded v (Some ps) e f = number_folded (pos (count ps))

get_folded : (v s : Term) (o : Option Parts) (k : Option ℤ) → as_array v ≡ o → as_number s ≡ k → IsFolded v → IsFolded s → IsFolded (fold_get v s o k)
get_folded v s None k e g f h = (ap (λ (o : Option Parts). fold_get v s o (as_number s)) e, (f, (h, tt)))
get_folded v s (Some ps) None e g f h = (ap (λ (o : Option Parts). fold_get v s o (as_number s)) e ∙ ap (fold_get v s (Some ps)) g, (f, (h, tt)))
get_folded v s (Some ps) (Some k) e g f h = at_folded ps k (array_parts v ps f e)

fields_folded : (name : List ℕ) (v : Term) (o : Option (List (List ℕ) × Parts)) → as_record v ≡ o → IsFolded v → IsFolded (fold_field name v o)
fields_folded name v None e f = (ap (fold_field name v) e, (f, tt))
fields_folded name v (Some r) e f = field_folded r.0 r.1 name (record_parts v r f e)

-- ---- tests

order_folded : (s t : Term) (a b : Option ℤ) → same_term s t ≡ false → as_number s ≡ a → as_number t ≡ b → IsFolded s → IsFolded t → IsFolded (fold_order (two term.at_most s t) a b)
order_folded s t None b apart e g f h = (ap (λ (c : Bool). cond c True (fold_order (two term.at_most s t) (as_number s) (as_number t))) apart ∙ ap (λ (o : Option ℤ). fold_order (two term.at_most s t) o (as_number t)) e, (f, (h, tt)))
order_folded s t (Some x) None apart e g f h = (ap (λ (c : Bool). cond c True (fold_order (two term.at_most s t) (as_number s) (as_number t))) apart ∙ (ap (λ (o : Option ℤ). fold_order (two term.at_most s t) o (as_number t)) e ∙ ap (fold_order (two term.at_most s t) (Some x)) g), (f, (h, tt)))
order_folded s t (Some x) (Some y) apart e g f h = decided_folded (meaning.at_most x y)

at_most_folded : (s t : Term) → IsFolded s → IsFolded t → IsFolded (fold_at_most s t)
at_most_folded s t f h = either (same_term s t) refl
  where
    either : (b : Bool) → same_term s t ≡ b → IsFolded (cond b True (fold_order (two term.at_most s t) (as_number s) (as_number t)))
    either true e = decided_folded true
    either false e = order_folded s t (as_number s) (as_number t) e refl refl f h

not_folded : (f : Term) (o : Option Term) → as_denied f ≡ o → IsFolded f → IsFolded (fold_not f o)
not_folded f None e is = (ap (fold_not f) e, (is, tt))
not_folded f (Some g) e is = denied_part f g is e

kind_folded : (kind : DataKind) (v : Term) (o : Option DataKind) → kind_given v ≡ o → IsFolded v → IsFolded (fold_kind kind v o)
kind_folded kind v None e f = (ap (fold_kind kind v) e, (f, tt))
kind_folded kind v (Some given) e f = decided_folded (same_kind given kind)

-- an equation that is folded to itself
abbrev Stays : Term → Term → Type 0
Stays v w = fold_equal v w ≡ two term.equal v w

bool_folded : (v w : Term) (o : Option Term) (b : Bool) → as_bool v ≡ o → (fold_bool (two term.equal v w) o b ≡ two term.equal v w → Stays v w) → IsFolded v → IsFolded w → IsFolded (fold_bool (two term.equal v w) o b)
bool_folded v w None b e stays f g = (stays refl, (f, (g, tt)))
bool_folded v w (Some h) true e stays f g = bool_part v h f e
bool_folded v w (Some h) false e stays f g = (stays refl, (f, (g, tt)))

apart_folded : (v w : Term) (d e : Option Datum) → as_constant v ≡ d → as_constant w ≡ e → same_term v w ≡ false → IsFolded v → IsFolded w → IsFolded (fold_apart v w d e)
apart_folded v w (Some d) (Some e) p q apart f g = decided_folded (same_datum d e)
apart_folded v w (Some d) None p q apart f g = (stays, (f, (g, tt)))
  where
    stays : Stays v w
    stays = ap (λ (c : Bool). cond c True (fold_apart v w (as_constant v) (as_constant w))) apart ∙ (ap (λ (o : Option Datum). fold_apart v w o (as_constant w)) p ∙ ap (fold_apart v w (Some d)) q)
apart_folded v w None e p q apart f g = bool_folded v w (as_bool v) (is_truth w) refl stays f g
  where
    stays : fold_bool (two term.equal v w) (as_bool v) (is_truth w) ≡ two term.equal v w → Stays v w
    stays h = ap (λ (c : Bool). cond c True (fold_apart v w (as_constant v) (as_constant w))) apart ∙ (ap (λ (o : Option Datum). fold_apart v w o (as_constant w)) p ∙ h)

equal_folded : (v w : Term) → IsFolded v → IsFolded w → IsFolded (fold_equal v w)
equal_folded v w f g = either (same_term v w) refl
  where
    either : (b : Bool) → same_term v w ≡ b → IsFolded (cond b True (fold_apart v w (as_constant v) (as_constant w)))
    either true e = decided_folded true
    either false e = apart_folded v w (as_constant v) (as_constant w) refl refl e f g

-- ---- connectives

-- members without `true` stay without it
true_twice : (fs : Parts) → without_true (without_true fs) ≡ without_true fs
true_twice no_parts = refl
true_twice (part f fs) = either (is_true f) refl (true_twice fs)
  where
    either : (b : Bool) → is_true f ≡ b → without_true (without_true fs) ≡ without_true fs → without_true (cond b (without_true fs) (part f (without_true fs))) ≡ cond b (without_true fs) (part f (without_true fs))
    either true e rest = rest
    either false e rest = ap (λ (b : Bool). cond b (without_true (without_true fs)) (part f (without_true (without_true fs)))) e ∙ ap (λ (gs : Parts). part f gs) rest

false_twice : (fs : Parts) → without_false (without_false fs) ≡ without_false fs
false_twice no_parts = refl
false_twice (part f fs) = either (is_false f) refl (false_twice fs)
  where
    either : (b : Bool) → is_false f ≡ b → without_false (without_false fs) ≡ without_false fs → without_false (cond b (without_false fs) (part f (without_false fs))) ≡ cond b (without_false fs) (part f (without_false fs))
    either true e rest = rest
    either false e rest = ap (λ (b : Bool). cond b (without_false (without_false fs)) (part f (without_false (without_false fs)))) e ∙ ap (λ (gs : Parts). part f gs) rest

-- none of them is `false` where none was
false_gone : (fs : Parts) → has_false fs ≡ false → has_false (without_true fs) ≡ false
false_gone no_parts e = refl
false_gone (part f fs) e = either (is_true f) (is_false f) refl e (false_gone fs)
  where
    either : (b c : Bool) → is_false f ≡ c → cond c true (has_false fs) ≡ false → (has_false fs ≡ false → has_false (without_true fs) ≡ false) → has_false (cond b (without_true fs) (part f (without_true fs))) ≡ false
    either b true is e rest = absurd cc
    either true false is e rest = rest e
    either false false is e rest = ap (λ (c : Bool). cond c true (has_false (without_true fs))) is ∙ rest e

true_gone : (fs : Parts) → has_true fs ≡ false → has_true (without_false fs) ≡ false
true_gone no_parts e = refl
true_gone (part f fs) e = either (is_false f) (is_true f) refl e (true_gone fs)
  where
    either : (b c : Bool) → is_true f ≡ c → cond c true (has_true fs) ≡ false → (has_true fs ≡ false → has_true (without_false fs) ≡ false) → has_true (cond b (without_false fs) (part f (without_false fs))) ≡ false
    either b true is e rest = absurd cc
    either true false is e rest = rest e
    either false false is e rest = ap (λ (c : Bool). cond c true (has_true (without_false fs))) is ∙ rest e

without_true_folded : (fs : Parts) → AreFolded fs → AreFolded (without_true fs)
without_true_folded no_parts f = tt
without_true_folded (part g fs) f = either (is_true g) f.0 (without_true_folded fs f.1)
  where
    either : (b : Bool) → IsFolded g → AreFolded (without_true fs) → AreFolded (cond b (without_true fs) (part g (without_true fs)))
    either true h rest = rest
    either false h rest = (h, rest)

without_false_folded : (fs : Parts) → AreFolded fs → AreFolded (without_false fs)
without_false_folded no_parts f = tt
without_false_folded (part g fs) f = either (is_false g) f.0 (without_false_folded fs f.1)
  where
    either : (b : Bool) → IsFolded g → AreFolded (without_false fs) → AreFolded (cond b (without_false fs) (part g (without_false fs)))
    either true h rest = rest
    either false h rest = (h, rest)

joined_all : (fs : Parts) → AreFolded fs → without_true fs ≡ fs → has_false fs ≡ false → IsFolded (joined term.all_of fs)
joined_all no_parts f same none = (refl, tt)
joined_all (part g no_parts) f same none = f.0
joined_all (part g (part h fs)) f same none =
    (ap (λ (b : Bool). cond b False (joined term.all_of (without_true (part g (part h fs))))) none ∙ ap (joined term.all_of) same, f)

joined_any : (fs : Parts) → AreFolded fs → without_false fs ≡ fs → has_true fs ≡ false → IsFolded (joined term.any_of fs)
joined_any no_parts f same none = (refl, tt)
joined_any (part g no_parts) f same none = f.0
joined_any (part g (part h fs)) f same none =
    (ap (λ (b : Bool). cond b True (joined term.any_of (without_false (part g (part h fs))))) none ∙ ap (joined term.any_of) same, f)

and_folded : (fs : Parts) → AreFolded fs → IsFolded (fold_and fs)
and_folded fs f = either (has_false fs) refl
  where
    either : (b : Bool) → has_false fs ≡ b → IsFolded (cond b False (joined term.all_of (without_true fs)))
    either true e = decided_folded false
    either false e = joined_all (without_true fs) (without_true_folded fs f) (true_twice fs) (false_gone fs e)

or_folded : (fs : Parts) → AreFolded fs → IsFolded (fold_or fs)
or_folded fs f = either (has_true fs) refl
  where
    either : (b : Bool) → has_true fs ≡ b → IsFolded (cond b True (joined term.any_of (without_false fs)))
    either true e = decided_folded true
    either false e = joined_any (without_false fs) (without_false_folded fs f) (false_twice fs) (true_gone fs e)

joined_by_folded : (all : Bool) (fs : Parts) → AreFolded fs → IsFolded (joined_by all fs)
joined_by_folded true fs f = and_folded fs f
joined_by_folded false fs f = or_folded fs f

-- ---- terms that aren't quantifiers

abbrev of_term : Term → Parts
of_term (Of symbol ps) = ps

two_numbers : (symbol : Symbol) (g : ℤ → ℤ → ℤ) (s t : Term) → folded (two symbol s t) ≡ number_or (two symbol s t) (on_two g (as_number s) (as_number t)) → IsFolded s → IsFolded t → IsFolded (number_or (two symbol s t) (on_two g (as_number s) (as_number t)))
two_numbers symbol g s t e f h = number_or_folded (two symbol s t) (on_two g (as_number s) (as_number t)) (λ none. (e ∙ ap (number_or (two symbol s t)) none, (f, (h, tt))))

one_number : (s : Term) → IsFolded s → IsFolded (number_or (one term.neg s) (on_one neg_ℤ (as_number s)))
one_number s f = number_or_folded (one term.neg s) (on_one neg_ℤ (as_number s)) (λ none. (ap (number_or (one term.neg s)) none, (f, tt)))

rewritten_folded : (t : Term) → (folded t ≡ rewritten t) → AreFolded (of_term t) → IsFolded (rewritten t)
rewritten_folded (Of term.add (part s (part t no_parts))) e f = two_numbers term.add (λ a b. a +ℤ b) s t refl f.0 f.1.0
rewritten_folded (Of term.sub (part s (part t no_parts))) e f = two_numbers term.sub (λ a b. a -ℤ b) s t refl f.0 f.1.0
rewritten_folded (Of term.neg (part s no_parts)) e f = one_number s f.0
rewritten_folded (Of term.mul (part s (part t no_parts))) e f = two_numbers term.mul (λ a b. a *ℤ b) s t refl f.0 f.1.0
rewritten_folded (Of term.num (part v no_parts)) e f = num_folded v (as_int v) refl f.0
rewritten_folded (Of term.len (part v no_parts)) e f = len_folded v (as_array v) refl f.0
rewritten_folded (Of term.get (part v (part s no_parts))) e f = get_folded v s (as_array v) (as_number s) refl refl f.0 f.1.0
rewritten_folded (Of term.at_most (part s (part t no_parts))) e f = at_most_folded s t f.0 f.1.0
rewritten_folded (Of (term.field name) (part v no_parts)) e f = fields_folded name v (as_record v) refl f.0
rewritten_folded (Of term.equal (part v (part w no_parts))) e f = equal_folded v w f.0 f.1.0
rewritten_folded (Of (term.of_kind kind) (part v no_parts)) e f = kind_folded kind v (kind_given v) refl f.0
rewritten_folded (Of term.denied (part g no_parts)) e f = not_folded g (as_denied g) refl f.0
rewritten_folded (Of term.all_of fs) e f = and_folded fs f
rewritten_folded (Of term.any_of fs) e f = or_folded fs f
rewritten_folded (Of symbol ps) e f = (e, f)

-- ---- terms where names stand for others

-- the terms of these pairs are folded
abbrev ArePairs : List (Term × Term) → Type 0
ArePairs [] = Unit {0}
ArePairs (p ∷ ps) = IsFolded p.0 × IsFolded p.1 × ArePairs ps

found_folded : (env : List (Term × Term)) (name : Term) → IsFolded name → ArePairs env → IsFolded (found_or (found env name) name)
found_folded [] name f env = f
found_folded (p ∷ ps) name f env = either (same_term p.0 name) (found_folded ps name f env.2)
  where
    either : (b : Bool) → IsFolded (found_or (found ps name) name) → IsFolded (found_or (cond b (Some p.1) (found ps name)) name)
    either true rest = env.1
    either false rest = rest

hidden_folded : (o : Option Term) (name : Term) (env : List (Term × Term)) → IsFolded name → ArePairs env → ArePairs (hidden o name env)
hidden_folded None name env f are = are
hidden_folded (Some u) name env f are = either (same_term u name)
  where
    either : (b : Bool) → ArePairs (cond b env ((name, name) ∷ env))
    either true = are
    either false = (f, f, are)

-- what makes a folded term, wherever names stand for folded terms
abbrev Makes : (List (Term × Term) → Term) → Type 0
Makes body = (env : List (Term × Term)) → ArePairs env → IsFolded (body env)

abbrev MakeAll : List (List (Term × Term) → Term) → Type 0
MakeAll [] = Unit {0}
MakeAll (b ∷ bs) = Makes b × MakeAll bs

instances_folded : (body : List (Term × Term) → Term) (w : List ℕ) (n : ℕ) (env : List (Term × Term)) (z : ℤ) (k : ℕ) → Makes body → ArePairs env → AreFolded (instances body (leaf (int_name w n)) env z k)
instances_folded body w n env z zero make are = tt
instances_folded body w n env z (suc k) make are = (make ((leaf (int_name w n), Number z) ∷ env) ((refl, tt), number_folded z, are), instances_folded body w n env (z +ℤ pos 1) k make are)

bound_folded : (all : Bool) (w : List ℕ) (n : ℕ) (s t f : Term) → span_of (as_number s) (as_number t) ≡ None → IsFolded s → IsFolded t → IsFolded f → IsFolded (Of (binder all w n) (part s (part t (part f no_parts))))
bound_folded true w n s t f e a b c = (ap (fold_range true w n s t f) e, (a, (b, (c, tt))))
bound_folded false w n s t f e a b c = (ap (fold_range false w n s t f) e, (a, (b, (c, tt))))

quantified_folded : (all : Bool) (w : List ℕ) (n : ℕ) (body : List (Term × Term) → Term) (env : List (Term × Term)) (s t : Term) (o : Option ℕ) → span_of (as_number s) (as_number t) ≡ o → Makes body → ArePairs env → IsFolded s → IsFolded t → IsFolded (quantified all w n body env s t o)
quantified_folded all w n body env s t None e make are a b =
    bound_folded all w n s t (body (hidden (found env (leaf (int_name w n))) (leaf (int_name w n)) env)) e a b (make (hidden (found env (leaf (int_name w n))) (leaf (int_name w n)) env) (hidden_folded (found env (leaf (int_name w n))) (leaf (int_name w n)) env (refl, tt) are))
quantified_folded all w n body env s t (Some m) e make are a b =
    joined_by_folded all (instances body (leaf (int_name w n)) env (number_or_zero (as_number s)) m) (instances_folded body w n env (number_or_zero (as_number s)) m make are)

part_makes : (parts : List (List (Term × Term) → Term)) (k : ℕ) → MakeAll parts → Makes (part_of parts k)
part_makes [] k make env are = number_folded (pos 0)
part_makes (b ∷ bs) zero make env are = make.0 env are
part_makes (b ∷ bs) (suc k) make env are = part_makes bs k make.1 env are

parts_folded : (parts : List (List (Term × Term) → Term)) (env : List (Term × Term)) → MakeAll parts → ArePairs env → AreFolded (parts_of parts env)
parts_folded [] env make are = tt
parts_folded (b ∷ bs) env make are = (make.0 env are, parts_folded bs env make.1 are)

quantifier_folded : (all : Bool) (w : List ℕ) (n : ℕ) (parts : List (List (Term × Term) → Term)) (env : List (Term × Term)) → MakeAll parts → ArePairs env → IsFolded (quantifier_of all w n parts env)
quantifier_folded all w n parts env make are =
    quantified_folded all w n (part_of parts 2) env (part_of parts 0 env) (part_of parts 1 env) (span_of (as_number (part_of parts 0 env)) (as_number (part_of parts 1 env))) refl (part_makes parts 2 make) are (part_makes parts 0 make env are) (part_makes parts 1 make env are)

remade_folded : (symbol : Symbol) (parts : List (List (Term × Term) → Term)) (env : List (Term × Term)) → MakeAll parts → ArePairs env → IsFolded (remade symbol parts env)
remade_folded (int_name w n) parts env make are = found_folded env (leaf (int_name w n)) (refl, tt) are
remade_folded (val_name w n) parts env make are = found_folded env (leaf (val_name w n)) (refl, tt) are
remade_folded (every w n) parts env make are = quantifier_folded true w n parts env make are
remade_folded (exists w n) parts env make are = quantifier_folded false w n parts env make are
remade_folded symbol parts env make are = rewritten_folded (Of symbol (parts_of parts env)) refl (parts_folded parts env make are)

mutual
  replaced_folded : (t : Term) → Makes (replaced t)
  replaced_folded (Of symbol ps) env are = remade_folded symbol (replacers ps) env (replacers_fold ps) are

  replacers_fold : (ps : Parts) → MakeAll (replacers ps)
  replacers_fold no_parts = tt
  replacers_fold (part t ps) = (replaced_folded t, replacers_fold ps)

-- ---- what is made

range_folded : (all : Bool) (w : List ℕ) (n : ℕ) (s t f : Term) (o : Option ℕ) → span_of (as_number s) (as_number t) ≡ o → IsFolded s → IsFolded t → IsFolded f → IsFolded (fold_range all w n s t f o)
range_folded all w n s t f None e a b c = bound_folded all w n s t f e a b c
range_folded all w n s t f (Some m) e a b c =
    joined_by_folded all (instances (replaced f) (leaf (int_name w n)) [] (number_or_zero (as_number s)) m) (instances_folded (replaced f) w n [] (number_or_zero (as_number s)) m (replaced_folded f) tt)

pub folded_is : (symbol : Symbol) (ps : Parts) → AreFolded ps → IsFolded (folded (Of symbol ps))
folded_is (every w n) (part s (part t (part f no_parts))) are = range_folded true w n s t f (span_of (as_number s) (as_number t)) refl are.0 are.1.0 are.1.1.0
folded_is (exists w n) (part s (part t (part f no_parts))) are = range_folded false w n s t f (span_of (as_number s) (as_number t)) refl are.0 are.1.0 are.1.1.0
folded_is symbol ps are = rewritten_folded (Of symbol ps) refl are
