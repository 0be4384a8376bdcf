-- Folding keeps the meaning of terms.
use Rattle.std.proofs.Common.{◌≡◌, ℕ, zero, suc, List, [], ◌∷◌, Bool, true, false, cond, not, ◌&&◌, ◌||◌, ℤ, pos, negsuc, neg_ℤ, ◌+ℤ◌, ◌-ℤ◌, ◌*ℤ◌, Option, Some, None, refl, sym, ap, ◌∙◌, arith, map}
use Rattle.std.proofs.lemmas.Int.{ints}
use Rattle.std.specs.Prelude.{bytes_eq}
use Rattle.std.specs.Ordering.{int_eq}
use Rattle.std.specs.Bool.{beq}
use Rattle.std.proofs.lemmas.Bool.Decides.{Decides-int_eq}
use Rattle.wy_value.proofs.wy_lemmas_proofs.Choices.{bits_self as beq_self, or_not as or_false}
use Rattle.wy_value.proofs.wy_lemmas_proofs.Lists.{bytes_self}
use Rattle.wy_value.proofs.wy_lemmas_proofs.Options.{some_number}
use Rattle.wy_value.specs.Datum.{Datum, Null, Truth, Whole, Array, Record, Data, no_items, item, Fields, no_fields}
use Rattle.wy_value.specs.Datum as datum
use Rattle.wy_term.specs.Term as term
use Rattle.wy_term.specs.Term.{DataKind, null_kind, bool_kind, int_kind, array_kind, record_kind, Symbol, Term, Of, Parts, no_parts, part, leaf, one, two, Number, Not, number, add, sub, neg, mul, num, len, null, int, array, get, at_most, equal, denied, all_of, any_of}
use Rattle.wy_term.specs.Data.{length_of, nth, item_at, items_with, field_of, fields_with, repeated, copies, has_names, is_of_kind, same_datum, same_data, same_fields}
use Rattle.wy_term.specs.Meaning.{Names, Sense, sense, sense_of, senses_of, data_in, all_hold, any_holds}
use Rattle.wy_term.specs.Meaning as meaning
use Rattle.wy_term.specs.Same.{same_names, same_kind, same_term}
use Rattle.wy_term.specs.Rewriting.{as_number, as_int, as_bool, as_array, as_denied, is_truth, as_record, field_part, fold_field, names_for, kind_given, fold_kind, as_constant, as_whole, fold_bool, fold_apart, fold_equal, is_true, is_false, True, False, decided, fits, fitted, number_or, on_one, on_two, fold_num, count, fold_len, nth_part, part_at, fold_get, fold_order, fold_at_most, fold_not, has_false, has_true, without_true, without_false, joined, fold_and, fold_or, rewritten}
use Rattle.wy_term.specs.Folding.{fold_range}
use Rattle.wy_term.specs.Sorts.{Agree, sort_in, FoldingKeepsMeaning}
use Rattle.wy_term.proofs.SameLemmas.{terms_are}

abbrev pub some_kind : DataKind → Option DataKind
some_kind k = Some k

abbrev some_datum : Datum → Option Datum
some_datum d = Some d

-- ---- numbers

abbrev number_of : Names → Term → ℤ
number_of names t = (sense names t).number

as_number_is : (names : Names) (t : Term) (z : ℤ) → as_number t ≡ Some z → number_of names t ≡ z
as_number_is names (Of (number y) ps) z e = cc
as_number_is names t z e = absurd cc

fitted_kept : (names : Names) (z : ℤ) (t : Term) → number_of names t ≡ z → number_of names (number_or t (fitted z)) ≡ number_of names t
fitted_kept names z t e = either (fits z)
  where
    either : (b : Bool) → number_of names (number_or t (cond b (some_number z) None)) ≡ number_of names t
    either true = sym e
    either false = refl

two_kept : (names : Names) (f : ℤ → ℤ → ℤ) (s t u : Term) (a b : Option ℤ) → as_number s ≡ a → as_number t ≡ b → number_of names u ≡ f (number_of names s) (number_of names t) → number_of names (number_or u (on_two f a b)) ≡ number_of names u
two_kept names f s t u None b e g h = refl
two_kept names f s t u (Some x) None e g h = refl
two_kept names f s t u (Some x) (Some y) e g h =
    fitted_kept names (f x y) u (h ∙ ap (λ (z : ℤ). f z (number_of names t)) (as_number_is names s x e) ∙ ap (f x) (as_number_is names t y g))

neg_kept : (names : Names) (s : Term) (a : Option ℤ) → as_number s ≡ a → number_of names (number_or (one neg s) (on_one neg_ℤ a)) ≡ number_of names (one neg s)
neg_kept names s None e = refl
neg_kept names s (Some x) e = fitted_kept names (neg_ℤ x) (one neg s) (ap neg_ℤ (as_number_is names s x e))

num_kept : (names : Names) (v : Term) (s : Option Term) → as_int v ≡ s → number_of names (fold_num v s) ≡ number_of names (one num v)
num_kept names v None e = refl
num_kept names (Of int (part s no_parts)) (Some t) e = let same : s ≡ t = cc in ap (number_of names) (sym same)
num_kept names v (Some t) e = absurd cc

-- ---- arrays

length_of-count : (names : Names) (ps : Parts) → length_of (items_with (data_in (senses_of ps) names)) ≡ count ps
length_of-count names no_parts = refl
length_of-count names (part t ps) = ap suc (length_of-count names ps)

len_kept : (names : Names) (v : Term) (ps : Option Parts) → as_array v ≡ ps → number_of names (fold_len v ps) ≡ number_of names (one len v)
len_kept names v None e = refl
len_kept names (Of array qs) (Some ps) e = let same : qs ≡ ps = cc in ap (λ (rs : Parts). pos (count rs)) (sym same) ∙ ap pos (sym (length_of-count names qs))
len_kept names v (Some ps) e = absurd cc

datum-nth_part : (names : Names) (ps : Parts) (k : ℕ) → (sense names (nth_part ps k)).datum ≡ nth (items_with (data_in (senses_of ps) names)) k
datum-nth_part names no_parts k = refl
datum-nth_part names (part t ps) zero = refl
datum-nth_part names (part t ps) (suc k) = datum-nth_part names ps k

datum-part_at : (names : Names) (ps : Parts) (k : ℤ) → (sense names (part_at ps k)).datum ≡ item_at (items_with (data_in (senses_of ps) names)) k
datum-part_at names ps (pos k) = datum-nth_part names ps k
datum-part_at names ps (negsuc k) = refl

get_kept : (names : Names) (v s : Term) (ps : Option Parts) (k : Option ℤ) → as_array v ≡ ps → as_number s ≡ k → (sense names (fold_get v s ps k)).datum ≡ (sense names (two get v s)).datum
get_kept names v s None k e g = refl
get_kept names v s (Some ps) None e g = refl
get_kept names (Of array qs) s (Some ps) (Some k) e g =
    let same : qs ≡ ps = cc in
    ap (λ (rs : Parts). (sense names (part_at rs k)).datum) (sym same) ∙ datum-part_at names qs k ∙ ap (item_at (items_with (data_in (senses_of qs) names))) (sym (as_number_is names s k g))
get_kept names v s (Some ps) (Some k) e g = absurd cc

-- ---- formulas

abbrev pub truth_of : Names → Term → Bool
truth_of names t = (sense names t).truth

decided_is : (names : Names) (b : Bool) → truth_of names (decided b) ≡ b
decided_is names true = refl
decided_is names false = refl

order_kept : (names : Names) (s t : Term) (a b : Option ℤ) → as_number s ≡ a → as_number t ≡ b → truth_of names (fold_order (two at_most s t) a b) ≡ truth_of names (two at_most s t)
order_kept names s t None b e g = refl
order_kept names s t (Some x) None e g = refl
order_kept names s t (Some x) (Some y) e g =
    decided_is names (meaning.at_most x y)
    ∙ ap (λ (z : ℤ). meaning.at_most z y) (sym (as_number_is names s x e))
    ∙ ap (meaning.at_most (number_of names s)) (sym (as_number_is names t y g))

at_most_self : (z : ℤ) → meaning.at_most z z ≡ true
at_most_self z = grind (arith, ints)

at_most_kept : (names : Names) (s t : Term) → truth_of names (fold_at_most s t) ≡ truth_of names (two at_most s t)
at_most_kept names s t = either (same_term s t) refl
  where
    either : (b : Bool) → same_term s t ≡ b → truth_of names (cond b True (fold_order (two at_most s t) (as_number s) (as_number t))) ≡ truth_of names (two at_most s t)
    either true e = sym (ap (λ (u : Term). meaning.at_most (number_of names s) (number_of names u)) (sym (terms_are s t e)) ∙ at_most_self (number_of names s))
    either false e = order_kept names s t (as_number s) (as_number t) refl refl

not_not : (b : Bool) → b ≡ not (not b)
not_not true = refl
not_not false = refl

not_kept : (names : Names) (f : Term) (g : Option Term) → as_denied f ≡ g → truth_of names (fold_not f g) ≡ truth_of names (Not f)
not_kept names f None e = refl
not_kept names (Of denied (part h no_parts)) (Some g) e = let same : h ≡ g = cc in ap (truth_of names) (sym same) ∙ not_not (truth_of names h)
not_kept names f (Some g) e = absurd cc

is_true_holds : (names : Names) (f : Term) → is_true f ≡ true → truth_of names f ≡ true
is_true_holds names (Of all_of no_parts) e = refl
is_true_holds names f e = absurd cc

is_false_fails : (names : Names) (f : Term) → is_false f ≡ true → truth_of names f ≡ false
is_false_fails names (Of any_of no_parts) e = refl
is_false_fails names f e = absurd cc

and_true : (b : Bool) → b ≡ (b && true)
and_true true = refl
and_true false = refl

and_false : (b : Bool) → false ≡ (b && false)
and_false true = refl
and_false false = refl

or_true : (b : Bool) → true ≡ (b || true)
or_true true = refl
or_true false = refl

joined_all : (names : Names) (fs : Parts) → truth_of names (joined all_of fs) ≡ all_hold (senses_of fs) names
joined_all names no_parts = refl
joined_all names (part f no_parts) = and_true (truth_of names f)
joined_all names (part f (part g fs)) = refl

joined_any : (names : Names) (fs : Parts) → truth_of names (joined any_of fs) ≡ any_holds (senses_of fs) names
joined_any names no_parts = refl
joined_any names (part f no_parts) = or_false (truth_of names f)
joined_any names (part f (part g fs)) = refl

some_false : (names : Names) (fs : Parts) → has_false fs ≡ true → all_hold (senses_of fs) names ≡ false
some_false names no_parts e = absurd cc
some_false names (part f fs) e = either (is_false f) refl e (λ h. some_false names fs h)
  where
    either : (b : Bool) → is_false f ≡ b → cond b true (has_false fs) ≡ true → (has_false fs ≡ true → all_hold (senses_of fs) names ≡ false) → (truth_of names f && all_hold (senses_of fs) names) ≡ false
    either true is e rest = ap (λ (b : Bool). b && all_hold (senses_of fs) names) (is_false_fails names f is)
    either false is e rest = ap (λ (b : Bool). truth_of names f && b) (rest e) ∙ sym (and_false (truth_of names f))

some_true : (names : Names) (fs : Parts) → has_true fs ≡ true → any_holds (senses_of fs) names ≡ true
some_true names no_parts e = absurd cc
some_true names (part f fs) e = either (is_true f) refl e (λ h. some_true names fs h)
  where
    either : (b : Bool) → is_true f ≡ b → cond b true (has_true fs) ≡ true → (has_true fs ≡ true → any_holds (senses_of fs) names ≡ true) → (truth_of names f || any_holds (senses_of fs) names) ≡ true
    either true is e rest = ap (λ (b : Bool). b || any_holds (senses_of fs) names) (is_true_holds names f is)
    either false is e rest = ap (λ (b : Bool). truth_of names f || b) (rest e) ∙ sym (or_true (truth_of names f))

all_but_true : (names : Names) (fs : Parts) → all_hold (senses_of (without_true fs)) names ≡ all_hold (senses_of fs) names
all_but_true names no_parts = refl
all_but_true names (part f fs) = either (is_true f) refl (all_but_true names fs)
  where
    either : (b : Bool) → is_true f ≡ b → all_hold (senses_of (without_true fs)) names ≡ all_hold (senses_of fs) names → all_hold (senses_of (cond b (without_true fs) (part f (without_true fs)))) names ≡ (truth_of names f && all_hold (senses_of fs) names)
    either true is rest = rest ∙ ap (λ (b : Bool). b && all_hold (senses_of fs) names) (sym (is_true_holds names f is))
    either false is rest = ap (λ (b : Bool). truth_of names f && b) rest

any_but_false : (names : Names) (fs : Parts) → any_holds (senses_of (without_false fs)) names ≡ any_holds (senses_of fs) names
any_but_false names no_parts = refl
any_but_false names (part f fs) = either (is_false f) refl (any_but_false names fs)
  where
    either : (b : Bool) → is_false f ≡ b → any_holds (senses_of (without_false fs)) names ≡ any_holds (senses_of fs) names → any_holds (senses_of (cond b (without_false fs) (part f (without_false fs)))) names ≡ (truth_of names f || any_holds (senses_of fs) names)
    either true is rest = rest ∙ ap (λ (b : Bool). b || any_holds (senses_of fs) names) (sym (is_false_fails names f is))
    either false is rest = ap (λ (b : Bool). truth_of names f || b) rest

and_kept : (names : Names) (fs : Parts) → truth_of names (fold_and fs) ≡ truth_of names (Of all_of fs)
and_kept names fs = either (has_false fs) refl
  where
    either : (b : Bool) → has_false fs ≡ b → truth_of names (cond b False (joined all_of (without_true fs))) ≡ all_hold (senses_of fs) names
    either true e = sym (some_false names fs e)
    either false e = joined_all names (without_true fs) ∙ all_but_true names fs

or_kept : (names : Names) (fs : Parts) → truth_of names (fold_or fs) ≡ truth_of names (Of any_of fs)
or_kept names fs = either (has_true fs) refl
  where
    either : (b : Bool) → has_true fs ≡ b → truth_of names (cond b True (joined any_of (without_false fs))) ≡ any_holds (senses_of fs) names
    either true e = sym (some_true names fs e)
    either false e = joined_any names (without_false fs) ∙ any_but_false names fs

-- ---- records

field_of-field_part : (names : Names) (ns : List (List ℕ)) (ps : Parts) (name : List ℕ) → (sense names (field_part ns ps name)).datum ≡ field_of (fields_with ns (data_in (senses_of ps) names)) name
field_of-field_part names [] ps name = refl
field_of-field_part names (n ∷ ns) no_parts name = refl
field_of-field_part names (n ∷ ns) (part t ps) name = either (bytes_eq n name) (field_of-field_part names ns ps name)
  where
    either : (b : Bool) → (sense names (field_part ns ps name)).datum ≡ field_of (fields_with ns (data_in (senses_of ps) names)) name → (sense names (cond b t (field_part ns ps name))).datum ≡ cond b (sense names t).datum (field_of (fields_with ns (data_in (senses_of ps) names)) name)
    either true rest = refl
    either false rest = rest

field_kept : (names : Names) (name : List ℕ) (v : Term) (r : Option (List (List ℕ) × Parts)) → as_record v ≡ r → (sense names (fold_field name v r)).datum ≡ (sense names (one (term.field name) v)).datum
field_kept names name v None e = refl
field_kept names name (Of (term.fields ns) ps) (Some r) e =
    let same : r ≡ (ns, ps) = cc in
    ap (λ (q : List (List ℕ) × Parts). (sense names (field_part q.0 q.1 name)).datum) same ∙ field_of-field_part names ns ps name
field_kept names name v (Some r) e = absurd cc

-- ---- kinds

has_names-fields_with : (names : Names) (ns ms : List (List ℕ)) (ps : Parts) → has_names (fields_with ns (data_in (senses_of ps) names)) ms ≡ same_names (names_for ns ps) ms
has_names-fields_with names [] [] ps = refl
has_names-fields_with names [] (m ∷ ms) ps = refl
has_names-fields_with names (n ∷ ns) [] no_parts = refl
has_names-fields_with names (n ∷ ns) (m ∷ ms) no_parts = refl
has_names-fields_with names (n ∷ ns) [] (part t ps) = refl
has_names-fields_with names (n ∷ ns) (m ∷ ms) (part t ps) = ap (λ (b : Bool). bytes_eq n m && b) (has_names-fields_with names ns ms ps)

kind_of_null : (kind : DataKind) → is_of_kind kind Null ≡ same_kind null_kind kind
kind_of_null null_kind = refl
kind_of_null bool_kind = refl
kind_of_null int_kind = refl
kind_of_null array_kind = refl
kind_of_null (record_kind ns) = refl

kind_of_truth : (kind : DataKind) (b : Bool) → is_of_kind kind (Truth b) ≡ same_kind bool_kind kind
kind_of_truth null_kind b = refl
kind_of_truth bool_kind b = refl
kind_of_truth int_kind b = refl
kind_of_truth array_kind b = refl
kind_of_truth (record_kind ns) b = refl

kind_of_whole : (kind : DataKind) (z : ℤ) → is_of_kind kind (Whole z) ≡ same_kind int_kind kind
kind_of_whole null_kind z = refl
kind_of_whole bool_kind z = refl
kind_of_whole int_kind z = refl
kind_of_whole array_kind z = refl
kind_of_whole (record_kind ns) z = refl

kind_of_array : (kind : DataKind) (items : Data) → is_of_kind kind (Array items) ≡ same_kind array_kind kind
kind_of_array null_kind items = refl
kind_of_array bool_kind items = refl
kind_of_array int_kind items = refl
kind_of_array array_kind items = refl
kind_of_array (record_kind ns) items = refl

kind_of_repeated : (kind : DataKind) (d : Datum) (z : ℤ) → is_of_kind kind (repeated d z) ≡ same_kind array_kind kind
kind_of_repeated kind d (pos n) = kind_of_array kind (copies d n)
kind_of_repeated kind d (negsuc n) = kind_of_array kind no_items

kind_of_record : (names : Names) (kind : DataKind) (ns : List (List ℕ)) (ps : Parts) → is_of_kind kind (Record (fields_with ns (data_in (senses_of ps) names))) ≡ same_kind (record_kind (names_for ns ps)) kind
kind_of_record names null_kind ns ps = refl
kind_of_record names bool_kind ns ps = refl
kind_of_record names int_kind ns ps = refl
kind_of_record names array_kind ns ps = refl
kind_of_record names (record_kind ms) ns ps = has_names-fields_with names ns ms ps

given_same : (k l : DataKind) → some_kind k ≡ some_kind l → k ≡ l
given_same k l e = cc

kind_kept : (names : Names) (kind : DataKind) (v : Term) (given : Option DataKind) → kind_given v ≡ given → truth_of names (fold_kind kind v given) ≡ truth_of names (one (term.of_kind kind) v)
kind_kept names kind v None e = refl
kind_kept names kind (Of null ps) (Some g) e = decided_is names (same_kind g kind) ∙ ap (λ (k : DataKind). same_kind k kind) (sym (given_same null_kind g e)) ∙ sym (kind_of_null kind)
kind_kept names kind (Of (term.truth b) ps) (Some g) e = decided_is names (same_kind g kind) ∙ ap (λ (k : DataKind). same_kind k kind) (sym (given_same bool_kind g e)) ∙ sym (kind_of_truth kind b)
kind_kept names kind (Of int ps) (Some g) e = decided_is names (same_kind g kind) ∙ ap (λ (k : DataKind). same_kind k kind) (sym (given_same int_kind g e)) ∙ sym (kind_of_whole kind (meaning.number_at (senses_of ps) 0 names))
kind_kept names kind (Of term.bool ps) (Some g) e = decided_is names (same_kind g kind) ∙ ap (λ (k : DataKind). same_kind k kind) (sym (given_same bool_kind g e)) ∙ sym (kind_of_truth kind (meaning.truth_at (senses_of ps) 0 names))
kind_kept names kind (Of array ps) (Some g) e = decided_is names (same_kind g kind) ∙ ap (λ (k : DataKind). same_kind k kind) (sym (given_same array_kind g e)) ∙ sym (kind_of_array kind (items_with (data_in (senses_of ps) names)))
kind_kept names kind (Of term.repeat ps) (Some g) e = decided_is names (same_kind g kind) ∙ ap (λ (k : DataKind). same_kind k kind) (sym (given_same array_kind g e)) ∙ sym (kind_of_repeated kind (meaning.datum_at (senses_of ps) 0 names) (meaning.number_at (senses_of ps) 1 names))
kind_kept names kind (Of (term.fields ns) ps) (Some g) e = decided_is names (same_kind g kind) ∙ ap (λ (k : DataKind). same_kind k kind) (sym (given_same (record_kind (names_for ns ps)) g e)) ∙ sym (kind_of_record names kind ns ps)
kind_kept names kind v (Some g) e = absurd cc

-- ---- equations

int_self : (z : ℤ) → int_eq z z ≡ true
int_self z = (Decides-int_eq z z).1 refl

mutual
  datum_self : (d : Datum) → same_datum d d ≡ true
  datum_self Null = refl
  datum_self (Truth b) = beq_self b
  datum_self (Whole z) = int_self z
  datum_self (Array items) = data_self items
  datum_self (Record fs) = fields_self fs

  data_self : (ds : Data) → same_data ds ds ≡ true
  data_self no_items = refl
  data_self (item d rest) = rw (datum_self d, data_self rest) refl

  fields_self : (fs : Fields) → same_fields fs fs ≡ true
  fields_self no_fields = refl
  fields_self (datum.field n d rest) = rw (bytes_self n, datum_self d, fields_self rest) refl

constant_same : (d e : Datum) → some_datum d ≡ some_datum e → d ≡ e
constant_same d e p = cc

as_constant_is : (names : Names) (v : Term) (d : Datum) → as_constant v ≡ Some d → (sense names v).datum ≡ d
as_constant_is names (Of null ps) d e = constant_same Null d e
as_constant_is names (Of (term.truth b) ps) d e = constant_same (Truth b) d e
as_constant_is names (Of int (part s no_parts)) d e = whole (as_number s) refl e
  where
    whole : (a : Option ℤ) → as_number s ≡ a → as_whole a ≡ Some d → Whole (number_of names s) ≡ d
    whole None p q = absurd cc
    whole (Some z) p q = ap Whole (as_number_is names s z p) ∙ constant_same (Whole z) d q
as_constant_is names v d e = absurd cc

is_truth_is : (names : Names) (w : Term) → is_truth w ≡ true → (sense names w).datum ≡ Truth true
is_truth_is names (Of (term.truth b) ps) e = ap Truth e
is_truth_is names w e = absurd cc

beq_true : (b : Bool) → b ≡ beq b true
beq_true true = refl
beq_true false = refl

bool_kept : (names : Names) (v w : Term) (f : Option Term) (b : Bool) → as_bool v ≡ f → is_truth w ≡ b → truth_of names (fold_bool (two equal v w) f b) ≡ truth_of names (two equal v w)
bool_kept names v w None b e g = refl
bool_kept names v w (Some f) false e g = refl
bool_kept names (Of term.bool (part h no_parts)) w (Some f) true e g =
    let same : h ≡ f = cc in
    ap (truth_of names) (sym same) ∙ beq_true (truth_of names h) ∙ ap (same_datum (Truth (truth_of names h))) (sym (is_truth_is names w g))
bool_kept names v w (Some f) true e g = absurd cc

apart_kept : (names : Names) (v w : Term) (d e : Option Datum) → as_constant v ≡ d → as_constant w ≡ e → truth_of names (fold_apart v w d e) ≡ truth_of names (two equal v w)
apart_kept names v w (Some d) (Some e) p q =
    decided_is names (same_datum d e)
    ∙ ap (λ (x : Datum). same_datum x e) (sym (as_constant_is names v d p))
    ∙ ap (same_datum (sense names v).datum) (sym (as_constant_is names w e q))
apart_kept names v w (Some d) None p q = refl
apart_kept names v w None e p q = bool_kept names v w (as_bool v) (is_truth w) refl refl

equal_kept : (names : Names) (v w : Term) → truth_of names (fold_equal v w) ≡ truth_of names (two equal v w)
equal_kept names v w = either (same_term v w) refl
  where
    either : (b : Bool) → same_term v w ≡ b → truth_of names (cond b True (fold_apart v w (as_constant v) (as_constant w))) ≡ truth_of names (two equal v w)
    either true e = sym (ap (λ (u : Term). same_datum (sense names v).datum (sense names u).datum) (sym (terms_are v w e)) ∙ datum_self (sense names v).datum)
    either false e = apart_kept names v w (as_constant v) (as_constant w) refl refl

-- ---- terms

rewriting_keeps_meaning : (t : Term) (names : Names) → Agree (sort_in t) (sense names (rewritten t)) (sense names t)
rewriting_keeps_meaning (Of add (part s (part t no_parts))) names = two_kept names (λ a b. a +ℤ b) s t (two add s t) (as_number s) (as_number t) refl refl refl
rewriting_keeps_meaning (Of sub (part s (part t no_parts))) names = two_kept names (λ a b. a -ℤ b) s t (two sub s t) (as_number s) (as_number t) refl refl refl
rewriting_keeps_meaning (Of neg (part s no_parts)) names = neg_kept names s (as_number s) refl
rewriting_keeps_meaning (Of mul (part s (part t no_parts))) names = two_kept names (λ a b. a *ℤ b) s t (two mul s t) (as_number s) (as_number t) refl refl refl
rewriting_keeps_meaning (Of num (part v no_parts)) names = num_kept names v (as_int v) refl
rewriting_keeps_meaning (Of len (part v no_parts)) names = len_kept names v (as_array v) refl
rewriting_keeps_meaning (Of get (part v (part s no_parts))) names = get_kept names v s (as_array v) (as_number s) refl refl
rewriting_keeps_meaning (Of at_most (part s (part t no_parts))) names = at_most_kept names s t
rewriting_keeps_meaning (Of (term.field name) (part v no_parts)) names = field_kept names name v (as_record v) refl
rewriting_keeps_meaning (Of equal (part v (part w no_parts))) names = equal_kept names v w
rewriting_keeps_meaning (Of (term.of_kind kind) (part v no_parts)) names = kind_kept names kind v (kind_given v) refl
rewriting_keeps_meaning (Of denied (part f no_parts)) names = not_kept names f (as_denied f) refl
rewriting_keeps_meaning (Of all_of fs) names = and_kept names fs
rewriting_keeps_meaning (Of any_of fs) names = or_kept names fs
rewriting_keeps_meaning t names = refl

pub folding_keeps_meaning : FoldingKeepsMeaning
folding_keeps_meaning (Of (term.every word n) (part s (part t (part f no_parts)))) names whole = ap (λ (o : Option ℕ). truth_of names (fold_range true word n s t f o)) whole
folding_keeps_meaning (Of (term.exists word n) (part s (part t (part f no_parts)))) names whole = ap (λ (o : Option ℕ). truth_of names (fold_range false word n s t f o)) whole
folding_keeps_meaning t names whole = rewriting_keeps_meaning t names
