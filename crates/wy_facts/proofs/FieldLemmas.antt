-- What records are after a field was set.
use Rattle.std.proofs.Common.{◌≡◌, ℕ, List, [], ◌∷◌, Bool, true, false, cond, refl, sym, ap, subst, ◌∙◌}
use Rattle.std.specs.Prelude.{bytes_eq}
use Rattle.std.specs.Ordering.{is_lt, nat_cmp, ordering_reverse}
use Rattle.std.specs.declared.cmp.Ordering.{Ordering}
use Rattle.std.specs.declared.cmp.Ordering.TheVariants.{Less, Equal, Greater}
use Rattle.std.specs.Cmp.Lexicographic.{slice_cmp, nat_list_cmp_total}
use Rattle.std.proofs.lemmas.Slice.Eq.{bytes_eq-Decides}
use Rattle.wy_term_subst.proofs.wy_lemmas_proofs.Choices.{and-left as first_true, and-right as rest_true, both_true}
use Rattle.wy_term_subst.proofs.wy_lemmas_proofs.Lists.{bytes_self}
use Rattle.wy_term_subst.specs.wy_value.Datum.{Datum, Null, Truth, Whole, Array, Record, Fields, no_fields}
use Rattle.wy_term_subst.specs.wy_value.Datum as datum
use Rattle.wy_term_subst.specs.wy_term.Term.{DataKind, null_kind, bool_kind, int_kind, array_kind, record_kind}
use Rattle.wy_term_subst.specs.wy_term.Data.{field_of, field_in, with_field_of, with_field, is_of_kind, has_names}
use Rattle.wy_facts.specs.Schema.{rise, has_name, has_field}

-- ---- the field that was set

field-set : (fs : Fields) (f : List ℕ) (w : Datum) → field_of (with_field_of fs f w) f ≡ w
field-set no_fields f w = ap (λ (x : Bool). cond x w Null) (bytes_self f)
field-set (datum.field n d rest) f w = by (field-set rest f w) (bytes_eq n f) refl (is_lt (slice_cmp nat_cmp f n))
  where
    by : field_of (with_field_of rest f w) f ≡ w → (b : Bool) → bytes_eq n f ≡ b → (c : Bool) → field_of (cond b (datum.field n w rest) (cond c (datum.field f w (datum.field n d rest)) (datum.field n d (with_field_of rest f w)))) f ≡ w
    by more true is c = ap (λ (x : Bool). cond x w (field_of rest f)) is
    by more false is true = ap (λ (x : Bool). cond x w (cond (bytes_eq n f) d (field_of rest f))) (bytes_self f)
    by more false is false = ap (λ (x : Bool). cond x d (field_of (with_field_of rest f w) f)) is ∙ more

pub field_in-set : (r : Datum) (f : List ℕ) (w : Datum) → field_in (with_field r f w) f ≡ w
field_in-set Null f w = field-set no_fields f w
field_in-set (Truth b) f w = field-set no_fields f w
field_in-set (Whole z) f w = field-set no_fields f w
field_in-set (Array items) f w = field-set no_fields f w
field_in-set (Record fields) f w = field-set fields f w

-- ---- another field

field-other : (fs : Fields) (f g : List ℕ) (w : Datum) → bytes_eq f g ≡ false → field_of (with_field_of fs f w) g ≡ field_of fs g
field-other no_fields f g w apart = ap (λ (x : Bool). cond x w Null) apart
field-other (datum.field n d rest) f g w apart = by (field-other rest f g w apart) (bytes_eq n f) refl (is_lt (slice_cmp nat_cmp f n))
  where
    other_name : bytes_eq n f ≡ true → bytes_eq n g ≡ false
    other_name is = ap (λ (m : List ℕ). bytes_eq m g) ((bytes_eq-Decides n f).0 is) ∙ apart

    by : field_of (with_field_of rest f w) g ≡ field_of rest g → (b : Bool) → bytes_eq n f ≡ b → (c : Bool) → field_of (cond b (datum.field n w rest) (cond c (datum.field f w (datum.field n d rest)) (datum.field n d (with_field_of rest f w)))) g ≡ cond (bytes_eq n g) d (field_of rest g)
    by more true is c = ap (λ (x : Bool). cond x w (field_of rest g)) (other_name is) ∙ sym (ap (λ (x : Bool). cond x d (field_of rest g)) (other_name is))
    by more false is true = ap (λ (x : Bool). cond x w (cond (bytes_eq n g) d (field_of rest g))) apart
    by more false is false = ap (λ (e : Datum). cond (bytes_eq n g) d e) more

pub field_in-other : (r : Datum) (f g : List ℕ) (w : Datum) → bytes_eq f g ≡ false → field_in (with_field r f w) g ≡ field_in r g
field_in-other Null f g w apart = field-other no_fields f g w apart
field_in-other (Truth b) f g w apart = field-other no_fields f g w apart
field_in-other (Whole z) f g w apart = field-other no_fields f g w apart
field_in-other (Array items) f g w apart = field-other no_fields f g w apart
field_in-other (Record fields) f g w apart = field-other fields f g w apart

-- ---- the kind

is_less : (o : Ordering) → is_lt o ≡ true → o ≡ Less
is_less Less e = refl
is_less Equal e = absurd cc
is_less Greater e = absurd cc

less_on : (a b c : List ℕ) → is_lt (slice_cmp nat_cmp a b) ≡ true → is_lt (slice_cmp nat_cmp b c) ≡ true → is_lt (slice_cmp nat_cmp a c) ≡ true
less_on a b c e f = ap is_lt (nat_list_cmp_total.trans a b c (is_less (slice_cmp nat_cmp a b) e) (is_less (slice_cmp nat_cmp b c) f))

-- a name that is less isn't greater
not_greater : (a b : List ℕ) → is_lt (slice_cmp nat_cmp a b) ≡ true → is_lt (slice_cmp nat_cmp b a) ≡ false
not_greater a b e = ap is_lt (nat_list_cmp_total.antisymm b a ∙ ap ordering_reverse (is_less (slice_cmp nat_cmp a b) e))

-- among rising names the first is below each other
below_later : (m : List ℕ) (ms : List (List ℕ)) (f : List ℕ) → rise (m ∷ ms) ≡ true → has_name ms f ≡ true → is_lt (slice_cmp nat_cmp m f) ≡ true
below_later m [] f up has = absurd cc
below_later m (k ∷ ks) f up has = by (λ h. below_later k ks f (rest_true (is_lt (slice_cmp nat_cmp m k)) (rise (k ∷ ks)) up) h) (bytes_eq k f) refl has
  where
    here : is_lt (slice_cmp nat_cmp m k) ≡ true
    here = first_true (is_lt (slice_cmp nat_cmp m k)) (rise (k ∷ ks)) up

    by : (has_name ks f ≡ true → is_lt (slice_cmp nat_cmp k f) ≡ true) → (b : Bool) → bytes_eq k f ≡ b → cond b true (has_name ks f) ≡ true → is_lt (slice_cmp nat_cmp m f) ≡ true
    by more true is h = subst (λ (g : List ℕ). is_lt (slice_cmp nat_cmp m g) ≡ true) ((bytes_eq-Decides k f).0 is) here
    by more false is h = less_on m k f here (more h)

rise_rest : (m : List ℕ) (ms : List (List ℕ)) → rise (m ∷ ms) ≡ true → rise ms ≡ true
rise_rest m [] up = refl
rise_rest m (k ∷ ks) up = rest_true (is_lt (slice_cmp nat_cmp m k)) (rise (k ∷ ks)) up

unless_first : (b c : Bool) → b ≡ false → cond b true c ≡ true → c ≡ true
unless_first true c e h = absurd cc
unless_first false c e h = h

names-set : (fs : Fields) (ns : List (List ℕ)) (f : List ℕ) (w : Datum) → rise ns ≡ true → has_name ns f ≡ true → has_names fs ns ≡ true → has_names (with_field_of fs f w) ns ≡ true
names-set no_fields [] f w up has are = absurd cc
names-set no_fields (m ∷ ms) f w up has are = absurd cc
names-set (datum.field n d rest) [] f w up has are = absurd cc
names-set (datum.field n d rest) (m ∷ ms) f w up has are = by (λ has rest_are. names-set rest ms f w (rise_rest m ms up) has rest_are) (bytes_eq n f) refl (is_lt (slice_cmp nat_cmp f n)) refl
  where
    one : bytes_eq n m ≡ true
    one = first_true (bytes_eq n m) (has_names rest ms) are

    rest_are : has_names rest ms ≡ true
    rest_are = rest_true (bytes_eq n m) (has_names rest ms) are

    -- the name is a later one
    later : bytes_eq n f ≡ false → has_name ms f ≡ true
    later other = unless_first (bytes_eq m f) (has_name ms f) (sym (ap (λ (k : List ℕ). bytes_eq k f) ((bytes_eq-Decides n m).0 one)) ∙ other) has

    not_before : bytes_eq n f ≡ false → is_lt (slice_cmp nat_cmp f n) ≡ false
    not_before other = ap (λ (k : List ℕ). is_lt (slice_cmp nat_cmp f k)) ((bytes_eq-Decides n m).0 one) ∙ not_greater m f (below_later m ms f up (later other))

    apart : (c : Bool) → c ≡ true → c ≡ false → ⊥
    apart true e h = cc
    apart false e h = cc

    by : (has_name ms f ≡ true → has_names rest ms ≡ true → has_names (with_field_of rest f w) ms ≡ true) → (b : Bool) → bytes_eq n f ≡ b → (c : Bool) → is_lt (slice_cmp nat_cmp f n) ≡ c → has_names (cond b (datum.field n w rest) (cond c (datum.field f w (datum.field n d rest)) (datum.field n d (with_field_of rest f w)))) (m ∷ ms) ≡ true
    by more true is c less = both_true (bytes_eq n m) (has_names rest ms) one rest_are
    by more false is true less = absurd (apart (is_lt (slice_cmp nat_cmp f n)) less (not_before is))
    by more false is false less = both_true (bytes_eq n m) (has_names (with_field_of rest f w) ms) one (more (later is) rest_are)

-- a record of a kind is still of it after a field was set that the kind names
pub kind-with_field : (kind : DataKind) (r : Datum) (f : List ℕ) (w : Datum) → has_field kind f ≡ true → is_of_kind kind r ≡ true → is_of_kind kind (with_field r f w) ≡ true
kind-with_field (record_kind ns) (Record fields) f w has is = names-set fields ns f w (first_true (rise ns) (has_name ns f) has) (rest_true (rise ns) (has_name ns f) has) is
kind-with_field (record_kind ns) Null f w has is = absurd cc
kind-with_field (record_kind ns) (Truth b) f w has is = absurd cc
kind-with_field (record_kind ns) (Whole z) f w has is = absurd cc
kind-with_field (record_kind ns) (Array items) f w has is = absurd cc
kind-with_field null_kind r f w has is = absurd cc
kind-with_field bool_kind r f w has is = absurd cc
kind-with_field int_kind r f w has is = absurd cc
kind-with_field array_kind r f w has is = absurd cc
