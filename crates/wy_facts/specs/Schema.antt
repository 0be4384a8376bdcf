-- Which formula each schema of facts states of its arguments.
use Rattle.std.specs.Prelude.{ℕ, zero, suc, List, [], ◌∷◌, ◌&&◌, ◌==◌, Bool, true, false, not, bytes_eq, if◌then◌else◌, ℤ, pos, negsuc, Option, Some, None}
use Rattle.std.specs.Ordering.{is_lt, nat_cmp}
use Rattle.std.specs.Cmp.Lexicographic.{slice_cmp}
use Rattle.wy_term_subst.specs.wy_term.Term.{DataKind, null_kind, bool_kind, int_kind, record_kind, Term, Of, Parts, no_parts, part, leaf, one, Number, add, neg, mul, div, rem, num, len, null, truth, int, repeat, update, get, field, set_field, equal, of_kind}
use Rattle.wy_term_subst.specs.wy_term.Same.{same_term}
use Rattle.wy_term_subst.specs.wy_term.Sorts.{Sort, int_sort, val_sort, formula_sort, sort_in}
use Rattle.wy_term_subst.specs.wy_term.Rewriting.{as_number, as_array, as_bool}
use Rattle.wy_term_subst.specs.wy_term.Folding.{folded}
use Rattle.wy_facts.specs.declared.schema.Schema.{Schema}
use Rattle.wy_facts.specs.declared.schema.Schema.TheVariants as schema
use Rattle.wy_facts.specs.Made.{made_one, made_two, is_at_most, is_equal, denial, is_below, both, all_three, all_four, either, one_of_three, implies, exactly_where, same_number}

-- one after the other, where neither fails
infixl 10 ◌>>=◌
abbrev pub ◌>>=◌ : {A B : Type 0} → Option A → (A → Option B) → Option B
(Some x) >>= f = f x
None >>= f = None

-- the datum of which an Int term is made
abbrev pub whole : Term → Term
whole s = made_one int s

-- the length of an array, and the number in a datum
abbrev pub length_of : Term → Term
length_of v = made_one len v

abbrev pub number_in : Term → Term
number_in v = made_one num v

abbrev pub zero_term : Term
zero_term = Number (pos 0)

-- the formula that a schema states of these terms, which are the parts of its arguments
abbrev pub stated : Schema → List Term → Term
-- a length is at least 0
stated schema.LengthIsNatural (v ∷ []) = is_at_most zero_term (length_of v)
-- t is n copies
stated schema.LengthOfCopies (t ∷ n ∷ []) = implies (is_at_most zero_term n) (same_number (length_of t) n)
-- t is an array a with another element
stated schema.LengthOfUpdated (t ∷ a ∷ []) = same_number (length_of t) (length_of a)
-- t is the element of a written out array at i, whose element number k is v
stated schema.ElementOfArray (t ∷ i ∷ k ∷ v ∷ []) = one_of_three (is_below i k) (is_below k i) (is_equal t v)
-- t is the element at i of n copies of v
stated schema.ElementOfCopies (t ∷ i ∷ n ∷ v ∷ []) = implies (both (is_at_most zero_term i) (is_below i n)) (is_equal t v)
-- t is the element at j of an array a with w at i
stated schema.ElementUpdated (t ∷ a ∷ i ∷ w ∷ j ∷ []) =
    implies (all_four (is_at_most i j) (is_at_most j i) (is_at_most zero_term i) (is_below i (length_of a))) (is_equal t w)
stated schema.ElementElsewhere (t ∷ a ∷ i ∷ j ∷ []) = implies (either (is_below i j) (is_below j i)) (is_equal t (made_two get a j))
-- s and t are the elements of one array at i and at j
stated schema.ElementsAtOneIndex (s ∷ t ∷ i ∷ j ∷ []) = one_of_three (is_below i j) (is_below j i) (is_equal s t)
-- t is the field that was set to w
stated schema.FieldUpdated (t ∷ w ∷ []) = is_equal t w
-- t is another field than the one that was set, and u the same field of the record before
stated schema.FieldElsewhere (t ∷ u ∷ []) = is_equal t u
-- e is the equation of v and w
stated schema.EqualNumbers (e ∷ v ∷ w ∷ []) = implies e (both (is_at_most (number_in v) (number_in w)) (is_at_most (number_in w) (number_in v)))
-- k says of which kind an array with another element is, and l the same of the array before
stated schema.KindOfUpdated (k ∷ l ∷ []) = exactly_where k l
-- k says that a record with a field that was set has these fields, and l the same of the record before
stated schema.KindOfFieldUpdated (k ∷ l ∷ []) = implies l k
stated schema.DatumByKind (v ∷ []) =
    all_three (implies (made_one (of_kind null_kind) v) (is_equal v (leaf null)))
    (implies (made_one (of_kind bool_kind) v) (either (is_equal v (leaf (truth true))) (is_equal v (leaf (truth false)))))
    (implies (made_one (of_kind int_kind) v) (is_equal v (whole (number_in v))))
-- v is the datum of the formula f
stated schema.DatumOfFormula (v ∷ f ∷ []) = either (both f (is_equal v (leaf (truth true)))) (both (denial f) (is_equal v (leaf (truth false))))
-- a is divided by b with quotient q and remainder r
stated schema.Division (a ∷ b ∷ q ∷ r ∷ []) =
    either (same_number b zero_term)
    (all_four (same_number a (made_two add (made_two mul b q) r))
    (is_at_most zero_term r)
    (either (is_at_most b zero_term) (is_below r b))
    (either (is_at_most zero_term b) (is_below r (made_one neg b))))
stated n ts = zero_term

-- ---- the arguments of each schema

-- the term is a Val term
abbrev pub is_val_sort : Sort → Bool
is_val_sort val_sort = true
is_val_sort int_sort = false
is_val_sort formula_sort = false

abbrev pub is_val : Term → Bool
is_val t = is_val_sort (sort_in t)

-- what is copied, and how often
abbrev pub as_copies : Term → Option (Term × Term)
as_copies (Of repeat (part v (part n no_parts))) = Some (v, n)
as_copies t = None

-- an array, an index and another element
abbrev pub as_updated : Term → Option (Term × Term × Term)
as_updated (Of update (part a (part i (part w no_parts)))) = Some (a, i, w)
as_updated t = None

-- an array and an index
abbrev pub as_element : Term → Option (Term × Term)
as_element (Of get (part a (part i no_parts))) = Some (a, i)
as_element t = None

-- a record, a field's name and its datum
abbrev pub as_field_updated : Term → Option (Term × List ℕ × Term)
as_field_updated (Of (set_field name) (part r (part w no_parts))) = Some (r, name, w)
as_field_updated t = None

-- a record and a field's name
abbrev pub as_field : Term → Option (Term × List ℕ)
as_field (Of (field name) (part r no_parts)) = Some (r, name)
as_field t = None

-- the two sides of an equation
abbrev pub as_equation : Term → Option (Term × Term)
as_equation (Of equal (part v (part w no_parts))) = Some (v, w)
as_equation t = None

-- a datum and a kind
abbrev pub as_kind_test : Term → Option (Term × DataKind)
as_kind_test (Of (of_kind kind) (part v no_parts)) = Some (v, kind)
as_kind_test t = None

-- the dividend and the divisor of a quotient or a remainder
abbrev pub as_division : Term → Option (Term × Term)
as_division (Of div (part a (part b no_parts))) = Some (a, b)
as_division (Of rem (part a (part b no_parts))) = Some (a, b)
as_division t = None

-- the element of a written out array with this number, if it has one
abbrev pub nth_of : Parts → ℕ → Option Term
nth_of no_parts k = None
nth_of (part t ts) zero = Some t
nth_of (part t ts) (suc k) = nth_of ts k

abbrev pub element_numbered : Parts → ℤ → Option Term
element_numbered ts (pos k) = nth_of ts k
element_numbered ts (negsuc k) = None

-- the names rise
abbrev pub rise : List (List ℕ) → Bool
rise [] = true
rise (n ∷ []) = true
rise (n ∷ m ∷ ms) = is_lt (slice_cmp nat_cmp n m) && rise (m ∷ ms)

-- the name is one of these
abbrev pub has_name : List (List ℕ) → List ℕ → Bool
has_name [] n = false
has_name (m ∷ ms) n = if bytes_eq m n then true else has_name ms n

-- the kind is that of records with rising fields, of which this is one
abbrev pub has_field : DataKind → List ℕ → Bool
has_field (record_kind names) n = rise names && has_name names n
has_field kind n = false

-- a schema and the parts of its arguments
pub record Instance : Type 0 where
  pub schema : Schema
  pub parts : List Term

abbrev pub instance : Schema → List Term → Option Instance
instance n ts = Some (record { schema = n; parts = ts })

abbrev pub only_if : {A : Type 0} → Bool → Option A → Option A
only_if true o = o
only_if false o = None

-- the instance of each schema by the arguments that it takes
abbrev pub length_is_natural : Term → Option Instance
length_is_natural v = only_if (is_val v) (instance schema.LengthIsNatural (v ∷ []))

abbrev pub length_of_copies : Term → Option Instance
length_of_copies t = as_copies t >>= λ c. instance schema.LengthOfCopies (t ∷ c.1 ∷ [])

abbrev pub length_of_updated : Term → Option Instance
length_of_updated t = as_updated t >>= λ u. instance schema.LengthOfUpdated (t ∷ u.0 ∷ [])

-- the element with this number of an array that is written out
abbrev pub numbered_in : Term → ℤ → Option Term
numbered_in a z = as_array a >>= λ vs. element_numbered vs z

abbrev pub element_of_array : Term → Term → Option Instance
element_of_array t k = as_element t >>= λ g. as_number k >>= λ z. numbered_in g.0 z >>= λ v. instance schema.ElementOfArray (t ∷ g.1 ∷ k ∷ v ∷ [])

abbrev pub element_of_copies : Term → Option Instance
element_of_copies t = as_element t >>= λ g. as_copies g.0 >>= λ c. instance schema.ElementOfCopies (t ∷ g.1 ∷ c.1 ∷ c.0 ∷ [])

abbrev pub element_updated : Term → Option Instance
element_updated t = as_element t >>= λ g. as_updated g.0 >>= λ u. instance schema.ElementUpdated (t ∷ u.0 ∷ u.1 ∷ u.2 ∷ g.1 ∷ [])

abbrev pub element_elsewhere : Term → Option Instance
element_elsewhere t = as_element t >>= λ g. as_updated g.0 >>= λ u. instance schema.ElementElsewhere (t ∷ u.0 ∷ u.1 ∷ g.1 ∷ [])

abbrev pub elements_at_one_index : Term → Term → Option Instance
elements_at_one_index s t = as_element s >>= λ g. as_element t >>= λ h. only_if (same_term g.0 h.0) (instance schema.ElementsAtOneIndex (s ∷ t ∷ g.1 ∷ h.1 ∷ []))

-- what a field was set to, where that field is the one that is read
abbrev pub set_to : Term → Option Term
set_to t = as_field t >>= λ g. as_field_updated g.0 >>= λ u. only_if (bytes_eq u.1 g.1) (Some u.2)

abbrev pub field_updated : Term → Option Instance
field_updated t = set_to t >>= λ w. instance schema.FieldUpdated (t ∷ w ∷ [])

-- another field than the one that was set, of the record before
abbrev pub field_before : Term → Option Term
field_before t = as_field t >>= λ g. as_field_updated g.0 >>= λ u. only_if (not (bytes_eq u.1 g.1)) (Some (one (field g.1) u.0))

abbrev pub field_elsewhere : Term → Option Instance
field_elsewhere t = field_before t >>= λ u. instance schema.FieldElsewhere (t ∷ folded u ∷ [])

abbrev pub equal_numbers : Term → Option Instance
equal_numbers t = as_equation t >>= λ s. instance schema.EqualNumbers (t ∷ s.0 ∷ s.1 ∷ [])

-- the same test of the array before
abbrev pub kind_before_update : Term → Option Term
kind_before_update t = as_kind_test t >>= λ k. as_updated k.0 >>= λ u. Some (one (of_kind k.1) u.0)

abbrev pub kind_of_updated : Term → Option Instance
kind_of_updated t = kind_before_update t >>= λ l. instance schema.KindOfUpdated (t ∷ folded l ∷ [])

-- the same test of the record before, where the field that was set is one of those that it names
abbrev pub kind_before_set : Term → Option Term
kind_before_set t = as_kind_test t >>= λ k. as_field_updated k.0 >>= λ u. only_if (has_field k.1 u.1) (Some (one (of_kind k.1) u.0))

abbrev pub kind_of_field_updated : Term → Option Instance
kind_of_field_updated t = kind_before_set t >>= λ l. instance schema.KindOfFieldUpdated (t ∷ folded l ∷ [])

-- of `bool(F)` another formula than of other data
abbrev pub datum_by : Term → Option Term → Option Instance
datum_by v None = only_if (is_val v) (instance schema.DatumByKind (v ∷ []))
datum_by v (Some f) = instance schema.DatumOfFormula (v ∷ f ∷ [])

abbrev pub datum_by_kind : Term → Option Instance
datum_by_kind v = datum_by v (as_bool v)

abbrev pub division : Term → Option Instance
division t = as_division t >>= λ d. instance schema.Division (d.0 ∷ d.1 ∷ made_two div d.0 d.1 ∷ made_two rem d.0 d.1 ∷ [])

-- the instance of the schema with this number, from 1, by one argument; those that state a fact of a term that is made stand first
abbrev pub plain_by_one : ℕ → Term → Option Instance
plain_by_one n t =
    if n == 1 then length_is_natural t else (
    if n == 2 then length_of_copies t else (
    if n == 3 then length_of_updated t else (
    if n == 5 then element_of_copies t else (
    if n == 6 then element_updated t else (
    if n == 7 then element_elsewhere t else (
    if n == 9 then field_updated t else (
    if n == 11 then equal_numbers t else (
    if n == 14 then datum_by_kind t else None))))))))

abbrev pub by_one : ℕ → Term → Option Instance
by_one n t =
    if n == 10 then field_elsewhere t else (
    if n == 12 then kind_of_updated t else (
    if n == 13 then kind_of_field_updated t else (
    if n == 15 then division t else plain_by_one n t)))

-- the same by two arguments
abbrev pub by_two : ℕ → Term → Term → Option Instance
by_two n s t = if n == 4 then element_of_array s t else (if n == 8 then elements_at_one_index s t else None)

abbrev pub instance_of : ℕ → List Term → Option Instance
instance_of n (t ∷ []) = by_one n t
instance_of n (s ∷ t ∷ []) = by_two n s t
instance_of n ts = None

-- the formula that the schema with this number states of these arguments, where they are such as it takes
abbrev pub fact_of : ℕ → List Term → Option Term
fact_of n ts = instance_of n ts >>= λ i. Some (stated i.schema i.parts)
