-- Which term a term is folded to when it is made, where its parts are folded already, all but quantifiers.
use Rattle.std.specs.Prelude.{◌≡◌, ℕ, zero, suc, ◌^◌, List, [], ◌∷◌, Bool, true, false, ◌&&◌, nat_lt, if◌then◌else◌, bytes_eq, ℤ, pos, negsuc, neg_ℤ, ◌+ℤ◌, ◌-ℤ◌, ◌*ℤ◌, Option, Some, None}
use Rattle.wy_term.specs.Term.{DataKind, null_kind, bool_kind, int_kind, array_kind, record_kind, Symbol, Term, Of, Parts, no_parts, part, leaf, one, two, Number, Not, number, add, sub, neg, mul, num, len, null, truth, int, bool, array, repeat, get, fields, field, at_most, equal, of_kind, denied, all_of, any_of}
use Rattle.wy_value.specs.Datum.{Datum, Null, Truth, Whole}
use Rattle.wy_term.specs.Data.{same_datum}
use Rattle.wy_term.specs.Same.{same_kind, same_term}
use Rattle.wy_term.specs.Meaning as meaning

-- ---- what a term is, as far as folding asks

-- the number that a term is, if it is one
abbrev pub as_number : Term → Option ℤ
as_number (Of (number z) ps) = Some z
as_number t = None

-- the Int term that a datum is made of, if it is made of one
abbrev pub as_int : Term → Option Term
as_int (Of int (part s no_parts)) = Some s
as_int t = None

-- the formula that a datum is made of, if it is made of one
abbrev pub as_bool : Term → Option Term
as_bool (Of bool (part f no_parts)) = Some f
as_bool t = None

-- the elements of an array that is written out
abbrev pub as_array : Term → Option Parts
as_array (Of array ps) = Some ps
as_array t = None

-- the formula that is denied, if one is
abbrev pub as_denied : Term → Option Term
as_denied (Of denied (part f no_parts)) = Some f
as_denied t = None

-- the formula `true` is an `and` without members
abbrev pub is_true : Term → Bool
is_true (Of all_of no_parts) = true
is_true t = false

-- the formula `false` is an `or` without members
abbrev pub is_false : Term → Bool
is_false (Of any_of no_parts) = true
is_false t = false

-- the datum `true`
abbrev pub is_truth : Term → Bool
is_truth (Of (truth b) ps) = b
is_truth t = false

-- ---- results

abbrev pub True : Term
True = leaf all_of

abbrev pub False : Term
False = leaf any_of

abbrev pub decided : Bool → Term
decided true = True
decided false = False

-- the number is one of 128 bits
abbrev pub fits : ℤ → Bool
fits (pos n) = nat_lt n (2 ^ 127)
fits (negsuc n) = nat_lt n (2 ^ 127)

-- the number where it is one of 128 bits
abbrev pub fitted : ℤ → Option ℤ
fitted z = if fits z then Some z else None

-- the number where there is one, else the term
abbrev pub number_or : Term → Option ℤ → Term
number_or t None = t
number_or t (Some z) = Number z

-- ---- numbers

-- an operation on a number, where there is one
abbrev pub on_one : (ℤ → ℤ) → Option ℤ → Option ℤ
on_one f None = None
on_one f (Some a) = fitted (f a)

-- an operation on two numbers, where there are two
abbrev pub on_two : (ℤ → ℤ → ℤ) → Option ℤ → Option ℤ → Option ℤ
on_two f None b = None
on_two f (Some a) None = None
on_two f (Some a) (Some b) = fitted (f a b)

abbrev pub fold_num : Term → Option Term → Term
fold_num v None = one num v
fold_num v (Some s) = s

-- ---- arrays

abbrev pub count : Parts → ℕ
count no_parts = 0
count (part t ps) = suc (count ps)

abbrev pub fold_len : Term → Option Parts → Term
fold_len v None = one len v
fold_len v (Some ps) = Number (pos (count ps))

abbrev pub nth_part : Parts → ℕ → Term
nth_part no_parts k = leaf null
nth_part (part t ps) zero = t
nth_part (part t ps) (suc k) = nth_part ps k

abbrev pub part_at : Parts → ℤ → Term
part_at ps (pos k) = nth_part ps k
part_at ps (negsuc k) = leaf null

abbrev pub fold_get : Term → Term → Option Parts → Option ℤ → Term
fold_get v s None k = two get v s
fold_get v s (Some ps) None = two get v s
fold_get v s (Some ps) (Some k) = part_at ps k

-- ---- formulas

abbrev pub fold_order : Term → Option ℤ → Option ℤ → Term
fold_order t None b = t
fold_order t (Some a) None = t
fold_order t (Some a) (Some b) = decided (meaning.at_most a b)

abbrev pub fold_at_most : Term → Term → Term
fold_at_most s t = if same_term s t then True else fold_order (two at_most s t) (as_number s) (as_number t)

abbrev pub fold_not : Term → Option Term → Term
fold_not f None = Not f
fold_not f (Some g) = g

-- a member is `false`
abbrev pub has_false : Parts → Bool
has_false no_parts = false
has_false (part f fs) = if is_false f then true else has_false fs

-- a member is `true`
abbrev pub has_true : Parts → Bool
has_true no_parts = false
has_true (part f fs) = if is_true f then true else has_true fs

-- the members but `true`
abbrev pub without_true : Parts → Parts
without_true no_parts = no_parts
without_true (part f fs) = if is_true f then without_true fs else part f (without_true fs)

-- the members but `false`
abbrev pub without_false : Parts → Parts
without_false no_parts = no_parts
without_false (part f fs) = if is_false f then without_false fs else part f (without_false fs)

-- one member stands alone
abbrev pub joined : Symbol → Parts → Term
joined symbol no_parts = leaf symbol
joined symbol (part f no_parts) = f
joined symbol (part f (part g fs)) = Of symbol (part f (part g fs))

abbrev pub fold_and : Parts → Term
fold_and fs = if has_false fs then False else joined all_of (without_true fs)

abbrev pub fold_or : Parts → Term
fold_or fs = if has_true fs then True else joined any_of (without_false fs)

-- ---- records

-- a record that is written out: its names and its parts
abbrev pub as_record : Term → Option (List (List ℕ) × Parts)
as_record (Of (fields names) ps) = Some (names, ps)
as_record t = None

-- the part of this name, or null
abbrev pub field_part : List (List ℕ) → Parts → List ℕ → Term
field_part [] ps name = leaf null
field_part (n ∷ ns) no_parts name = leaf null
field_part (n ∷ ns) (part t ps) name = if bytes_eq n name then t else field_part ns ps name

abbrev pub fold_field : List ℕ → Term → Option (List (List ℕ) × Parts) → Term
fold_field name v None = one (field name) v
fold_field name v (Some r) = field_part r.0 r.1 name

-- ---- kinds

-- the names that have a part
abbrev pub names_for : List (List ℕ) → Parts → List (List ℕ)
names_for [] ps = []
names_for (n ∷ ns) no_parts = []
names_for (n ∷ ns) (part t ps) = n ∷ names_for ns ps

-- the kind of a constant or of a datum that is written out
abbrev pub kind_given : Term → Option DataKind
kind_given (Of null ps) = Some null_kind
kind_given (Of (truth b) ps) = Some bool_kind
kind_given (Of int ps) = Some int_kind
kind_given (Of bool ps) = Some bool_kind
kind_given (Of array ps) = Some array_kind
kind_given (Of repeat ps) = Some array_kind
kind_given (Of (fields names) ps) = Some (record_kind (names_for names ps))
kind_given t = None

abbrev pub fold_kind : DataKind → Term → Option DataKind → Term
fold_kind kind v None = one (of_kind kind) v
fold_kind kind v (Some given) = decided (same_kind given kind)

-- ---- equations

abbrev pub as_whole : Option ℤ → Option Datum
as_whole None = None
as_whole (Some z) = Some (Whole z)

-- the datum of a constant: null, true, false or a number
abbrev pub as_constant : Term → Option Datum
as_constant (Of null ps) = Some Null
as_constant (Of (truth b) ps) = Some (Truth b)
as_constant (Of int (part s no_parts)) = as_whole (as_number s)
as_constant t = None

-- `bool(F) = true` is F
abbrev pub fold_bool : Term → Option Term → Bool → Term
fold_bool t None b = t
fold_bool t (Some f) true = f
fold_bool t (Some f) false = t

abbrev pub fold_apart : Term → Term → Option Datum → Option Datum → Term
fold_apart v w (Some d) (Some e) = decided (same_datum d e)
fold_apart v w (Some d) None = two equal v w
fold_apart v w None e = fold_bool (two equal v w) (as_bool v) (is_truth w)

abbrev pub fold_equal : Term → Term → Term
fold_equal v w = if same_term v w then True else fold_apart v w (as_constant v) (as_constant w)

-- ---- terms

-- the term that this one is folded to, where it is no quantifier
abbrev pub rewritten : Term → Term
rewritten (Of add (part s (part t no_parts))) = number_or (two add s t) (on_two (λ a b. a +ℤ b) (as_number s) (as_number t))
rewritten (Of sub (part s (part t no_parts))) = number_or (two sub s t) (on_two (λ a b. a -ℤ b) (as_number s) (as_number t))
rewritten (Of neg (part s no_parts)) = number_or (one neg s) (on_one neg_ℤ (as_number s))
rewritten (Of mul (part s (part t no_parts))) = number_or (two mul s t) (on_two (λ a b. a *ℤ b) (as_number s) (as_number t))
rewritten (Of num (part v no_parts)) = fold_num v (as_int v)
rewritten (Of len (part v no_parts)) = fold_len v (as_array v)
rewritten (Of get (part v (part s no_parts))) = fold_get v s (as_array v) (as_number s)
rewritten (Of at_most (part s (part t no_parts))) = fold_at_most s t
rewritten (Of (field name) (part v no_parts)) = fold_field name v (as_record v)
rewritten (Of equal (part v (part w no_parts))) = fold_equal v w
rewritten (Of (of_kind kind) (part v no_parts)) = fold_kind kind v (kind_given v)
rewritten (Of denied (part f no_parts)) = fold_not f (as_denied f)
rewritten (Of all_of fs) = fold_and fs
rewritten (Of any_of fs) = fold_or fs
rewritten t = t
