-- Small certificates: one that is valid and one that isn't for each kind of step.
use Rattle.std.specs.Prelude.{◌≡◌, List, [], ◌∷◌, pos, Some, None}
use Rattle.wy_lin.specs.wy_term.Term.{Term, Of, no_parts, part, leaf, one, two, Number, AtMost, Not, Num, OfKind, val_name, int_name, null_kind, int_kind, mul, len, null, int, equal, in_type, every, any_of}
use Rattle.wy_lin.specs.wy_term.Condition.{Condition}
use Rattle.wy_cert.specs.Steps.{split, shut, chain, clash, sum_of, cut, inst, wit, fact, prod}
use Rattle.wy_check_spec.specs.valid.Validity.{first_bad}

-- ---- names and formulas

-- k#0, m#2, j#3
abbrev pub k : Term
k = leaf (int_name (107 ∷ []) 0)

abbrev pub m : Term
m = leaf (int_name (109 ∷ []) 2)

abbrev pub j : Term
j = leaf (int_name (106 ∷ []) 3)

-- x.0, y.1, z.2
abbrev pub x : Term
x = leaf (val_name (120 ∷ []) 0)

abbrev pub y : Term
y = leaf (val_name (121 ∷ []) 1)

abbrev pub z : Term
z = leaf (val_name (122 ∷ []) 2)

abbrev pub zero_number : Term
zero_number = Number (pos 0)

-- 0 <= t
abbrev pub Natural : Term → Term
Natural t = AtMost zero_number t

abbrev pub Equal : Term → Term → Term
Equal v w = two equal v w

abbrev pub Or : Term → Term → Term
Or f g = Of any_of (part f (part g no_parts))

abbrev pub Never : Term
Never = leaf any_of

-- all k#0 in 0..m#2 | (F)
abbrev pub Every : Term → Term
Every f = Of (every (107 ∷ []) 0) (part zero_number (part m (part f no_parts)))

-- hypotheses and a goal
abbrev pub owes : List Term → Term → Condition
owes hyps goal = record { hyps = hyps; goal = goal; types = [] }

-- the same where type 0 is the kind of null
abbrev pub owes_of_null : List Term → Term → Condition
owes_of_null hyps goal = record { hyps = hyps; goal = goal; types = record { type_number = 0; name = x; formula = OfKind x null_kind } ∷ [] }

-- ---- conditions

-- 0 <= k or 1 <= k; so 0 <= k
abbrev pub either_way : Condition
either_way = owes (Or (Natural k) (AtMost (Number (pos 1)) k) ∷ []) (Natural k)

-- x = y and y = z; so x = z
abbrev pub linked : Condition
linked = owes (Equal x y ∷ Equal z y ∷ []) (Equal x z)

-- x = y; so num(x) <= num(y)
abbrev pub numbers_linked : Condition
numbers_linked = owes (Equal x y ∷ []) (AtMost (Num x) (Num y))

-- k <= m; so m <= k
abbrev pub one_way : Condition
one_way = owes (AtMost k m ∷ []) (AtMost m k)

-- kind(x, null) and x = y; so y isn't int(k)
abbrev pub kinds_apart : Condition
kinds_apart = owes (OfKind x null_kind ∷ Equal x y ∷ Equal y (one int k) ∷ []) Never

-- kind(x, int) and x = int(k)
abbrev pub kinds_equal : Condition
kinds_equal = owes (OfKind x int_kind ∷ Equal x (one int k) ∷ []) Never

-- k <= 0; so k <= 1
abbrev pub below_one : Condition
below_one = owes (AtMost k zero_number ∷ []) (AtMost k (Number (pos 1)))

-- k <= 0; so not 0 <= k, which needn't be
abbrev pub not_natural : Condition
not_natural = owes (AtMost k zero_number ∷ []) (Not (Natural k))

-- 1 <= 2k and 2k <= 1
abbrev pub between_halves : Condition
between_halves = owes (AtMost (Number (pos 1)) (two mul (Number (pos 2)) k) ∷ AtMost (two mul (Number (pos 2)) k) (Number (pos 1)) ∷ []) Never

-- all k in 0..m | (k <= 7), 0 <= j and j < m; so j <= 7
abbrev pub of_all_below : Condition
of_all_below = owes (Every (AtMost k (Number (pos 7))) ∷ Natural j ∷ Not (AtMost m j) ∷ []) (AtMost j (Number (pos 7)))

-- all k in 0..m | (0 <= k)
abbrev pub all_natural : Condition
all_natural = owes [] (Every (Natural k))

-- all k in 0..m | (0 <= k); so nothing can be
abbrev pub from_all_natural : Condition
from_all_natural = owes (Every (Natural k) ∷ []) Never

-- 0 <= len(x)
abbrev pub length_natural : Condition
length_natural = owes [] (Natural (one len x))

-- y is of type 0; so it is of the kind of null
abbrev pub null_by_type : Condition
null_by_type = owes_of_null (one (in_type 0) y ∷ []) (OfKind y null_kind)

-- 0 <= k and 0 <= m; so 0 <= k * m
abbrev pub product_natural : Condition
product_natural = owes (Natural k ∷ Natural m ∷ []) (Natural (two mul k m))

-- 0 <= 5 and 0 <= m; so 0 <= k * m, which needn't be
abbrev pub no_first_bound : Condition
no_first_bound = owes (Natural (Number (pos 5)) ∷ Natural m ∷ []) (Natural (two mul k m))

-- ---- what is valid

pub record SmallCertificates : Type 0 where
  pub split_valid : first_bad either_way (split (AtMost (Number (pos 1)) k) ∷ sum_of ((1, 1) ∷ (1, 2) ∷ []) ∷ shut ∷ []) ≡ None
  pub split_of_no_atom : first_bad either_way (split (Or (Natural k) (AtMost (Number (pos 1)) k)) ∷ shut ∷ shut ∷ []) ≡ Some 1
  pub split_of_bound_name : first_bad of_all_below (split (Natural k) ∷ inst 1 j ∷ shut ∷ inst 1 j ∷ shut ∷ []) ≡ None
  pub shut_where_open : first_bad either_way (shut ∷ []) ≡ Some 1
  pub chain_valid : first_bad linked (chain (x ∷ y ∷ z ∷ []) ∷ shut ∷ []) ≡ None
  pub chain_with_a_gap : first_bad linked (chain (x ∷ z ∷ []) ∷ shut ∷ []) ≡ Some 1
  pub chain_of_arguments : first_bad numbers_linked (chain (Num x ∷ Num y ∷ []) ∷ shut ∷ []) ≡ None
  pub chain_one_way : first_bad one_way (chain (m ∷ k ∷ []) ∷ shut ∷ []) ≡ Some 1
  pub clash_valid : first_bad kinds_apart (clash 1 (Some 3) ∷ []) ≡ None
  pub clash_of_equal_kinds : first_bad kinds_equal (clash 1 (Some 2) ∷ []) ≡ Some 1
  pub clash_alone_valid : first_bad (owes (Equal (leaf null) (one int k) ∷ []) Never) (clash 1 None ∷ []) ≡ None
  pub clash_alone_of_a_name : first_bad (owes (Equal (leaf null) x ∷ []) Never) (clash 1 None ∷ []) ≡ Some 1
  pub sum_valid : first_bad below_one (sum_of ((1, 1) ∷ (1, 2) ∷ []) ∷ []) ≡ None
  pub sum_of_zero : first_bad not_natural (sum_of ((1, 1) ∷ (1, 2) ∷ []) ∷ []) ≡ Some 1
  pub sum_with_multiplier_zero : first_bad below_one (sum_of ((1, 1) ∷ (1, 2) ∷ (0, 1) ∷ []) ∷ []) ≡ Some 1
  pub cut_valid : first_bad between_halves (cut 2 ((1, 1) ∷ []) ∷ cut 2 ((1, 2) ∷ []) ∷ sum_of ((1, 3) ∷ (1, 4) ∷ []) ∷ []) ≡ None
  pub cut_by_no_divisor : first_bad between_halves (cut 2 ((1, 1) ∷ []) ∷ cut 3 ((1, 2) ∷ []) ∷ sum_of ((1, 3) ∷ (1, 4) ∷ []) ∷ []) ≡ Some 2
  pub inst_valid : first_bad of_all_below (inst 1 j ∷ shut ∷ []) ≡ None
  pub inst_of_false_all : first_bad all_natural (inst 1 j ∷ shut ∷ []) ≡ Some 1
  pub inst_at_no_number : first_bad of_all_below (inst 1 x ∷ shut ∷ []) ≡ Some 1
  pub wit_valid : first_bad all_natural (wit 1 ∷ shut ∷ []) ≡ None
  pub wit_of_true_all : first_bad from_all_natural (wit 1 ∷ shut ∷ []) ≡ Some 1
  pub fact_valid : first_bad length_natural (fact 1 (x ∷ []) ∷ shut ∷ []) ≡ None
  pub fact_of_other_arguments : first_bad length_natural (fact 2 (x ∷ []) ∷ shut ∷ []) ≡ Some 1
  pub membership_valid : first_bad null_by_type (fact 16 (one (in_type 0) y ∷ []) ∷ shut ∷ []) ≡ None
  pub membership_of_no_listed_type : first_bad null_by_type (fact 16 (one (in_type 5) y ∷ []) ∷ shut ∷ []) ≡ Some 1
  pub prod_valid : first_bad product_natural (prod 1 2 (two mul k m) ∷ sum_of ((1, 3) ∷ (1, 4) ∷ []) ∷ []) ≡ None
  pub prod_of_another_factor : first_bad product_natural (prod 1 1 (two mul k m) ∷ sum_of ((1, 3) ∷ (1, 4) ∷ []) ∷ []) ≡ Some 1
  pub prod_without_a_first_factor : first_bad no_first_bound (prod 1 2 (two mul k m) ∷ sum_of ((1, 3) ∷ (1, 4) ∷ []) ∷ []) ≡ Some 1
  pub goes_on_behind_its_tree : first_bad (owes (Natural k ∷ []) (Natural k)) (shut ∷ shut ∷ []) ≡ Some 2
  pub ends_early : first_bad either_way (split (AtMost (Number (pos 1)) k) ∷ sum_of ((1, 1) ∷ (1, 2) ∷ []) ∷ []) ≡ Some 3
  pub has_no_step : first_bad either_way [] ≡ Some 1
