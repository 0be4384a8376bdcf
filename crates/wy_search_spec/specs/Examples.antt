-- Small conditions, and how their searches end.
use Rattle.std.specs.Prelude.{◌≡◌, ◌+◌, ◌^◌, List, [], ◌∷◌, true, codes, ℤ, pos, negsuc, Some}
use Rattle.wy_check_spec.specs.wy_facts.Schema.{zero_term}
use Rattle.wy_check_spec.specs.wy_term.Term.{Term, Of, no_parts, part, leaf, one, two, Number, Not, int_name, val_name, num, len, get, mul, add, at_most, equal, every, exists, any_of}
use Rattle.wy_check_spec.specs.wy_term.Condition.{Condition}
use Rattle.wy_check_spec.specs.judge.Node.{Literal}
use Rattle.wy_search_spec.specs.Tree.{still, is_wide, found, open_leaf, spent, searched, first_spot}

abbrev pub k : Term
k = leaf (int_name (codes "k") 0)

abbrev pub j : Term
j = leaf (int_name (codes "j") 1)

abbrev pub v : Term
v = leaf (val_name (codes "v") 2)

abbrev pub w : Term
w = leaf (val_name (codes "w") 3)

abbrev pub one_term : Term
one_term = Number (pos 1)

abbrev pub never : Term
never = Of any_of no_parts

abbrev pub either_at_most_zero : Term
either_at_most_zero = Of any_of (part (two at_most k zero_term) (part (two at_most j zero_term) no_parts))

abbrev pub condition : List Term → Term → Condition
condition given shown = record { hyps = given; goal = shown; types = [] }

-- 1 <= k and k <= 0 can't be
abbrev pub between : Condition
between = condition (two at_most one_term k ∷ two at_most k zero_term ∷ []) never

-- k <= 0 or j <= 0, and both are at least 1
abbrev pub cases : Condition
cases = condition (either_at_most_zero ∷ two at_most one_term k ∷ two at_most one_term j ∷ []) never

-- k <= 0 is no contradiction
abbrev pub alone : Condition
alone = condition (two at_most k zero_term ∷ []) never

-- v = w, so their lengths are in order
abbrev pub lengths : Condition
lengths = condition (two equal v w ∷ []) (two at_most (one len v) (one len w))

-- each element of v below its length is at least 1, and j is such an index
abbrev pub each_at_least_one : Term
each_at_least_one = Of (every (codes "k") 0) (part zero_term (part (one len v) (part (two at_most one_term (one num (two get v k))) no_parts)))

abbrev pub elements : Condition
elements = condition (each_at_least_one ∷ two at_most zero_term j ∷ Not (two at_most (one len v) j) ∷ []) (two at_most one_term (one num (two get v j)))

-- some index is below the length of v, so that is at least 1
abbrev pub some_element : Condition
some_element = condition (Of (exists (codes "k") 0) (part zero_term (part (one len v) (part (two equal (two get v k) w) no_parts))) ∷ []) (two at_most one_term (one len v))

-- k and j are at least 0, so their product is
abbrev pub products : Condition
products = condition (two at_most zero_term k ∷ two at_most zero_term j ∷ []) (two at_most zero_term (two mul k j))

-- 0 <= a * k + b * j
abbrev pub weighted : ℤ → ℤ → Term
weighted a b = two at_most zero_term (two add (two mul (Number a) k) (two mul (Number b) j))

-- bounds whose sum leaves 128 bits
abbrev pub large : Condition
large = condition (weighted (pos (2 ^ 100 + 1)) (negsuc (2 ^ 100 + 2)) ∷ weighted (negsuc (2 ^ 100 + 6)) (pos (2 ^ 100 + 9)) ∷ []) never

abbrev pub large_literals : List Literal
large_literals =
    record { atom = weighted (pos (2 ^ 100 + 1)) (negsuc (2 ^ 100 + 2)); holds = true }
    ∷ record { atom = weighted (negsuc (2 ^ 100 + 6)) (pos (2 ^ 100 + 9)); holds = true } ∷ []

pub record SmallSearches : Type 0 where
  pub between_is_found : searched [] 10 3 0 (first_spot between ∷ []) ≡ Some (found 1)
  pub cases_are_found : searched [] 3 9 0 (first_spot cases ∷ []) ≡ Some (found 3)
  pub cases_are_spent : searched [] 2 9 0 (first_spot cases ∷ []) ≡ Some spent
  pub alone_is_open : searched [] 10 5 0 (first_spot alone ∷ []) ≡ Some (open_leaf 1 still (record { atom = two at_most k zero_term; holds = true } ∷ []))
  pub lengths_are_found : searched [] 10 3 0 (first_spot lengths ∷ []) ≡ Some (found 1)
  pub elements_are_found : searched [] 10 4 0 (first_spot elements ∷ []) ≡ Some (found 1)
  pub some_element_is_found : searched [] 10 4 0 (first_spot some_element ∷ []) ≡ Some (found 1)
  pub products_are_found : searched [] 10 4 0 (first_spot products ∷ []) ≡ Some (found 1)
  pub large_is_open : searched [] 10 4 0 (first_spot large ∷ []) ≡ Some (open_leaf 1 is_wide large_literals)
