-- Conditions of programs, and the open leaves at which their searches end.
use Rattle.std.specs.Prelude.{◌≡◌, ◌-◌, ◌^◌, List, [], ◌∷◌, ◌++◌, true, false, codes, pos, negsuc, Some}
use Rattle.wy_check_spec.specs.wy_facts.Schema.{zero_term}
use Rattle.wy_check_spec.specs.wy_term.Term.{DataKind, int_kind, bool_kind, array_kind, Term, Of, no_parts, part, leaf, one, two, Number, Not, int_name, val_name, truth, num, len, get, sub, mul, at_most, equal, of_kind, every, all_of, any_of}
use Rattle.wy_check_spec.specs.wy_term.Condition.{Condition}
use Rattle.wy_check_spec.specs.judge.Node.{Literal}
use Rattle.wy_search_spec.specs.Tree.{still, found, open_leaf, spent, searched, first_spot}
use Rattle.wy_search_spec.specs.Examples.{condition, one_term}

abbrev pub least : Term
least = Number (negsuc (2 ^ 95 - 1))

abbrev pub greatest : Term
greatest = Number (pos (2 ^ 95 - 1))

abbrev pub holds : Term → Literal
holds a = record { atom = a; holds = true }

abbrev pub fails : Term → Literal
fails a = record { atom = a; holds = false }

abbrev pub of : DataKind → Term → Term
of kind v = one (of_kind kind) v

abbrev pub number_of : Term → Term
number_of v = one num v

-- what is known of an `int`
abbrev pub whole : Term → List Term
whole v = of int_kind v ∷ two at_most least (number_of v) ∷ two at_most (number_of v) greatest ∷ []

abbrev pub wholes : Term → List Literal
wholes v = holds (of int_kind v) ∷ holds (two at_most least (number_of v)) ∷ holds (two at_most (number_of v) greatest) ∷ []

-- twice a number that is at most 100 isn't known to be above the least `int`
abbrev pub w : Term
w = leaf (val_name (codes "w") 0)

abbrev pub twice : Term
twice = two at_most least (two mul (number_of w) (Number (pos 2)))

abbrev pub twice_is_open : Type 0
twice_is_open =
    searched [] 1 4 0 (first_spot (condition (whole w ++ two at_most (number_of w) (Number (pos 100)) ∷ []) twice) ∷ [])
    ≡ Some (open_leaf 1 still (wholes w ++ holds (two at_most (number_of w) (Number (pos 100))) ∷ fails twice ∷ []))

-- an array may be empty
abbrev pub items : Term
items = leaf (val_name (codes "data") 0)

abbrev pub item : Term
item = two get items (leaf (int_name (codes "k") 1))

abbrev pub all_whole : Term
all_whole = Of (every (codes "k") 1) (part zero_term (part (one len items) (part (Of all_of (part (of int_kind item) (part (two at_most least (number_of item)) (part (two at_most (number_of item) greatest) no_parts)))) no_parts)))

abbrev pub is_short : Term
is_short = two at_most (one len items) (Number (pos (2 ^ 63 - 1)))

abbrev pub empty_is_open : Type 0
empty_is_open =
    searched [] 1 5 0 (first_spot (condition (of array_kind items ∷ is_short ∷ all_whole ∷ []) (Not (two at_most (one len items) zero_term))) ∷ [])
    ≡ Some (open_leaf 1 still (holds (of array_kind items) ∷ holds is_short ∷ holds all_whole ∷ holds (two at_most (one len items) zero_term) ∷ holds (two at_most zero_term (one len items)) ∷ []))

-- a number that a loop changed, whose test asks for a truth value first: a split, and two rounds of expansion
abbrev pub n : Term
n = leaf (val_name (codes "n") 0)

abbrev pub m : Term
m = leaf (val_name (codes "m") 1)

abbrev pub first : Term
first = leaf (val_name (codes "first") 2)

abbrev pub yes : Term
yes = leaf (truth true)

abbrev pub nay : Term
nay = leaf (truth false)

abbrev pub one_less : Term
one_less = two at_most least (two sub (number_of m) one_term)

abbrev pub test : Term
test = Of any_of (part (two equal first yes) (part (two at_most (Number (pos 5)) (number_of m)) no_parts))

abbrev pub at_most_sixty : Term
at_most_sixty = two at_most (number_of n) (Number (pos 60))

abbrev pub loop_is_open : Type 0
loop_is_open =
    searched [] 1000 20 0 (first_spot (condition (whole n ++ Not (two at_most (number_of n) zero_term) ∷ at_most_sixty ∷ [] ++ (whole m ++ of bool_kind first ∷ test ∷ [])) one_less) ∷ [])
    ≡ Some (open_leaf 2 still (wholes n ++ fails (two at_most (number_of n) zero_term) ∷ holds at_most_sixty ∷ [] ++ (wholes m ++ holds (of bool_kind first) ∷ fails one_less ∷ holds (two equal first yes) ∷ holds (two at_most (number_of first) (number_of yes)) ∷ holds (two at_most (number_of yes) (number_of first)) ∷ fails (two equal first nay) ∷ [])))

pub record OpenLeaves : Type 0 where
  pub twice_stays : twice_is_open
  pub empty_stays : empty_is_open
  pub loop_stays : loop_is_open

-- the opposite of a number above the least `int`, as a product with -1
abbrev pub x : Term
x = leaf (val_name (codes "x") 0)

abbrev pub r : Term
r = leaf (val_name (codes "r") 1)

abbrev pub above_least : Term
above_least = Not (two at_most (number_of x) least)

abbrev pub opposite_of : Term
opposite_of = two sub zero_term (number_of x)

abbrev pub minus_once : Term
minus_once = two mul (number_of x) (Number (negsuc 0))

abbrev pub in_range : Condition
in_range = condition (whole x ++ above_least ∷ [] ++ whole r ++ two at_most least opposite_of ∷ []) (two at_most opposite_of greatest)

abbrev pub are_equal : Condition
are_equal = condition (whole x ++ above_least ∷ two at_most least minus_once ∷ two at_most minus_once greatest ∷ []) (Of all_of (part (two at_most minus_once opposite_of) (part (two at_most opposite_of minus_once) no_parts)))

-- the first is found with one leaf; the second has one leaf where both bounds hold, and one where each fails
pub record FoundWithin : Type 0 where
  pub range_is_found : searched [] 1 3 0 (first_spot in_range ∷ []) ≡ Some (found 1)
  pub equality_is_spent_at_one : searched [] 1 9 0 (first_spot are_equal ∷ []) ≡ Some spent
  pub equality_is_spent_at_two : searched [] 2 9 0 (first_spot are_equal ∷ []) ≡ Some spent
  pub equality_is_found : searched [] 3 9 0 (first_spot are_equal ∷ []) ≡ Some (found 3)
