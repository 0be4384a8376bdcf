-- Lists of which none stands twice are the keys of a set, and a number is the place of a key.
use Rattle.std.proofs.Common.{◌≡◌, ◌+◌, ◌≤◌, ◌<◌, ◌∙◌, ℕ, zero, suc, Bool, true, false, not, ◌||◌, cond, List, [], ◌∷◌, ◌++◌, length, position, Option, None, Some, refl, ap, sym, arith}
use Rattle.std.specs.Prelude.{bytes_eq, nat_lt}
use Rattle.std.specs.List.{list_any, position_or_len}
use Rattle.std.specs.Cmp.Lexicographic.{nat_list_eq_equiv}
use Rattle.std.proofs.lemmas.List.Elements as elements
use Rattle.indexmap.specs.IndexSet.{insert_key}
use Rattle.wy_code_spec.specs.tables.Tables.{stands, with_one, number_of}

pub any_stands : (n : List ℕ) (all : List (List ℕ)) → list_any (bytes_eq n) all ≡ stands n all
any_stands n [] = refl
any_stands n (m ∷ ms) = λ i. nat_list_eq_equiv.symm n m i || any_stands n ms i

pub key_one : (all : List (List ℕ)) (n : List ℕ) → insert_key bytes_eq all n ≡ with_one all n
key_one all n = ap (λ b. cond b all (all ++ n ∷ [])) (any_stands n all)

not_cond : {X : Type 0} (b : Bool) (x y : X) → cond (not b) x y ≡ cond b y x
not_cond true x y = refl
not_cond false x y = refl

one_more : (k : ℕ) → 1 + k ≡ suc k
one_more k = omega arith

pub place_number : (n : List ℕ) (all : List (List ℕ)) → position_or_len (bytes_eq n) all ≡ number_of n all
place_number n [] = refl
place_number n (m ∷ ms) =
    let next : 1 + position_or_len (bytes_eq n) ms ≡ suc (number_of n ms) = one_more (position_or_len (bytes_eq n) ms) ∙ ap suc (place_number n ms) in
    not_cond (bytes_eq n m) (1 + position_or_len (bytes_eq n) ms) 0 ∙ (λ i. cond (nat_list_eq_equiv.symm n m i) 0 (next i))

below : (b : Bool) (k l : ℕ) → k ≤ l → cond b 0 (suc k) ≤ suc l
below true k l h = omega arith
below false k l h = omega arith

number_within : (n : List ℕ) (all : List (List ℕ)) → number_of n all ≤ length all
number_within n [] = omega arith
number_within n (m ∷ ms) = below (bytes_eq m n) (number_of n ms) (length ms) (number_within n ms)

found : (b : Bool) (k i : ℕ) → cond b (Some k) None ≡ Some i → i ≡ k
found true k i e = cc e
found false k i e = cc e

missed : (b : Bool) (k l : ℕ) → nat_lt k l ≡ b → cond b (Some k) None ≡ None → l ≤ k
missed true k l is e = cc e
missed false k l is e = grind arith

pub place_some : (n : List ℕ) (all : List (List ℕ)) (i : ℕ) → position (bytes_eq n) all ≡ Some i → i ≡ number_of n all
place_some n all i e = found (nat_lt (position_or_len (bytes_eq n) all) (length all)) (position_or_len (bytes_eq n) all) i e ∙ place_number n all

pub place_none : (n : List ℕ) (all : List (List ℕ)) → position (bytes_eq n) all ≡ None → length all ≡ number_of n all
place_none n all e =
    let least = missed (nat_lt (position_or_len (bytes_eq n) all) (length all)) (position_or_len (bytes_eq n) all) (length all) refl e in
    let most = number_within n all in
    let is = place_number n all in
    omega (arith, least, most, is)
