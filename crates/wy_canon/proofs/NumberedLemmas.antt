-- A conjunct whose digest isn't noted isn't there, and each that is there has a place.
use Rattle.std.proofs.Common.{◌≡◌, ℕ, zero, suc, List, [], ◌∷◌, ◌++◌, Bool, true, false, ◌||◌, Option, Some, None, refl, ap, subst, ◌+◌, ◌<◌, length, take, get_or}
use Rattle.std.proofs.lemmas.List.{take_more}
use Rattle.std.specs.Prelude.{slice_get, is_some, nat_eq}
use Rattle.std.specs.Map.{lookup}
use Rattle.wy_lemmas.proofs.Choices.{both_parts as both}
use Rattle.wy_lemmas.proofs.Options.{some_is}
use Rattle.wy_types.specs.declared.conjuncts.Conjunct.{Conjunct}
use Rattle.wy_types.specs.Claims.{EachOf}
use Rattle.wy_types.specs.Conjuncts.{same_term}
use Rattle.wy_types.specs.Same as same
use Rattle.wy_types.specs.declared.conjuncts.Signed.{Signed}
use Rattle.wy_types.specs.NodeLaws.{same_terms_are, same_conjunct_is, same_term_is, node_self}
use Rattle.wy_types.specs.declared.table.Node.TheVariants as node
use Rattle.wy_types.proofs.ClaimLemmas.{each_map, each_append}
use Rattle.wy_canon.specs.Digests.{conjunct_digest}
use Rattle.wy_canon.specs.Numbered.{IsNoted, AreNoted}

pub same_terms_is : (xs ys : List (Signed ℕ)) → same.same_terms same_term xs ys ≡ true → xs ≡ ys
same_terms_is xs ys e = same_terms_are same_term same_term_is xs ys e

pub same_conjunct_number : (x y : Conjunct ℕ) → same.same_conjunct same_term x y ≡ true → x ≡ y
same_conjunct_number x y e = same_conjunct_is same_term same_term_is x y e

each_push : {X : Type 0} (P : X → Type 0) (xs : List X) (x : X) → EachOf P xs → P x → EachOf P (xs ++ x ∷ [])
each_push P xs x h p = each_append P xs (x ∷ []) h (p, tt)

none_some : {X : Type 0} (o : Option X) → o ≡ None → is_some o ≡ true → ⊥
none_some None e f = cc
none_some (Some x) e f = cc

conjunct_self : (c : Conjunct ℕ) → same.same_conjunct same_term c c ≡ true
conjunct_self c = (both (same.same_conjunct same_term c c) true (node_self (node.Normal (c ∷ [])))).0

pub none_noted : (es : List (ℕ × ℕ)) (cs : List (Conjunct ℕ)) (c : Conjunct ℕ) → AreNoted es cs → lookup (nat_eq (conjunct_digest c)) es ≡ None → same.has_conjunct same_term cs c ≡ false
none_noted es [] c h e = refl
none_noted es (x ∷ xs) c h e = by (same.same_conjunct same_term x c) refl (none_noted es xs c h.1 e)
  where
    by : (b : Bool) → same.same_conjunct same_term x c ≡ b → same.has_conjunct same_term xs c ≡ false → same.has_conjunct same_term (x ∷ xs) c ≡ false
    by true f r = absurd (none_some (lookup (nat_eq (conjunct_digest c)) es) e (subst (λ (y : Conjunct ℕ). IsNoted es (conjunct_digest y)) (same_conjunct_number x c f) h.0))
    by false f r = rw f r

pub has_at : (cs : List (Conjunct ℕ)) (n : ℕ) (c : Conjunct ℕ) → slice_get cs n ≡ Some c → same.has_conjunct same_term cs c ≡ true
has_at [] n c e = absurd cc
has_at (x ∷ xs) zero c e =
    let s : same.same_conjunct same_term x c ≡ true = subst (λ (y : Conjunct ℕ). same.same_conjunct same_term x y ≡ true) (some_is x c e) (conjunct_self x) in
    rw s refl
has_at (x ∷ xs) (suc n) c e = by (same.same_conjunct same_term x c) (has_at xs n c e)
  where
    by : (b : Bool) → same.has_conjunct same_term xs c ≡ true → (b || same.has_conjunct same_term xs c) ≡ true
    by true f = refl
    by false f = f

-- what is noted stays noted, so each conjunct that was there is
pub noted_still : (es fs : List (ℕ × ℕ)) (cs : List (Conjunct ℕ)) → ((d : ℕ) → IsNoted es d → IsNoted fs d) → AreNoted es cs → AreNoted fs cs
noted_still es fs cs f h = each_map (λ c. IsNoted es (conjunct_digest c)) (λ c. IsNoted fs (conjunct_digest c)) cs (λ c n. f (conjunct_digest c) n) h

pub noted_more : (es fs : List (ℕ × ℕ)) (cs : List (Conjunct ℕ)) (c : Conjunct ℕ) → ((d : ℕ) → IsNoted es d → IsNoted fs d) → AreNoted es cs → IsNoted fs (conjunct_digest c) → AreNoted fs (cs ++ c ∷ [])
noted_more es fs cs c f h n = each_push (λ (x : Conjunct ℕ). IsNoted fs (conjunct_digest x)) cs c (noted_still es fs cs f h) n

last_taken : {X : Type 0} (all : List X) (i : ℕ) (item : X) → i < length all → item ≡ get_or all i item → take i all ++ item ∷ [] ≡ take (i + 1) all
last_taken all i item lt at = let t = take_more all i item lt in cc (t, at)

-- the next of them
pub noted_turn : (es fs : List (ℕ × ℕ)) (cs : List (Conjunct ℕ)) (i : ℕ) (item : Conjunct ℕ) (d : ℕ) → ((q : ℕ) → IsNoted es q → IsNoted fs q) → i < length cs → item ≡ get_or cs i item → d ≡ conjunct_digest item → AreNoted es (take i cs) → IsNoted fs d → AreNoted fs (take (i + 1) cs)
noted_turn es fs cs i item d f lt at is h n =
    subst (λ (t : List (Conjunct ℕ)). AreNoted fs t) (last_taken cs i item lt at)
    (noted_more es fs (take i cs) item f h (subst (λ (k : ℕ). IsNoted fs k) is n))
