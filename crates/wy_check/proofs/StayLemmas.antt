-- Conditions spell the same where the terms are as before.
use Rattle.std.proofs.Common.{◌≡◌, ◌<◌, ◌≤◌, ◌+◌, ℕ, zero, suc, List, [], ◌∷◌, ◌++◌, All, map, take, length, get_or, refl, sym, ap, subst, ◌∙◌, arith}
use Rattle.std.proofs.lemmas.List.{take_more}
use Rattle.wy_facts.proofs.SharedLemmas.{types_stay}
use Rattle.wy_lemmas.proofs.Lists.{map_pushed, first_of, rest_of}
use Rattle.wy_term.specs.declared.cond.Cond.{Cond}
use Rattle.wy_term.specs.Term.{Term}
use Rattle.wy_term.specs.Condition.{Entry, Condition, condition_of}
use Rattle.wy_term.specs.Nodes.{Plain, tree_at}
use Rattle.wy_facts.specs.Seen.{Stays}
use Rattle.wy_check.specs.Within.{IsWithin}

abbrev Under : ℕ → ℕ → Type 0
Under n h = h < n

hyps_stay : (old new : List Plain) (hs : List ℕ) → Stays old new → All (Under (length old)) hs → map (tree_at new) hs ≡ map (tree_at old) hs
hyps_stay old new [] stays all = refl
hyps_stay old new (h ∷ hs) stays all =
    ap (λ (t : Term). t ∷ map (tree_at new) hs) (stays.trees h (first_of (Under (length old)) h hs all))
    ∙ ap (λ (ts : List Term). tree_at old h ∷ ts) (hyps_stay old new hs stays (rest_of (Under (length old)) h hs all))

abbrev made : List Term → Term → List Entry → Condition
made hs g es = record { hyps = hs; goal = g; types = es }

pub condition_stays : (old new : List Plain) (c : Cond) → Stays old new → IsWithin (length old) c → condition_of new c ≡ condition_of old c
condition_stays old new c stays within =
    ap (λ (hs : List Term). made hs (tree_at new c.goal) (condition_of new c).types) (hyps_stay old new c.hyps.items stays within.hyps)
    ∙ (ap (λ (g : Term). made (condition_of old c).hyps g (condition_of new c).types) (stays.trees c.goal within.goal)
    ∙ ap (made (condition_of old c).hyps (condition_of old c).goal) (types_stay old new c stays within.types))

pub conditions_stay : (old new : List Plain) (cs : List Cond) → Stays old new → All (IsWithin (length old)) cs → map (condition_of new) cs ≡ map (condition_of old) cs
conditions_stay old new [] stays all = refl
conditions_stay old new (c ∷ cs) stays all =
    ap (λ (x : Condition). x ∷ map (condition_of new) cs) (condition_stays old new c stays (first_of (IsWithin (length old)) c cs all))
    ∙ ap (λ (xs : List Condition). condition_of old c ∷ xs) (conditions_stay old new cs stays (rest_of (IsWithin (length old)) c cs all))

-- a list of the same length, whose terms are the same
pub as_before : (old new : List Plain) → length new ≡ length old → ((t : ℕ) → t < length old → tree_at new t ≡ tree_at old t) → Stays old new
as_before old new same kept = record { grows = omega (arith, same); trees = kept }

pub within_as_before : (old new : List Plain) (cs : List Cond) → length new ≡ length old → All (IsWithin (length old)) cs → All (IsWithin (length new)) cs
within_as_before old new cs same all = subst (λ (n : ℕ). All (IsWithin n) cs) (sym same) all

-- ---- one item more

pub more_taken : {A B : Type 0} (f : A → B) (xs : List A) (i : ℕ) (x : A) → i < length xs → x ≡ get_or xs i x → map f (take (i + 1) xs) ≡ map f (take i xs) ++ f x ∷ []
more_taken f xs i x lt at = ap (map f) (take_more xs i x lt) ∙ (map_pushed f (take i xs) (get_or xs i x) ∙ ap (λ y. map f (take i xs) ++ f y ∷ []) (sym at))

-- the item at a place of a list that is seen through a slice
pub item_of : {A : Type 0} (xs ys : List A) (i : ℕ) (x : A) → ys ≡ xs → i < length ys → x ≡ get_or ys i x → (i < length xs) × (x ≡ get_or xs i x)
item_of xs ys i x same lt at = (subst (λ zs. i < length zs) same lt, subst (λ zs. x ≡ get_or zs i x) same at)

take_all : {A : Type 0} (xs : List A) (i : ℕ) → length xs ≤ i → take i xs ≡ xs
take_all [] zero le = refl
take_all [] (suc i) le = refl
take_all (x ∷ xs) zero le = absurd (omega (arith, le))
take_all (x ∷ xs) (suc i) le = ap (λ zs. x ∷ zs) (take_all xs i (omega (arith, le)))

-- all items were taken
pub all_taken : {A : Type 0} (xs ys : List A) (i : ℕ) → ys ≡ xs → length ys ≤ i → take i xs ≡ xs
all_taken xs ys i same le = take_all xs i (subst (λ zs. length zs ≤ i) same le)
