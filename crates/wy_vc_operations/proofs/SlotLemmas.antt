-- Terms of variables.
use Rattle.std.proofs.Common.{◌≡◌, ◌<◌, ◌≤◌, ℕ, zero, suc, List, [], ◌∷◌, ◌++◌, length, map, take, All, Option, Some, None, option_map, slice_set, slice_index_or, refl, ◌∙◌, ap, subst, sym, arith}
use Rattle.wy_term.specs.Term.{Term}
use Rattle.wy_term.specs.Nodes.{Plain, tree_at}
use Rattle.wy_term.specs.Numbers.{IsAt}
use Rattle.wy_vc_spec.specs.Variables.{Slots, Vars, slot_at, put}
use Rattle.wy_vc_operations.specs.Growing.{Kept, AreSlotsAt, AreSlotsBelow, IsSlotBelow}

-- ---- putting

-- an empty slot behind the others makes no difference
pub put_pushed : (slots : List (Option ℕ)) (x t : ℕ) → length slots ≤ x → put (slots ++ None ∷ []) x t ≡ put slots x t
put_pushed [] zero t h = refl
put_pushed [] (suc x) t h = refl
put_pushed (c ∷ cs) zero t h = absurd (omega arith)
put_pushed (c ∷ cs) (suc x) t h = ap (λ l. c ∷ l) (put_pushed cs x t (omega arith))

pub put_within : (slots : List (Option ℕ)) (x t : ℕ) → x < length slots → slice_set slots x (Some t) ≡ put slots x t
put_within [] x t h = absurd (omega arith)
put_within (c ∷ cs) zero t h = refl
put_within (c ∷ cs) (suc x) t h = ap (λ l. c ∷ l) (put_within cs x t (omega arith))

take_whole : (slots : List (Option ℕ)) → take (length slots) slots ≡ slots
take_whole [] = refl
take_whole (c ∷ cs) = ap (λ l. c ∷ l) (take_whole cs)

-- what was put is taken back
back_taken : (slots : List (Option ℕ)) (x t : ℕ) → take (length slots) (slice_set (put slots x t) x (slot_at slots x)) ≡ slots
back_taken [] x t = refl
back_taken (c ∷ cs) zero t = ap (λ l. c ∷ l) (take_whole cs)
back_taken (c ∷ cs) (suc x) t = ap (λ l. c ∷ l) (back_taken cs x t)

pub put_longer : (slots : List (Option ℕ)) (x t : ℕ) → x < length (put slots x t)
put_longer [] zero t = omega arith
put_longer [] (suc x) t = omega (arith, put_longer [] x t)
put_longer (c ∷ cs) zero t = omega arith
put_longer (c ∷ cs) (suc x) t = omega (arith, put_longer cs x t)

pub put_taken_back : (before old mid new : List (Option ℕ)) (x t count : ℕ) (slot : Option ℕ) → old ≡ put before x t → slot ≡ slot_at before x → count ≡ length before → (x < length old → mid ≡ slice_set old x slot) → new ≡ take count mid → new ≡ before
put_taken_back before old mid new x t count slot was slot_was count_was set cut =
    let within : x < length old = subst (λ (l : List (Option ℕ)). x < length l) (sym was) (put_longer before x t) in
    let other : mid ≡ slice_set (put before x t) x (slot_at before x) = set within ∙ (ap (λ (l : List (Option ℕ)). slice_set l x slot) was ∙ ap (λ (s : Option ℕ). slice_set (put before x t) x s) slot_was) in
    cut ∙ (ap (λ (n : ℕ). take n mid) count_was ∙ (ap (λ (l : List (Option ℕ)). take (length before) l) other ∙ back_taken before x t))

-- ---- the slot at a place

pub slot_or : (vars : List (Option ℕ)) (x : ℕ) → slice_index_or vars x None ≡ slot_at vars x
slot_or [] x = refl
slot_or (v ∷ vs) zero = refl
slot_or (v ∷ vs) (suc x) = slot_or vs x

-- ---- terms by slots

slot_of : (f : ℕ → Term) (vars : List (Option ℕ)) (x : ℕ) → slot_at (map (option_map f) vars) x ≡ option_map f (slot_at vars x)
slot_of f [] x = refl
slot_of f (v ∷ vs) zero = refl
slot_of f (v ∷ vs) (suc x) = slot_of f vs x

put_of : (f : ℕ → Term) (vars : List (Option ℕ)) (x k : ℕ) → map (option_map f) (put vars x k) ≡ put (map (option_map f) vars) x (f k)
put_of f [] zero k = refl
put_of f [] (suc x) k = ap (λ l. None ∷ l) (put_of f [] x k)
put_of f (v ∷ vs) zero k = refl
put_of f (v ∷ vs) (suc x) k = ap (λ l. option_map f v ∷ l) (put_of f vs x k)

-- the variable's slot and its term are both there or both not
pub slot_term : {ns : List Plain} {vars : List (Option ℕ)} {slots : Vars} (x : ℕ) → AreSlotsAt ns vars slots → slot_at slots x ≡ option_map (tree_at ns) (slot_at vars x)
slot_term {ns} {vars} x are = ap (λ (l : Vars). slot_at l x) (sym are.are) ∙ slot_of (tree_at ns) vars x

pub slot_below : (n : ℕ) (vars : List (Option ℕ)) (x : ℕ) → AreSlotsBelow n vars → IsSlotBelow n (slot_at vars x)
slot_below n [] x below = tt
slot_below n (v ∷ vs) zero below = below.0
slot_below n (v ∷ vs) (suc x) below = slot_below n vs x below.1

pub put_below : (n : ℕ) (vars : List (Option ℕ)) (x k : ℕ) → k < n → AreSlotsBelow n vars → AreSlotsBelow n (put vars x k)
put_below n [] zero k lt below = (lt, tt)
put_below n [] (suc x) k lt below = (tt, put_below n [] x k lt tt)
put_below n (v ∷ vs) zero k lt below = (lt, below.1)
put_below n (v ∷ vs) (suc x) k lt below = (below.0, put_below n vs x k lt below.1)

-- the variable's slot has another term
pub put_at : {ns : List Plain} {vars : List (Option ℕ)} {slots : Vars} {k : ℕ} {t : Term} (x : ℕ) → IsAt ns k t → AreSlotsAt ns vars slots → AreSlotsAt ns (put vars x k) (put slots x t)
put_at {ns} {vars} {slots} {k} {t} x at are = record {
  within = put_below (length ns) vars x k at.within are.within;
  are = put_of (tree_at ns) vars x k ∙ (ap (λ (u : Term). put (map (option_map (tree_at ns)) vars) x u) at.is ∙ ap (λ (l : Vars). put l x t) are.are);
}

below_one : (m n : ℕ) (v : Option ℕ) → m ≤ n → IsSlotBelow m v → IsSlotBelow n v
below_one m n None h below = tt
below_one m n (Some k) h below = omega (arith, below)

pub slots_below_on : (m n : ℕ) (vars : List (Option ℕ)) → m ≤ n → AreSlotsBelow m vars → AreSlotsBelow n vars
slots_below_on m n [] h below = tt
slots_below_on m n (v ∷ vs) h below = (below_one m n v h below.0, slots_below_on m n vs h below.1)

kept_one : (old new : List Plain) (v : Option ℕ) → Kept old new → IsSlotBelow (length old) v → option_map (tree_at new) v ≡ option_map (tree_at old) v
kept_one old new None kept below = refl
kept_one old new (Some k) kept below = ap (λ (t : Term). Some t) (kept.trees k below)

map_kept : (old new : List Plain) (vars : List (Option ℕ)) → Kept old new → AreSlotsBelow (length old) vars → map (option_map (tree_at new)) vars ≡ map (option_map (tree_at old)) vars
map_kept old new [] kept below = refl
map_kept old new (v ∷ vs) kept below =
    ap (λ (x : Option Term). x ∷ map (option_map (tree_at new)) vs) (kept_one old new v kept below.0)
    ∙ ap (λ (l : Vars). option_map (tree_at old) v ∷ l) (map_kept old new vs kept below.1)

-- the slots name the same terms in a list that has grown
pub slots_kept : {old new : List Plain} {vars : List (Option ℕ)} {slots : Vars} → Kept old new → AreSlotsAt old vars slots → AreSlotsAt new vars slots
slots_kept {old} {new} {vars} kept are = record {
  within = slots_below_on (length old) (length new) vars kept.grows are.within;
  are = map_kept old new vars kept are.within ∙ are.are;
}
