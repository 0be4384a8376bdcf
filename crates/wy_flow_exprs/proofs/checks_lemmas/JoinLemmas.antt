-- Slots that are joined one by one, from left to right.
use Rattle.std.proofs.Common.{◌≡◌, ◌≢◌, inr, ◌+◌, ◌<◌, ◌≤◌, ℕ, Bool, true, false, List, [], ◌∷◌, ◌++◌, Option, Some, None, Result, Ok, Err, length, drop, get_or, refl, sym, ap, ◌∙◌, subst, arith}
use Rattle.std.specs.Prelude.{◌↔◌, IsTrue, slice_get}
use Rattle.std.proofs.lemmas.List.{length_push, map_push}
use Rattle.wy_core.specs.Types as ty
use Rattle.wy_core.specs.Types.{UnionTy}
use Rattle.wy_core.specs.declared.types.Ty.{Ty}
use Rattle.wy_core.specs.CoreSeen.{seen_ty}
use Rattle.wy_flow_spec.specs.environment.Seen.{seen_slot, seen_slots}
use Rattle.wy_types.specs.Names.{Declared}
use Rattle.wy_flow_spec.specs.declared.typing.fault.FlowFault.{FlowFault}
use Rattle.wy_flow_spec.specs.declared.typing.fault.FlowFault.TheVariants.{NoMemory}
use Rattle.wy_flow_spec.specs.typing.Asked.{Norm}
use Rattle.wy_flow_spec.specs.typing.Joins.{JoinedType, JoinedSlot, JoinedSlots, Joined}
use Rattle.wy_flow_spec.specs.typing.Outcomes.{Outcome, Gives, Fails, gave, stopped, Meets}
use Rattle.wy_flow_exprs.proofs.checks_lemmas.StepLemmas.{at_item, at_end, found_item, no_item}

-- where what is left leads behind what was made, the whole leads
abbrev pub SlotsLeft : List Declared → ℕ → List (Option Ty) → List (Option Ty) → List (Option Ty) → List (Option Ty) → List (Option Ty) → Type 0
SlotsLeft names at made left rest first second =
    (o : Outcome (List (Option ty.Ty))) → JoinedSlots names at (seen_slots made) (seen_slots left) (seen_slots rest) o → JoinedSlots names at [] (seen_slots first) (seen_slots second) o

-- with the next slot of both lists
at_slot : (names : List Declared) (at : ℕ) (made first second tail : List (Option Ty)) (i : ℕ) (slot : Option Ty) → i < length first → slot ≡ get_or first i slot → drop i second ≡ tail
    → SlotsLeft names at made (drop i first) (drop i second) first second → SlotsLeft names at made (slot ∷ drop (i + 1) first) tail first second
at_slot names at made first second tail i slot within is split before = λ o h.
    before o
    (at_item (λ (l : List (Option Ty)). JoinedSlots names at (seen_slots made) (seen_slots l) (seen_slots (drop i second)) o) first i slot within is
    (subst (λ (r : List (Option Ty)). JoinedSlots names at (seen_slots made) (seen_slots (slot ∷ drop (i + 1) first)) (seen_slots r) o) (sym split) h))

pub slots_turn : (names : List Declared) (at : ℕ) (made made2 first second : List (Option Ty)) (i n : ℕ) (slot other new : Option Ty)
    → i < length first → slot ≡ get_or first i slot → Some other ≡ slice_get second n → n ≡ i
    → JoinedSlot names at (seen_slot slot) (seen_slot other) (Gives (seen_slot new)) → made2 ≡ made ++ new ∷ []
    → SlotsLeft names at made (drop i first) (drop i second) first second → SlotsLeft names at made2 (drop (i + 1) first) (drop (i + 1) second) first second
slots_turn names at made made2 first second i n slot other new within is there counted given pushed before = λ o h.
    at_slot names at made first second (other ∷ drop (i + 1) second) i slot within is (found_item second i n other there counted) before o
    (gave (seen_slot new) o given
    (subst (λ (m : List (Option ty.Ty)). JoinedSlots names at m (seen_slots (drop (i + 1) first)) (seen_slots (drop (i + 1) second)) o) (ap seen_slots pushed ∙ map_push seen_slot made new) h))

pub slots_refused : (names : List Declared) (at : ℕ) (made first second : List (Option Ty)) (i n : ℕ) (slot other : Option Ty)
    → i < length first → slot ≡ get_or first i slot → Some other ≡ slice_get second n → n ≡ i
    → (e : FlowFault) → (e ≢ NoMemory → JoinedSlot names at (seen_slot slot) (seen_slot other) (Fails e))
    → SlotsLeft names at made (drop i first) (drop i second) first second → e ≢ NoMemory → JoinedSlots names at [] (seen_slots first) (seen_slots second) (Fails e)
slots_refused names at made first second i n slot other within is there counted e h before none =
    at_slot names at made first second (other ∷ drop (i + 1) second) i slot within is (found_item second i n other there counted) before (Fails e) (stopped e (h none))

pub slots_short : (names : List Declared) (at : ℕ) (made first second : List (Option Ty)) (i n : ℕ) (slot : Option Ty)
    → i < length first → slot ≡ get_or first i slot → None ≡ slice_get second n → n ≡ i
    → SlotsLeft names at made (drop i first) (drop i second) first second → JoinedSlots names at [] (seen_slots first) (seen_slots second) (Gives (seen_slots made))
slots_short names at made first second i n slot within is past counted before =
    at_slot names at made first second [] i slot within is (no_item second i n past counted) before (Gives (seen_slots made)) refl

pub slots_end : (names : List Declared) (at : ℕ) (made first second : List (Option Ty)) (i : ℕ) → length first ≤ i
    → SlotsLeft names at made (drop i first) (drop i second) first second → JoinedSlots names at [] (seen_slots first) (seen_slots second) (Gives (seen_slots made))
slots_end names at made first second i over before =
    before (Gives (seen_slots made)) (at_end (λ (l : List (Option Ty)). JoinedSlots names at (seen_slots made) (seen_slots l) (seen_slots (drop i second)) (Gives (seen_slots made))) first i over refl)

-- ---- one slot

pub slot_given : (names : List Declared) (at : ℕ) (a b : Option Ty) (x y : Ty) (t : ty.Ty) → a ≡ Some x → b ≡ Some y → JoinedType names at (seen_ty x) (seen_ty y) (Gives t) → JoinedSlot names at (seen_slot a) (seen_slot b) (Gives (Some t))
slot_given names at a b x y t ax by h =
    subst (λ (s : Option Ty). JoinedSlot names at (seen_slot s) (seen_slot b) (Gives (Some t))) (sym ax)
    (subst (λ (s : Option Ty). JoinedSlot names at (seen_slot (Some x)) (seen_slot s) (Gives (Some t))) (sym by) (gave t (Gives (Some t)) h refl))

pub slot_refused : (names : List Declared) (at : ℕ) (a b : Option Ty) (x y : Ty) (e : FlowFault) → a ≡ Some x → b ≡ Some y → (e ≢ NoMemory → JoinedType names at (seen_ty x) (seen_ty y) (Fails e)) → e ≢ NoMemory → JoinedSlot names at (seen_slot a) (seen_slot b) (Fails e)
slot_refused names at a b x y e ax by h n =
    subst (λ (s : Option Ty). JoinedSlot names at (seen_slot s) (seen_slot b) (Fails e)) (sym ax)
    (subst (λ (s : Option Ty). JoinedSlot names at (seen_slot (Some x)) (seen_slot s) (Fails e)) (sym by) (stopped e (h n)))

-- ---- one type

apart : (a b : Ty) (same : Bool) → same ≡ false → IsTrue same ↔ (seen_ty a ≡ seen_ty b) → seen_ty a ≢ seen_ty b
apart a b same not_same both = λ q. let yes : same ≡ true = both.1 q in absurd cc

-- two types that are not the same have the normal type of their union
behind_apart : (names : List Declared) (at : ℕ) (a b : Ty) (r : Result Ty FlowFault) → seen_ty a ≢ seen_ty b → Meets (Norm names at (UnionTy (seen_ty a) (seen_ty b))) seen_ty r → Meets (JoinedType names at (seen_ty a) (seen_ty b)) seen_ty r
behind_apart names at a b (Ok t) n h = inr (n, h)
behind_apart names at a b (Err e) n h = λ m. inr (n, h m)

pub joined_apart : (names : List Declared) (at : ℕ) (a b a1 b1 a2 b2 : Ty) (same : Bool) (u : ty.Ty) (r : Result Ty FlowFault) → same ≡ false → IsTrue same ↔ (seen_ty a1 ≡ seen_ty b1) → a1 ≡ a → b1 ≡ b
    → u ≡ UnionTy (seen_ty a2) (seen_ty b2) → a2 ≡ a → b2 ≡ b → Meets (Norm names at u) seen_ty r → Meets (JoinedType names at (seen_ty a) (seen_ty b)) seen_ty r
joined_apart names at a b a1 b1 a2 b2 same u r not_same both a1_is b1_is union a2_is b2_is h =
    behind_apart names at a b r
    (apart a b same not_same (subst (λ (x : Ty). IsTrue same ↔ (seen_ty x ≡ seen_ty b)) a1_is (subst (λ (y : Ty). IsTrue same ↔ (seen_ty a1 ≡ seen_ty y)) b1_is both)))
    (subst (λ (t : ty.Ty). Meets (Norm names at t) seen_ty r) (union ∙ ap (λ (x : Ty). UnionTy (seen_ty x) (seen_ty b2)) a2_is ∙ ap (λ (y : Ty). UnionTy (seen_ty a) (seen_ty y)) b2_is) h)

-- ---- both points

both_given : (names : List Declared) (at : ℕ) (ra rb : Bool) (a b types : List (Option ty.Ty)) → ra ≡ true → rb ≡ true → JoinedSlots names at [] a b (Gives types)
    → Joined names at (record { reached = ra; types = a }) (record { reached = rb; types = b }) (Gives (record { reached = true; types = types }))
both_given names at true true a b types qa qb h = gave types (Gives (record { reached = true; types = types })) h refl
both_given names at false rb a b types qa qb h = absurd cc
both_given names at true false a b types qa qb h = absurd cc

both_refused : (names : List Declared) (at : ℕ) (ra rb : Bool) (a b : List (Option ty.Ty)) (e : FlowFault) → ra ≡ true → rb ≡ true → JoinedSlots names at [] a b (Fails e)
    → Joined names at (record { reached = ra; types = a }) (record { reached = rb; types = b }) (Fails e)
both_refused names at true true a b e qa qb h = stopped e h
both_refused names at false rb a b e qa qb h = absurd cc
both_refused names at true false a b e qa qb h = absurd cc

pub joined_given : (names : List Declared) (at : ℕ) (ra rb : Bool) (a b a2 b2 types : List (Option Ty)) → ra ≡ true → rb ≡ true → a2 ≡ a → b2 ≡ b → JoinedSlots names at [] (seen_slots a2) (seen_slots b2) (Gives (seen_slots types))
    → Joined names at (record { reached = ra; types = seen_slots a }) (record { reached = rb; types = seen_slots b }) (Gives (record { reached = true; types = seen_slots types }))
joined_given names at ra rb a b a2 b2 types qa qb a_same b_same h =
    both_given names at ra rb (seen_slots a) (seen_slots b) (seen_slots types) qa qb
    (subst (λ (x : List (Option Ty)). JoinedSlots names at [] (seen_slots x) (seen_slots b) (Gives (seen_slots types))) a_same
    (subst (λ (y : List (Option Ty)). JoinedSlots names at [] (seen_slots a2) (seen_slots y) (Gives (seen_slots types))) b_same h))

pub joined_refused : (names : List Declared) (at : ℕ) (ra rb : Bool) (a b a2 b2 : List (Option Ty)) (e : FlowFault) → ra ≡ true → rb ≡ true → a2 ≡ a → b2 ≡ b → (e ≢ NoMemory → JoinedSlots names at [] (seen_slots a2) (seen_slots b2) (Fails e))
    → e ≢ NoMemory → Joined names at (record { reached = ra; types = seen_slots a }) (record { reached = rb; types = seen_slots b }) (Fails e)
joined_refused names at ra rb a b a2 b2 e qa qb a_same b_same h n =
    both_refused names at ra rb (seen_slots a) (seen_slots b) e qa qb
    (subst (λ (x : List (Option Ty)). JoinedSlots names at [] (seen_slots x) (seen_slots b) (Fails e)) a_same
    (subst (λ (y : List (Option Ty)). JoinedSlots names at [] (seen_slots a2) (seen_slots y) (Fails e)) b_same (h n)))

pub counted_more : (made made2 : List (Option Ty)) (x : Option Ty) (i : ℕ) → made2 ≡ made ++ x ∷ [] → length made ≡ i → length made2 ≡ i + 1
counted_more made made2 x i pushed counted = omega (arith, ap length pushed, length_push made x)
