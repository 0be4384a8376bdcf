-- Calls one behind the other meet the steps of the walk one behind the other; so do the turns of a loop over a list.
use Rattle.std.proofs.Common.{◌≡◌, ◌≢◌, ◌+◌, ◌<◌, ◌≤◌, ℕ, zero, suc, List, [], ◌∷◌, Some, None, length, drop, get_or, Result, Ok, Err, sym, ap, ◌∙◌, subst, arith}
use Rattle.std.proofs.lemmas.List.{drop_more, drop_all}
use Rattle.std.proofs.lemmas.Option.{slice_get_within, get_or_from_slice_get}
use Rattle.std.specs.Prelude.{IsErrAnd, slice_get}
use Rattle.wy_flow_spec.specs.declared.typing.fault.FlowFault.{FlowFault}
use Rattle.wy_flow_spec.specs.declared.typing.fault.FlowFault.TheVariants.{NoMemory}
use Rattle.wy_flow_spec.specs.typing.Outcomes.{Outcome, Gives, Fails, Then, gave, stopped, Meets}

-- the first step gave a value, and the call behind it meets what comes next
pub next : {X Y Z : Type 0} (m : Outcome X → Type 0) (f : X → Outcome Y → Type 0) (view : Z → Y) (x : X) (r : Result Z FlowFault) → m (Gives x) → Meets (f x) view r → Meets (Then m f) view r
next m f view x (Ok z) g h = gave x (Gives (view z)) g h
next m f view x (Err e) g h = λ n. gave x (Fails e) g (h n)

-- the call was refused, and the refusal is handed on
pub refused_on : {Y Z : Type 0} (m : Outcome Y → Type 0) (view : Z → Y) (e : FlowFault) (r : Result Z FlowFault) → (e ≢ NoMemory → m (Fails e)) → IsErrAnd r (λ f. f ≡ e) → Meets m view r
refused_on m view e (Ok z) h is = absurd is
refused_on m view e (Err f) h is = λ n. subst (λ (g : FlowFault). m (Fails g)) (sym is) (h (λ q. n (is ∙ q)))

-- the first step was refused, and the refusal is handed on
pub first_refused : {X Y Z : Type 0} (m : Outcome X → Type 0) (f : X → Outcome Y → Type 0) (view : Z → Y) (e : FlowFault) (r : Result Z FlowFault) → (e ≢ NoMemory → m (Fails e)) → IsErrAnd r (λ g. g ≡ e) → Meets (Then m f) view r
first_refused m f view e r h is = refused_on (Then m f) view e r (λ n. stopped e (h n)) is

-- there was no memory
pub no_memory : {Y Z : Type 0} (m : Outcome Y → Type 0) (view : Z → Y) (r : Result Z FlowFault) → IsErrAnd r (λ f. f ≡ NoMemory) → Meets m view r
no_memory m view (Ok z) is = absurd is
no_memory m view (Err f) is = λ n. absurd (n is)

-- in the turn of a loop at this item
pub at_item : {A : Type 0} (P : List A → Type 0) (xs : List A) (i : ℕ) (x : A) → i < length xs → x ≡ get_or xs i x → P (x ∷ drop (i + 1) xs) → P (drop i xs)
at_item P xs i x within is h = subst P (sym (drop_more xs i x within ∙ ap (λ y. y ∷ drop (i + 1) xs) (sym is))) h

-- behind the last item
pub at_end : {A : Type 0} (P : List A → Type 0) (xs : List A) (i : ℕ) → length xs ≤ i → P [] → P (drop i xs)
at_end P xs i over h = subst P (sym (drop_all i xs over)) h

-- the item that was found at this place of another list
pub found_item : {A : Type 0} (xs : List A) (i n : ℕ) (x : A) → Some x ≡ slice_get xs n → n ≡ i → drop i xs ≡ x ∷ drop (i + 1) xs
found_item xs i n x there counted =
    let here : slice_get xs i ≡ Some x = ap (slice_get xs) (sym counted) ∙ sym there in
    drop_more xs i x (slice_get_within xs i x here) ∙ ap (λ y. y ∷ drop (i + 1) xs) (get_or_from_slice_get xs i x x here)

past : {A : Type 0} (xs : List A) (i : ℕ) → None ≡ slice_get xs i → length xs ≤ i
past [] i e = omega arith
past (x ∷ xs) zero e = absurd cc
past (x ∷ xs) (suc i) e = omega (arith, past xs i e)

-- no item was found there
pub no_item : {A : Type 0} (xs : List A) (i n : ℕ) → None ≡ slice_get xs n → n ≡ i → drop i xs ≡ []
no_item xs i n none counted = drop_all i xs (past xs i (none ∙ ap (slice_get xs) counted))
