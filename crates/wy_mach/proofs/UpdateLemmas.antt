-- What `Put` does to the heap and to what registers show.
use Rattle.std.proofs.Common.{◌≡◌, ℕ, zero, suc, ◌<◌, ◌≤◌, ◌<ℤ◌, ◌≤ℤ◌, List, [], ◌∷◌, ◌++◌, length, get_or, set, Bool, true, false, Option, Some, None, ℤ, pos, negsuc, refl, sym, ◌∙◌, ap, subst, arith}
use Rattle.std.specs.Prelude.{Result, Ok, Err, IfErr, MatchOption, slice_get, int_le, min}
use Rattle.std.proofs.lemmas.Int.{ints}
use Rattle.std.proofs.lemmas.List.{set-set, get_or-set_same}
use Rattle.std.proofs.lemmas.Bool.Decides.{nat_tests}
use lib.IntN.{nat_abs}
use Rattle.wy_mach.proofs.ItemLemmas.{by_where}
use Rattle.wy_value.specs.Datum.{Datum}
use Rattle.wy_value.specs.Seen.{data_of}
use Rattle.wy_value.specs.declared.shapes.Shapes.{Shapes}
use Rattle.wy_heap.specs.declared.part.Part.{Part}
use Rattle.wy_heap.specs.declared.part.Part.TheVariants as part
use Rattle.wy_heap.specs.declared.part.Slot as of_heap
use Rattle.wy_heap.specs.declared.part.Slot.TheVariants as heap_slot
use Rattle.wy_heap.specs.declared.heap.Heap.{Heap}
use Rattle.wy_heap.specs.Nodes.{map_of, held}
use Rattle.wy_heap.specs.Meaning.{Means, MeanAll}
use Rattle.wy_heap.specs.Extending.{Extends}
use Rattle.wy_heap.specs.Slots as heap_slots
use Rattle.wy_heap.specs.Slots.{Step, steps_of, IsPath}
use Rattle.wy_heap.specs.Standing.{Stands, AreHeld, Acts}
use Rattle.wy_heap.proofs.RowLemmas.{restood}
use Rattle.wy_code.specs.declared.instructions.Slot as of_code
use Rattle.wy_code.specs.declared.instructions.Slot.TheVariants as path_step
use Rattle.wy_sem.specs.Operations.{nat_of, Slot, ItemSlot, FieldSlot, updated}
use Rattle.wy_sem.specs.Expressions.{Store, slot, put}
use Rattle.wy_code_spec.specs.step.Step.{Effect, Fails, there, as_number, where_so, gives, slots_of, has_path}
use Rattle.wy_mach.specs.declared.stop.Stop.{Stop}
use Rattle.wy_mach.specs.declared.stop.Stop.TheVariants.{Stuck, NoMemory}
use Rattle.wy_mach.specs.Showing.{Shows, Leaves, WentOn, HasNone, IsStop, Puts}
use Rattle.wy_mach.specs.Operands.{number_in, Reads}
use Rattle.wy_mach.specs.Taking.{taken, emptied, AreWithin, AreTaken, GivesMade}
use Rattle.wy_mach.proofs.EffectLemmas.{by_there}
use Rattle.wy_mach.proofs.EqualLemmas.{length-set_part}
use Rattle.wy_mach.proofs.OperandLemmas.{number-there}
use Rattle.wy_mach.proofs.RegisterLemmas.{shows_put, shows_slot, slot_within}
use Rattle.wy_mach.proofs.MakeLemmas.{Spends}
use Rattle.wy_mach.proofs.MoveLemmas.{put_acts}
use Rattle.wy_mach.specs.Paths.{IsSlotOf, AreSlotsOf, LacksSlot, LacksSlots, written_made}
use Rattle.wy_mach.proofs.PathLemmas.{IsSame, AreSame, path_leads}

-- ---- answers

pub on_err : {T E : Type 0} (r : Result T E) (P Q : E → Type 0) → ((e : E) → P e → Q e) → IfErr r P → IfErr r Q
on_err (Ok x) P Q f p = tt
on_err (Err e) P Q f p = f e p

-- ---- effects that fail

there_fails : {X : Type 0} (o : Option X) (next : X → Effect) → ((x : X) → next x ≡ Fails) → there o next ≡ Fails
there_fails None next fails = refl
there_fails (Some x) next fails = fails x

where_fails : (b : Bool) (next : Effect) → next ≡ Fails → where_so b next ≡ Fails
where_fails true next fails = fails
where_fails false next fails = refl

-- the effect of what is read of a register
index_read : (h : Heap) (ps : List Part) (r : ℕ) (o : Option ℤ) (s : Store) (next : ℤ → Effect) → Reads h ps r number_in o → Shows (map_of h) s ps → there (slot s r) (λ v. as_number v next) ≡ there o next
index_read h ps r o s next reads shows = number-there (slot s r) next ∙ ap (λ (x : Option ℤ). there x next) (sym (reads s shows))

-- ---- slots that aren't there

pub lacks_number : (h : Heap) (ps : List Part) (r : ℕ) → Reads h ps r number_in None → LacksSlot h ps (path_step.Item r)
lacks_number h ps r reads rest t s next shows =
    index_read h ps r None s (λ (z : ℤ). where_so (int_le (pos 0) z) (slots_of t s rest (λ xs. next (ItemSlot (nat_of z) ∷ xs)))) reads shows

lacks_below : (h : Heap) (ps : List Part) (r : ℕ) (z : ℤ) → Reads h ps r number_in (Some z) → int_le (pos 0) z ≡ false → LacksSlot h ps (path_step.Item r)
lacks_below h ps r z reads below rest t s next shows =
    index_read h ps r (Some z) s (λ (y : ℤ). where_so (int_le (pos 0) y) (slots_of t s rest (λ xs. next (ItemSlot (nat_of y) ∷ xs)))) reads shows
    ∙ ap (λ (b : Bool). where_so b (slots_of t s rest (λ xs. next (ItemSlot (nat_of z) ∷ xs)))) below

pub item_slot_of : (h : Heap) (ps : List Part) (r : ℕ) (z : ℤ) (o : Option of_heap.Slot) → Reads h ps r number_in (Some z)
    → MatchOption o (int_le (pos 0) z ≡ false) (λ x. (int_le (pos 0) z ≡ true) × (x ≡ heap_slot.Item (min (nat_of z) 18446744073709551615)))
    → MatchOption o (LacksSlot h ps (path_step.Item r)) (λ x. IsSlotOf h ps (path_step.Item r) x)
item_slot_of h ps r z None reads of = lacks_below h ps r z reads of
item_slot_of h ps r z (Some x) reads of = (z, reads, of.0, of.1)

-- a path lacks its slots where a part of it does
pub lacks_more : (h : Heap) (ps : List Part) (step : of_code.Slot) (rest : List of_code.Slot) → LacksSlots h ps rest → LacksSlots h ps (step ∷ rest)
lacks_more h ps (path_step.Item r) rest lacks t s next shows =
    number-there (slot s r) (λ (z : ℤ). where_so (int_le (pos 0) z) (slots_of t s rest (λ xs. next (ItemSlot (nat_of z) ∷ xs))))
    ∙ there_fails (number_in (slot s r)) (λ (z : ℤ). where_so (int_le (pos 0) z) (slots_of t s rest (λ xs. next (ItemSlot (nat_of z) ∷ xs))))
    (λ z. where_fails (int_le (pos 0) z) (slots_of t s rest (λ xs. next (ItemSlot (nat_of z) ∷ xs))) (lacks t s (λ xs. next (ItemSlot (nat_of z) ∷ xs)) shows))
lacks_more h ps (path_step.Field f) rest lacks t s next shows =
    there_fails (slice_get t.names f) (λ (name : List ℕ). slots_of t s rest (λ xs. next (FieldSlot name ∷ xs))) (λ name. lacks t s (λ xs. next (FieldSlot name ∷ xs)) shows)

-- ---- slots that were found

pub slots_more : (h : Heap) (ps : List Part) (step : of_code.Slot) (steps all : List of_code.Slot) (x : of_heap.Slot) (path : List of_heap.Slot) → IsSlotOf h ps step x
    → ((rest : List of_heap.Slot) → AreSlotsOf h ps (step ∷ steps) rest → AreSlotsOf h ps all (path ++ rest))
    → (rest : List of_heap.Slot) → AreSlotsOf h ps steps rest → AreSlotsOf h ps all (path ++ (x ∷ rest))
slots_more h ps step steps all x path is before rest are = before (x ∷ rest) (is, are)

item_same : (t : Shapes) (n : ℕ) (x : of_heap.Slot) → x ≡ heap_slot.Item (min n 18446744073709551615) → IsSame t (ItemSlot n) x
item_same t n x is = subst (IsSame t (ItemSlot n)) (sym is) refl

field_same : (t : Shapes) (name : List ℕ) (f : ℕ) (x : of_heap.Slot) → x ≡ heap_slot.Field f → slice_get t.names f ≡ Some name → IsSame t (FieldSlot name) x
field_same t name f x is named = subst (IsSame t (FieldSlot name)) (sym is) named

-- what follows of the effect of a path, from what follows where it leads to slots
pub slots_by : (P : Effect → Type 0) (h : Heap) (t : Shapes) (s : Store) (ps : List Part) (steps : List of_code.Slot) (path : List of_heap.Slot) (next : List Slot → Effect) → Extends t h.shapes → Shows (map_of h) s ps → AreSlotsOf h ps steps path → P Fails → ((xs : List Slot) → AreSame h.shapes xs path → P (next xs)) → P (slots_of t s steps next)
slots_by P h t s ps [] path next extends shows are fails goes = goes [] are
slots_by P h t s ps (path_step.Item r ∷ steps) [] next extends shows are fails goes = absurd are
slots_by P h t s ps (path_step.Field f ∷ steps) [] next extends shows are fails goes = absurd are
slots_by P h t s ps (path_step.Item r ∷ steps) (x ∷ path) next extends shows are fails goes =
    let z = are.0.0 in
    let read = index_read h ps r (Some z) s (λ (y : ℤ). where_so (int_le (pos 0) y) (slots_of t s steps (λ xs. next (ItemSlot (nat_of y) ∷ xs)))) are.0.1 shows
    ∙ ap (λ (b : Bool). where_so b (slots_of t s steps (λ xs. next (ItemSlot (nat_of z) ∷ xs)))) are.0.2 in
    subst P (sym read)
    (slots_by P h t s ps steps path (λ xs. next (ItemSlot (nat_of z) ∷ xs)) extends shows are.1 fails (λ xs same. goes (ItemSlot (nat_of z) ∷ xs) (item_same h.shapes (nat_of z) x are.0.3, same)))
slots_by P h t s ps (path_step.Field f ∷ steps) (x ∷ path) next extends shows are fails goes =
    by_there P (slice_get t.names f) (λ (name : List ℕ). slots_of t s steps (λ xs. next (FieldSlot name ∷ xs))) fails
    (λ name named. slots_by P h t s ps steps path (λ xs. next (FieldSlot name ∷ xs)) extends shows are.1 fails
    (λ xs same. goes (FieldSlot name ∷ xs) (field_same h.shapes name f x are.0 (extends.names f name named), same)))

-- ---- what was taken

pub two_taken : (ps one : List Part) (u w : Part) (from whole : ℕ) → u ≡ get_or ps from part.Null → one ≡ set ps from part.Null → w ≡ get_or one whole part.Null → u ∷ w ∷ [] ≡ taken ps (from ∷ whole ∷ [])
two_taken ps one u w from whole first left second =
    ap (λ (p : Part). p ∷ w ∷ []) first ∙ ap (λ (q : Part). get_or ps from part.Null ∷ q ∷ []) (second ∙ ap (λ (l : List Part). get_or l whole part.Null) left)

pub two_emptied : (ps one two : List Part) (from whole : ℕ) → one ≡ set ps from part.Null → two ≡ set one whole part.Null → two ≡ emptied ps (from ∷ whole ∷ [])
two_emptied ps one two from whole left last = last ∙ ap (λ (l : List Part). set l whole part.Null) left

pub two_within : (limit from whole : ℕ) → from < limit → whole < limit → AreWithin limit (from ∷ whole ∷ [])
two_within limit from whole first second zero below = first
two_within limit from whole first second (suc zero) below = second
two_within limit from whole first second (suc (suc k)) below = absurd (omega arith)

-- ---- what is written

put-put : (s : Store) (i : ℕ) (a b : Option Datum) → put (put s i a) i b ≡ put s i b
put-put [] i a b = refl
put-put (o ∷ s) zero a b = refl
put-put (o ∷ s) (suc i) a b = ap (λ (l : Store). o ∷ l) (put-put s i a b)

-- what follows of the effect of `Put`, from what follows where the path is there
put_by : (P : Effect → Type 0) (h : Heap) (t : Shapes) (ps : List Part) (s : Store) (whole from : ℕ) (steps : List of_code.Slot) (path : List of_heap.Slot) → Extends t h.shapes → AreSlotsOf h ps steps path → Shows (map_of h) s ps → P Fails
    → ((xs : List Slot) (u w : Datum) → AreSame h.shapes xs path → slot s from ≡ Some u → slot (put s from None) whole ≡ Some w → has_path xs w ≡ true → P (gives (put s from None) whole (updated w xs u)))
    → P (slots_of t s steps (λ xs. there (slot s from) (λ u. there (slot (put s from None) whole) (λ w. where_so (has_path xs w) (gives (put s from None) whole (updated w xs u))))))
put_by P h t ps s whole from steps path extends are shows fails goes =
    slots_by P h t s ps steps path (λ xs. there (slot s from) (λ u. there (slot (put s from None) whole) (λ w. where_so (has_path xs w) (gives (put s from None) whole (updated w xs u))))) extends shows are fails
    (λ xs same. by_there P (slot s from) (λ u. there (slot (put s from None) whole) (λ w. where_so (has_path xs w) (gives (put s from None) whole (updated w xs u)))) fails
    (λ u holds_u. by_there P (slot (put s from None) whole) (λ w. where_so (has_path xs w) (gives (put s from None) whole (updated w xs u))) fails
    (λ w holds_w. by_where P (has_path xs w) (gives (put s from None) whole (updated w xs u)) fails (λ has. goes xs u w same holds_u holds_w has))))

-- the registers show the second with the first at the end of the path
put_shows_made : (h n : Heap) (ps spent rest qs : List Part) (s : Store) (whole from : ℕ) (path : List of_heap.Slot) (xs : List Slot) (u w : Datum) → spent ≡ taken ps (from ∷ whole ∷ []) → rest ≡ emptied ps (from ∷ whole ∷ []) → GivesMade h n spent rest qs whole (written_made (steps_of h.shapes path)) → Shows (map_of h) s ps → AreSame h.shapes xs path → slot s from ≡ Some u → slot (put s from None) whole ≡ Some w → has_path xs w ≡ true
    → Shows (map_of n) (put (put s from None) whole (Some (updated w xs u))) qs
put_shows_made h n ps spent rest qs s whole from path xs u w is left made shows same holds_u holds_w has =
    let m = map_of h in
    let one = put s from None in
    let shows_one : Shows m one (set ps from part.Null) = shows_put m s ps from None part.Null shows refl in
    let shows_two : Shows m (put one whole None) (set (set ps from part.Null) whole part.Null) = shows_put m one (set ps from part.Null) whole None part.Null shows_one refl in
    let mean_u : Means m u (get_or ps from part.Null) = shows_slot m s ps from u shows holds_u in
    let mean_w : Means m w (get_or (set ps from part.Null) whole part.Null) = shows_slot m one (set ps from part.Null) whole w shows_one holds_w in
    let mean : MeanAll m (data_of (u ∷ w ∷ [])) (taken ps (from ∷ whole ∷ [])) = (mean_u, (mean_w, refl)) in
    let there_now = made (u ∷ w ∷ []) (put one whole None) (subst (MeanAll m (data_of (u ∷ w ∷ []))) (sym is) mean) (subst (Shows m (put one whole None)) (sym left) shows_two) in
    let leads = path_leads h (get_or (set ps from part.Null) whole part.Null) w xs path mean_w same has in
    subst (λ (d : Datum). Shows (map_of n) (put one whole (Some d)) qs) (leads.put_is u)
    (subst (λ (l : Store). Shows (map_of n) l qs) (put-put one whole None (Some (heap_slots.put w (steps_of h.shapes path) u))) there_now)

pub put_goes : (h n : Heap) (t : Shapes) (ps spent rest qs : List Part) (whole from : ℕ) (steps : List of_code.Slot) (path : List of_heap.Slot) → Extends t h.shapes → AreSlotsOf h ps steps path → spent ≡ taken ps (from ∷ whole ∷ []) → rest ≡ emptied ps (from ∷ whole ∷ []) → GivesMade h n spent rest qs whole (written_made (steps_of h.shapes path))
    → WentOn (map_of h) (map_of n) ps qs (λ s. slots_of t s steps (λ xs. there (slot s from) (λ u. there (slot (put s from None) whole) (λ w. where_so (has_path xs w) (gives (put s from None) whole (updated w xs u))))))
put_goes h n t ps spent rest qs whole from steps path extends are is left made s shows =
    put_by (Leaves (map_of n) qs []) h t ps s whole from steps path extends are shows tt
    (λ xs u w same holds_u holds_w has. (put_shows_made h n ps spent rest qs s whole from path xs u w is left made shows same holds_u holds_w has, refl))

-- ---- refusals

pub put_lacks : (h : Heap) (t : Shapes) (ps : List Part) (whole from : ℕ) (steps : List of_code.Slot) (stop : Stop) → (stop ≡ Stuck → LacksSlots h ps steps)
    → IsStop (map_of h) ps (λ s. slots_of t s steps (λ xs. there (slot s from) (λ u. there (slot (put s from None) whole) (λ w. where_so (has_path xs w) (gives (put s from None) whole (updated w xs u)))))) stop
put_lacks h t ps whole from steps Stuck lacks = λ s shows.
    lacks refl t s (λ xs. there (slot s from) (λ u. there (slot (put s from None) whole) (λ w. where_so (has_path xs w) (gives (put s from None) whole (updated w xs u))))) shows
put_lacks h t ps whole from steps NoMemory lacks = tt

pub put_beyond : (h : Heap) (t : Shapes) (ps : List Part) (whole from : ℕ) (steps : List of_code.Slot) (path : List of_heap.Slot) → Extends t h.shapes → AreSlotsOf h ps steps path → length ps ≤ from
    → HasNone (map_of h) ps (λ s. slots_of t s steps (λ xs. there (slot s from) (λ u. there (slot (put s from None) whole) (λ w. where_so (has_path xs w) (gives (put s from None) whole (updated w xs u))))))
put_beyond h t ps whole from steps path extends are beyond s shows =
    put_by (λ (e : Effect). e ≡ Fails) h t ps s whole from steps path extends are shows refl
    (λ xs u w same holds_u holds_w has. absurd (omega (arith, slot_within (map_of h) s ps from u shows holds_u)))

pub whole_beyond : (h : Heap) (t : Shapes) (ps : List Part) (whole from : ℕ) (steps : List of_code.Slot) (path : List of_heap.Slot) → Extends t h.shapes → AreSlotsOf h ps steps path → length ps ≤ whole
    → HasNone (map_of h) ps (λ s. slots_of t s steps (λ xs. there (slot s from) (λ u. there (slot (put s from None) whole) (λ w. where_so (has_path xs w) (gives (put s from None) whole (updated w xs u))))))
whole_beyond h t ps whole from steps path extends are beyond s shows =
    put_by (λ (e : Effect). e ≡ Fails) h t ps s whole from steps path extends are shows refl
    (λ xs u w same holds_u holds_w has. absurd (omega (
      arith,
      slot_within (map_of h) (put s from None) (set ps from part.Null) whole w (shows_put (map_of h) s ps from None part.Null shows refl) holds_w,
      length-set_part ps from part.Null,
    )))

pub put_stops : (h : Heap) (t : Shapes) (ps one : List Part) (place : Part) (whole from : ℕ) (steps : List of_code.Slot) (path : List of_heap.Slot) (stop : Stop) → Extends t h.shapes → AreSlotsOf h ps steps path → one ≡ set ps from part.Null → place ≡ get_or one whole part.Null → (stop ≡ Stuck → IsPath h place path → ⊥)
    → IsStop (map_of h) ps (λ s. slots_of t s steps (λ xs. there (slot s from) (λ u. there (slot (put s from None) whole) (λ w. where_so (has_path xs w) (gives (put s from None) whole (updated w xs u)))))) stop
put_stops h t ps one place whole from steps path Stuck extends are left is none = λ s shows.
    put_by (λ (e : Effect). e ≡ Fails) h t ps s whole from steps path extends are shows refl
    (λ xs u w same holds_u holds_w has.
    let m = map_of h in
    let at = get_or (set ps from part.Null) whole part.Null in
    let mean : Means m w at = shows_slot m (put s from None) (set ps from part.Null) whole w (shows_put m s ps from None part.Null shows refl) holds_w in
    let place_is : place ≡ at = is ∙ ap (λ (l : List Part). get_or l whole part.Null) left in
    let mean_place : Means m w place = subst (Means m w) (sym place_is) mean in
    absurd (none refl (w, mean_place, (path_leads h place w xs path mean_place same has).has)))
put_stops h t ps one place whole from steps path NoMemory extends are left is none = tt

-- ---- the heap

swapped : (h : Heap) (p q : Part) (others : List Part) → Stands h (p ∷ q ∷ others) → Stands h (q ∷ p ∷ others)
swapped h p q others stands = restood h (p ∷ q ∷ others) (q ∷ p ∷ others) (λ k. omega arith) stands

pub second_held : (h : Heap) (p q : Part) (rest : List Part) → AreTaken h (p ∷ q ∷ []) rest → AreHeld h (q ∷ [])
second_held h p q rest held = (p ∷ (rest ++ held.0), swapped h p q (rest ++ held.0) held.1)

pub both_held : (h : Heap) (p q : Part) (rest : List Part) → AreTaken h (p ∷ q ∷ []) rest → AreHeld h (q ∷ p ∷ [])
both_held h p q rest held = (rest ++ held.0, swapped h p q (rest ++ held.0) held.1)

pub set_spends : (h n : Heap) (p q made : Part) → ((others : List Part) → Stands h (q ∷ p ∷ others) → Acts h n (made ∷ []) others) → Spends h n (p ∷ q ∷ []) made
set_spends h n p q made acts others stands = acts others (swapped h p q others stands)

pub set_value : (h n : Heap) (p q made : Part) (path : List Step) → ((w u : Datum) → Means (map_of h) w q → Means (map_of h) u p → Means (map_of n) (heap_slots.put w path u) made)
    → (ds : List Datum) → MeanAll (map_of h) (data_of ds) (p ∷ q ∷ []) → Means (map_of n) (written_made path ds) made
set_value h n p q made path value [] mean = absurd (cc)
set_value h n p q made path value (u ∷ []) mean = absurd (let e = mean.1 in cc)
set_value h n p q made path value (u ∷ w ∷ []) mean = value w u mean.1.0 mean.0
set_value h n p q made path value (u ∷ w ∷ v ∷ ds) mean = absurd mean.1.1

nothing_let_go : (h : Heap) (others : List Part) → Stands h (part.Null ∷ others) → Acts h h [] others
nothing_let_go h others stands = record {
  stands = restood h (part.Null ∷ others) others (λ k. omega arith) stands;
  keeps = λ q d among means. means;
}

-- what was made comes into a register that is empty
pub null_puts : (h : Heap) (made : Part) (ps : List Part) (i : ℕ) → i < length ps → Puts h h (set ps i part.Null) made (set ps i made)
null_puts h made ps i below =
    put_acts h h made part.Null (set ps i part.Null) (set ps i made) i (sym (get_or-set_same ps i part.Null part.Null below)) (omega (arith, below, length-set_part ps i part.Null))
    (sym (set-set ps i part.Null made)) (nothing_let_go h)

-- ---- indices

pub no_negative : (z : ℤ) → z <ℤ pos 0 → int_le (pos 0) z ≡ false
no_negative (pos n) low = absurd (omega (arith, ints))
no_negative (negsuc n) low = refl

pub no_greater : (z : ℤ) → pos 18446744073709551615 <ℤ z → (int_le (pos 0) z ≡ true) × (18446744073709551615 ≡ min (nat_of z) 18446744073709551615)
no_greater (pos n) high = let long : 18446744073709551615 < n = omega (arith, ints) in (grind (arith, nat_tests), omega arith)
no_greater (negsuc n) high = absurd (omega (arith, ints))

pub is_index : (z : ℤ) → pos 0 ≤ℤ z → z ≤ℤ pos 18446744073709551615 → (int_le (pos 0) z ≡ true) × (nat_abs z ≡ min (nat_of z) 18446744073709551615)
is_index (pos n) low high = let short : n ≤ 18446744073709551615 = omega (arith, ints) in (grind (arith, nat_tests), omega arith)
is_index (negsuc n) low high = absurd (omega (arith, ints))
