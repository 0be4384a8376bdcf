-- An array of copies of what a register held.
use Rattle.std.proofs.Common.{◌≡◌, ℕ, zero, suc, ◌<◌, ◌≤◌, List, [], ◌∷◌, ◌++◌, length, get_or, set, Bool, true, false, Some, None, ℤ, pos, negsuc, ◌<ℤ◌, ◌≤ℤ◌, arith, refl, sym, ◌∙◌, ap, subst}
use Rattle.std.proofs.lemmas.Bool.Decides.{nat_tests}
use Rattle.std.proofs.lemmas.Int.{ints}
use lib.IntN.{nat_abs}
use Rattle.wy_value.specs.Datum.{Datum, Array, Data, item}
use Rattle.wy_heap.specs.declared.part.Part.{Part}
use Rattle.wy_heap.specs.declared.part.Part.TheVariants as part
use Rattle.wy_heap.specs.declared.heap.Heap.{Heap}
use Rattle.wy_heap.specs.Nodes.{Map, map_of}
use Rattle.wy_heap.specs.Meaning.{Means, MeanAll}
use Rattle.wy_heap.specs.Making.{repeated}
use Rattle.wy_heap.specs.Standing.{Stands}
use Rattle.wy_sem.specs.Operations.{copies, nat_of, longest}
use Rattle.wy_sem.specs.Expressions.{Store, slot, put}
use Rattle.wy_code_spec.specs.step.Step.{Effect, Fails, there, as_number, moved, where_so, gives}
use Rattle.wy_mach.specs.Showing.{Leaves, WentOn, HasNone, Turns, AreRegisters}
use Rattle.wy_mach.specs.Operands.{number_in, Reads}
use Rattle.wy_mach.specs.Taking.{AreTaken, TakenTurns, GivesMade}
use Rattle.wy_mach.specs.Filling.{is_length, filled}
use Rattle.wy_mach.proofs.EffectLemmas.{by_there}
use Rattle.wy_mach.proofs.RegisterLemmas.{shows_slot, slot_beyond, taken_out}
use Rattle.wy_mach.proofs.MoveLemmas.{rest_shows}
use Rattle.wy_mach.proofs.OperandLemmas.{number-there}
use Rattle.wy_mach.proofs.NumberLemmas.{there_none, there_some}
use Rattle.wy_value.specs.Seen.{data_of}

repeated-copies : (n : ℕ) (d : Datum) → repeated n d ≡ copies n d
repeated-copies zero d = refl
repeated-copies (suc n) d = ap (item d) (repeated-copies n d)

-- what was made of the first stands for the array of copies
pub fill_means : (m n : Map) (many : ℕ) (p made : Part) → ((d : Datum) → Means m d p → Means n (Array (repeated many d)) made) → (ds : List Datum) → MeanAll m (data_of ds) (p ∷ []) → Means n (filled many ds) made
fill_means m n many p made value [] mean = absurd (cc)
fill_means m n many p made value (d ∷ []) mean = subst (λ (e : Data). Means n (Array e) made) (repeated-copies many d) (value d mean.0)
fill_means m n many p made value (d ∷ e ∷ ds) mean = absurd mean.1

-- the effect behind the length
filling : ℕ → ℕ → Store → ℤ → Effect
filling to from s z = where_so (is_length z) (moved s from (λ u rest. gives rest to (Array (copies (nat_of z) u))))

where_no : (b : Bool) (next : Effect) → b ≡ false → where_so b next ≡ Fails
where_no b next is = ap (λ (c : Bool). where_so c next) is

where_fails : (b : Bool) (next : Effect) → next ≡ Fails → where_so b next ≡ Fails
where_fails true next is = is
where_fails false next is = refl

pub fill_no_number : (h : Heap) (ps : List Part) (to from count : ℕ) → Reads h ps count number_in None
    → HasNone (map_of h) ps (λ s. there (slot s count) (λ w. as_number w (λ z. where_so (is_length z) (moved s from (λ u rest. gives rest to (Array (copies (nat_of z) u)))))))
unfolding filling
fill_no_number h ps to from count reads s shows = number-there (slot s count) (filling to from s) ∙ there_none (number_in (slot s count)) (filling to from s) (sym (reads s shows))

pub fill_no_length : (h : Heap) (ps : List Part) (to from count : ℕ) (z : ℤ) → Reads h ps count number_in (Some z) → is_length z ≡ false
    → HasNone (map_of h) ps (λ s. there (slot s count) (λ w. as_number w (λ y. where_so (is_length y) (moved s from (λ u rest. gives rest to (Array (copies (nat_of y) u)))))))
unfolding filling
fill_no_length h ps to from count z reads long s shows =
    number-there (slot s count) (filling to from s) ∙ there_some (number_in (slot s count)) (filling to from s) z (sym (reads s shows))
    ∙ where_no (is_length z) (moved s from (λ u rest. gives rest to (Array (copies (nat_of z) u)))) long

pub fill_beyond : (h : Heap) (ps : List Part) (to from count : ℕ) (z : ℤ) → Reads h ps count number_in (Some z) → length ps ≤ from
    → HasNone (map_of h) ps (λ s. there (slot s count) (λ w. as_number w (λ y. where_so (is_length y) (moved s from (λ u rest. gives rest to (Array (copies (nat_of y) u)))))))
unfolding filling
fill_beyond h ps to from count z reads beyond s shows =
    number-there (slot s count) (filling to from s) ∙ there_some (number_in (slot s count)) (filling to from s) z (sym (reads s shows))
    ∙ where_fails (is_length z) (moved s from (λ u rest. gives rest to (Array (copies (nat_of z) u))))
    (there_none (slot s from) (λ u. gives (put s from None) to (Array (copies (nat_of z) u))) (slot_beyond (map_of h) s ps from shows beyond))

pub fill_goes : (h n : Heap) (ps rest qs : List Part) (to from count many : ℕ) (z : ℤ) (p : Part) → Reads h ps count number_in (Some z) → is_length z ≡ true → z ≡ pos many → p ≡ get_or ps from part.Null → rest ≡ set ps from part.Null → GivesMade h n (p ∷ []) rest qs to (filled many)
    → WentOn (map_of h) (map_of n) ps qs (λ s. there (slot s count) (λ w. as_number w (λ y. where_so (is_length y) (moved s from (λ u left. gives left to (Array (copies (nat_of y) u)))))))
unfolding filling
fill_goes h n ps rest qs to from count many z p reads long number_is is left made s shows =
    subst (Leaves (map_of n) qs [])
    (sym (number-there (slot s count) (filling to from s) ∙ there_some (number_in (slot s count)) (filling to from s) z (sym (reads s shows))
    ∙ ap (λ (b : Bool). where_so b (moved s from (λ u last. gives last to (Array (copies (nat_of z) u))))) long
    ∙ ap (λ (y : ℤ). moved s from (λ u last. gives last to (Array (copies (nat_of y) u)))) number_is))
    (by_there (Leaves (map_of n) qs []) (slot s from) (λ u. gives (put s from None) to (Array (copies many u))) tt
    (λ u holds_u. (
      made (u ∷ []) (put s from None) (subst (Means (map_of h) u) (sym is) (shows_slot (map_of h) s ps from u shows holds_u), refl)
          (rest_shows (map_of h) s ps rest from left shows),
      refl,
    )))

-- what was taken from one register
pub one_taken : (h : Heap) (ps rest : List Part) (from : ℕ) (p : Part) → p ≡ get_or ps from part.Null → from < length ps → rest ≡ set ps from part.Null → AreRegisters h ps → AreTaken h (p ∷ []) rest
one_taken h ps rest from p is below left held =
    (held.0, subst (λ (l : List Part). Stands h (p ∷ (l ++ held.0))) (sym left) (taken_out h p ps held.0 from is below held.1))

pub one_turns : (h n : Heap) (ps rest qs : List Part) (from : ℕ) (p : Part) → p ≡ get_or ps from part.Null → from < length ps → rest ≡ set ps from part.Null → TakenTurns h n (p ∷ []) rest qs → Turns h n ps qs
one_turns h n ps rest qs from p is below left turns others stands =
    turns others (subst (λ (l : List Part). Stands h (p ∷ (l ++ others))) (sym left) (taken_out h p ps others from is below stands))

pub one_list : (p q : Part) → p ≡ q → (p ∷ []) ≡ (q ∷ [])
one_list p q is = ap (λ (x : Part). x ∷ []) is

-- ---- lengths

longest_is : longest ≡ 9223372036854775807
unfolding longest
longest_is = refl

pub no_negative : (z : ℤ) → z <ℤ pos 0 → is_length z ≡ false
no_negative (pos n) low = absurd (omega (arith, ints))
no_negative (negsuc n) low = refl

pub no_longer : (z : ℤ) → pos 9223372036854775807 <ℤ z → is_length z ≡ false
no_longer (pos n) high = let long : 9223372036854775807 < n = omega (arith, ints) in grind (arith, nat_tests, longest_is)
no_longer (negsuc n) high = absurd (omega (arith, ints))

pub is_long : (z : ℤ) → pos 0 ≤ℤ z → z ≤ℤ pos 9223372036854775807 → (is_length z ≡ true) × (z ≡ pos (nat_abs z))
is_long (pos n) low high = let short : n ≤ 9223372036854775807 = omega (arith, ints) in (grind (arith, nat_tests, longest_is), refl)
is_long (negsuc n) low high = absurd (omega (arith, ints))
