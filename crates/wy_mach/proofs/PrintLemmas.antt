-- What prints leave, and what the sink took of them.
use Rattle.std.proofs.Common.{◌≡◌, ℕ, ◌+◌, ◌≤◌, List, ◌∷◌, length, get_or, take, drop, Bool, true, false, cond, Option, Some, None, refl, sym, ◌∙◌, ap, subst, arith}
use Rattle.std.proofs.lemmas.List.{length-drop, length-take, take-take}
use Rattle.std.proofs.Math.Nat.{min-le_left, min-le_right}
use Rattle.std.proofs.Math.Seq.{take-add}
use Rattle.wy_port.proofs.TakenLemmas.{with_taken-append}
use Rattle.wy_value.specs.Datum.{Datum, Null, Truth, Whole, Array, Record, Data, no_items, item}
use Rattle.wy_heap.specs.declared.part.Part.{Part}
use Rattle.wy_heap.specs.declared.part.Part.TheVariants as part
use Rattle.wy_heap.specs.declared.heap.Heap.{Heap}
use Rattle.wy_heap.specs.Nodes.{map_of}
use Rattle.wy_heap.specs.Meaning.{Means}
use Rattle.wy_port.specs.Taken.{TookFront, with_taken}
use Rattle.wy_sem.specs.Operations.{nat_of}
use Rattle.wy_sem.specs.Expressions.{Store, slot}
use Rattle.wy_sem.specs.Evaluation.{is_ascii}
use Rattle.wy_code_spec.specs.step.Step.{Effect, GoesOn, Fails, there, as_items, as_bytes, where_so}
use Rattle.wy_mach.specs.Showing.{Shows, HasNone}
use Rattle.wy_mach.proofs.EffectLemmas.{by_there}
use Rattle.wy_mach.proofs.RegisterLemmas.{shows_slot, slot_within}
use Rattle.wy_mach.specs.Texts.{code_before, codes_of, text_in, IsText}
use Rattle.wy_mach.specs.Printed.{TookAll, TookSome, Prints, PrintsSome, IsPrintStop, IsTextStop}
use Rattle.wy_mach.specs.declared.printing.PrintStop.{PrintStop}
use Rattle.wy_mach.specs.declared.printing.PrintStop.TheVariants.{Stuck, OutFault}

-- ---- effects by the text

more_there : (n : ℕ) (o : Option (List ℕ)) (next : List ℕ → Effect) → there o (λ bytes. next (n ∷ bytes)) ≡ there (code_before (Some n) o) next
more_there n None next = refl
more_there n (Some bytes) next = refl

code_there : (b : Bool) (n : ℕ) (o : Option (List ℕ)) (rest : Effect) (next : List ℕ → Effect) → rest ≡ there o (λ bytes. next (n ∷ bytes)) → where_so b rest ≡ there (code_before (cond b (Some n) None) o) next
code_there true n o rest next is = is ∙ more_there n o next
code_there false n o rest next is = refl

bytes_there : (ds : Data) (next : List ℕ → Effect) → as_bytes ds next ≡ there (codes_of ds) next
bytes_there no_items next = refl
bytes_there (item Null ds) next = refl
bytes_there (item (Truth b) ds) next = refl
bytes_there (item (Whole z) ds) next =
    code_there (is_ascii z) (nat_of z) (codes_of ds) (as_bytes ds (λ bytes. next (nat_of z ∷ bytes))) next (bytes_there ds (λ bytes. next (nat_of z ∷ bytes)))
bytes_there (item (Array es) ds) next = refl
bytes_there (item (Record fs) ds) next = refl

text_there : (d : Datum) (next : List ℕ → Effect) → as_items d (λ ds. as_bytes ds next) ≡ there (text_in d) next
text_there Null next = refl
text_there (Truth b) next = refl
text_there (Whole z) next = refl
text_there (Array ds) next = bytes_there ds next
text_there (Record fs) next = refl

-- ---- `Print`

-- what follows of the effect, from what follows where the register shows a text
print_by : (P : Effect → Type 0) (h : Heap) (ps : List Part) (from : ℕ) (p : Part) (s : Store) → p ≡ get_or ps from part.Null → Shows (map_of h) s ps → P Fails → ((bytes : List ℕ) → IsText h p bytes → P (GoesOn s bytes))
    → P (there (slot s from) (λ v. as_items v (λ ds. as_bytes ds (λ bytes. GoesOn s bytes))))
print_by P h ps from p s is shows fails goes =
    by_there P (slot s from) (λ v. as_items v (λ ds. as_bytes ds (λ bytes. GoesOn s bytes))) fails
    (λ v holds_v. subst P (sym (text_there v (λ bytes. GoesOn s bytes)))
    (by_there P (text_in v) (λ bytes. GoesOn s bytes) fails
    (λ bytes found. goes bytes (v, subst (Means (map_of h) v) (sym is) (shows_slot (map_of h) s ps from v shows holds_v), found))))

pub print_goes : (h : Heap) (ps : List Part) (from : ℕ) (p : Part) (before after : Option (List ℕ)) → p ≡ get_or ps from part.Null → ((bytes : List ℕ) → IsText h p bytes → after ≡ with_taken before bytes)
    → Prints (map_of h) ps before after (λ s. there (slot s from) (λ v. as_items v (λ ds. as_bytes ds (λ bytes. GoesOn s bytes))))
print_goes h ps from p before after is took s shows = print_by (TookAll s before after) h ps from p s is shows tt (λ bytes text. (refl, took bytes text))

pub print_breaks : (h : Heap) (ps : List Part) (from : ℕ) (p : Part) (before after : Option (List ℕ)) → p ≡ get_or ps from part.Null → ((bytes : List ℕ) → IsText h p bytes → TookFront before after bytes)
    → PrintsSome (map_of h) ps before after (λ s. there (slot s from) (λ v. as_items v (λ ds. as_bytes ds (λ bytes. GoesOn s bytes))))
print_breaks h ps from p before after is took s shows = print_by (TookSome before after) h ps from p s is shows tt (λ bytes text. took bytes text)

pub print_none : (h : Heap) (ps : List Part) (from : ℕ) (p : Part) → p ≡ get_or ps from part.Null → ((d : Datum) → Means (map_of h) d p → text_in d ≡ None)
    → HasNone (map_of h) ps (λ s. there (slot s from) (λ v. as_items v (λ ds. as_bytes ds (λ bytes. GoesOn s bytes))))
print_none h ps from p is none s shows =
    print_by (λ (e : Effect). e ≡ Fails) h ps from p s is shows refl (λ bytes text. absurd (let e = sym (none text.0 text.1) ∙ text.2 in cc))

pub print_beyond : (h : Heap) (ps : List Part) (from : ℕ) → length ps ≤ from
    → HasNone (map_of h) ps (λ s. there (slot s from) (λ v. as_items v (λ ds. as_bytes ds (λ bytes. GoesOn s bytes))))
print_beyond h ps from beyond s shows =
    by_there (λ (e : Effect). e ≡ Fails) (slot s from) (λ v. as_items v (λ ds. as_bytes ds (λ bytes. GoesOn s bytes))) refl
    (λ v holds_v. absurd (omega (arith, slot_within (map_of h) s ps from v shows holds_v)))

-- ---- pieces

-- a front of the bytes was taken, and then one of the rest
more_taken : (before between after : Option (List ℕ)) (bytes : List ℕ) (start more : ℕ) → between ≡ with_taken before (take start bytes) → after ≡ with_taken between (take more (drop start bytes)) → after ≡ with_taken before (take (start + more) bytes)
more_taken before between after bytes start more so_far next =
    next ∙ ap (λ (known : Option (List ℕ)). with_taken known (take more (drop start bytes))) so_far
    ∙ with_taken-append before (take start bytes) (take more (drop start bytes))
    ∙ ap (with_taken before) (sym (take-add start more bytes))

pub piece_taken : (before between after : Option (List ℕ)) (bytes sent : List ℕ) (start many : ℕ) → between ≡ with_taken before (take start bytes) → sent ≡ take many (drop start bytes) → after ≡ with_taken between sent → after ≡ with_taken before (take (start + many) bytes)
piece_taken before between after bytes sent start many so_far is next = more_taken before between after bytes start many so_far (next ∙ ap (with_taken between) is)

pub piece_front : (before between after : Option (List ℕ)) (bytes sent : List ℕ) (start many : ℕ) → start ≤ length bytes → between ≡ with_taken before (take start bytes) → sent ≡ take many (drop start bytes) → TookFront between after sent → TookFront before after bytes
piece_front before between after bytes sent start many within so_far is front =
    let long = length-take many (drop start bytes) in
    let short : front.count ≤ length (take many (drop start bytes)) = omega (arith, front.within, ap length is) in
    let few : front.count ≤ many = omega (arith, short, long, min-le_left many (length (drop start bytes))) in
    let parts : take front.count sent ≡ take front.count (drop start bytes) = ap (take front.count) is ∙ take-take front.count many (drop start bytes) few in
    record {
      count = start + front.count;
      within = omega (arith, short, long, min-le_right many (length (drop start bytes)), length-drop start bytes, within);
      took = more_taken before between after bytes start front.count so_far (front.took ∙ ap (with_taken between) parts);
    }

-- ---- answers

pub print_stop : (h : Heap) (ps : List Part) (from : ℕ) (p : Part) (before after : Option (List ℕ)) (failed fails : ℕ) (stop : PrintStop) → p ≡ get_or ps from part.Null → IsTextStop h p before after failed fails stop
    → IsPrintStop (map_of h) ps before after failed fails (λ s. there (slot s from) (λ v. as_items v (λ ds. as_bytes ds (λ bytes. GoesOn s bytes)))) stop
print_stop h ps from p before after failed fails Stuck is stops = (print_none h ps from p is stops.0, stops.1)
print_stop h ps from p before after failed fails OutFault is stops = (print_breaks h ps from p before after is stops.0, stops.1)
