-- What the machine's turns do to registers and nodes is the step on shared nodes.
use Rattle.std.proofs.Common.{◌≡◌, inl, inr, ◌↔◌, ℕ, zero, suc, ℤ, pos, ◌+◌, ◌≤◌, List, [], ◌∷◌, ◌++◌, length, get_or, set, reverse, map, Bool as Boolean, true, false, Option, Some, None, IsSome, refl, sym, ◌∙◌, ap, subst, arith}
use Rattle.std.specs.Prelude.{Result, Ok, Err, IfOk, vec_capacity, slice_get}
use Rattle.wy_value.specs.Datum.{Datum, Truth, Whole, Array, Record}
use Rattle.wy_value.specs.Datum as datum
use Rattle.wy_heap.specs.declared.part.Part.{Part}
use Rattle.wy_heap.specs.declared.part.Part.TheVariants.{Null, Bool, Int, Key}
use Rattle.wy_heap.specs.declared.part.Slot as of_heap
use Rattle.wy_heap.specs.declared.part.Slot.TheVariants as heap_slot
use Rattle.wy_heap.specs.declared.heap.Heap.{Heap}
use Rattle.wy_heap.specs.Nodes.{Map, map_of, at, count_at, holds, held}
use Rattle.wy_heap.specs.Meaning.{IsMeant}
use Rattle.wy_heap.specs.Parts.{IsBelow}
use Rattle.wy_heap.specs.Slots.{Step, steps_of, step_of, item_at, part_at}
use Rattle.wy_heap.specs.Making.{CanHave}
use Rattle.wy_heap.specs.Standing.{Stands}
use Rattle.wy_heap.specs.Putting.{IsSole, Sole, PutAlong, IsInPlace, RoomAlong}
use Rattle.wy_heap.specs.Copying.{raised}
use Rattle.wy_heap.specs.Reaching.{Reach, root, part}
use Rattle.wy_heap.specs.Changing.{Lasts, More}
use Rattle.wy_heap.proofs.CountLemmas.{held-append, holds_one}
use Rattle.wy_heap.proofs.LawLemmas.{nodes_are_reached}
use Rattle.wy_heap.proofs.ReachLemmas.{reached_old}
use Rattle.wy_code.specs.declared.instructions.Slot as of_code
use Rattle.wy_code.specs.declared.instructions.Slot.TheVariants as path_step
use Rattle.wy_code.specs.declared.instructions.Instr.{Instr}
use Rattle.wy_code.specs.declared.instructions.Instr.TheVariants as instr
use Rattle.wy_code.specs.declared.routines.Routine.{Routine}
use Rattle.wy_code.specs.declared.routines.Code.{Code}
use Rattle.wy_sem.specs.Expressions.{Store, slot}
use Rattle.wy_code_spec.specs.step.Step.{instr_at}
use Rattle.wy_mach.specs.Showing.{ShowsSlot, Shows}
use Rattle.wy_mach.specs.Operands.{Reads, number_in, truth_in}
use Rattle.wy_mach.specs.Paths.{IsSlotOf, AreSlotsOf}
use Rattle.wy_mach.specs.Taking.{emptied}
use Rattle.wy_mach.specs.Sharing.{part_in}
use Rattle.wy_mach.specs.declared.frames.Caller.{Caller}
use Rattle.wy_mach.specs.declared.machine.Machine.{Machine}
use Rattle.wy_mach.specs.States.{places_below, places_of, callers_of, IsMachine, PathsFit}
use Rattle.wy_mach.specs.declared.machine.Turn.{Turn}
use Rattle.wy_mach.specs.declared.machine.Turn.TheVariants as turn
use Rattle.wy_mach.specs.Running.{KeepsRest, instr_of}
use Rattle.wy_mach.specs.SharedSteps.{Waiting, held_below, places_in, holders, HasNoDead, HasOne, WrittenAlong, IsWritten, HaveOne, LeadsTo, LeadAlong, Does, GoesBehind, Makes, CanTake, WriteFits, HasRoom, HasRoomNext, TakesMemory, LeadsToMany, EndsIn}
use Rattle.wy_mach.specs.SharedTurns.{SharesPlain, SharesBy, LeavesNodes, ReturnsLast, EndsSo, EndsBy, WantsBy, waiting_of, state_of, CountsIn, CountsNext, Follows, TurnsShared}
use Rattle.wy_mach.proofs.RegisterLemmas.{shows_slot}
use Rattle.wy_mach.proofs.CallLemmas.{pushed}
use Rattle.wy_mach.proofs.SharedTurnLemmas.{turns_shared, ends_so, by_return}

-- ---- the places of a state, and their holders

held_below_is : (cs : List Caller) → held_below (map waiting_of cs) ≡ places_below cs
held_below_is [] = refl
held_below_is (c ∷ cs) = ap (λ (l : List Part). c.frame.registers.items ++ l) (held_below_is cs)

pub places_are : (k : Machine) → places_in (state_of k) ≡ places_of k
places_are k = ap (λ (l : List Part). k.frame.registers.items ++ l) (held_below_is (callers_of k))

pub holders_are : (k : Machine) → Stands k.heap (places_of k) → (key : ℕ) → count_at k.heap key ≡ holders (state_of k) key
holders_are k stands key = omega (arith, stands.counts.counted key, ap (held key) (places_are k))

pub no_dead : (k : Machine) → Stands k.heap (places_of k) → HasNoDead (state_of k)
no_dead k stands = record {
  counted = λ key. (
    (λ is. omega (arith, stands.counts.alive key is, holders_are k stands key)),
    (λ some. stands.counts.there key (omega (arith, some, holders_are k stands key))),
  );
  reached = λ key. subst (λ (l : List Part). IsSome (at (map_of k.heap) key) ↔ Reach (map_of k.heap) l key) (sym (places_are k)) (nodes_are_reached k.heap (places_of k) stands key);
}

-- ---- writes

module _ (h : Heap) (count : ℕ → ℕ) (same : (k : ℕ) → count_at h k ≡ count k) where
  one_of : (p : Part) → IsSole h p → HasOne count p
  one_of p sole k is = omega (arith, same k, sole k is)

  sole_of : (p : Part) → HasOne count p → IsSole h p
  sole_of p one k is = omega (arith, same k, one k is)

  pub written_along : (n : Map) (path : List Step) (whole item made : Part) (copied : ℕ) → PutAlong h n whole path item copied made → WrittenAlong count (map_of h) n whole path item copied made
  written_along n [] whole item made copied along = along
  written_along n (s ∷ path) whole item made copied along = elim along [
    | inl here ↦ inl (record {
      key = here.key;
      whole_is = here.whole_is;
      one = omega (arith, same here.key, here.one);
      made_is = here.made_is;
      below = here.below;
      is = here.is;
      goes_on = written_along n path (part_at (map_of h) whole s) item here.below copied here.goes_on;
    })
    | inr there ↦ inr (record { many = λ one. there.many (sole_of whole one); along = there.copied; as_many = there.as_many })
  ]

  pub is_written : (k : ℕ) (path : List Step) (whole : Part) → IsInPlace h k whole path → IsWritten count (map_of h) k whole path
  is_written k [] whole here = here
  is_written k (s ∷ path) whole here = (
    one_of whole here.0,
    elim here.1 [
      | inl is ↦ inl is
      | inr more ↦ inr (is_written k path (part_at (map_of h) whole s) more)
    ],
  )

  pub room_along : (path : List Step) (whole : Part) → WriteFits count h.cap (map_of h) whole path → RoomAlong h whole path
  room_along [] whole fits = tt
  room_along (s ∷ path) whole fits = (
    (λ sole. room_along path (part_at (map_of h) whole s) (fits.0 (one_of whole sole))),
    (λ many k some. omega (arith, same k, fits.1 (λ one. many (sole_of whole one)) k some)),
  )

  pub sole_along : (path : List Step) (whole : Part) → HaveOne count (map_of h) whole path → Sole h whole path
  sole_along [] whole have = tt
  sole_along (s ∷ path) whole have = (sole_of whole have.0, sole_along path (part_at (map_of h) whole s) have.1)

  pub below_of : (p : Part) → CanTake count h.cap p 1 → IsBelow h h.cap p
  below_of Null can = tt
  below_of (Bool b) can = tt
  below_of (Int z) can = tt
  below_of (Key k) can = omega (arith, same k, can k refl)

  pub can_have : (p : Part) (many : ℕ) → CanTake count h.cap p many → CanHave h many p
  can_have p many can k is = omega (arith, same k, can k is)

-- ---- what registers show, and what they hold

part_meant : (m : Map) → ((k : ℕ) → IsSome (at m k) → IsMeant m (Key k)) → (p : Part) → ((k : ℕ) → p ≡ Key k → IsSome (at m k)) → IsMeant m p
part_meant m meant Null there = (datum.Null, refl)
part_meant m meant (Bool b) there = (Truth b, refl)
part_meant m meant (Int z) there = (Whole z, refl)
part_meant m meant (Key k) there = meant k (there k refl)

shown : (m : Map) → ((k : ℕ) → IsSome (at m k) → IsMeant m (Key k)) → (ps : List Part) → ((k : ℕ) → 1 ≤ held k ps → IsSome (at m k)) → (s : Store) × Shows m s ps
shown m meant [] there = ([], refl)
shown m meant (p ∷ ps) there =
    let d = part_meant m meant p (λ k is. there k (omega (arith, ap (holds k) is, holds_one k))) in
    let rest = shown m meant ps (λ k some. there k (omega (arith, some))) in
    (Some d.0 ∷ rest.0, (d.1, rest.1))

pub machine_shown : (k : Machine) → Stands k.heap (places_of k) → (s : Store) × Shows (map_of k.heap) s k.frame.registers.items
machine_shown k stands =
    let ps = k.frame.registers.items in
    shown (map_of k.heap) stands.counts.meant ps (λ key some. stands.counts.there key (omega (arith, some, stands.counts.counted key, held-append key ps (places_below (callers_of k)))))

slot_int : (m : Map) (o : Option Datum) (p : Part) (z : ℤ) → ShowsSlot m o p → p ≡ Int z → o ≡ Some (Whole z)
slot_int m None p z shows is = absurd (cc)
slot_int m (Some datum.Null) p z shows is = absurd (cc)
slot_int m (Some (Truth b)) p z shows is = absurd (cc)
slot_int m (Some (Whole w)) p z shows is = let both : Int w ≡ Int z = sym shows ∙ is in let same : w ≡ z = cc in ap (λ (y : ℤ). Some (Whole y)) same
slot_int m (Some (Array ds)) p z shows is = let key = shows.is_key in absurd (cc)
slot_int m (Some (Record fs)) p z shows is = let key = shows.is_key in absurd (cc)

-- a register that holds a number shows it
pub shows_int : (m : Map) (s : Store) (ps : List Part) (r : ℕ) (z : ℤ) → Shows m s ps → get_or ps r Null ≡ Int z → slot s r ≡ Some (Whole z)
shows_int m [] [] r z shows is = absurd (cc)
shows_int m [] (p ∷ ps) r z shows is = absurd (cc)
shows_int m (o ∷ s) [] r z shows is = absurd shows
shows_int m (o ∷ s) (p ∷ ps) zero z shows is = slot_int m o p z shows.0 is
shows_int m (o ∷ s) (p ∷ ps) (suc r) z shows is = shows_int m s ps r z shows.1 is

number_whole : (o : Option Datum) (z : ℤ) → number_in o ≡ Some z → o ≡ Some (Whole z)
number_whole None z is = absurd (cc)
number_whole (Some datum.Null) z is = absurd (cc)
number_whole (Some (Truth b)) z is = absurd (cc)
number_whole (Some (Whole w)) z is = let same : w ≡ z = cc in ap (λ (y : ℤ). Some (Whole y)) same
number_whole (Some (Array ds)) z is = absurd (cc)
number_whole (Some (Record fs)) z is = absurd (cc)

truth_whole : (o : Option Datum) (b : Boolean) → truth_in o ≡ Some b → o ≡ Some (Truth b)
truth_whole None b is = absurd (cc)
truth_whole (Some datum.Null) b is = absurd (cc)
truth_whole (Some (Truth c)) b is = let same : c ≡ b = cc in ap (λ (y : Boolean). Some (Truth y)) same
truth_whole (Some (Whole w)) b is = absurd (cc)
truth_whole (Some (Array ds)) b is = absurd (cc)
truth_whole (Some (Record fs)) b is = absurd (cc)

holds_number : (h : Heap) (ps : List Part) (s : Store) (r : ℕ) (z : ℤ) → Shows (map_of h) s ps → Reads h ps r number_in (Some z) → get_or ps r Null ≡ Int z
holds_number h ps s r z shows reads = shows_slot (map_of h) s ps r (Whole z) shows (number_whole (slot s r) z (sym (reads s shows)))

holds_truth : (h : Heap) (ps : List Part) (s : Store) (r : ℕ) (b : Boolean) → Shows (map_of h) s ps → Reads h ps r truth_in (Some b) → get_or ps r Null ≡ Bool b
holds_truth h ps s r b shows reads = shows_slot (map_of h) s ps r (Truth b) shows (truth_whole (slot s r) b (sym (reads s shows)))

lead_step : (h : Heap) (ps : List Part) (s : Store) → Shows (map_of h) s ps → (x : of_code.Slot) (y : of_heap.Slot) → IsSlotOf h ps x y → LeadsTo h.shapes ps x (step_of h.shapes y)
lead_step h ps s shows (path_step.Item r) y is = (is.0, holds_number h ps s r is.0 shows is.1, is.2, ap (step_of h.shapes) is.3)
lead_step h ps s shows (path_step.Field f) y is = ap (step_of h.shapes) is

pub lead_along : (h : Heap) (ps : List Part) (s : Store) → Shows (map_of h) s ps → (steps : List of_code.Slot) (path : List of_heap.Slot) → AreSlotsOf h ps steps path → LeadAlong h.shapes ps steps (steps_of h.shapes path)
lead_along h ps s shows [] path are = ap (steps_of h.shapes) are
lead_along h ps s shows (x ∷ xs) [] are = absurd are
lead_along h ps s shows (x ∷ xs) (y ∷ ys) are = (lead_step h ps s shows x y are.0, lead_along h ps s shows xs ys are.1)

-- ---- instructions

-- what an instruction made, with as many copies as were counted
abbrev Made : Code → Instr → Machine → Machine → Type 0
Made code i old new = (copied : ℕ) × Makes code i (state_of old) (state_of new) copied × (new.heap.copies ≡ raised old.heap.copies copied)

same_waiting : (old new : Machine) → new.callers.items ≡ old.callers.items → map waiting_of (callers_of new) ≡ map waiting_of (callers_of old)
same_waiting old new callers = ap (λ (l : List Caller). map waiting_of (reverse l)) callers

behind : (i : Instr) (old new : Machine) (between : Map) (copied : ℕ) → Does i (holders (state_of old)) old.heap.shapes (map_of old.heap) old.frame.registers.items between new.frame.registers.items copied → Lasts between (map_of new.heap) → SharesPlain i old new → GoesBehind i (state_of old) (state_of new) copied
behind i old new between copied does lasts shares = record {
  between = between;
  does = does;
  lasts = lasts;
  routine = shares.routine;
  next = shares.next;
  waiting = same_waiting old new shares.callers;
}

abbrev waits : ℕ → ℕ → List Part → ℕ → Waiting
waits r a ps t = record { routine = r; at = a; registers = ps; target = t }

waiting_is : (c : Caller) (r a t : ℕ) (ps : List Part) → c.frame.routine ≡ r → c.frame.at ≡ a → c.frame.registers.items ≡ ps → c.target ≡ t → waiting_of c ≡ waits r a ps t
waiting_is c r a t ps routine next registers target =
    ap (λ (n : ℕ). waits n c.frame.at c.frame.registers.items c.target) routine
    ∙ ap (λ (n : ℕ). waits r n c.frame.registers.items c.target) next
    ∙ ap (λ (l : List Part). waits r a l c.target) registers
    ∙ ap (λ (n : ℕ). waits r a ps n) target

pub makes : (code : Code) (i : Instr) (old new : Machine) → Stands old.heap (places_of old) → SharesBy code i old new → HasRoom old.heap.cap i (state_of old) → Made code i old new
makes code (instr.Const d c) old new stands shares room =
    (0, behind (instr.Const d c) old new (map_of old.heap) 0 (refl, shares.shares.registers, refl) shares.shares.spares.lasts shares, shares.shares.spares.copies)
makes code (instr.Move d r) old new stands shares room =
    (0, behind (instr.Move d r) old new (map_of old.heap) 0 (refl, shares.shares.registers, refl) shares.shares.spares.lasts shares, shares.shares.spares.copies)
makes code (instr.Share d r) old new stands shares room =
    let puts = shares.shares.0 (below_of old.heap (holders (state_of old)) (holders_are old stands) (part_in old.frame.registers.items r) room) in
    (0, behind (instr.Share d r) old new (map_of old.heap) 0 (refl, puts.registers, refl) puts.spares.lasts shares, puts.spares.copies)
makes code (instr.Clear rs) old new stands shares room =
    (0, behind (instr.Clear rs) old new (map_of old.heap) 0 (refl, shares.shares.0, refl) shares.shares.1.lasts shares, shares.shares.1.copies)
makes code (instr.Arith d op a b) old new stands shares room =
    (0, behind (instr.Arith d op a b) old new (map_of old.heap) 0 (shares.shares.0, shares.shares.1, (refl, shares.shares.2.registers, refl)) shares.shares.2.spares.lasts shares, shares.shares.2.spares.copies)
makes code (instr.Compare d op a b) old new stands shares room =
    (0, behind (instr.Compare d op a b) old new (map_of old.heap) 0 (shares.shares.0, shares.shares.1, (refl, shares.shares.2.registers, refl)) shares.shares.2.spares.lasts shares, shares.shares.2.spares.copies)
makes code (instr.Equal d a b) old new stands shares room =
    (0, behind (instr.Equal d a b) old new (map_of old.heap) 0 (shares.shares.0, shares.shares.1, (refl, shares.shares.2.registers, refl)) shares.shares.2.spares.lasts shares, shares.shares.2.spares.copies)
makes code (instr.Not d a) old new stands shares room =
    (0, behind (instr.Not d a) old new (map_of old.heap) 0 (shares.shares.0, shares.shares.1, (refl, shares.shares.2.registers, refl)) shares.shares.2.spares.lasts shares, shares.shares.2.spares.copies)
makes code (instr.Jump t) old new stands shares room = (
  0,
  record { registers = shares.0.registers; nodes = ap map_of shares.0.heap; routine = shares.0.routine; next = shares.1; waiting = same_waiting old new shares.0.callers; none = refl },
  ap (λ (h : Heap). h.copies) shares.0.heap,
)
makes code (instr.Branch r t) old new stands shares room =
    let sh = machine_shown old stands in (
      0,
      record {
        registers = shares.0.registers;
        nodes = ap map_of shares.0.heap;
        routine = shares.0.routine;
        next = elim shares.1 [
          | inl on ↦ inl (holds_truth old.heap old.frame.registers.items sh.0 r true sh.1 on.0, on.1)
          | inr to ↦ inr (holds_truth old.heap old.frame.registers.items sh.0 r false sh.1 to.0, to.1)
        ];
        waiting = same_waiting old new shares.0.callers;
        none = refl;
      },
      ap (λ (h : Heap). h.copies) shares.0.heap,
    )
makes code (instr.Array d rs) old new stands shares room =
    let puts = shares.shares in
    (0, behind (instr.Array d rs) old new puts.between 0 (record { made = puts.made; is_new = puts.is_new; registers = puts.registers; none = refl }) puts.lasts shares, puts.copies)
makes code (instr.Record d k rs) old new stands shares room =
    let puts = shares.shares in
    (0, behind (instr.Record d k rs) old new puts.between 0 (record { made = puts.made; is_new = puts.is_new; registers = puts.registers; none = refl }) puts.lasts shares, puts.copies)
makes code (instr.Fill d v n) old new stands shares room =
    let sh = machine_shown old stands in
    let ps = old.frame.registers.items in
    let puts = shares.shares.0 sh.0 room.0 sh.1 (shows_int (map_of old.heap) sh.0 ps n (pos room.0) sh.1 room.1) (can_have old.heap (holders (state_of old)) (holders_are old stands) (part_in ps v) room.0 room.2) in
    (0, behind (instr.Fill d v n) old new puts.between 0 (room.0, room.1, record { made = puts.made; is_new = puts.is_new; registers = puts.registers; none = refl }) puts.lasts shares, puts.copies)
makes code (instr.Len d a) old new stands shares room =
    (0, behind (instr.Len d a) old new (map_of old.heap) 0 (shares.shares.0, shares.shares.1, (refl, shares.shares.2.registers, refl)) shares.shares.2.spares.lasts shares, shares.shares.2.spares.copies)
makes code (instr.Get d a i) old new stands shares room =
    let sh = machine_shown old stands in
    let ps = old.frame.registers.items in
    let puts = shares.shares.0 sh.0 room.0 sh.1 (shows_int (map_of old.heap) sh.0 ps i (pos room.0) sh.1 room.1) (below_of old.heap (holders (state_of old)) (holders_are old stands) (part_at (map_of old.heap) (part_in ps a) (item_at room.0)) room.2) in
    (0, behind (instr.Get d a i) old new (map_of old.heap) 0 (room.0, room.1, (refl, puts.registers, refl)) puts.spares.lasts shares, puts.spares.copies)
makes code (instr.Field d a f) old new stands shares room =
    let puts = shares.shares.0 (below_of old.heap (holders (state_of old)) (holders_are old stands) (part_at (map_of old.heap) (part_in old.frame.registers.items a) (step_of old.heap.shapes (heap_slot.Field f))) room) in
    (0, behind (instr.Field d a f) old new (map_of old.heap) 0 (refl, puts.registers, refl) puts.spares.lasts shares, puts.spares.copies)
makes code (instr.Put a path v) old new stands shares room =
    let sh = machine_shown old stands in
    let h = old.heap in
    let ps = old.frame.registers.items in
    let count = holders (state_of old) in
    let same = holders_are old stands in
    let place = part_in (set ps v Null) a in
    let steps = steps_of h.shapes shares.shares.0 in
    let lead = lead_along h ps sh.0 sh.1 path shares.shares.0 shares.shares.1 in
    let puts = shares.shares.2.room (room_along h count same steps place (room steps lead)) in
    let does : Does (instr.Put a path v) count h.shapes (map_of h) ps (map_of puts.between) new.frame.registers.items puts.puts.copies = (
      steps,
      lead,
      record {
        made = puts.made;
        along = written_along h count same (map_of puts.between) steps place (part_in ps v) puts.made puts.puts.copies puts.puts.along;
        others = λ k some. elim (puts.puts.others k some) [
          | inl gone ↦ inl gone
          | inr rest ↦ inr (elim rest [ inl was ↦ inl was | inr here ↦ inr (is_written h count same k steps place here) ])
        ];
        registers = puts.registers;
      },
    ) in
    (puts.puts.copies, behind (instr.Put a path v) old new (map_of puts.between) puts.puts.copies does puts.lasts shares, puts.copies ∙ puts.puts.counted)
makes code (instr.Kind d a k) old new stands shares room =
    (0, behind (instr.Kind d a k) old new (map_of old.heap) 0 (shares.shares.0, shares.shares.1, (refl, shares.shares.2.registers, refl)) shares.shares.2.spares.lasts shares, shares.shares.2.spares.copies)
makes code (instr.Call d f rs) old new stands shares room = (
  0,
  record {
    callee = shares.callee;
    is = shares.is;
    registers = shares.registers;
    routine = shares.routine;
    next = shares.next;
    waiting = ap (map waiting_of) (pushed old.callers.items shares.waiting new.callers.items shares.callers)
        ∙ ap (λ (w : Waiting). w ∷ map waiting_of (callers_of old)) (waiting_is shares.waiting old.frame.routine (old.frame.at + 1) d (emptied old.frame.registers.items rs) shares.left_routine shares.left_next shares.left shares.target);
    nodes = ap map_of shares.heap;
    none = refl;
  },
  ap (λ (h : Heap). h.copies) shares.heap,
)
makes code (instr.Return r) old new stands shares room = (
  0,
  record {
    caller = waiting_of shares.waiting;
    waiting = ap (map waiting_of) (pushed new.callers.items shares.waiting old.callers.items shares.callers);
    registers = shares.registers;
    routine = shares.routine;
    next = shares.next;
    lasts = shares.spares.lasts;
    none = refl;
  },
  shares.spares.copies,
)
makes code (instr.Print a) old new stands shares room = (
  0,
  record { registers = shares.0.registers; nodes = ap map_of shares.0.heap; routine = shares.0.routine; next = shares.1; waiting = same_waiting old new shares.0.callers; none = refl },
  ap (λ (h : Heap). h.copies) shares.0.heap,
)
makes code (instr.PrintInt a) old new stands shares room = (
  0,
  record { registers = shares.0.registers; nodes = ap map_of shares.0.heap; routine = shares.0.routine; next = shares.1; waiting = same_waiting old new shares.0.callers; none = refl },
  ap (λ (h : Heap). h.copies) shares.0.heap,
)

-- what copies an instruction counts, at the cap too
counts_by : (code : Code) (i : Instr) (old new : Machine) → SharesBy code i old new → CountsIn i old.heap new.heap old.frame.registers.items
counts_by code (instr.Const d c) old new shares = tt
counts_by code (instr.Move d r) old new shares = tt
counts_by code (instr.Share d r) old new shares = shares.shares.1
counts_by code (instr.Clear rs) old new shares = tt
counts_by code (instr.Arith d op a b) old new shares = tt
counts_by code (instr.Compare d op a b) old new shares = tt
counts_by code (instr.Equal d a b) old new shares = tt
counts_by code (instr.Not d a) old new shares = tt
counts_by code (instr.Jump t) old new shares = tt
counts_by code (instr.Branch r t) old new shares = tt
counts_by code (instr.Array d rs) old new shares = tt
counts_by code (instr.Record d k rs) old new shares = tt
counts_by code (instr.Fill d v n) old new shares = shares.shares.1
counts_by code (instr.Len d a) old new shares = tt
counts_by code (instr.Get d a i) old new shares = shares.shares.1
counts_by code (instr.Field d a f) old new shares = shares.shares.1
counts_by code (instr.Put a path v) old new shares = tt
counts_by code (instr.Kind d a k) old new shares = tt
counts_by code (instr.Call d f rs) old new shares = tt
counts_by code (instr.Return r) old new shares = tt
counts_by code (instr.Print a) old new shares = tt
counts_by code (instr.PrintInt a) old new shares = tt

-- a turn that went follows the step
pub follows : (code : Code) (i : Instr) (old new : Machine) → instr_of code old ≡ Some i → Stands old.heap (places_of old) → Stands new.heap (places_of new) → new.heap.shapes ≡ old.heap.shapes → new.heap.cap ≡ old.heap.cap → SharesBy code i old new → Follows code old new
follows code i old new is stands after shapes cap shares = record {
  cap = cap;
  step = λ room.
      let made = makes code i old new stands shares (subst (λ (o : Option Instr). HasRoomNext old.heap.cap o (state_of old)) is room) in
      (made.0, record { by = i; is = is; makes = made.1; no_dead = no_dead new after; shapes = shapes }, made.2);
  counts = subst (λ (o : Option Instr). CountsNext o old.heap new.heap old.frame.registers.items) (sym is) (counts_by code i old new shares);
}

-- ---- the end of a run

reach_more : (m n : Map) (ps : List Part) (k : ℕ) → More n m → Reach n ps k → Reach m ps k
reach_more m n ps k more (root _ some) = root k some
reach_more m n ps k more (part j _ b reach is some) = part j k b (reach_more m n ps j more reach) (more j b is) some

left_more : (m n : Map) → Lasts m n → More n m
left_more m n lasts k b is = elim (lasts k) [
  | inl gone ↦ absurd (let none : None ≡ Some b = sym gone ∙ is in cc)
  | inr same ↦ sym same ∙ is
]

pub leads_many : (h : Heap) (p : Part) (copies nodes : ℕ) → LeavesNodes h p copies nodes → LeadsToMany (map_of h) p nodes
leads_many h p copies nodes leaves =
    let more = left_more (map_of h) (map_of leaves.heap) leaves.lasts in
    record {
      left = map_of leaves.heap;
      same = more;
      are = λ k. (
        (λ is. reach_more (map_of h) (map_of leaves.heap) (p ∷ []) k more ((nodes_are_reached leaves.heap (p ∷ []) leaves.stands k).0 is)),
        (λ reach. reached_old leaves.heap h (p ∷ []) leaves.stands.counts more k reach),
      );
      as_many = leaves.nodes_are;
    }

pub ends_in : (code : Code) (old : Machine) (from copies nodes : ℕ) → instr_of code old ≡ Some (instr.Return from) → ReturnsLast old from copies nodes → EndsIn code (state_of old) nodes
ends_in code old from copies nodes is ends = record {
  from = from;
  is = is;
  last = ap (λ (l : List Caller). map waiting_of (reverse l)) ends.last;
  leads = leads_many old.heap (part_in old.frame.registers.items from) copies nodes ends.leaves;
}

-- ---- want of memory

instr_found : (o : Option Routine) (n : ℕ) (i : Instr) → instr_at o n ≡ Some i → (r : Routine) × (o ≡ Some r) × (slice_get r.body n ≡ Some i)
instr_found None n i is = absurd (cc)
instr_found (Some r) n i is = (r, refl, is)

path_fits : (code : Code) (k : Machine) (a : ℕ) (path : List of_code.Slot) (v : ℕ) → instr_of code k ≡ Some (instr.Put a path v) → PathsFit code (vec_capacity k.path) → length path ≤ vec_capacity k.path
path_fits code k a path v is fits =
    let found = instr_found (slice_get code.routines k.frame.routine) k.frame.at (instr.Put a path v) is in
    fits k.frame.routine found.0 found.1 k.frame.at (instr.Put a path v) found.2 a path v refl

pub takes_memory : (code : Code) (i : Instr) (k : Machine) → instr_of code k ≡ Some i → IsMachine code k → WantsBy i k → TakesMemory k.heap.cap i (state_of k)
takes_memory code (instr.Const d c) k at_is is wants = absurd wants
takes_memory code (instr.Move d r) k at_is is wants = absurd wants
takes_memory code (instr.Share d r) k at_is is wants = λ can. wants (below_of k.heap (holders (state_of k)) (holders_are k is.stands) (part_in k.frame.registers.items r) can)
takes_memory code (instr.Clear rs) k at_is is wants = absurd wants
takes_memory code (instr.Arith d op a b) k at_is is wants = absurd wants
takes_memory code (instr.Compare d op a b) k at_is is wants = absurd wants
takes_memory code (instr.Equal d a b) k at_is is wants = tt
takes_memory code (instr.Not d a) k at_is is wants = absurd wants
takes_memory code (instr.Jump t) k at_is is wants = absurd wants
takes_memory code (instr.Branch r t) k at_is is wants = absurd wants
takes_memory code (instr.Array d rs) k at_is is wants = tt
takes_memory code (instr.Record d n rs) k at_is is wants = tt
takes_memory code (instr.Fill d v n) k at_is is wants = tt
takes_memory code (instr.Len d a) k at_is is wants = absurd wants
takes_memory code (instr.Get d a i) k at_is is wants = λ j number can.
    let sh = machine_shown k is.stands in
    wants sh.0 j sh.1 (shows_int (map_of k.heap) sh.0 k.frame.registers.items i (pos j) sh.1 number) (below_of k.heap (holders (state_of k)) (holders_are k is.stands) (part_at (map_of k.heap) (part_in k.frame.registers.items a) (item_at j)) can)
takes_memory code (instr.Field d a f) k at_is is wants = λ can. wants (below_of k.heap (holders (state_of k)) (holders_are k is.stands) (part_at (map_of k.heap) (part_in k.frame.registers.items a) (step_of k.heap.shapes (heap_slot.Field f))) can)
takes_memory code (instr.Put a path v) k at_is is wants =
    let sh = machine_shown k is.stands in
    let h = k.heap in
    let ps = k.frame.registers.items in
    let not_sole = wants (path_fits code k a path v at_is is.paths) in
    let steps = steps_of h.shapes not_sole.0 in
    (steps, lead_along h ps sh.0 sh.1 path not_sole.0 not_sole.1, λ have. not_sole.2 (sole_along h (holders (state_of k)) (holders_are k is.stands) steps (part_in (set ps v Null) a) have))
takes_memory code (instr.Kind d a n) k at_is is wants = absurd wants
takes_memory code (instr.Call d f rs) k at_is is wants = tt
takes_memory code (instr.Return r) k at_is is wants = ap (λ (l : List Caller). map waiting_of (reverse l)) wants
takes_memory code (instr.Print a) k at_is is wants = absurd wants
takes_memory code (instr.PrintInt a) k at_is is wants = absurd wants

-- ---- turns

pub longer_room : (code : Code) (old new : Machine) → vec_capacity old.path ≤ vec_capacity new.path → PathsFit code (vec_capacity old.path) → PathsFit code (vec_capacity new.path)
longer_room code old new more fits f r there at i here a path v is = omega (arith, more, fits f r there at i here a path v is)

pub ok_both : {T E : Type 0} (r : Result T E) (P Q S : T → Type 0) → ((t : T) → P t → Q t → S t) → IfOk r P → IfOk r Q → IfOk r S
ok_both (Ok t) P Q S f p q = f t p q
ok_both (Err e) P Q S f p q = tt

pub turned_shared : (code : Code) (i : Instr) (old new : Machine) (t : Turn) → instr_of code old ≡ Some i → Stands old.heap (places_of old) → Stands new.heap (places_of new) → KeepsRest old new → (t ≡ turn.Went → SharesBy code i old new) → EndsSo (EndsBy i old) t → TurnsShared code old new t
turned_shared code i old new t is stands after kept shares ends =
    turns_shared code old new t (λ went. follows code i old new is stands after kept.shapes kept.cap (shares went))
    (ends_so t (EndsBy i old) (λ copies nodes. EndsIn code (state_of old) nodes × (copies ≡ old.heap.copies))
    (λ copies nodes by. by_return code old i copies nodes (EndsIn code (state_of old) nodes × (copies ≡ old.heap.copies)) by
    (λ from i_is last. (ends_in code old from copies nodes (is ∙ ap (λ (j : Instr). Some j) i_is) last, last.leaves.copies_are))) ends)
