-- What a turn does where it calls and returns nothing.
use Rattle.std.proofs.Common.{◌≡◌, ℕ, ◌+◌, List, [], Option, Some, None, refl, sym, ◌∙◌, ap, subst}
use Rattle.std.proofs.lemmas.List.{append-nil}
use Rattle.std.specs.Prelude.{Result, Ok, Err, OnOk, OnErr, IfOk, IfErr, slice_get}
use Rattle.wy_heap.specs.Nodes.{map_of}
use Rattle.wy_heap.specs.Standing.{Stands}
use Rattle.wy_code.specs.declared.instructions.Scalar.{Scalar}
use Rattle.wy_code.specs.declared.instructions.Arithmetic.{Arithmetic}
use Rattle.wy_code.specs.declared.instructions.Comparison.{Comparison}
use Rattle.wy_code.specs.declared.instructions.Slot as code
use Rattle.wy_code.specs.declared.instructions.Kind as kind
use Rattle.wy_code.specs.declared.instructions.Instr.{Instr}
use Rattle.wy_code.specs.declared.instructions.Instr.TheVariants as instr
use Rattle.wy_code.specs.declared.routines.Code.{Code}
use Rattle.wy_sem.specs.Expressions.{Store}
use Rattle.wy_code_spec.specs.step.Step.{Frame, Caller, Effect, GoesOn, GoesTo, Calls, Returns, Fails, effect, stepped, executed, next_of, instr_at}
use Rattle.wy_mach.specs.declared.stop.Stop.{Stop}
use Rattle.wy_mach.specs.declared.stop.Stop.TheVariants as stop
use Rattle.wy_mach.specs.declared.stop.Stuck as instruction
use Rattle.wy_mach.specs.Showing.{Shows, Leaves, WentOn, HasNone, Turns}
use Rattle.wy_mach.specs.Printed.{TookAll, TookSome, Prints, PrintsSome}
use Rattle.wy_mach.specs.declared.machine.Machine.{Machine}
use Rattle.wy_mach.specs.declared.machine.Turn.{Turn}
use Rattle.wy_mach.specs.declared.machine.Turn.TheVariants as turn
use Rattle.wy_mach.specs.States.{HasInts, places_below, places_of, callers_of, ShowsCallers, ShowsState}
use Rattle.wy_mach.specs.Running.{Reaches, EndsWith, Breaks, Steps, HasNoNext, HasTextOf, LeavesResult, Turned, next_by, next_in, instr_of, IsPlain, IsMoving, HasInt, stop_result}
use Rattle.wy_mach.proofs.StateLemmas.{callers_same, nothing_taken}

-- ---- answers

pub ok_of_stop : (r : Result (Unit {0}) instruction.Stuck) (q : Result (Unit {0}) Stop) (P : Type 0) → q ≡ stop_result r → OnOk r P → OnOk q P
ok_of_stop (Ok u) q P is p = subst (λ (x : Result (Unit {0}) Stop). OnOk x P) (sym is) p
ok_of_stop (Err e) q P is p = subst (λ (x : Result (Unit {0}) Stop). OnOk x P) (sym is) tt

pub err_of_stop : (r : Result (Unit {0}) instruction.Stuck) (q : Result (Unit {0}) Stop) (P : Stop → Type 0) → q ≡ stop_result r → OnErr r (P stop.Stuck) → IfErr q P
err_of_stop (Ok u) q P is p = subst (λ (x : Result (Unit {0}) Stop). IfErr x P) (sym is) tt
err_of_stop (Err e) q P is p = subst (λ (x : Result (Unit {0}) Stop). IfErr x P) (sym is) p

pub not_memory : (r : Result (Unit {0}) instruction.Stuck) (q : Result (Unit {0}) Stop) (P : Type 0) → q ≡ stop_result r → IfErr q (λ e. e ≡ stop.NoMemory → P)
not_memory (Ok u) q P is = subst (λ (x : Result (Unit {0}) Stop). IfErr x (λ e. e ≡ stop.NoMemory → P)) (sym is) tt
not_memory (Err e) q P is = subst (λ (x : Result (Unit {0}) Stop). IfErr x (λ e. e ≡ stop.NoMemory → P)) (sym is) (λ no. absurd (cc))

pub on_err : {T E : Type 0} (r : Result T E) (P Q : Type 0) → (P → Q) → OnErr r P → OnErr r Q
on_err (Ok x) P Q f p = tt
on_err (Err e) P Q f p = f p

pub all_err : {T E : Type 0} (r : Result T E) (Q : E → Type 0) → ((e : E) → Q e) → IfErr r Q
all_err (Ok x) Q f = tt
all_err (Err e) Q f = f e

-- ---- the instruction that comes next

instr_same : (code : Code) (old : Machine) (fr : Frame) (callers : List Caller) → ShowsState old fr callers → next_of code.routines fr ≡ instr_of code old
instr_same code old fr callers shows =
    ap (λ (n : ℕ). instr_at (slice_get code.routines n) fr.at) (sym shows.frame.routine) ∙ ap (instr_at (slice_get code.routines old.frame.routine)) (sym shows.frame.at)

next_is : (code : Code) (i : Instr) (old : Machine) (fr : Frame) (callers : List Caller) (output : List ℕ) → instr_of code old ≡ Some i → ShowsState old fr callers → next_in code fr callers output ≡ next_by code i fr callers output
next_is code i old fr callers output is shows = ap (executed code fr callers output) (instr_same code old fr callers shows ∙ is)

-- ---- an instruction that goes on behind

reaches : (code : Code) (k : Machine) (before : Option (List ℕ)) (fr : Frame) (callers : List Caller) (output : List ℕ) (e : Effect) → Leaves (map_of k.heap) k.frame.registers.items [] e → k.frame.routine ≡ fr.routine → k.frame.at ≡ fr.at + 1 → ShowsCallers (map_of k.heap) callers (callers_of k)
    → Reaches k before before output (stepped code fr callers output e)
reaches code k before fr callers output (GoesOn s printed) leaves routine at shows = (
  record { frame = record { routine = routine; at = at; registers = leaves.0 }; callers = shows },
  (printed, refl, nothing_taken before printed leaves.1),
)
reaches code k before fr callers output (GoesTo t) leaves routine at shows = absurd leaves
reaches code k before fr callers output (Calls d f vs s) leaves routine at shows = absurd leaves
reaches code k before fr callers output (Returns v) leaves routine at shows = absurd leaves
reaches code k before fr callers output Fails leaves routine at shows = tt

pub plain_steps : (code : Code) (i : Instr) (old new : Machine) (before : Option (List ℕ)) → Turns old.heap new.heap old.frame.registers.items new.frame.registers.items → WentOn (map_of old.heap) (map_of new.heap) old.frame.registers.items new.frame.registers.items (effect code.shapes i) → new.frame.routine ≡ old.frame.routine → new.frame.at ≡ old.frame.at + 1 → new.callers.items ≡ old.callers.items → Stands old.heap (places_of old)
    → Steps (next_by code i) old new before before
plain_steps code i old new before turns value routine at same stands fr callers output shows =
    let kept = (turns (places_below (callers_of old)) stands).keeps in
    reaches code new before fr callers output (effect code.shapes i fr.registers) (value fr.registers shows.frame.registers) (routine ∙ shows.frame.routine) (at ∙ ap (λ (n : ℕ). n + 1) shows.frame.at)
    (callers_same old new callers same kept shows.callers)

pub no_step : (code : Code) (i : Instr) (old : Machine) → HasNone (map_of old.heap) old.frame.registers.items (effect code.shapes i) → HasNoNext (next_by code i) old
no_step code i old none fr callers output shows = ap (stepped code fr callers output) (none fr.registers shows.frame.registers)

-- ---- `Jump` and `Branch`

-- the machine at another instruction of its frame
abbrev pub machine_at : Machine → ℕ → Machine
machine_at k t = record k { frame = record k.frame { at = t } }

pub goes_to : (code : Code) (old : Machine) (before : Option (List ℕ)) (t : ℕ) (fr : Frame) (callers : List Caller) (output : List ℕ) → ShowsState old fr callers → Reaches (machine_at old t) before before output (stepped code fr callers output (GoesTo t))
goes_to code old before t fr callers output shows = (
  record { frame = record { routine = shows.frame.routine; at = refl; registers = shows.frame.registers }; callers = shows.callers },
  ([], sym (append-nil output), nothing_taken before [] refl),
)

pub jump_steps : (code : Code) (old : Machine) (before : Option (List ℕ)) (t : ℕ) → Steps (next_by code (instr.Jump t)) old (machine_at old t) before before
jump_steps code old before t fr callers output shows = goes_to code old before t fr callers output shows

-- ---- prints

print_reaches : (code : Code) (old : Machine) (before after : Option (List ℕ)) (fr : Frame) (callers : List Caller) (output : List ℕ) (e : Effect) → TookAll fr.registers before after e → ShowsState old fr callers → Reaches (machine_at old (old.frame.at + 1)) before after output (stepped code fr callers output e)
print_reaches code old before after fr callers output (GoesOn t printed) took shows = (
  record {
    frame = record {
      routine = shows.frame.routine;
      at = ap (λ (n : ℕ). n + 1) shows.frame.at;
      registers = subst (λ (l : Store). Shows (map_of old.heap) l old.frame.registers.items) (sym took.0) shows.frame.registers;
    };
    callers = shows.callers;
  },
  (printed, refl, took.1),
)
print_reaches code old before after fr callers output (GoesTo t) took shows = absurd took
print_reaches code old before after fr callers output (Calls d f vs s) took shows = absurd took
print_reaches code old before after fr callers output (Returns v) took shows = absurd took
print_reaches code old before after fr callers output Fails took shows = tt

print_stops : (code : Code) (before after : Option (List ℕ)) (fr : Frame) (callers : List Caller) (output : List ℕ) (e : Effect) → TookSome before after e → Breaks before after output (stepped code fr callers output e)
print_stops code before after fr callers output (GoesOn t printed) took = (printed, refl, took)
print_stops code before after fr callers output (GoesTo t) took = absurd took
print_stops code before after fr callers output (Calls d f vs s) took = absurd took
print_stops code before after fr callers output (Returns v) took = absurd took
print_stops code before after fr callers output Fails took = tt

pub print_steps : (code : Code) (i : Instr) (old : Machine) (before after : Option (List ℕ)) → Prints (map_of old.heap) old.frame.registers.items before after (effect code.shapes i) → Steps (next_by code i) old (machine_at old (old.frame.at + 1)) before after
print_steps code i old before after prints fr callers output shows =
    print_reaches code old before after fr callers output (effect code.shapes i fr.registers) (prints fr.registers shows.frame.registers) shows

pub print_fault : (code : Code) (i : Instr) (old : Machine) (before after : Option (List ℕ)) → PrintsSome (map_of old.heap) old.frame.registers.items before after (effect code.shapes i)
    → (fr : Frame) (callers : List Caller) (output : List ℕ) → ShowsState old fr callers → Breaks before after output (next_by code i fr callers output)
print_fault code i old before after prints fr callers output shows =
    print_stops code before after fr callers output (effect code.shapes i fr.registers) (prints fr.registers shows.frame.registers)

-- ---- the next instruction

-- what is so of an instruction is so of the step, where that is the next one
pub turned_by : (code : Code) (i : Instr) (old new : Machine) (before after : Option (List ℕ)) (failed fails : ℕ) (t : Turn) → instr_of code old ≡ Some i → Turned (next_by code i) old new before after failed fails t → Turned (next_in code) old new before after failed fails t
turned_by code i old new before after failed fails turn.Went is turned = λ fr callers output shows.
    subst (Reaches new before after output) (sym (next_is code i old fr callers output is shows)) (turned fr callers output shows)
turned_by code i old new before after failed fails (turn.Done text copies nodes) is turned = (
  λ fr callers output shows. subst (EndsWith (λ v. HasTextOf old.has_result text v × LeavesResult old.heap copies nodes v) output) (sym (next_is code i old fr callers output is shows)) (turned.0 fr callers output shows),
  turned.1,
)
turned_by code i old new before after failed fails turn.OutFault is turned = (
  λ fr callers output shows. subst (Breaks before after output) (sym (next_is code i old fr callers output is shows)) (turned.0 fr callers output shows),
  turned.1,
)
turned_by code i old new before after failed fails turn.Stuck is turned = (
  λ fr callers output shows. next_is code i old fr callers output is shows ∙ turned.0 fr callers output shows,
  turned.1,
)

-- nothing comes next where there is no instruction
pub no_instr : (code : Code) (old : Machine) → instr_of code old ≡ None → HasNoNext (next_in code) old
no_instr code old none fr callers output shows = ap (executed code fr callers output) (instr_same code old fr callers shows ∙ none)

pub if_ok : {T E : Type 0} (r : Result T E) (P Q : T → Type 0) → ((x : T) → P x → Q x) → IfOk r P → IfOk r Q
if_ok (Ok x) P Q f p = f x p
if_ok (Err e) P Q f p = tt

-- ---- kinds of instructions

pub is_moving : (i : Instr) → IsPlain i → ((d r : ℕ) → i ≡ instr.Share d r → ⊥) → ((d a b : ℕ) → i ≡ instr.Equal d a b → ⊥) → ((d : ℕ) (rs : List ℕ) → i ≡ instr.Array d rs → ⊥) → ((d k : ℕ) (rs : List ℕ) → i ≡ instr.Record d k rs → ⊥) → ((d v n : ℕ) → i ≡ instr.Fill d v n → ⊥) → ((d a j : ℕ) → i ≡ instr.Get d a j → ⊥) → ((d a f : ℕ) → i ≡ instr.Field d a f → ⊥) → ((a : ℕ) (path : List code.Slot) (v : ℕ) → i ≡ instr.Put a path v → ⊥) → IsMoving i
is_moving (instr.Const d c) plain s e a r f g h p = tt
is_moving (instr.Move d q) plain s e a r f g h p = tt
is_moving (instr.Share d q) plain s e a r f g h p = absurd (s d q refl)
is_moving (instr.Clear rs) plain s e a r f g h p = tt
is_moving (instr.Arith d op x y) plain s e a r f g h p = tt
is_moving (instr.Compare d op x y) plain s e a r f g h p = tt
is_moving (instr.Equal d x y) plain s e a r f g h p = absurd (e d x y refl)
is_moving (instr.Not d x) plain s e a r f g h p = tt
is_moving (instr.Jump t) plain s e a r f g h p = absurd plain
is_moving (instr.Branch q t) plain s e a r f g h p = absurd plain
is_moving (instr.Array d rs) plain s e a r f g h p = absurd (a d rs refl)
is_moving (instr.Record d k rs) plain s e a r f g h p = absurd (r d k rs refl)
is_moving (instr.Fill d v n) plain s e a r f g h p = absurd (f d v n refl)
is_moving (instr.Len d x) plain s e a r f g h p = tt
is_moving (instr.Get d x j) plain s e a r f g h p = absurd (g d x j refl)
is_moving (instr.Field d x n) plain s e a r f g h p = absurd (h d x n refl)
is_moving (instr.Put x path v) plain s e a r f g h p = absurd (p x path v refl)
is_moving (instr.Kind d x k) plain s e a r f g h p = tt
is_moving (instr.Call d n rs) plain s e a r f g h p = absurd plain
is_moving (instr.Return q) plain s e a r f g h p = absurd plain
is_moving (instr.Print x) plain s e a r f g h p = absurd plain
is_moving (instr.PrintInt x) plain s e a r f g h p = absurd plain

pub none_moves : (i : Instr) → IsMoving i → ((d : ℕ) (x : Scalar) → i ≡ instr.Const d x → ⊥) → ((d r : ℕ) → i ≡ instr.Move d r → ⊥) → ((rs : List ℕ) → i ≡ instr.Clear rs → ⊥) → ((d : ℕ) (op : Arithmetic) (a b : ℕ) → i ≡ instr.Arith d op a b → ⊥) → ((d : ℕ) (op : Comparison) (a b : ℕ) → i ≡ instr.Compare d op a b → ⊥) → ((d a : ℕ) → i ≡ instr.Not d a → ⊥) → ((d a : ℕ) → i ≡ instr.Len d a → ⊥) → ((d a : ℕ) (k : kind.Kind) → i ≡ instr.Kind d a k → ⊥) → ⊥
none_moves (instr.Const d x) moving c m l a p n s k = c d x refl
none_moves (instr.Move d q) moving c m l a p n s k = m d q refl
none_moves (instr.Clear rs) moving c m l a p n s k = l rs refl
none_moves (instr.Arith d op x y) moving c m l a p n s k = a d op x y refl
none_moves (instr.Compare d op x y) moving c m l a p n s k = p d op x y refl
none_moves (instr.Not d x) moving c m l a p n s k = n d x refl
none_moves (instr.Len d x) moving c m l a p n s k = s d x refl
none_moves (instr.Kind d x j) moving c m l a p n s k = k d x j refl
none_moves (instr.Share d q) moving c m l a p n s k = moving
none_moves (instr.Equal d x y) moving c m l a p n s k = moving
none_moves (instr.Jump t) moving c m l a p n s k = moving
none_moves (instr.Branch q t) moving c m l a p n s k = moving
none_moves (instr.Array d rs) moving c m l a p n s k = moving
none_moves (instr.Record d j rs) moving c m l a p n s k = moving
none_moves (instr.Fill d v j) moving c m l a p n s k = moving
none_moves (instr.Get d x j) moving c m l a p n s k = moving
none_moves (instr.Field d x j) moving c m l a p n s k = moving
none_moves (instr.Put x path v) moving c m l a p n s k = moving
none_moves (instr.Call d j rs) moving c m l a p n s k = moving
none_moves (instr.Return q) moving c m l a p n s k = moving
none_moves (instr.Print x) moving c m l a p n s k = moving
none_moves (instr.PrintInt x) moving c m l a p n s k = moving

pub has_int : (code : Code) (old : Machine) (i : Instr) → HasInts code → instr_of code old ≡ Some i → HasInt i
has_int code old (instr.Const d x) ints is = ints old.frame.routine old.frame.at d x is
has_int code old (instr.Move d q) ints is = tt
has_int code old (instr.Share d q) ints is = tt
has_int code old (instr.Clear rs) ints is = tt
has_int code old (instr.Arith d op x y) ints is = tt
has_int code old (instr.Compare d op x y) ints is = tt
has_int code old (instr.Equal d x y) ints is = tt
has_int code old (instr.Not d x) ints is = tt
has_int code old (instr.Jump t) ints is = tt
has_int code old (instr.Branch q t) ints is = tt
has_int code old (instr.Array d rs) ints is = tt
has_int code old (instr.Record d k rs) ints is = tt
has_int code old (instr.Fill d v n) ints is = tt
has_int code old (instr.Len d x) ints is = tt
has_int code old (instr.Get d x j) ints is = tt
has_int code old (instr.Field d x n) ints is = tt
has_int code old (instr.Put x path v) ints is = tt
has_int code old (instr.Kind d x k) ints is = tt
has_int code old (instr.Call d f rs) ints is = tt
has_int code old (instr.Return q) ints is = tt
has_int code old (instr.Print x) ints is = tt
has_int code old (instr.PrintInt x) ints is = tt
