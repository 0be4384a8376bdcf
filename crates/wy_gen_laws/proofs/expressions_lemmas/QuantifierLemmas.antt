-- Quantifiers: turns over numbers, of which each spends a tick and may be the last.
use Rattle.std.proofs.Common.{◌≡◌, ◌<◌, ◌≤◌, ◌⊎◌, inl, inr, ℕ, zero, suc, ◌+◌, ◌-◌, List, [], ◌∷◌, ◌++◌, length, Bool, true, false, Option, Some, ℤ, pos, refl, sym, ◌∙◌, ap, subst, arith, length-append}
use Rattle.std.specs.Prelude.{◌≢◌, ◌+ℤ◌, not, int_lt}
use Rattle.wy_lemmas.proofs.Choices.{false_true as never}
use Rattle.wy_vc_spec.proofs.wy_sem_proofs.SharedLemmas.{span_more}
use Rattle.wy_value.specs.Datum.{Datum, Truth, Whole}
use Rattle.wy_value.specs.Numbers.{is_int}
use Rattle.wy_core.specs.CoreTree.{Expr}
use Rattle.wy_core.specs.formed.Offers.{Offers}
use Rattle.wy_core.specs.formed.Bound.{Scope, Has, IsNew, BoundExpr}
use Rattle.wy_core.specs.formed.Sizes.{size}
use Rattle.wy_code_spec.specs.wy_live.Sets.{Variables, has}
use Rattle.wy_code_spec.specs.wy_live.Walks.{before, turned}
use Rattle.wy_code.specs.declared.instructions.Scalar.TheVariants as scalar
use Rattle.wy_code.specs.declared.instructions.Arithmetic.TheVariants as arithmetic
use Rattle.wy_code.specs.declared.instructions.Comparison.TheVariants as comparison
use Rattle.wy_code.specs.declared.instructions.Instr.{Instr}
use Rattle.wy_code.specs.declared.instructions.Instr.TheVariants as instr
use Rattle.wy_code.specs.declared.routines.Routine.{Routine}
use Rattle.wy_code.specs.declared.routines.Code.{Code}
use Rattle.wy_code_spec.specs.declared.tables.context.Context.{Context}
use Rattle.wy_code.specs.declared.pieces.steps.Step.{Step}
use Rattle.wy_code.specs.declared.pieces.steps.Step.TheVariants.{Does, GoesOn, GoesBack, GoesOnUnless}
use Rattle.wy_code.specs.pieces.Steps.{clear}
use Rattle.wy_code_spec.specs.compiled.Expressions.{code, lost, released, ends_it, turn_end, said, ends, quantify}
use Rattle.wy_vc_spec.specs.wy_sem.Meter.{Meter, Outcome, Done, Run, ◌>>=◌, tick, spend, turn, choose}
use Rattle.wy_vc_spec.specs.wy_sem.Operations.{agrees, as_truth}
use Rattle.wy_vc_spec.specs.wy_sem.Expressions.{Store, slot, put, Setting, span, each, eval}
use Rattle.wy_code_spec.specs.step.Step.{State, Caller, GoesOn as goes_on, GoesTo, effect, gives, gives_int, where_so, instr_at, cleared}
use Rattle.wy_gen_laws.specs.Places.{StandAt, IsRoutine}
use Rattle.wy_gen_laws.specs.Follows.{IsGoing, Follows, at_place, Comes}
use Rattle.wy_gen_laws.specs.Registers.{Live, Got}
use Rattle.wy_gen_laws.proofs.PlaceLemmas.{stand_front, stand_back, stand_moved}
use Rattle.wy_gen_laws.proofs.StoreLemmas.{put_here, put_other, put_size, put_says, live_put}
use Rattle.wy_gen_laws.proofs.FollowLemmas.{quiet_step, far_step, follows_step, follows_end, follows_spend, follows_more, follows_at, follows_truth, follows_choose}
use Rattle.wy_gen_laws.proofs.InstructionLemmas.{share_does, arith_does, compare_does, not_does, branch_on, branch_off}
use Rattle.wy_gen_laws.proofs.PieceLemmas.{does_then, does_last}
use Rattle.wy_vc_spec.specs.wy_sem.kept.Kept.{StoreProper}
use Rattle.wy_gen_laws.specs.expressions.Standing.{with_table, AreKnown}
use Rattle.wy_gen_laws.proofs.expressions_lemmas.KnownLemmas.{apart_behind, turned_live, turned_again, known_turned, known_turn, same_or_not, got_put}
use Rattle.wy_gen_laws.proofs.expressions_lemmas.KnowingLemmas.{store_proper, span_none, next_int}
use Rattle.wy_gen_laws.proofs.expressions_lemmas.PartLemmas.{room_at}
use Rattle.wy_gen_laws.proofs.expressions_lemmas.OperandLemmas.{IsBrief, first_part, got_cleared}

-- a tick of what comes first
tick_bind : {X Y : Type 0} (t : ℕ) (next : Run X) (g : X → Run Y) (m : Meter) → tick t (λ k. next k >>= g) m ≡ (tick t next m >>= g)
tick_bind zero next g m = refl
tick_bind (suc t) next g m = refl

spend_then : {X Y : Type 0} (mach : Code) (wide lo hi : ℕ) (m : Meter) (st : State) (next : Run X) (g : X → Run Y) (Q : Y → Meter → State → Type 0) → IsGoing m.output st
    → ((t : ℕ) → m.ticks ≡ suc t → Follows mach wide lo (hi + 16) (record m { ticks = t }) st (next (record m { ticks = t }) >>= g) Q) → Follows mach wide (suc lo) hi m st (spend true next m >>= g) Q
spend_then mach wide lo hi m st next g Q go h =
    subst (λ (o : Outcome _). Follows mach wide (suc lo) hi m st o Q) (tick_bind m.ticks next g m) (follows_spend mach wide lo hi m st (λ k. next k >>= g) Q go h)

-- a turn that ends it says the contrary of what the end says
agrees_not : (q b : Bool) → agrees q b ≡ false → b ≡ not q
agrees_not true b e = e
agrees_not false true e = refl
agrees_not false false e = never (sym e)

module _ (mach : Code) (f : ℕ) (r : Routine) (there : IsRoutine mach f r) (wide : ℕ) (callers : List Caller) where
  -- the same place, said otherwise
  pub from_place : {X : Type 0} (lo hi a b : ℕ) (regs : Store) (m : Meter) (o : Outcome X) (Q : X → Meter → State → Type 0) → a ≡ b → Follows mach wide lo hi m (at_place f a regs callers m.output) o Q → Follows mach wide lo hi m (at_place f b regs callers m.output) o Q
  from_place lo hi a b regs m o Q e h = subst (λ (t : ℕ). Follows mach wide lo hi m (at_place f t regs callers m.output) o Q) e h

  -- an instruction that goes on behind, which stands for many ticks
  pub wide_then : {X : Type 0} (lo hi at : ℕ) (i : Instr) (regs after_it : Store) (m : Meter) (o : Outcome X) (to : ℕ) (R : X → Store → Type 0) → lo ≤ wide → instr_at (Some r) at ≡ Some i → effect mach.shapes i regs ≡ goes_on after_it []
      → Follows mach wide lo hi m (at_place f (at + 1) after_it callers m.output) o (Comes f to callers R) → Follows mach wide 0 (hi + 1) m (at_place f at regs callers m.output) o (Comes f to callers R)
  wide_then lo hi at i regs after_it m o to R le stands does h =
      follows_step mach wide 0 (hi + 1) lo hi m (at_place f at regs callers m.output) (at_place f (at + 1) after_it callers m.output) o (Comes f to callers R) (quiet_step mach f r there at i regs after_it callers m.output stands does) (omega (arith, le)) (omega arith) h

  -- an instruction that goes elsewhere
  pub far_then : {X : Type 0} (lo hi at to : ℕ) (i : Instr) (regs : Store) (m : Meter) (o : Outcome X) (Q : X → Meter → State → Type 0) → instr_at (Some r) at ≡ Some i → effect mach.shapes i regs ≡ GoesTo to
      → Follows mach wide lo hi m (at_place f to regs callers m.output) o Q → Follows mach wide lo (hi + 1) m (at_place f at regs callers m.output) o Q
  far_then lo hi at to i regs m o Q stands does h =
      follows_step mach wide lo (hi + 1) lo hi m (at_place f at regs callers m.output) (at_place f to regs callers m.output) o Q (far_step mach f r there at to i regs callers m.output stands does) (omega arith) (omega arith) h

  -- registers are released, and then what follows
  clear_then : {X : Type 0} (lo hi p : ℕ) (rs : List ℕ) (regs : Store) (m : Meter) (o : Outcome X) (to : ℕ) (R : X → Store → Type 0) → StandAt r.body p (clear rs)
      → Follows mach wide lo hi m (at_place f (p + length (clear rs)) (cleared regs rs) callers m.output) o (Comes f to callers R) → Follows mach wide lo (hi + 1) m (at_place f p regs callers m.output) o (Comes f to callers R)
  clear_then lo hi p [] regs m o to R stands h =
      follows_more mach wide lo hi lo (hi + 1) m (at_place f p regs callers m.output) o (Comes f to callers R) (omega arith) (omega arith) (from_place lo hi (p + 0) p regs m o (Comes f to callers R) (omega arith) h)
  clear_then lo hi p (y ∷ ys) regs m o to R stands h = does_then mach f r there wide lo hi p (instr.Clear (y ∷ ys)) regs (cleared regs (y ∷ ys)) callers m o to R stands.0 refl h

  -- where a turn ends it: the answer of the body, or its contrary, stands in register a
  flip_then : {X : Type 0} (q : Bool) (lo hi t a : ℕ) (rest : List Step) (regs : Store) (b : Bool) (m : Meter) (o : Outcome X) (to : ℕ) (R : X → Store → Type 0) → length regs ≡ r.registers → StandAt r.body t (ends_it q a ++ rest) → slot regs a ≡ Some (Truth b)
      → ((t2 : ℕ) (regs2 : Store) → t2 + length rest ≡ t + length (ends_it q a ++ rest) → StandAt r.body t2 rest → slot regs2 a ≡ Some (Truth (agrees q b)) → ((z : ℕ) → z ≢ a → slot regs2 z ≡ slot regs z) → length regs2 ≡ length regs
      → Follows mach wide lo hi m (at_place f t2 regs2 callers m.output) o (Comes f to callers R))
      → Follows mach wide lo (hi + 1) m (at_place f t regs callers m.output) o (Comes f to callers R)
  flip_then true lo hi t a rest regs b m o to R whole stands e h =
      follows_more mach wide lo hi lo (hi + 1) m (at_place f t regs callers m.output) o (Comes f to callers R) (omega arith) (omega arith) (h t regs refl stands e (λ z other. refl) refl)
  flip_then false lo hi t a rest regs b m o to R whole stands e h =
      let room = room_at mach f r there t a (instr.Not a a) (a ∷ []) stands.0 refl in
      does_then mach f r there wide lo hi t (instr.Not a a) regs (put regs a (Some (Truth (not b)))) callers m o to R stands.0 (not_does mach.shapes regs a a b e)
      (h (t + 1) (put regs a (Some (Truth (not b)))) (omega arith) stands.1 (put_here regs a (Some (Truth (not b))) (omega (arith, room, whole))) (λ z other. put_other regs a z (Some (Truth (not b))) other) (put_size regs a (Some (Truth (not b)))))

module _ (c : Context) (routines : List Routine) (f : ℕ) (r : Routine) (there : IsRoutine (with_table c routines) f r) (w : Setting ℕ) (n wide most : ℕ)
    (q : Bool) (x : ℕ) (body : Expr ℕ) (sb : IsBrief c routines f r there w n wide most body) (high : suc (size body) ≤ wide) (o : Offers) (k : ℕ) (low : k ≤ n) (vs : Scope) (new : IsNew k vs x) (bb : BoundExpr o k (x ∷ vs) body) (s : Variables) (known : AreKnown n vs s)
    (d : ℕ) (behind : n ≤ d) (store first : Store) (proper : StoreProper store) (whole : length first ≡ r.registers) (callers : List Caller) (place p : ℕ) (to : ℤ) (to_int : is_int to ≡ true) where
  abbrev mach : Code
  mach = with_table c routines

  -- what is live behind each turn, and the pieces of the code
  abbrev T : Variables
  T = turned x body s

  abbrev gone : List Step
  gone = released T s

  abbrev work : List Step
  work = code c body T (suc (suc d))

  abbrev steps : List Step
  steps = quantify q x d work gone

  -- between turns: the number of the next one, and the number behind the last
  pub record Turning (regs : Store) (i : ℤ) : Type 0 where
    pub count : slot regs d ≡ Some (Whole i)
    pub last : slot regs (suc d) ≡ Some (Whole to)
    pub live : Live vs T store regs
    pub kept : (t : ℕ) → n ≤ t → t < d → slot regs t ≡ slot first t
    pub size : length regs ≡ length first

  x_below : x < n
  x_below = let l = new.0 in omega (arith, l, low)

  known_T : AreKnown n vs T
  known_T = known_turned o k n low vs x body s x_below bb known

  fewer : (z : ℕ) → has s z ≡ true → has T z ≡ true
  fewer z h = turned_live z x body s h

  -- a register behind both gets another value
  turning_put : (regs : Store) (i : ℤ) (t : ℕ) (v : Option Datum) → suc d < t → Turning regs i → Turning (put regs t v) i
  turning_put regs i t v far g = record {
    count = put_other regs t d v (λ e. absurd (omega (arith, far, e))) ∙ g.count;
    last = put_other regs t (suc d) v (λ e. absurd (omega (arith, far, e))) ∙ g.last;
    live = live_put vs T store regs t v (λ z i h e. let l = known_T.within z h in absurd (omega (arith, l, behind, far, e))) g.live;
    kept = λ z a b. put_other regs t z v (λ e. absurd (omega (arith, b, far, e))) ∙ g.kept z a b;
    size = put_size regs t v ∙ g.size;
  }

  -- the number of the next turn
  turning_next : (regs : Store) (i j : ℤ) → d < length regs → Turning regs i → Turning (put regs d (Some (Whole j))) j
  turning_next regs i j room g = record {
    count = put_here regs d (Some (Whole j)) room;
    last = put_other regs d (suc d) (Some (Whole j)) (λ e. absurd (omega (arith, e))) ∙ g.last;
    live = live_put vs T store regs d (Some (Whole j)) (λ z i h e. let l = known_T.within z h in absurd (omega (arith, l, behind, e))) g.live;
    kept = λ z a b. put_other regs d z (Some (Whole j)) (λ e. absurd (omega (arith, b, e))) ∙ g.kept z a b;
    size = put_size regs d (Some (Whole j)) ∙ g.size;
  }

  -- ---- the ends

  -- what the turns alone used is released, and the answer comes into d
  told : (regs : Store) (i : ℤ) (b : Bool) → d < length regs → Turning regs i → Got vs n d s store first (Truth b) (put (cleared regs (lost T s)) d (Some (Truth b)))
  told regs i b room g =
      let a = got_cleared vs n d T s store first regs (Whole i) known_T.within fewer behind (record { value = g.count; live = g.live; kept = g.kept; size = g.size }) in
      got_put vs n s store first (cleared regs (lost T s)) d (Truth b) (apart_behind n s d known.within behind) (let e = a.size in let l = g.size in omega (arith, room, e, l)) a.live a.kept a.size

  const_room : (e : ℕ) (b : Bool) → instr_at (Some r) e ≡ Some (instr.Const d (scalar.Bool b)) → d < r.registers
  const_room e b stands = room_at mach f r there e d (instr.Const d (scalar.Bool b)) [] stands refl

  room_of : (regs : Store) (i : ℤ) → Turning regs i → d < r.registers → d < length regs
  room_of regs i g room = let a = g.size in omega (arith, room, whole, a)

  first_end : (e : ℕ) (regs : Store) (i : ℤ) (m : Meter) → StandAt r.body e (ends q d gone) → Turning regs i → Follows mach wide 0 3 m (at_place f e regs callers m.output) (Done (Truth q) m) (Comes f (e + length (ends q d gone)) callers (Got vs n d s store first))
  first_end e regs i m stands g =
      let rest : List Step = Does (instr.Const d (scalar.Bool q)) ∷ GoesOn (length (said d (not q) gone)) ∷ said d (not q) gone in
      let more : StandAt r.body (e + length gone) rest = stand_back r.body e gone rest stands in
      let l1 : length (gone ++ rest) ≡ length gone + length rest = length-append gone rest in
      let R = Got vs n d s store first in
      let regs2 = cleared regs (lost T s) in
      let regs3 = put regs2 d (Some (Truth q)) in
      let to_end : ℕ = e + length (gone ++ rest) in
      let far : suc (e + length gone + 1) + length (said d (not q) gone) ≡ to_end = omega (arith, l1) in
      clear_then mach f r there wide callers 0 2 e (lost T s) regs m (Done (Truth q) m) to_end R (stand_front r.body e gone rest stands)
      (does_then mach f r there wide 0 1 (e + length gone) (instr.Const d (scalar.Bool q)) regs2 regs3 callers m (Done (Truth q) m) to_end R more.0 refl
      (far_then mach f r there wide callers 0 0 (e + length gone + 1) (suc (e + length gone + 1) + length (said d (not q) gone)) (instr.Jump (suc (e + length gone + 1) + length (said d (not q) gone))) regs3 m (Done (Truth q) m) (Comes f to_end callers R) more.1.0 refl
      (from_place mach f r there wide callers 0 0 to_end (suc (e + length gone + 1) + length (said d (not q) gone)) regs3 m (Done (Truth q) m) (Comes f to_end callers R) (sym far)
      (follows_end mach wide 0 0 m (at_place f to_end regs3 callers m.output) (Truth q) (Comes f to_end callers R) (record { regs = regs3; is = refl; ok = told regs i q (room_of regs i g (const_room (e + length gone) q more.0)) g })))))

  second_end : (e : ℕ) (regs : Store) (i : ℤ) (m : Meter) → StandAt r.body e (said d (not q) gone) → Turning regs i → Follows mach wide 0 2 m (at_place f e regs callers m.output) (Done (Truth (not q)) m) (Comes f (e + length (said d (not q) gone)) callers (Got vs n d s store first))
  second_end e regs i m stands g =
      let rest : List Step = Does (instr.Const d (scalar.Bool (not q))) ∷ [] in
      let more : StandAt r.body (e + length gone) rest = stand_back r.body e gone rest stands in
      let l1 : length (gone ++ rest) ≡ length gone + 1 = length-append gone rest in
      let R = Got vs n d s store first in
      let regs2 = cleared regs (lost T s) in
      follows_at mach wide 0 2 m (at_place f e regs callers m.output) (Done (Truth (not q)) m) f (e + length gone + 1) (e + length (gone ++ rest)) callers R (omega (arith, l1))
      (clear_then mach f r there wide callers 0 1 e (lost T s) regs m (Done (Truth (not q)) m) (e + length gone + 1) R (stand_front r.body e gone rest stands)
      (does_last mach f r there wide (e + length gone) (instr.Const d (scalar.Bool (not q))) regs2 (put regs2 d (Some (Truth (not q)))) callers m (Truth (not q)) R more.0 refl
      (told regs i (not q) (room_of regs i g (const_room (e + length gone) (not q) more.0)) g)))

  -- ---- where the pieces stand

  module _ (stands : StandAt r.body p steps) where
    abbrev ending : List Step
    ending = turn_end q d gone

    abbrev inner : ℕ
    inner = p + 1 + 1 + 1

    abbrev back : List Step
    back = GoesBack (suc (suc (suc (length (work ++ ending))))) ∷ []

    turns_stand : StandAt r.body inner ((work ++ ending) ++ back)
    turns_stand = stand_front r.body inner ((work ++ ending) ++ back) (ends q d gone) stands.1.1.1

    body_stands : StandAt r.body inner (work ++ ending)
    body_stands = stand_front r.body inner (work ++ ending) back turns_stand

    work_stands : StandAt r.body inner work
    work_stands = stand_front r.body inner work ending body_stands

    ending_stands : StandAt r.body (inner + length work) ending
    ending_stands = stand_back r.body inner work ending body_stands

    long_body : length (work ++ ending) ≡ length work + length ending
    long_body = length-append work ending

    long_turns : length ((work ++ ending) ++ back) ≡ length (work ++ ending) + 1
    long_turns = length-append (work ++ ending) back

    long_all : length (((work ++ ending) ++ back) ++ ends q d gone) ≡ length ((work ++ ending) ++ back) + length (ends q d gone)
    long_all = length-append ((work ++ ending) ++ back) (ends q d gone)

    ends_stand : StandAt r.body (inner + length (work ++ ending) + 1) (ends q d gone)
    ends_stand = stand_moved r.body (inner + length ((work ++ ending) ++ back)) (inner + length (work ++ ending) + 1) (ends q d gone) (omega (arith, long_turns)) (stand_back r.body inner ((work ++ ending) ++ back) (ends q d gone) stands.1.1.1)

    to_end : ℕ
    to_end = p + length steps

    abbrev answers : Datum → Store → Type 0
    answers = Got vs n d s store first

    -- the code of both ends
    at_first : (regs : Store) (i : ℤ) (m : Meter) → Turning regs i → Follows mach wide 0 3 m (at_place f (inner + length (work ++ ending) + 1) regs callers m.output) (Done (Truth q) m) (Comes f (p + length steps) callers answers)
    at_first regs i m g =
        follows_at mach wide 0 3 m (at_place f (inner + length (work ++ ending) + 1) regs callers m.output) (Done (Truth q) m) f (inner + length (work ++ ending) + 1 + length (ends q d gone)) (p + length steps) callers answers (omega (arith, long_all, long_turns))
        (first_end (inner + length (work ++ ending) + 1) regs i m ends_stand g)

    at_second : (e : ℕ) (regs : Store) (i : ℤ) (m : Meter) → e ≡ inner + length (work ++ ending) + 1 + (length gone + 1 + 1) → Turning regs i → Follows mach wide 0 2 m (at_place f e regs callers m.output) (Done (Truth (not q)) m) (Comes f (p + length steps) callers answers)
    at_second e regs i m is g =
        let base = inner + length (work ++ ending) + 1 in
        let rest : List Step = Does (instr.Const d (scalar.Bool q)) ∷ GoesOn (length (said d (not q) gone)) ∷ said d (not q) gone in
        let l1 : length (gone ++ rest) ≡ length gone + length rest = length-append gone rest in
        let more : StandAt r.body (base + length gone) rest = stand_back r.body base gone rest ends_stand in
        let here : base + length gone + 1 + 1 ≡ e = omega (arith, is) in
        follows_at mach wide 0 2 m (at_place f e regs callers m.output) (Done (Truth (not q)) m) f (e + length (said d (not q) gone)) (p + length steps) callers answers (omega (arith, is, l1, long_all, long_turns))
        (second_end e regs i m (stand_moved r.body (base + length gone + 1 + 1) e (said d (not q) gone) here more.1.1) g)

    -- ---- a turn

    abbrev turn_body : ℤ → Run Datum
    turn_body z = turn w.limit true (eval w true body (put store x (Some (Whole z))))

    abbrev goes : ℕ → ℤ → Run Datum
    goes j i = each q place turn_body i j

    abbrev judged : ℕ → ℤ → Datum → Run Datum
    judged j i v = as_truth place v (λ b. choose (agrees q b) (goes j (i +ℤ pos 1)) (Done (Truth b)))

    -- what is needed of the turns that are left
    abbrev GoesRound : ℕ → ℤ → Type 0
    GoesRound j i = (regs : Store) (m : Meter) → m.ticks ≤ most → Turning regs i → Follows mach wide 0 5 m (at_place f p regs callers m.output) (goes j i m) (Comes f (p + length steps) callers answers)

    -- the store and the registers at the body
    room : suc (suc d) < r.registers
    room = room_at mach f r there p (suc (suc d)) (instr.Compare (suc (suc d)) comparison.Less d (suc d)) (d ∷ suc d ∷ []) stands.0 refl

    body_live : (regs : Store) (i : ℤ) → Turning regs i → Live (x ∷ vs) (before body T) (put store x (Some (Whole i))) (put regs x (Some (Whole i)))
    body_live regs i g = record { holds = λ z v h l e. by z v h l e (same_or_not z x) }
      where
        here : x < length regs
        here = let a = g.size in let l = room in let b = x_below in omega (arith, b, behind, a, whole, l)

        by : (z : ℕ) (v : Datum) → Has (x ∷ vs) z → has (before body T) z ≡ true → slot (put store x (Some (Whole i))) z ≡ Some v → (z ≡ x) ⊎ (z ≢ x) → slot (put regs x (Some (Whole i))) z ≡ Some v
        by z v h l e (inl same) = subst (λ (t : ℕ). slot (put regs x (Some (Whole i))) t ≡ Some v) (sym same) (put_here regs x (Some (Whole i)) here ∙ ap (λ (u : Datum). Some u) (put_says store x (Whole i) v (subst (λ (t : ℕ). slot (put store x (Some (Whole i))) t ≡ Some v) same e)))
        by z v (inl same) l e (inr other) = absurd (other (sym same))
        by z v (inr h) l e (inr other) = put_other regs x z (Some (Whole i)) other ∙ g.live.holds z v h (turned_again z x body s other l) (sym (put_other store x z (Some (Whole i)) other) ∙ e)

    -- behind the body
    turning_behind : (regs last : Store) (i : ℤ) (v : Datum) → Turning regs i → Got (x ∷ vs) n (suc (suc d)) T (put store x (Some (Whole i))) (put regs x (Some (Whole i))) v last → Turning last i
    turning_behind regs last i v g got = record {
      count = got.kept d behind (omega arith) ∙ put_other regs x d (Some (Whole i)) (λ e. absurd (let l = x_below in omega (arith, l, behind, e))) ∙ g.count;
      last = got.kept (suc d) (omega (arith, behind)) (omega arith) ∙ put_other regs x (suc d) (Some (Whole i)) (λ e. absurd (let l = x_below in omega (arith, l, behind, e))) ∙ g.last;
      live = record { holds = λ z u h l e. got.live.holds z u (inr h) l (put_other store x z (Some (Whole i)) (λ same. absurd (new.1 (subst (λ (t : ℕ). Has vs t) same h))) ∙ e) };
      kept = λ t a b. got.kept t a (omega (arith, b)) ∙ put_other regs x t (Some (Whole i)) (λ e. absurd (let l = x_below in omega (arith, l, a, e))) ∙ g.kept t a b;
      size = got.size ∙ put_size regs x (Some (Whole i)) ∙ g.size;
    }

    turning_same : (regs regs2 : Store) (i : ℤ) → ((z : ℕ) → z ≢ suc (suc d) → slot regs2 z ≡ slot regs z) → length regs2 ≡ length regs → Turning regs i → Turning regs2 i
    turning_same regs regs2 i same size g = record {
      count = same d (λ e. absurd (omega (arith, e))) ∙ g.count;
      last = same (suc d) (λ e. absurd (omega (arith, e))) ∙ g.last;
      live = record { holds = λ z v h l e. same z (λ is. absurd (let a = known_T.within z l in omega (arith, a, behind, is))) ∙ g.live.holds z v h l e };
      kept = λ t a b. same t (λ e. absurd (omega (arith, b, e))) ∙ g.kept t a b;
      size = size ∙ g.size;
    }

    back_at : (e : ℕ) → e ≡ inner + length (work ++ ending) → instr_at (Some r) e ≡ Some (instr.Jump p)
    back_at e is =
        let stood : StandAt r.body (inner + length (work ++ ending)) back = stand_back r.body inner (work ++ ending) back turns_stand in
        let home : inner + length (work ++ ending) - suc (suc (suc (length (work ++ ending)))) ≡ p = omega arith in
        ap (λ (t : ℕ). instr_at (Some r) t) is ∙ stood.0 ∙ ap (λ (t : ℕ). Some (instr.Jump t)) home

    -- the turn goes on to the next one
    turn_on : (j : ℕ) (i : ℤ) → int_lt i to ≡ true → is_int i ≡ true → GoesRound j (i +ℤ pos 1) → (t2 : ℕ) (regs2 : Store) (m : Meter) → m.ticks ≤ most → t2 + 3 ≡ inner + length (work ++ ending)
        → StandAt r.body t2 (GoesOnUnless (suc (suc d)) (length gone + 5) ∷ Does (instr.Const (suc (suc d)) (scalar.Int (pos 1))) ∷ Does (instr.Arith d arithmetic.Add d (suc (suc d))) ∷ []) → slot regs2 (suc (suc d)) ≡ Some (Truth true) → Turning regs2 i
        → Follows mach wide 0 9 m (at_place f t2 regs2 callers m.output) (goes j (i +ℤ pos 1) m) (Comes f (p + length steps) callers answers)
    turn_on j i less ok next t2 regs2 m few is stood held g =
        let a = suc (suc d) in
        let o = goes j (i +ℤ pos 1) m in
        let regs3 = put regs2 a (Some (Whole (pos 1))) in
        let regs4 = put regs3 d (Some (Whole (i +ℤ pos 1))) in
        let g3 : Turning regs3 i = turning_put regs2 i a (Some (Whole (pos 1))) (omega arith) g in
        let long2 : length regs2 ≡ r.registers = g.size ∙ whole in
        let one : slot regs3 a ≡ Some (Whole (pos 1)) = put_here regs2 a (Some (Whole (pos 1))) (let l = room in omega (arith, l, long2)) in
        let given : gives_int regs3 d (i +ℤ pos 1) ≡ goes_on regs4 [] = ap (λ (b : Bool). where_so b (gives regs3 d (Whole (i +ℤ pos 1)))) (next_int i to less ok to_int) in
        let g4 : Turning regs4 (i +ℤ pos 1) = turning_next regs3 i (i +ℤ pos 1) (let l = room in let z = g3.size in omega (arith, l, z, whole)) g3 in
        does_then mach f r there wide 0 8 t2 (instr.Branch a (suc t2 + (length gone + 5))) regs2 regs2 callers m o (p + length steps) answers stood.0 (branch_on mach.shapes regs2 a (suc t2 + (length gone + 5)) held)
        (does_then mach f r there wide 0 7 (t2 + 1) (instr.Const a (scalar.Int (pos 1))) regs2 regs3 callers m o (p + length steps) answers stood.1.0 refl
        (does_then mach f r there wide 0 6 (t2 + 1 + 1) (instr.Arith d arithmetic.Add d a) regs3 regs4 callers m o (p + length steps) answers stood.1.1.0 (arith_does mach.shapes regs3 arithmetic.Add d d a i (pos 1) g3.count one ∙ given)
        (far_then mach f r there wide callers 0 5 (t2 + 1 + 1 + 1) p (instr.Jump p) regs4 m o (Comes f (p + length steps) callers answers) (back_at (t2 + 1 + 1 + 1) (omega (arith, is))) refl
        (next regs4 m few g4))))

    -- or it is the last
    turn_off : (i : ℤ) (b : Bool) → agrees q b ≡ false → (t2 : ℕ) (regs2 : Store) (m : Meter) → t2 + 3 ≡ inner + length (work ++ ending)
        → instr_at (Some r) t2 ≡ Some (instr.Branch (suc (suc d)) (suc t2 + (length gone + 5))) → slot regs2 (suc (suc d)) ≡ Some (Truth false) → Turning regs2 i
        → Follows mach wide 0 9 m (at_place f t2 regs2 callers m.output) (Done (Truth b) m) (Comes f (p + length steps) callers answers)
    turn_off i b differs t2 regs2 m is stood held g =
        let a = suc (suc d) in
        let e = suc t2 + (length gone + 5) in
        let Q = Comes f (p + length steps) callers answers in
        follows_more mach wide 0 3 0 9 m (at_place f t2 regs2 callers m.output) (Done (Truth b) m) Q (omega arith) (omega arith)
        (far_then mach f r there wide callers 0 2 t2 e (instr.Branch a e) regs2 m (Done (Truth b) m) Q stood (branch_off mach.shapes regs2 a e held)
        (subst (λ (t : Bool). Follows mach wide 0 2 m (at_place f e regs2 callers m.output) (Done (Truth t) m) Q) (sym (agrees_not q b differs)) (at_second e regs2 i m (omega (arith, is)) g)))

    turn_over : (j : ℕ) (i : ℤ) → int_lt i to ≡ true → is_int i ≡ true → GoesRound j (i +ℤ pos 1) → (b : Bool) (m : Meter) → m.ticks ≤ most → (last : Store) → Turning last i → slot last (suc (suc d)) ≡ Some (Truth b)
        → Follows mach wide 0 10 m (at_place f (inner + length work) last callers m.output) (choose (agrees q b) (goes j (i +ℤ pos 1)) (Done (Truth b)) m) (Comes f (p + length steps) callers answers)
    turn_over j i less ok next b m few last g held =
        let a = suc (suc d) in
        let o = choose (agrees q b) (goes j (i +ℤ pos 1)) (Done (Truth b)) m in
        let rest : List Step = GoesOnUnless a (length gone + 5) ∷ Does (instr.Const a (scalar.Int (pos 1))) ∷ Does (instr.Arith d arithmetic.Add d a) ∷ [] in
        flip_then mach f r there wide callers q 0 9 (inner + length work) a rest last b m o (p + length steps) answers (g.size ∙ whole) ending_stands held
        (λ t2 regs2 here stood held2 same size2.
        let is : t2 + 3 ≡ inner + length (work ++ ending) = let e : t2 + 3 ≡ inner + length work + length ending = here in let l = long_body in omega (arith, e, l) in
        let g2 = turning_same last regs2 i same size2 g in
        follows_choose mach wide 0 9 m (at_place f t2 regs2 callers m.output) (agrees q b) (goes j (i +ℤ pos 1)) (Done (Truth b)) (Comes f (p + length steps) callers answers)
        (λ yes. turn_on j i less ok next t2 regs2 m few is stood (held2 ∙ ap (λ (t : Bool). Some (Truth t)) yes) g2)
        (λ no. turn_off i b no t2 regs2 m is stood.0 (held2 ∙ ap (λ (t : Bool). Some (Truth t)) no) g2))

    -- ---- all turns

    none_left : (i : ℤ) → span i to ≡ 0 → int_lt i to ≡ false
    none_left i e = by (int_lt i to) refl
      where
        by : (b : Bool) → int_lt i to ≡ b → b ≡ false
        by true h = absurd (let m = span_more i to h in omega (arith, m, e))
        by false h = refl

    some_left : (i : ℤ) (j : ℕ) → span i to ≡ suc j → int_lt i to ≡ true
    some_left i j e = by (int_lt i to) refl
      where
        by : (b : Bool) → int_lt i to ≡ b → b ≡ true
        by true h = refl
        by false h = absurd (let m = span_none i to h in omega (arith, m, e))

    pub turns_follow : (j : ℕ) (i : ℤ) → span i to ≡ j → is_int i ≡ true → (regs : Store) (m : Meter) → m.ticks ≤ most → Turning regs i → Follows (with_table c routines) wide 0 5 m (at_place f p regs callers m.output) (each q place (λ z. turn w.limit true (eval w true body (put store x (Some (Whole z))))) i j m) (Comes f (p + length (quantify q x d (code c body (turned x body s) (suc (suc d))) (released (turned x body s) s))) callers (Got vs n d s store first))
    turns_follow zero i e ok regs m few g =
        let a = suc (suc d) in
        let Q = Comes f (p + length steps) callers answers in
        let regs1 = put regs a (Some (Truth (int_lt i to))) in
        let far = suc (p + 1) + (suc (length (work ++ ending)) + 1) in
        let held : slot regs1 a ≡ Some (Truth false) = put_here regs a (Some (Truth (int_lt i to))) (let l = room in let z = g.size in omega (arith, l, z, whole)) ∙ ap (λ (t : Bool). Some (Truth t)) (none_left i e) in
        does_then mach f r there wide 0 4 p (instr.Compare a comparison.Less d (suc d)) regs regs1 callers m (Done (Truth q) m) (p + length steps) answers stands.0 (compare_does mach.shapes regs comparison.Less a d (suc d) i to g.count g.last)
        (far_then mach f r there wide callers 0 3 (p + 1) far (instr.Branch a far) regs1 m (Done (Truth q) m) Q stands.1.0 (branch_off mach.shapes regs1 a far held)
        (from_place mach f r there wide callers 0 3 (inner + length (work ++ ending) + 1) far regs1 m (Done (Truth q) m) Q (omega arith) (at_first regs1 i m (turning_put regs i a (Some (Truth (int_lt i to))) (omega arith) g))))
    turns_follow (suc j) i e ok regs m few g =
        let a = suc (suc d) in
        let less = some_left i j e in
        let Q = Comes f (p + length steps) callers answers in
        let far = suc (p + 1) + (suc (length (work ++ ending)) + 1) in
        let regs1 = put regs a (Some (Truth (int_lt i to))) in
        let g1 : Turning regs1 i = turning_put regs i a (Some (Truth (int_lt i to))) (omega arith) g in
        let regs2 = put regs1 x (Some (Whole i)) in
        let store2 = put store x (Some (Whole i)) in
        let held : slot regs1 a ≡ Some (Truth true) = put_here regs a (Some (Truth (int_lt i to))) (let l = room in let z = g.size in omega (arith, l, z, whole)) ∙ ap (λ (t : Bool). Some (Truth t)) less in
        let left : span (i +ℤ pos 1) to ≡ j = let h = span_more i to less in omega (arith, h, e) in
        let size2 : length regs2 ≡ r.registers = put_size regs1 x (Some (Whole i)) ∙ g1.size ∙ whole in
        wide_then mach f r there wide callers (suc (size body)) 4 p (instr.Compare a comparison.Less d (suc d)) regs regs1 m (goes (suc j) i m) (p + length steps) answers high stands.0 (compare_does mach.shapes regs comparison.Less a d (suc d) i to g.count g.last)
        (does_then mach f r there wide (suc (size body)) 3 (p + 1) (instr.Branch a far) regs1 regs1 callers m (goes (suc j) i m) (p + length steps) answers stands.1.0 (branch_on mach.shapes regs1 a far held)
        (does_then mach f r there wide (suc (size body)) 2 (p + 1 + 1) (instr.Share x d) regs1 regs2 callers m (goes (suc j) i m) (p + length steps) answers stands.1.1.0 (share_does mach.shapes regs1 x d (Whole i) g1.count)
        (spend_then mach wide (size body) 2 m (at_place f inner regs2 callers m.output) (eval w true body store2) (judged j i) Q refl
        (λ t e2. first_part c routines f r there w n wide most body sb 0 18 (size body) (omega arith) o k (x ∷ vs) T a inner store2 regs2 callers (record m { ticks = t }) bb low (known_turn n vs x T x_below known_T) (omega (arith, behind)) work_stands (body_live regs1 i g1) (store_proper store x (Whole i) ok proper) size2 (omega (arith, e2, few)) (judged j i) (p + length steps) answers
        (λ v l last le pv got.
        let few2 : l.ticks ≤ most = omega (arith, le, e2, few) in
        follows_truth mach wide 0 18 l (at_place f (inner + length work) last callers l.output) place v (λ b. choose (agrees q b) (goes j (i +ℤ pos 1)) (Done (Truth b))) Q
        (λ b e3. follows_more mach wide 0 10 0 18 l (at_place f (inner + length work) last callers l.output) (choose (agrees q b) (goes j (i +ℤ pos 1)) (Done (Truth b)) l) Q (omega arith) (omega arith)
        (turn_over j i less ok (λ regs3 m3 few3 g3. turns_follow j (i +ℤ pos 1) left (next_int i to less ok to_int) regs3 m3 few3 g3) b l few2 last (turning_behind regs1 last i v g1 got) (got.value ∙ ap (λ (u : Datum). Some u) e3))))))))
