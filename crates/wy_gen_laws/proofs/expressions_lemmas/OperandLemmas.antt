-- Operands: what stands in front of the instructions of an operator, where each operand is read, and what `&&` and `||` leave out.
use Rattle.std.proofs.Common.{◌≡◌, ◌<◌, ◌≤◌, ℕ, zero, suc, ◌+◌, List, [], ◌∷◌, ◌++◌, length, Bool, true, false, cond, Option, Some, None, refl, ◌∙◌, ap, subst, arith, length-append}
use Rattle.std.specs.Prelude.{◌≢◌, ◌&&◌, not}
use Rattle.wy_value.specs.Datum.{Datum, Truth}
use Rattle.wy_core.specs.CoreTree.{Expr, VarExpr}
use Rattle.wy_core.specs.declared.expressions.Op.{Op}
use Rattle.wy_core.specs.declared.expressions.Op.TheVariants as op
use Rattle.wy_core.specs.formed.Offers.{Offers}
use Rattle.wy_core.specs.formed.Bound.{Scope, Has, BoundExpr}
use Rattle.wy_core.specs.formed.Sizes.{size}
use Rattle.wy_code_spec.specs.wy_live.Sets.{Variables, has, with}
use Rattle.wy_code_spec.specs.wy_live.Walks.{before}
use Rattle.wy_code.specs.declared.instructions.Instr.TheVariants as instr
use Rattle.wy_code.specs.declared.routines.Routine.{Routine}
use Rattle.wy_code.specs.declared.routines.Code.{Code}
use Rattle.wy_code_spec.specs.declared.tables.context.Context.{Context}
use Rattle.wy_code.specs.declared.pieces.steps.Step.{Step}
use Rattle.wy_code.specs.declared.pieces.steps.Step.TheVariants.{Does}
use Rattle.wy_code.specs.pieces.Steps.{fork}
use Rattle.wy_code_spec.specs.compiled.Operands.{variable_in, is_still, read, read_first, standing, unless_read, plain_or_read}
use Rattle.wy_code_spec.specs.compiled.Expressions.{code, lost, lost_below, released, is_plain, operator, operate, right_register}
use Rattle.wy_vc_spec.specs.wy_sem.Meter.{Meter, Outcome, Done, Fault, More, Spent, Run, ◌>>=◌, spend}
use Rattle.wy_vc_spec.specs.wy_sem.Operations.{needed, applied, second, operated}
use Rattle.wy_vc_spec.specs.wy_sem.Expressions.{Store, slot, put, Setting, eval}
use Rattle.wy_code_spec.specs.step.Step.{Caller, cleared}
use Rattle.wy_gen_laws.specs.Places.{StandAt, IsRoutine}
use Rattle.wy_gen_laws.specs.Follows.{Follows, at_place, Comes}
use Rattle.wy_gen_laws.specs.Registers.{Live, Got}
use Rattle.wy_gen_laws.proofs.PlaceLemmas.{stand_front, stand_back}
use Rattle.wy_gen_laws.proofs.StoreLemmas.{put_other, put_size, live_put, live_fewer}
use Rattle.wy_gen_laws.proofs.FollowLemmas.{follows_then, follows_more, follows_at, follows_truth, follows_needed, follows_choose}
use Rattle.wy_gen_laws.proofs.SpareLemmas.{Leaves, leaves_spend, leaves_follows}
use Rattle.wy_gen_laws.proofs.InstructionLemmas.{share_does, move_does, IsNone, cleared_other, cleared_size}
use Rattle.wy_gen_laws.proofs.PieceLemmas.{stays_last, fork_on, fork_off, clear_runs}
use Rattle.wy_vc_spec.specs.wy_sem.kept.Kept.{IsProper, StoreProper, Gives}
use Rattle.wy_gen_laws.specs.expressions.Standing.{with_table, AreKnown}
use Rattle.wy_gen_laws.specs.expressions.Evaluated.{Gained}
use Rattle.wy_gen_laws.proofs.expressions_lemmas.KnownLemmas.{Apart, with_has, known_before, is_below, still_live}
use Rattle.wy_gen_laws.proofs.expressions_lemmas.KnowingLemmas.{slot_proper, follows_knowing, applied_proper}
use Rattle.wy_gen_laws.proofs.expressions_lemmas.ReadLemmas.{IsRead, IsKept, IsTarget, free_behind, both_within, as_variable, variable_read, live_read, live_kept, releases_behind, Stands, Both, got_stands, both_stand, both_fewer, read_bound, known_with, same_code, still_before}
use Rattle.wy_gen_laws.proofs.expressions_lemmas.PartLemmas.{IsStrict, fills, applied_follows}

-- ---- what is released

-- each of these variables is in the first set and not in the second
abbrev pub AreLost : Variables → Variables → List ℕ → Type 0
AreLost s t [] = Unit {0}
AreLost s t (x ∷ xs) = ((has s x ≡ true) × (has t x ≡ false)) × AreLost s t xs

lost_more : (s t : Variables) (xs ys : List ℕ) → AreLost s t xs → AreLost s t ys → AreLost s t (xs ++ ys)
lost_more s t [] ys h g = g
lost_more s t (x ∷ xs) ys h g = (h.0, lost_more s t xs ys h.1 g)

lost_one : (s t : Variables) (x : ℕ) (a b : Bool) → has s x ≡ a → has t x ≡ b → AreLost s t (cond (a && not b) (x ∷ []) [])
lost_one s t x true false h g = ((h, g), tt)
lost_one s t x true true h g = tt
lost_one s t x false b h g = tt

pub are_lost : (s t : Variables) (k : ℕ) → AreLost s t (lost_below s t k)
are_lost s t zero = tt
are_lost s t (suc k) = lost_more s t (lost_below s t k) _ (are_lost s t k) (lost_one s t k (has s k) (has t k) refl refl)

pub none_live : (s t : Variables) (xs : List ℕ) (y : ℕ) → has t y ≡ true → AreLost s t xs → IsNone y xs
none_live s t [] y e h = tt
none_live s t (x ∷ xs) y e h = ((λ same. absurd (let a : has t x ≡ true = subst (λ (z : ℕ). has t z ≡ true) same e in let b = h.0.1 in cc)), none_live s t xs y e h.1)

pub none_behind : (n : ℕ) (s t : Variables) (xs : List ℕ) (y : ℕ) → ((x : ℕ) → has s x ≡ true → x < n) → n ≤ y → AreLost s t xs → IsNone y xs
none_behind n s t [] y below behind h = tt
none_behind n s t (x ∷ xs) y below behind h = ((λ same. absurd (let l = below x h.0.0 in omega (arith, l, behind, same))), none_behind n s t xs y below behind h.1)

-- fewer variables are live
got_fewer : (vs : Scope) (n d : ℕ) (s t : Variables) (store first regs : Store) (v : Datum) → ((x : ℕ) → has t x ≡ true → has s x ≡ true) → Got vs n d s store first v regs → Got vs n d t store first v regs
got_fewer vs n d s t store first regs v fewer got = record { value = got.value; live = record { holds = λ x u i h e. got.live.holds x u i (fewer x h) e }; kept = got.kept; size = got.size }

-- the registers of variables that aren't live are released
got_released : (vs : Scope) (n d : ℕ) (s t : Variables) (store first regs : Store) (v : Datum) → ((x : ℕ) → has s x ≡ true → x < n) → n ≤ d → Got vs n d t store first v regs → Got vs n d t store first v (cleared regs (lost s t))
got_released vs n d s t store first regs v below behind got =
    let gone = are_lost s t (length s) in
    record {
      value = cleared_other regs (lost s t) d (none_behind n s t (lost s t) d below behind gone) ∙ got.value;
      live = record { holds = λ x u i h e. cleared_other regs (lost s t) x (none_live s t (lost s t) x h gone) ∙ got.live.holds x u i h e };
      kept = λ a b l. cleared_other regs (lost s t) a (none_behind n s t (lost s t) a below b gone) ∙ got.kept a b l;
      size = cleared_size regs (lost s t) ∙ got.size;
    }

-- those of variables that are no longer live
pub got_cleared : (vs : Scope) (n d : ℕ) (s t : Variables) (store first regs : Store) (v : Datum) → ((x : ℕ) → has s x ≡ true → x < n) → ((x : ℕ) → has t x ≡ true → has s x ≡ true) → n ≤ d → Got vs n d s store first v regs → Got vs n d t store first v (cleared regs (lost s t))
got_cleared vs n d s t store first regs v below fewer behind got = got_released vs n d s t store first regs v below behind (got_fewer vs n d s t store first regs v fewer got)

-- an answer goes on to itself
pub bind_done : {X : Type 0} (o : Outcome X) → (o >>= (λ x k. Done x k)) ≡ o
bind_done (Done x k) = refl
bind_done (Fault kind at k) = refl
bind_done (More k) = refl
bind_done Spent = refl

-- an operator that may leave its second operand out
abbrev pub IsEarly : Op → Type 0
IsEarly op.And = Unit {0}
IsEarly op.Or = Unit {0}
IsEarly op.Add = ⊥
IsEarly op.Sub = ⊥
IsEarly op.Mul = ⊥
IsEarly op.Div = ⊥
IsEarly op.Mod = ⊥
IsEarly op.Equal = ⊥
IsEarly op.Less = ⊥
IsEarly op.LessEqual = ⊥
IsEarly op.Greater = ⊥
IsEarly op.GreaterEqual = ⊥

module _ (c : Context) (routines : List Routine) (f : ℕ) (r : Routine) (there : IsRoutine (with_table c routines) f r) (w : Setting ℕ) (n wide most : ℕ) where
  abbrev mach : Code
  mach = with_table c routines

  -- the code of the expression does what it does, and leaves two steps unused
  abbrev pub IsBrief : Expr ℕ → Type 0
  IsBrief e = (o : Offers) (k : ℕ) (vs : Scope) (s : Variables) (d at : ℕ) (store regs : Store) (callers : List Caller) (m : Meter)
      → BoundExpr o k vs e → k ≤ n → AreKnown n vs s → n ≤ d → StandAt r.body at (code c e s d) → Live vs (before e s) store regs → StoreProper store → length regs ≡ r.registers → m.ticks ≤ most
      → Leaves (with_table c routines) wide (size e) 2 m (at_place f at regs callers m.output) (eval w true e store m) (Comes f (at + length (code c e s d)) callers (Gained vs n d s store regs))

  -- a node spends a tick, for which its own instructions may take 14 steps
  pub paid : {X : Type 0} (lo hi total at : ℕ) (regs : Store) (callers : List Caller) (m : Meter) (next : Run X) (to : ℕ) (R : X → Store → Type 0) → suc lo ≤ total → hi ≤ 14
      → ((j : Meter) → j.output ≡ m.output → j.ticks ≤ m.ticks → Follows (with_table c routines) wide lo hi j (at_place f at regs callers j.output) (next j) (Comes f to callers R))
      → Leaves (with_table c routines) wide total 2 m (at_place f at regs callers m.output) (spend true next m) (Comes f to callers R)
  paid lo hi total at regs callers m next to R least much h =
      leaves_spend mach wide lo hi 2 total m (at_place f at regs callers m.output) next (Comes f to callers R) least (omega (arith, much)) refl
      (λ t e. h (record m { ticks = t }) refl (omega (arith, e)))

  -- ---- variables

  pub variable : (from z at x : ℕ) (vs : Scope) (s : Variables) (shared : Bool) (store regs : Store) (callers : List Caller) (m : Meter) (v : Datum) → has s x ≡ shared → Apart s z → ((t : ℕ) → from ≤ t → t < z → t ≢ x) → StandAt r.body at (Does (cond shared (instr.Share z x) (instr.Move z x)) ∷ []) → slot regs x ≡ Some v
      → Live vs s store regs → length regs ≡ r.registers → Follows (with_table c routines) wide 0 1 m (at_place f at regs callers m.output) (Done v m) (Comes f (at + 1) callers (Got vs from z s store regs))
  variable from z at x vs s true store regs callers m v e apart before stands held live size =
      fills mach f r there from z wide vs s apart store at (instr.Share z x) (x ∷ []) regs regs regs callers m v stands.0 refl (share_does mach.shapes regs z x v held) size live (λ t a b. refl) refl
  variable from z at x vs s false store regs callers m v e apart before stands held live size =
      fills mach f r there from z wide vs s apart store at (instr.Move z x) (x ∷ []) regs (put regs x None) regs callers m v stands.0 refl (move_does mach.shapes regs z x v held)
      (put_size regs x None ∙ size)
      (live_put vs s store regs x None (λ y i h g. absurd (let a : has s x ≡ true = subst (λ (z : ℕ). has s z ≡ true) g h in cc)) live)
      (λ t a b. put_other regs x t None (before t a b))
      (put_size regs x None)

  -- ---- what goes on from the value of an expression

  pub first_part : {Y : Type 0} (a : Expr ℕ) → IsBrief a → (lo2 hi lo : ℕ) → size a + lo2 ≤ lo → (o : Offers) (k : ℕ) (vs : Scope) (s : Variables) (d at : ℕ) (store regs : Store) (callers : List Caller) (m : Meter)
      → BoundExpr o k vs a → k ≤ n → AreKnown n vs s → n ≤ d → StandAt r.body at (code c a s d) → Live vs (before a s) store regs → StoreProper store → length regs ≡ r.registers → m.ticks ≤ most
      → (tail : Datum → Run Y) (to : ℕ) (R : Y → Store → Type 0)
      → ((v : Datum) (j : Meter) (last : Store) → j.ticks ≤ m.ticks → IsProper v → Got vs n d s store regs v last → Follows (with_table c routines) wide lo2 hi j (at_place f (at + length (code c a s d)) last callers j.output) (tail v j) (Comes f to callers R))
      → Follows (with_table c routines) wide lo hi m (at_place f at regs callers m.output) (eval w true a store m >>= tail) (Comes f to callers R)
  first_part a sa lo2 hi lo enough o k vs s d at store regs callers m b low known behind stands live proper whole few tail to R h =
      follows_then mach wide (size a) 0 lo2 hi lo hi m (at_place f at regs callers m.output) (eval w true a store m) tail f (at + length (code c a s d)) callers (Gained vs n d s store regs) (Comes f to callers R) enough (omega arith)
      (leaves_follows mach wide (size a) 2 m (at_place f at regs callers m.output) (eval w true a store m) (Comes f (at + length (code c a s d)) callers (Gained vs n d s store regs)) (sa o k vs s d at store regs callers m b low known behind stands live proper whole few))
      (λ v j last le g. h v j last le g.0 g.1)

  -- ---- one operand, where it is read

  -- a variable is read where it stands: a tick, and no step
  pub in_place : (i x : ℕ) (vs : Scope) (s : Variables) (d at : ℕ) (store regs : Store) (callers : List Caller) (m : Meter) → Has vs x → Live vs (with s x) store regs → StoreProper store
      → Follows mach wide 1 0 m (at_place f at regs callers m.output) (eval w true (VarExpr i x) store m) (Comes f (at + 0) callers (λ v last. IsProper v × Stands vs n d (Some x) s store regs v last))
  in_place i x vs s d at store regs callers m b live proper =
      let R = λ (v : Datum) (last : Store). IsProper v × Stands vs n d (Some x) s store regs v last in
      let o = needed (w.place i) (slot store x) Done in
      follows_at mach wide 1 0 m (at_place f at regs callers m.output) (eval w true (VarExpr i x) store m) f at (at + 0) callers R (omega arith)
      (leaves_follows mach wide 1 2 m (at_place f at regs callers m.output) (eval w true (VarExpr i x) store m) (Comes f at callers R)
      (paid 0 0 1 at regs callers m o at R (omega arith) (omega arith)
      (λ j e l. follows_needed mach wide 0 0 j (at_place f at regs callers j.output) (w.place i) (slot store x) Done (Comes f at callers R)
      (λ v held. stays_last mach f r there wide at regs callers j v R (
        slot_proper store x v proper held,
        record {
          value = live.holds x v b (with_has s x) held;
          whose = (b, held);
          live = live_fewer vs (with s x) s store regs (λ y h. still_live y (VarExpr i x) s h) live;
          kept = λ t y z. refl;
          size = refl;
        },
      )))))

  -- what goes on from the value of an expression that is read in the register of its variable
  abbrev OperandGoes : {Y : Type 0} → (q : Option ℕ) (lo2 hi lo : ℕ) (vs : Scope) (s : Variables) (d at : ℕ) (store regs : Store) (callers : List Caller) (m : Meter) (tail : Datum → Run Y) (to : ℕ) (R : Y → Store → Type 0) → Expr ℕ → Type 0
  OperandGoes q lo2 hi lo vs s d at store regs callers m tail to R a =
      size a + lo2 ≤ lo → (o : Offers) (k : ℕ) → BoundExpr o k vs a → Live vs (before a s) store regs
      → ((v : Datum) (j : Meter) (last : Store) → j.ticks ≤ m.ticks → IsProper v → Stands vs n d q s store regs v last → Follows mach wide lo2 hi j (at_place f (at + length (unless_read q (code c a s d))) last callers j.output) (tail v j) (Comes f to callers R))
      → Follows mach wide lo hi m (at_place f at regs callers m.output) (eval w true a store m >>= tail) (Comes f to callers R)

  -- what goes on from the value of an operand
  pub operand : {Y : Type 0} (a : Expr ℕ) (q : Option ℕ) → IsRead a q → IsBrief a → (lo2 hi lo : ℕ) → size a + lo2 ≤ lo → (o : Offers) (k : ℕ) (vs : Scope) (s : Variables) (d at : ℕ) (store regs : Store) (callers : List Caller) (m : Meter)
      → BoundExpr o k vs a → k ≤ n → AreKnown n vs s → n ≤ d → StandAt r.body at (unless_read q (code c a s d)) → Live vs (before a s) store regs → StoreProper store → length regs ≡ r.registers → m.ticks ≤ most
      → (tail : Datum → Run Y) (to : ℕ) (R : Y → Store → Type 0)
      → ((v : Datum) (j : Meter) (last : Store) → j.ticks ≤ m.ticks → IsProper v → Stands vs n d q s store regs v last → Follows mach wide lo2 hi j (at_place f (at + length (unless_read q (code c a s d))) last callers j.output) (tail v j) (Comes f to callers R))
      → Follows mach wide lo hi m (at_place f at regs callers m.output) (eval w true a store m >>= tail) (Comes f to callers R)
  operand a None is sa lo2 hi lo enough o k vs s d at store regs callers m b low known behind stands live proper whole few tail to R h =
      first_part a sa lo2 hi lo enough o k vs s d at store regs callers m b low known behind stands live proper whole few tail to R
      (λ v j last le p got. h v j last le p (got_stands vs n d s store regs last v got))
  operand a (Some x) is sa lo2 hi lo enough o k vs s d at store regs callers m b low known behind stands live proper whole few tail to R h =
      as_variable (OperandGoes (Some x) lo2 hi lo vs s d at store regs callers m tail to R) a x is
      (λ i enough2 o2 k2 b2 live2 h2. follows_then mach wide 1 0 lo2 hi lo hi m (at_place f at regs callers m.output) (eval w true (VarExpr i x) store m) tail f (at + 0) callers (λ v last. IsProper v × Stands vs n d (Some x) s store regs v last) (Comes f to callers R) enough2 (omega arith)
      (in_place i x vs s d at store regs callers m b2 live2 proper)
      (λ v j last le g. h2 v j last le g.0 g.1))
      enough o k b live h

  -- ---- one operand

  pub one_part : (a : Expr ℕ) (q : Option ℕ) → IsRead a q → IsBrief a → (ys : List Step) (tail : Datum → Run Datum) (lo hi total : ℕ) → suc (size a + lo) ≤ total → hi ≤ 14 → ((v : Datum) (j : Meter) → IsProper v → Gives IsProper (tail v j))
      → (o : Offers) (k : ℕ) (vs : Scope) (s : Variables) (d at : ℕ) (store regs : Store) (callers : List Caller) (m : Meter) (R : Datum → Store → Type 0)
      → ((v : Datum) (j : Meter) (p : ℕ) (last : Store) → IsProper v → Stands vs n d q s store regs v last → StandAt r.body p ys → Follows (with_table c routines) wide lo hi j (at_place f p last callers j.output) (tail v j) (Comes f (p + length ys) callers R))
      → BoundExpr o k vs a → k ≤ n → AreKnown n vs s → n ≤ d → StandAt r.body at (unless_read q (code c a s d) ++ ys) → Live vs (before a s) store regs → StoreProper store → length regs ≡ r.registers → m.ticks ≤ most
      → Leaves (with_table c routines) wide total 2 m (at_place f at regs callers m.output) (spend true (λ j. eval w true a store j >>= tail) m) (Comes f (at + length (unless_read q (code c a s d) ++ ys)) callers (λ v last. IsProper v × R v last))
  one_part a q is sa ys tail lo hi total enough much gives o k vs s d at store regs callers m R finish b low known behind stands live proper whole few =
      let xs = unless_read q (code c a s d) in
      let l1 : length (xs ++ ys) ≡ length xs + length ys = length-append xs ys in
      let Q : Datum → Store → Type 0 = λ v last. IsProper v × R v last in
      paid (size a + lo) hi total at regs callers m (λ j. eval w true a store j >>= tail) (at + length (xs ++ ys)) Q enough much
      (λ j e l. follows_at mach wide (size a + lo) hi j (at_place f at regs callers j.output) (eval w true a store j >>= tail) f (at + length xs + length ys) (at + length (xs ++ ys)) callers Q (omega (arith, l1))
      (operand a q is sa lo hi (size a + lo) (omega arith) o k vs s d at store regs callers j b low known behind (stand_front r.body at xs ys stands) live proper whole (omega (arith, l, few)) tail (at + length xs + length ys) Q
      (λ v i last le p one. follows_knowing mach wide lo hi i (at_place f (at + length xs) last callers i.output) (tail v i) IsProper f (at + length xs + length ys) callers R (gives v i p)
      (finish v i (at + length xs) last p one (stand_back r.body at xs ys stands)))))

  -- ---- two operands

  -- what follows two expressions whose values stand where they are read, or come into d and the register behind it
  pub two_parts : (a b : Expr ℕ) (q e : Option ℕ) → IsRead a q → IsRead b e → IsBrief a → IsBrief b → (ys : List Step) (tail : Datum → Datum → Run Datum) (lo hi : ℕ) → ((v u : Datum) (j : Meter) → IsProper v → IsProper u → Gives IsProper (tail v u j))
      → (o : Offers) (k : ℕ) (vs : Scope) (t : Variables) (d at : ℕ) (store regs : Store) (callers : List Caller) (m : Meter) (R : Datum → Store → Type 0) → IsKept q t
      → ((v u : Datum) (j : Meter) (p : ℕ) (last : Store) → j.ticks ≤ m.ticks → IsProper v → IsProper u → Both vs n d (standing q d) (standing e (suc d)) t store regs v u last → StandAt r.body p ys
      → Follows (with_table c routines) wide lo hi j (at_place f p last callers j.output) (tail v u j) (Comes f (p + length ys) callers R))
      → BoundExpr o k vs a → BoundExpr o k vs b → k ≤ n → AreKnown n vs t → n ≤ d → StandAt r.body at (unless_read q (code c a (before b t) d) ++ (unless_read e (code c b t (suc d)) ++ ys)) → Live vs (before a (before b t)) store regs → StoreProper store → length regs ≡ r.registers → m.ticks ≤ most
      → Follows (with_table c routines) wide (size a + size b + lo) hi m (at_place f at regs callers m.output) (eval w true a store m >>= (λ v j. eval w true b store j >>= tail v)) (Comes f (at + length (unless_read q (code c a (before b t) d) ++ (unless_read e (code c b t (suc d)) ++ ys))) callers (λ v last. IsProper v × R v last))
  two_parts a b q e is_a is_b sa sb ys tail lo hi gives o k vs t d at store regs callers m R kept finish ba bb low known behind stands live proper whole few =
      let xs = unless_read q (code c a (before b t) d) in
      let zs = unless_read e (code c b t (suc d)) in
      let l1 : length (xs ++ (zs ++ ys)) ≡ length xs + length (zs ++ ys) = length-append xs (zs ++ ys) in
      let l2 : length (zs ++ ys) ≡ length zs + length ys = length-append zs ys in
      let behind_a : StandAt r.body (at + length xs) (zs ++ ys) = stand_back r.body at xs (zs ++ ys) stands in
      let to = at + length xs + length zs + length ys in
      let Q : Datum → Store → Type 0 = λ v last. IsProper v × R v last in
      follows_at mach wide (size a + size b + lo) hi m (at_place f at regs callers m.output) (eval w true a store m >>= (λ v j. eval w true b store j >>= tail v)) f to (at + length (xs ++ (zs ++ ys))) callers Q (omega (arith, l1, l2))
      (operand a q is_a sa (size b + lo) hi (size a + size b + lo) (omega arith) o k vs (before b t) d at store regs callers m ba low (known_before o k n low vs b t bb known) behind (stand_front r.body at xs (zs ++ ys) stands) live proper whole few (λ v j. eval w true b store j >>= tail v) to Q
      (λ v j middle le p one. operand b e is_b sb lo hi (size b + lo) (omega arith) o k vs t (suc d) (at + length xs) store middle callers j bb low known (omega (arith, behind)) (stand_front r.body (at + length xs) zs ys behind_a) one.live proper (one.size ∙ whole) (omega (arith, le, few)) (tail v) to Q
      (λ u i last le2 g two. follows_knowing mach wide lo hi i (at_place f (at + length xs + length zs) last callers i.output) (tail v u i) IsProper f to callers R (gives v u i p g)
      (finish v u i (at + length xs + length zs) last (omega (arith, le, le2)) p g (both_stand vs n d q e (before b t) t store regs middle last v u behind kept one two) (stand_back r.body (at + length xs) zs ys behind_a)))))

  -- ---- an operator that evaluates both

  -- the code of both operands, read so, and of the operator behind them, whose value comes into z
  abbrev pub strict_code : Op → (a b : Expr ℕ) (q e : Option ℕ) → Variables → (d z : ℕ) → List Step
  strict_code op a b q e s d z = unless_read q (code c a (before b s) d) ++ (unless_read e (code c b s (suc d)) ++ operator op z (standing q d) (standing e (suc d)) (plain_or_read e (is_plain b)))

  -- these steps do what the operator does
  abbrev IsStrictly : (place : ℕ) (op : Op) (a b : Expr ℕ) (vs : Scope) (s : Variables) (from z at : ℕ) (store regs : Store) (callers : List Caller) (m : Meter) → List Step → Type 0
  IsStrictly place op a b vs s from z at store regs callers m steps =
      StandAt r.body at steps → Leaves (with_table c routines) wide (size a + size b + 1) 2 m (at_place f at regs callers m.output) (spend true (λ j. eval w true a store j >>= (λ v i. second op place (eval w true b store) v i)) m) (Comes f (at + length steps) callers (Gained vs from z s store regs))

  -- where t is live behind the operands, of which s is all that is asked for behind the operator
  strict : (op : Op) → IsStrict op → (place : ℕ) (a b : Expr ℕ) (q e : Option ℕ) → IsRead a q → IsRead b e → IsBrief a → IsBrief b → (o : Offers) (k : ℕ) (vs : Scope) (t s : Variables) (d from z at : ℕ) (store regs : Store) (callers : List Caller) (m : Meter)
      → IsKept q t → ((x : ℕ) → has s x ≡ true → has t x ≡ true) → BoundExpr o k vs a × BoundExpr o k vs b → k ≤ n → AreKnown n vs t → n ≤ d → IsTarget n d from z s → Live vs (before a (before b t)) store regs → StoreProper store → length regs ≡ r.registers → m.ticks ≤ most
      → IsStrictly place op a b vs s from z at store regs callers m (strict_code op a b q e t d z)
  strict op is place a b q e is_a is_b sa sb o k vs t s d from z at store regs callers m kept fewer bs low known behind target live proper whole few stands =
      let plain = plain_or_read e (is_plain b) in
      let ys = operator op z (standing q d) (standing e (suc d)) plain in
      let below : (x : ℕ) → has s x ≡ true → x < n = λ x h. known.within x (fewer x h) in
      paid (size a + size b + 0) 2 (size a + size b + 1) at regs callers m (λ j. eval w true a store j >>= (λ v i. second op place (eval w true b store) v i)) (at + length (strict_code op a b q e t d z)) (Gained vs from z s store regs) (omega arith) (omega arith)
      (λ j g l. two_parts a b q e is_a is_b sa sb ys (λ v u i. applied op place v u i) 0 2 (λ v u i p g. applied_proper place i op v u p g) o k vs t d at store regs callers j (Got vs from z s store regs) kept
      (λ v u i p last le pv pu both stood. applied_follows mach f r there from z wide vs s target.apart store (standing q d) (standing e (suc d)) p regs last whole callers place i v u
      (both_within n d from z s target vs store regs last v (standing q d) (standing e (suc d)) u (both_fewer vs n d (standing q d) (standing e (suc d)) s t store regs last v u fewer both))
      op plain (λ h. free_behind n d from z s target below behind (standing e (suc d)) (releases_behind e (is_plain b) d h)) is pv pu stood)
      bs.0 bs.1 low known behind stands live proper whole (omega (arith, l, few)))

  -- its code does what it does, with its operands read so
  abbrev pub IsOperated : Op → (place : ℕ) (a b : Expr ℕ) (q e : Option ℕ) → Variables → Type 0
  IsOperated op place a b q e s = (o : Offers) (k : ℕ) (vs : Scope) (d from z at : ℕ) (store regs : Store) (callers : List Caller) (m : Meter)
      → BoundExpr o k vs a × BoundExpr o k vs b → k ≤ n → AreKnown n vs s → n ≤ d → IsTarget n d from z s → StandAt r.body at (strict_code op a b q e s d z) → Live vs (before a (before b s)) store regs → StoreProper store → length regs ≡ r.registers → m.ticks ≤ most
      → Leaves (with_table c routines) wide (size a + size b + 1) 2 m (at_place f at regs callers m.output) (spend true (λ j. eval w true a store j >>= (λ v i. second op place (eval w true b store) v i)) m) (Comes f (at + length (strict_code op a b q e s d z)) callers (Gained vs from z s store regs))

  -- a first operand that is live behind the operation, or has a register of its own
  steady : (op : Op) → IsStrict op → (place : ℕ) (a b : Expr ℕ) (q e : Option ℕ) → IsRead a q → IsRead b e → IsBrief a → IsBrief b → (s : Variables) → IsKept q s → IsOperated op place a b q e s
  steady op is place a b q e is_a is_b sa sb s kept o k vs d from z at store regs callers m bs low known behind target stands live proper whole few =
      strict op is place a b q e is_a is_b sa sb o k vs s s d from z at store regs callers m kept (λ x h. h) bs low known behind target live proper whole few stands

  -- or a variable in front of an operand that is still, which may as well be live behind it
  quiet : (op : Op) → IsStrict op → (place : ℕ) (a b : Expr ℕ) (q : Option ℕ) → variable_in a ≡ q → is_still b ≡ true → IsBrief a → IsBrief b → (s : Variables) → IsOperated op place a b q (variable_in b) s
  quiet op is place a b None named still sa sb s o k vs d from z at store regs callers m bs low known behind target stands live proper whole few =
      steady op is place a b None (variable_in b) tt (variable_read b) sa sb s tt o k vs d from z at store regs callers m bs low known behind target stands live proper whole few
  quiet op is place a b (Some x) named still sa sb s o k vs d from z at store regs callers m bs low known behind target stands live proper whole few =
      let e = variable_in b in
      let ys = operator op z x (standing e (suc d)) (plain_or_read e (is_plain b)) in
      subst (λ (zs : List Step). IsStrictly place op a b vs s from z at store regs callers m (zs ++ ys)) (same_code c b (with s x) s (suc d) still)
      (strict op is place a b (Some x) e named (variable_read b) sa sb o k vs (with s x) s d from z at store regs callers m (with_has s x) (λ y h. still_live y (VarExpr 0 x) s h) bs low (known_with n vs s x (read_bound o k vs a x named bs.0) known) behind target
      (live_fewer vs (before a (before b s)) (before a (before b (with s x))) store regs (λ y h. still_before a b s x y named still h) live) proper whole few)
      stands

  -- an operator of numbers
  pub numbers : (op : Op) → IsStrict op → (place : ℕ) (a b : Expr ℕ) → IsBrief a → IsBrief b → (s : Variables) → IsOperated op place a b (read_first a b s) (variable_in b) s
  numbers op is place a b sa sb s = by (is_still b) refl
    where
      by : (y : Bool) → is_still b ≡ y → IsOperated op place a b (cond y (variable_in a) (read a s)) (variable_in b) s
      by true e = quiet op is place a b (variable_in a) refl e sa sb s
      by false e = steady op is place a b (read a s) (variable_in b) (live_read a s) (variable_read b) sa sb s (live_kept a s)

  -- operands that may be of any type
  pub alike : (place : ℕ) (a b : Expr ℕ) → IsBrief a → IsBrief b → (s : Variables) → IsOperated op.Equal place a b (read a s) (read b s) s
  alike place a b sa sb s = steady op.Equal tt place a b (read a s) (read b s) (live_read a s) (live_read b s) sa sb s (live_kept a s)

  -- ---- `&&` and `||`

  -- what the right side alone would have used is released
  skipped : (vs : Scope) (d : ℕ) (s t : Variables) (store first regs : Store) (v : Datum) (callers : List Caller) (m : Meter) → ((x : ℕ) → has s x ≡ true → x < n) → n ≤ d → Gained vs n d t store first v regs
      → (p : ℕ) → StandAt r.body p (released s t) → Follows mach wide 0 1 m (at_place f p regs callers m.output) (Done v m) (Comes f (p + length (released s t)) callers (Gained vs n d t store first))
  skipped vs d s t store first regs v callers m below behind got =
      clear_runs mach f r there wide (lost s t) regs callers m v (Gained vs n d t store first) (got.0, got_released vs n d s t store first regs v below behind got.1)

  -- two in a row keep what both keep
  both_got : (vs : Scope) (d : ℕ) (s t : Variables) (store first middle regs : Store) (u v : Datum) → Got vs n d s store first u middle → Got vs n d t store middle v regs → Got vs n d t store first v regs
  both_got vs d s t store first middle regs u v one two = record { value = two.value; live = two.live; kept = λ t a b. two.kept t a b ∙ one.kept t a b; size = two.size ∙ one.size }

  -- the value of the second operand is that of the whole
  last_truth : (o : Op) → IsEarly o → (place : ℕ) (vs : Scope) (d : ℕ) (s : Variables) (store first : Store) (u v : Datum) (k : Meter) (to : ℕ) (regs : Store) (callers : List Caller) → Got vs n d s store first v regs
      → Follows mach wide 0 0 k (at_place f to regs callers k.output) (applied o place u v k) (Comes f to callers (Gained vs n d s store first))
  last_truth op.And early place vs d s store first u v k to regs callers got = follows_truth mach wide 0 0 k (at_place f to regs callers k.output) place v (λ b. Done (Truth b)) (Comes f to callers (Gained vs n d s store first)) (λ b e. stays_last mach f r there wide to regs callers k (Truth b) (Gained vs n d s store first) (tt, subst (λ (x : Datum). Got vs n d s store first x regs) e got))
  last_truth op.Or early place vs d s store first u v k to regs callers got = follows_truth mach wide 0 0 k (at_place f to regs callers k.output) place v (λ b. Done (Truth b)) (Comes f to callers (Gained vs n d s store first)) (λ b e. stays_last mach f r there wide to regs callers k (Truth b) (Gained vs n d s store first) (tt, subst (λ (x : Datum). Got vs n d s store first x regs) e got))
  last_truth op.Add early place vs d s store first u v k to regs callers got = absurd early
  last_truth op.Sub early place vs d s store first u v k to regs callers got = absurd early
  last_truth op.Mul early place vs d s store first u v k to regs callers got = absurd early
  last_truth op.Div early place vs d s store first u v k to regs callers got = absurd early
  last_truth op.Mod early place vs d s store first u v k to regs callers got = absurd early
  last_truth op.Equal early place vs d s store first u v k to regs callers got = absurd early
  last_truth op.Less early place vs d s store first u v k to regs callers got = absurd early
  last_truth op.LessEqual early place vs d s store first u v k to regs callers got = absurd early
  last_truth op.Greater early place vs d s store first u v k to regs callers got = absurd early
  last_truth op.GreaterEqual early place vs d s store first u v k to regs callers got = absurd early

  module _ (place : ℕ) (a b : Expr ℕ) (sb : IsBrief b) (o : Offers) (k : ℕ) (vs : Scope) (s : Variables) (d : ℕ) (store regs : Store) (callers : List Caller) (bb : BoundExpr o k vs b) (low : k ≤ n) (known : AreKnown n vs s) (behind : n ≤ d) (proper : StoreProper store) (whole : length regs ≡ r.registers) where
    fewer : (x : ℕ) → has s x ≡ true → has (before b s) x ≡ true
    fewer x h = still_live x b s h

    -- the right side is evaluated
    right_side : (q : Op) → IsEarly q → (v : Datum) (i : Meter) (middle : Store) → i.ticks ≤ most → Got vs n d (before b s) store regs v middle → (p : ℕ) → StandAt r.body p (code c b s d)
        → Follows mach wide (size b) 0 i (at_place f p middle callers i.output) (second q place (eval w true b store) v i) (Comes f (p + length (code c b s d)) callers (Gained vs n d s store regs))
    right_side q early v i middle few one p stood =
        first_part b sb 0 0 (size b) (omega arith) o k vs s d p store middle callers i bb low known behind stood one.live proper (one.size ∙ whole) few (λ u j. applied q place v u j) (p + length (code c b s d)) (Gained vs n d s store regs)
        (λ u j last le pu two. last_truth q early place vs d s store regs v u j (p + length (code c b s d)) last callers (both_got vs d (before b s) s store regs middle last v u one two))

    -- what it alone would have used is released
    given_up : (v : Datum) (i : Meter) (last : Store) → Gained vs n d s store regs v last → (p : ℕ) → StandAt r.body p (released (before b s) s)
        → Follows mach wide 0 1 i (at_place f p last callers i.output) (Done v i) (Comes f (p + length (released (before b s) s)) callers (Gained vs n d s store regs))
    given_up v i last got p stood = skipped vs d (before b s) s store regs last v callers i (is_below n vs (before b s) (known_before o k n low vs b s bb known)) behind got p stood

    -- the value of the first operand is that of the whole
    first_truth : (v : Datum) (t g : Bool) (middle : Store) → v ≡ Truth t → t ≡ g → Got vs n d (before b s) store regs v middle → Gained vs n d s store regs (Truth g) middle
    first_truth v t g middle e same one = (tt, got_fewer vs n d (before b s) s store regs middle (Truth g) fewer (subst (λ (x : Datum). Got vs n d (before b s) store regs x middle) (e ∙ ap (λ (x : Bool). Truth x) same) one))

    -- or it is left out
    left_out : (v : Datum) (t g : Bool) (i : Meter) (middle : Store) → v ≡ Truth t → t ≡ g → Got vs n d (before b s) store regs v middle → (p : ℕ) → StandAt r.body p (released (before b s) s)
        → Follows mach wide 0 1 i (at_place f p middle callers i.output) (Done (Truth g) i) (Comes f (p + length (released (before b s) s)) callers (Gained vs n d s store regs))
    left_out v t g i middle e same one p stood = given_up (Truth g) i middle (first_truth v t g middle e same one) p stood

    held : (v : Datum) (t g : Bool) (middle : Store) → v ≡ Truth t → t ≡ g → Got vs n d (before b s) store regs v middle → slot middle d ≡ Some (Truth g)
    held v t g middle e same one = one.value ∙ ap (λ (x : Datum). Some x) (e ∙ ap (λ (x : Bool). Truth x) same)

    -- `&&` up to the release
    and_goes : (v : Datum) (i : Meter) (middle : Store) → i.ticks ≤ most → Got vs n d (before b s) store regs v middle → (p : ℕ) → StandAt r.body p (fork d (code c b s d) [])
        → Follows mach wide (size b) 2 i (at_place f p middle callers i.output) (operated op.And place (eval w true b store) v i) (Comes f (p + length (fork d (code c b s d) [])) callers (Gained vs n d s store regs))
    and_goes v i middle few one p stood =
        let R = Comes f (p + length (fork d (code c b s d) [])) callers (Gained vs n d s store regs) in
        let st = at_place f p middle callers i.output in
        follows_truth mach wide (size b) 2 i st place v _ R
        (λ t e. follows_choose mach wide (size b) 2 i st t (second op.And place (eval w true b store) v) (Done (Truth false)) R
        (λ yes. fork_on mach f r there wide (size b) 0 p d (code c b s d) [] middle callers i (second op.And place (eval w true b store) v i) (Gained vs n d s store regs) stood (held v t true middle e yes one)
        (λ g there_b. right_side op.And tt v i middle few one g there_b))
        (λ no. follows_more mach wide 0 2 (size b) 2 i st (Done (Truth false) i) R (omega arith) (omega arith)
        (fork_off mach f r there wide 0 0 p d (code c b s d) [] middle callers i (Done (Truth false) i) (Gained vs n d s store regs) stood (held v t false middle e no one)
        (λ g there_b. follows_at mach wide 0 0 i (at_place f g middle callers i.output) (Done (Truth false) i) f g (g + 0) callers (Gained vs n d s store regs) (omega arith)
        (stays_last mach f r there wide g middle callers i (Truth false) (Gained vs n d s store regs) (first_truth v t false middle e no one))))))

    pub early_goes : (q : Op) → IsEarly q → (v : Datum) (i : Meter) (middle : Store) → i.ticks ≤ most → Got vs n d (before b s) store regs v middle → (p : ℕ) → StandAt r.body p (operate q d d (right_register q d) (code c b s (right_register q d)) (released (before b s) s) (is_plain b))
        → Follows mach wide (size b) 3 i (at_place f p middle callers i.output) (operated q place (eval w true b store) v i) (Comes f (p + length (operate q d d (right_register q d) (code c b s (right_register q d)) (released (before b s) s) (is_plain b))) callers (Gained vs n d s store regs))
    early_goes op.And early v i middle few one p stood =
        let xs = fork d (code c b s d) [] in
        let ys = released (before b s) s in
        let long : length (xs ++ ys) ≡ length xs + length ys = length-append xs ys in
        let st = at_place f p middle callers i.output in
        let whole_of = operated op.And place (eval w true b store) v i in
        follows_at mach wide (size b) 3 i st whole_of f (p + length xs + length ys) (p + length (xs ++ ys)) callers (Gained vs n d s store regs) (omega (arith, long))
        (subst (λ (z : Outcome Datum). Follows mach wide (size b) 3 i st z (Comes f (p + length xs + length ys) callers (Gained vs n d s store regs))) (bind_done whole_of)
        (follows_then mach wide (size b) 2 0 1 (size b) 3 i st whole_of (λ x j. Done x j) f (p + length xs) callers (Gained vs n d s store regs) (Comes f (p + length xs + length ys) callers (Gained vs n d s store regs)) (omega arith) (omega arith)
        (and_goes v i middle few one p (stand_front r.body p xs ys stood))
        (λ x j last le got. given_up x j last got (p + length xs) (stand_back r.body p xs ys stood))))
    early_goes op.Or early v i middle few one p stood =
        let R = Comes f (p + length (fork d (released (before b s) s) (code c b s d))) callers (Gained vs n d s store regs) in
        let st = at_place f p middle callers i.output in
        follows_truth mach wide (size b) 3 i st place v _ R
        (λ t e. follows_choose mach wide (size b) 3 i st t (Done (Truth true)) (second op.Or place (eval w true b store) v) R
        (λ yes. follows_more mach wide 0 3 (size b) 3 i st (Done (Truth true) i) R (omega arith) (omega arith)
        (fork_on mach f r there wide 0 1 p d (released (before b s) s) (code c b s d) middle callers i (Done (Truth true) i) (Gained vs n d s store regs) stood (held v t true middle e yes one)
        (λ g there_b. left_out v t true i middle e yes one g there_b)))
        (λ no. follows_more mach wide (size b) 2 (size b) 3 i st (second op.Or place (eval w true b store) v i) R (omega arith) (omega arith)
        (fork_off mach f r there wide (size b) 0 p d (released (before b s) s) (code c b s d) middle callers i (second op.Or place (eval w true b store) v i) (Gained vs n d s store regs) stood (held v t false middle e no one)
        (λ g there_b. right_side op.Or tt v i middle few one g there_b))))
    early_goes op.Add early v i middle few one p stood = absurd early
    early_goes op.Sub early v i middle few one p stood = absurd early
    early_goes op.Mul early v i middle few one p stood = absurd early
    early_goes op.Div early v i middle few one p stood = absurd early
    early_goes op.Mod early v i middle few one p stood = absurd early
    early_goes op.Equal early v i middle few one p stood = absurd early
    early_goes op.Less early v i middle few one p stood = absurd early
    early_goes op.LessEqual early v i middle few one p stood = absurd early
    early_goes op.Greater early v i middle few one p stood = absurd early
    early_goes op.GreaterEqual early v i middle few one p stood = absurd early

  pub early : (q : Op) → IsEarly q → (place : ℕ) (a b : Expr ℕ) → IsBrief a → IsBrief b → (o : Offers) (k : ℕ) (vs : Scope) (s : Variables) (d at : ℕ) (store regs : Store) (callers : List Caller) (m : Meter)
      → BoundExpr o k vs a × BoundExpr o k vs b → k ≤ n → AreKnown n vs s → n ≤ d → StandAt r.body at (code c a (before b s) d ++ operate q d d (right_register q d) (code c b s (right_register q d)) (released (before b s) s) (is_plain b)) → Live vs (before a (before b s)) store regs → StoreProper store → length regs ≡ r.registers → m.ticks ≤ most
      → Leaves (with_table c routines) wide (size a + size b + 1) 2 m (at_place f at regs callers m.output) (spend true (λ j. eval w true a store j >>= operated q place (eval w true b store)) m)
      (Comes f (at + length (code c a (before b s) d ++ operate q d d (right_register q d) (code c b s (right_register q d)) (released (before b s) s) (is_plain b))) callers (Gained vs n d s store regs))
  early q is place a b sa sb o k vs s d at store regs callers m bs low known behind stands live proper whole few =
      let xs = code c a (before b s) d in
      let ys = operate q d d (right_register q d) (code c b s (right_register q d)) (released (before b s) s) (is_plain b) in
      let l1 : length (xs ++ ys) ≡ length xs + length ys = length-append xs ys in
      let R = Gained vs n d s store regs in
      paid (size a + size b) 3 (size a + size b + 1) at regs callers m (λ j. eval w true a store j >>= operated q place (eval w true b store)) (at + length (xs ++ ys)) R (omega arith) (omega arith)
      (λ j e l. follows_at mach wide (size a + size b) 3 j (at_place f at regs callers j.output) (eval w true a store j >>= operated q place (eval w true b store)) f (at + length xs + length ys) (at + length (xs ++ ys)) callers R (omega (arith, l1))
      (first_part a sa (size b) 3 (size a + size b) (omega arith) o k vs (before b s) d at store regs callers j bs.0 low (known_before o k n low vs b s bs.1 known) behind (stand_front r.body at xs ys stands) live proper whole (omega (arith, l, few)) (operated q place (eval w true b store)) (at + length xs + length ys) R
      (λ v i middle le p one. early_goes place a b sb o k vs s d store regs callers bs.1 low known behind proper whole q is v i middle (omega (arith, le, l, few)) one (at + length xs) (stand_back r.body at xs ys stands))))
