-- A value comes into its variable, and a frame gives its result.
use Rattle.std.proofs.Common.{◌≡◌, ◌≢◌, ◌<◌, ◌≤◌, ◌⊎◌, inl, inr, ℕ, zero, suc, ◌+◌, List, [], ◌∷◌, ◌++◌, length, Bool, true, false, cond, Option, Some, None, refl, sym, ◌∙◌, ap, subst, arith, length-append}
use Rattle.std.specs.Prelude.{◌&&◌, All}
use Rattle.std.proofs.lemmas.List.Elements.{All-head}
use Rattle.wy_lemmas.proofs.Choices.{and-right as second_so, either}
use Rattle.wy_value.specs.Datum.{Datum, Null, Truth}
use Rattle.wy_core.specs.Types.{Ty}
use Rattle.wy_core.specs.CoreTree.{Expr}
use Rattle.wy_core.specs.formed.Offers.{Offers}
use Rattle.wy_core.specs.formed.Bound.{Scope, Has, BoundExpr}
use Rattle.wy_core.specs.formed.Sizes.{size}
use Rattle.wy_code_spec.specs.wy_live.Sets.{Variables, has, without}
use Rattle.wy_code_spec.specs.wy_live.Walks.{before}
use Rattle.wy_code_spec.specs.wy_live.declared.walk.Ends.{Ends}
use Rattle.wy_code.specs.declared.instructions.Scalar.TheVariants as scalar
use Rattle.wy_code.specs.declared.instructions.Instr.{Instr}
use Rattle.wy_code.specs.declared.instructions.Instr.TheVariants as instr
use Rattle.wy_code.specs.declared.routines.Code.{Code}
use Rattle.wy_code.specs.declared.routines.Routine.{Routine}
use Rattle.wy_code.specs.declared.pieces.steps.Step.{Step}
use Rattle.wy_code.specs.declared.pieces.steps.Step.TheVariants.{Does}
use Rattle.wy_code.specs.pieces.Placing.{registers_in}
use Rattle.wy_code_spec.specs.declared.tables.context.Context.{Context}
use Rattle.wy_code_spec.specs.compiled.Expressions.{code, is_plain, release_unless}
use Rattle.wy_code_spec.specs.compiled.Straight.{is_straight, into}
use Rattle.wy_code_spec.specs.compiled.Statements as compiled
use Rattle.wy_code_spec.specs.compiled.Statements.{gives_null}
use Rattle.wy_vc_spec.specs.wy_sem.kept.Kept.{IsProper, SlotProper, StoreProper}
use Rattle.wy_vc_spec.specs.wy_sem.Meter.{Meter, Done, Run, ◌>>=◌, spend}
use Rattle.wy_vc_spec.specs.wy_sem.Operations.{as_truth, or_null}
use Rattle.wy_vc_spec.specs.wy_sem.Expressions.{Store, slot, put, Setting, eval}
use Rattle.wy_vc_spec.specs.wy_sem.Statements as sem
use Rattle.wy_vc_spec.specs.wy_sem.Statements.{Exit, Went, Gave, stored, leave, tested_truth}
use Rattle.wy_code_spec.specs.step.Step as machine
use Rattle.wy_code_spec.specs.step.Step.{State, Caller, Effect, stepped, instr_at, returned}
use Rattle.wy_gen_laws.specs.Places.{StandAt, IsRoutine}
use Rattle.wy_gen_laws.specs.Follows.{Follows, at_place, Comes}
use Rattle.wy_gen_laws.specs.Registers.{Live, Got}
use Rattle.wy_gen_laws.proofs.PlaceLemmas.{stand_front, stand_back, all_at}
use Rattle.wy_gen_laws.proofs.StoreLemmas.{put_here, put_other, put_size, put_says}
use Rattle.wy_gen_laws.proofs.FollowLemmas.{one_step, follows_step, follows_then, follows_end, follows_truth}
use Rattle.wy_gen_laws.proofs.InstructionLemmas.{move_does}
use Rattle.wy_gen_laws.specs.expressions.Standing.{with_table, AreKnown}
use Rattle.wy_gen_laws.specs.expressions.Evaluated.{IsEvaluated, IsEvaluatedInto, Gained}
use Rattle.wy_gen_laws.proofs.expressions_lemmas.KnownLemmas.{same_or_not, without_says, without_other}
use Rattle.wy_gen_laws.specs.statements.Still.{IsStillTy}
use Rattle.wy_gen_laws.specs.statements.Led.{Kept, Places, Leads, IsValued}
use Rattle.wy_gen_laws.proofs.statements_lemmas.StillLemmas.{follows_given}
use Rattle.wy_gen_laws.proofs.statements_lemmas.StepLemmas.{then_on, then_paid}

-- ---- stores

-- a variable gets a value, in the store and in its register
pub live_assigned : (vs ws : Scope) (x : ℕ) (s : Variables) (store regs last : Store) (v : Datum) → ((y : ℕ) → Has ws y → (x ≡ y) ⊎ Has vs y) → ((y : ℕ) → has s y ≡ true → y ≢ x → slot last y ≡ slot regs y) → (has s x ≡ true → slot last x ≡ Some v)
    → Live vs (without s x) store regs → Live ws s (put store x (Some v)) last
live_assigned vs ws x s store regs last v scope same now live = record { holds = λ y u i a e. by y u i a e (same_or_not y x) }
  where
    by : (y : ℕ) (u : Datum) → Has ws y → has s y ≡ true → slot (put store x (Some v)) y ≡ Some u → (y ≡ x) ⊎ (y ≢ x) → slot last y ≡ Some u
    by y u i a e (inl g) =
        let k : slot (put store x (Some v)) x ≡ Some u = subst (λ (z : ℕ). slot (put store x (Some v)) z ≡ Some u) g e in
        ap (λ (z : ℕ). slot last z) g ∙ now (subst (λ (z : ℕ). has s z ≡ true) g a) ∙ ap (λ (d : Datum). Some d) (put_says store x v u k)
    by y u i a e (inr other) =
        same y a other ∙ live.holds y u (either (λ g. absurd (other (sym g))) (λ k. k) (scope y i)) (without_other s x y other ∙ a) (sym (put_other store x y (Some v) other) ∙ e)

pub proper_put : (s : Store) (x : ℕ) (v : Option Datum) → SlotProper v → StoreProper s → StoreProper (put s x v)
proper_put [] x v p h = h
proper_put (u ∷ s) zero v p h = (p, h.1)
proper_put (u ∷ s) (suc x) v p h = (h.0, proper_put s x v p h.1)

module _ (c : Context) (routines : List Routine) (f : ℕ) (r : Routine) (there : IsRoutine (with_table c routines) f r) (wide : ℕ) where
  abbrev pub mach : Code
  mach = with_table c routines

  -- the register that an instruction fills is one of the frame
  pub target_room : (at d : ℕ) (i : Instr) (rest : List ℕ) → instr_at (Some r) at ≡ Some i → registers_in i ≡ d ∷ rest → d < r.registers
  target_room at d i rest stands e = All-head (λ (k : ℕ). k < r.registers) d rest (subst (λ (ks : List ℕ). All (λ (k : ℕ). k < r.registers) ks) e (all_at (λ (j : Instr). All (λ (k : ℕ). k < r.registers) (registers_in j)) r.body at i there.room stands))

  -- ---- the end of a statement

  pub arrives : (lo hi p : ℕ) (pl : Places) (t regs : Store) (callers : List Caller) (m : Meter) (ws vs : Scope) (s : Variables) (ends : Ends) → p ≡ pl.after → Kept ws s r.registers t regs
      → Follows mach wide lo hi m (at_place f p regs callers m.output) (Done (Went t) m) (Leads f callers r.registers pl ws vs s ends)
  arrives lo hi p pl t regs callers m ws vs s ends e kept =
      follows_end mach wide lo hi m (at_place f p regs callers m.output) (Went t) (Leads f callers r.registers pl ws vs s ends) (record { regs = regs; is = ap (λ (q : ℕ). at_place f q regs callers m.output) e; ok = kept })

  -- the value in register n is given
  pub gives : (n p : ℕ) (pl : Places) (u : Option Datum) (regs : Store) (callers : List Caller) (m : Meter) (ws vs : Scope) (s : Variables) (ends : Ends) → instr_at (Some r) p ≡ Some (instr.Return n) → slot regs n ≡ Some (or_null u) → SlotProper u
      → Follows mach wide 0 1 m (at_place f p regs callers m.output) (Done (Gave u) m) (Leads f callers r.registers pl ws vs s ends)
  gives n p pl u regs callers m ws vs s ends stands held proper =
      follows_step mach wide 0 1 0 0 m (at_place f p regs callers m.output) (returned (or_null u) callers m.output) (Done (Gave u) m) (Leads f callers r.registers pl ws vs s ends)
      (one_step mach f r there p (instr.Return n) regs callers m.output stands ∙ ap (λ (o : Option Datum). stepped mach (record { routine = f; at = p; registers = regs }) callers m.output (machine.there o machine.Returns)) held)
      (omega arith) (omega arith)
      (follows_end mach wide 0 0 m (returned (or_null u) callers m.output) (Gave u) (Leads f callers r.registers pl ws vs s ends) (record { proper = proper; is = refl }))

  -- null is given
  pub gives_nothing : (n p : ℕ) (pl : Places) (regs : Store) (callers : List Caller) (m : Meter) (ws vs : Scope) (s : Variables) (ends : Ends) → StandAt r.body p (gives_null n) → length regs ≡ r.registers
      → Follows mach wide 0 2 m (at_place f p regs callers m.output) (Done (Gave None) m) (Leads f callers r.registers pl ws vs s ends)
  gives_nothing n p pl regs callers m ws vs s ends stands size =
      then_on mach f r there wide 0 1 p (instr.Const n scalar.Null) regs (put regs n (Some Null)) callers m (Done (Gave None) m) (Leads f callers r.registers pl ws vs s ends) stands.0 refl
      (gives n (p + 1) pl None (put regs n (Some Null)) callers m ws vs s ends stands.1.0 (put_here regs n (Some Null) (let l = target_room p n (instr.Const n scalar.Null) [] stands.0 refl in omega (arith, l, size))) tt)

  -- ---- a value, and then what follows

  module _ (w : Setting ℕ) (n most : ℕ) where
    pub value_then : {Y : Type 0} (e : Expr ℕ) (o : Offers) (vs : Scope) (s : Variables) (d at : ℕ) (store regs : Store) (callers : List Caller) (m : Meter) (lo2 hi2 lo hi : ℕ) (next : Datum → Run Y) (Q : Y → Meter → State → Type 0)
        → IsEvaluated c routines f r w n wide most e → BoundExpr o n vs e → AreKnown n vs s → n ≤ d → StandAt r.body at (code c e s d) → Kept vs (before e s) r.registers store regs → m.ticks ≤ most → size e + lo2 ≤ lo → hi2 ≤ hi
        → ((v : Datum) (k : Meter) (last : Store) → k.ticks ≤ m.ticks → IsProper v → Got vs n d s store regs v last → Follows mach wide lo2 hi2 k (at_place f (at + length (code c e s d)) last callers k.output) (next v k) Q)
        → Follows mach wide lo hi m (at_place f at regs callers m.output) (eval w true e store m >>= next) Q
    value_then e o vs s d at store regs callers m lo2 hi2 lo hi next Q se b known behind stands kept few low high then =
        follows_then mach wide (size e) 0 lo2 hi2 lo hi m (at_place f at regs callers m.output) (eval w true e store m) next f (at + length (code c e s d)) callers (Gained vs n d s store regs) Q low (omega (arith, high))
        (se o n vs s d at store regs callers m b (omega arith) known behind stands kept.live kept.proper kept.size few)
        (λ v k last le got. then v k last le got.0 got.1)

    -- a truth value in register n
    pub record GotTruth (vs : Scope) (s : Variables) (store : Store) (b : Bool) (regs : Store) : Type 0 where
      pub value : slot regs n ≡ Some (Truth b)
      pub kept : Kept vs s r.registers store regs

    pub truth_comes : (e : Expr ℕ) (o : Offers) (vs : Scope) (s : Variables) (place at : ℕ) (store regs : Store) (callers : List Caller) (m : Meter)
        → IsEvaluated c routines f r w n wide most e → BoundExpr o n vs e → AreKnown n vs s → StandAt r.body at (code c e s n) → Kept vs (before e s) r.registers store regs → m.ticks ≤ most
        → Follows mach wide (size e) 0 m (at_place f at regs callers m.output) (tested_truth w place e store m) (Comes f (at + length (code c e s n)) callers (GotTruth vs s store))
    truth_comes e o vs s place at store regs callers m se b known stands kept few =
        value_then e o vs s n at store regs callers m 0 0 (size e) 0 (λ v. as_truth place v Done) (Comes f (at + length (code c e s n)) callers (GotTruth vs s store)) se b known (omega arith) stands kept few (omega arith) (omega arith)
        (λ v k last le proper got. follows_truth mach wide 0 0 k (at_place f (at + length (code c e s n)) last callers k.output) place v Done (Comes f (at + length (code c e s n)) callers (GotTruth vs s store))
        (λ t is. follows_end mach wide 0 0 k (at_place f (at + length (code c e s n)) last callers k.output) t (Comes f (at + length (code c e s n)) callers (GotTruth vs s store))
        (record { regs = last; is = refl; ok = record { value = got.value ∙ ap (λ (d : Datum). Some d) is; kept = record { live = got.live; size = got.size ∙ kept.size; proper = kept.proper } } })))

    -- ---- a variable gets its value

    module _ (fr : sem.Frame ℕ) (x : ℕ) (less : x < n) (vs ws us : Scope) (scope : (y : ℕ) → Has ws y → (x ≡ y) ⊎ Has vs y) (s : Variables) (known : AreKnown n vs s) (ends : Ends) (callers : List Caller) (pl : Places) where
      -- the value, in register n, comes into the variable, or is released
      store_follows : (plain : Bool) (store first regs : Store) (v : Datum) (m : Meter) (p : ℕ) → StandAt r.body p (compiled.store x s n plain) → p + length (compiled.store x s n plain) ≡ pl.after → StoreProper store → IsProper v → Got vs n n (without s x) store first v regs → length first ≡ r.registers
          → Follows mach wide 0 1 m (at_place f p regs callers m.output) (Done (Went (put store x (Some v))) m) (Leads f callers r.registers pl ws us s ends)
      store_follows plain store first regs v m p stands end proper new got size = by (has s x) refl plain stands end
        where
          t : Store
          t = put store x (Some v)

          long : length regs ≡ r.registers
          long = got.size ∙ size

          all_proper : StoreProper t
          all_proper = proper_put store x (Some v) new proper

          dead : has s x ≡ false → {A : Type 0} → has s x ≡ true → A
          dead e h = absurd (cc)

          by : (b : Bool) → has s x ≡ b → (plain : Bool) → StandAt r.body p (cond b (Does (instr.Move x n) ∷ []) (release_unless plain n)) → p + length (cond b (Does (instr.Move x n) ∷ []) (release_unless plain n)) ≡ pl.after
              → Follows mach wide 0 1 m (at_place f p regs callers m.output) (Done (Went t) m) (Leads f callers r.registers pl ws us s ends)
          by true e plain stands end =
              let last = put (put regs n None) x (Some v) in
              let room = target_room p x (instr.Move x n) (n ∷ []) stands.0 refl in
              let inner : length (put regs n None) ≡ length regs = put_size regs n None in
              then_on mach f r there wide 0 0 p (instr.Move x n) regs last callers m (Done (Went t) m) (Leads f callers r.registers pl ws us s ends) stands.0 (move_does mach.shapes regs x n v got.value)
              (arrives 0 0 (p + 1) pl t last callers m ws us s ends end (record {
                live = live_assigned vs ws x s store regs last v scope
                    (λ y a other. put_other (put regs n None) x y (Some v) other ∙ put_other regs n y None (λ g. absurd (let l = known.within y a in omega (arith, l, g))))
                    (λ a. put_here (put regs n None) x (Some v) (omega (arith, room, inner, long))) got.live;
                size = put_size (put regs n None) x (Some v) ∙ inner ∙ long;
                proper = all_proper;
              }))
          by false e true stands end =
              arrives 0 1 p pl t regs callers m ws us s ends (omega (arith, end)) (record { live = live_assigned vs ws x s store regs regs v scope (λ y a other. refl) (λ a. dead e a) got.live; size = long; proper = all_proper })
          by false e false stands end =
              then_on mach f r there wide 0 0 p (instr.Clear (n ∷ [])) regs (put regs n None) callers m (Done (Went t) m) (Leads f callers r.registers pl ws us s ends) stands.0 refl
              (arrives 0 0 (p + 1) pl t (put regs n None) callers m ws us s ends end (record {
                live = live_assigned vs ws x s store regs (put regs n None) v scope (λ y a other. put_other regs n y None (λ g. absurd (let l = known.within y a in omega (arith, l, g)))) (λ a. dead e a) got.live;
                size = put_size regs n None ∙ long;
                proper = all_proper;
              }))

      -- the value, what is asked of it, and the variable
      moved_follows : (e : Expr ℕ) (o : Offers) (t : Ty) (place at : ℕ) (store regs : Store) (m : Meter) → IsEvaluated c routines f r w n wide most e → IsStillTy fr.member t → BoundExpr o n vs e → AreKnown n vs (without s x)
          → StandAt r.body at (code c e (without s x) n ++ compiled.store x s n (is_plain e)) → at + length (code c e (without s x) n ++ compiled.store x s n (is_plain e)) ≡ pl.after → Kept vs (before e (without s x)) r.registers store regs → m.ticks ≤ most
          → Follows mach wide (size e + 1) 0 m (at_place f at regs callers m.output) (spend true (λ k. eval w true e store k >>= stored fr place x t store) m) (Leads f callers r.registers pl ws us s ends)
      moved_follows e o t place at store regs m se still b fewer stands end kept few =
          let xs = code c e (without s x) n in
          let ys = compiled.store x s n (is_plain e) in
          let l1 : length (xs ++ ys) ≡ length xs + length ys = length-append xs ys in
          then_paid mach f r there wide (size e) 1 (size e + 1) at regs callers m (λ k. eval w true e store k >>= stored fr place x t store) (Leads f callers r.registers pl ws us s ends) (omega arith) (omega arith)
          (λ k out ticks. value_then e o vs (without s x) n at store regs callers k 0 1 (size e) 1 (stored fr place x t store) (Leads f callers r.registers pl ws us s ends) se b fewer (omega arith) (stand_front r.body at xs ys stands) kept (omega (arith, ticks, few)) (omega arith) (omega arith)
          (λ v j last le proper got. follows_given mach wide 0 1 f (at + length xs) last callers fr.member j place t v (Done (Went (put store x (Some v)))) (Leads f callers r.registers pl ws us s ends) still
          (λ i same. store_follows (is_plain e) store regs last v i (at + length xs) (stand_back r.body at xs ys stands) (omega (arith, end, l1)) kept.proper proper got kept.size)))

      -- a value that comes straight into the register of the variable: what is asked of it makes no step
      straight_follows : (e : Expr ℕ) (o : Offers) (t : Ty) (place at : ℕ) (store regs : Store) (m : Meter) → IsEvaluatedInto c routines f r w n wide most e → is_straight e (without s x) ≡ true → IsStillTy fr.member t → BoundExpr o n vs e → AreKnown n vs (without s x)
          → StandAt r.body at (into c e (without s x) n x) → at + length (into c e (without s x) n x) ≡ pl.after → Kept vs (before e (without s x)) r.registers store regs → m.ticks ≤ most
          → Follows mach wide (size e + 1) 0 m (at_place f at regs callers m.output) (spend true (λ k. eval w true e store k >>= stored fr place x t store) m) (Leads f callers r.registers pl ws us s ends)
      straight_follows e o t place at store regs m se is still b fewer stands end kept few =
          let to = at + length (into c e (without s x) n x) in
          let Q = Leads f callers r.registers pl ws us s ends in
          then_paid mach f r there wide (size e) 0 (size e + 1) at regs callers m (λ k. eval w true e store k >>= stored fr place x t store) Q (omega arith) (omega arith)
          (λ k out ticks. follows_then mach wide (size e) 0 0 0 (size e) 0 k (at_place f at regs callers k.output) (eval w true e store k) (stored fr place x t store) f to callers (Gained vs x x (without s x) store regs) Q (omega arith) (omega arith)
          (se o n vs (without s x) n x at store regs callers k is b (omega arith) fewer (omega arith) less (λ y h. (without_says s x y h).0) stands kept.live kept.proper kept.size (omega (arith, ticks, few)))
          (λ v j last le new. follows_given mach wide 0 0 f to last callers fr.member j place t v (Done (Went (put store x (Some v)))) Q still
          (λ i same. arrives 0 0 to pl (put store x (Some v)) last callers i ws us s ends end (record {
            live = live_assigned vs ws x s store last last v scope (λ y a other. refl) (λ a. new.1.value) new.1.live;
            size = new.1.size ∙ kept.size;
            proper = proper_put store x (Some v) new.0 kept.proper;
          }))))

      -- the whole of it
      pub set_follows : (e : Expr ℕ) (o : Offers) (t : Ty) (place at : ℕ) (store regs : Store) (m : Meter) → IsValued c routines f r w n wide most e → IsStillTy fr.member t → BoundExpr o n vs e → AreKnown n vs (without s x)
          → StandAt r.body at (compiled.set c x e s n) → at + length (compiled.set c x e s n) ≡ pl.after → Kept vs (before e (without s x)) r.registers store regs → m.ticks ≤ most
          → Follows mach wide (size e + 1) 0 m (at_place f at regs callers m.output) (spend true (λ k. eval w true e store k >>= stored fr place x t store) m) (Leads f callers r.registers pl ws us s ends)
      set_follows e o t place at store regs m se still b fewer stands end kept few = by (has s x && is_straight e (without s x)) refl stands end
        where
          steps : Bool → List Step
          steps g = cond g (into c e (without s x) n x) (code c e (without s x) n ++ compiled.store x s n (is_plain e))

          by : (g : Bool) → (has s x && is_straight e (without s x)) ≡ g → StandAt r.body at (steps g) → at + length (steps g) ≡ pl.after
              → Follows mach wide (size e + 1) 0 m (at_place f at regs callers m.output) (spend true (λ k. eval w true e store k >>= stored fr place x t store) m) (Leads f callers r.registers pl ws us s ends)
          by true is stood ends_at = straight_follows e o t place at store regs m se.1 (second_so (has s x) (is_straight e (without s x)) is) still b fewer stood ends_at kept few
          by false is stood ends_at = moved_follows e o t place at store regs m se.0 still b fewer stood ends_at kept few
