-- Expressions whose last instruction alone fills the register of their value: it may be that of the operation, or that of a variable that isn't live behind.
use Rattle.std.proofs.Common.{◌≡◌, ◌<◌, ◌≤◌, ℕ, suc, ◌+◌, List, [], ◌∷◌, ◌++◌, length, Bool, true, Some, ℤ, refl, arith}
use Rattle.std.specs.Prelude.{slice_get}
use Rattle.wy_value.specs.Datum.{Datum, Null, Truth, Whole}
use Rattle.wy_core.specs.CoreTree.{Expr, NullExpr, BoolExpr, IntExpr, VarExpr, NegExpr, NotExpr, LenExpr, BinaryExpr, IndexExpr, FieldExpr}
use Rattle.wy_core.specs.declared.expressions.Op.{Op}
use Rattle.wy_core.specs.declared.expressions.Op.TheVariants as op
use Rattle.wy_core.specs.formed.Offers.{Offers}
use Rattle.wy_core.specs.formed.Bound.{Scope, BoundExpr}
use Rattle.wy_core.specs.formed.Literals.{IsInt}
use Rattle.wy_core.specs.formed.Sizes.{size}
use Rattle.wy_code_spec.specs.wy_live.Sets.{Variables, has, with}
use Rattle.wy_code_spec.specs.wy_live.Walks.{before}
use Rattle.wy_code.specs.declared.instructions.Scalar.{Scalar}
use Rattle.wy_code.specs.declared.instructions.Scalar.TheVariants as scalar
use Rattle.wy_code.specs.declared.instructions.Instr.TheVariants as instr
use Rattle.wy_code.specs.declared.routines.Routine.{Routine}
use Rattle.wy_code.specs.declared.routines.Code.{Code}
use Rattle.wy_code_spec.specs.declared.tables.context.Context.{Context}
use Rattle.wy_code_spec.specs.tables.Tables.{number_of}
use Rattle.wy_code.specs.declared.pieces.steps.Step.{Step}
use Rattle.wy_code.specs.declared.pieces.steps.Step.TheVariants.{Does}
use Rattle.wy_code_spec.specs.compiled.Operands.{variable_in, read, standing, unless_read}
use Rattle.wy_code_spec.specs.compiled.Expressions.{code}
use Rattle.wy_code_spec.specs.compiled.Straight.{negated_into, into}
use Rattle.wy_vc_spec.specs.wy_sem.Meter.{Meter, Done, ◌>>=◌, spend}
use Rattle.wy_vc_spec.specs.wy_sem.Operations as operations
use Rattle.wy_vc_spec.specs.wy_sem.Operations.{needed, denied, length_result, item_of, field_of}
use Rattle.wy_vc_spec.specs.wy_sem.Expressions.{Store, slot, put, Setting, eval}
use Rattle.wy_code_spec.specs.step.Step.{Caller, GoesOn as goes_on, effect, instr_at}
use Rattle.wy_gen_laws.specs.Places.{StandAt, IsRoutine}
use Rattle.wy_gen_laws.specs.Follows.{at_place, Comes}
use Rattle.wy_gen_laws.specs.Registers.{Live, Got}
use Rattle.wy_gen_laws.proofs.StoreLemmas.{live_fewer}
use Rattle.wy_gen_laws.proofs.FollowLemmas.{follows_at, follows_needed}
use Rattle.wy_gen_laws.proofs.SpareLemmas.{Leaves}
use Rattle.wy_vc_spec.specs.wy_sem.kept.Kept.{IsProper, StoreProper}
use Rattle.wy_gen_laws.specs.expressions.Standing.{with_table, AreKnown}
use Rattle.wy_gen_laws.specs.expressions.Evaluated.{Gained}
use Rattle.wy_gen_laws.proofs.expressions_lemmas.KnownLemmas.{with_has, is_below, still_live}
use Rattle.wy_gen_laws.proofs.expressions_lemmas.KnowingLemmas.{slot_proper, follows_knowing, literal_proper, negated_proper, denied_proper, length_proper, field_proper, item_proper}
use Rattle.wy_gen_laws.proofs.expressions_lemmas.ReadLemmas.{IsTarget, free_behind, stands_one, both_within, stands_low, variable_read, live_read, live_kept}
use Rattle.wy_gen_laws.proofs.expressions_lemmas.PartLemmas.{IsStrict, fills, denied_follows, length_follows, field_follows, negated_follows, item_follows}
use Rattle.wy_gen_laws.proofs.expressions_lemmas.OperandLemmas.{IsBrief, paid, variable, one_part, two_parts, numbers, alike}

module _ (c : Context) (routines : List Routine) (f : ℕ) (r : Routine) (there : IsRoutine (with_table c routines) f r) (w : Setting ℕ) (n wide most : ℕ) where
  abbrev mach : Code
  mach = with_table c routines

  -- wherever these steps stand, with what is live before the expression in its registers, the run follows the expression and leaves two steps unused; the value comes into z, and the registers from one up to z hold what they held
  abbrev pub IsFilled : Expr ℕ → Variables → (d from z : ℕ) → List Step → Type 0
  IsFilled e s d from z steps = (o : Offers) (k : ℕ) (vs : Scope) (at : ℕ) (store regs : Store) (callers : List Caller) (m : Meter)
      → BoundExpr o k vs e → k ≤ n → AreKnown n vs s → n ≤ d → IsTarget n d from z s → StandAt r.body at steps → Live vs (before e s) store regs → StoreProper store → length regs ≡ r.registers → m.ticks ≤ most
      → Leaves (with_table c routines) wide (size e) 2 m (at_place f at regs callers m.output) (eval w true e store m) (Comes f (at + length steps) callers (Gained vs from z s store regs))

  -- ---- constants and variables

  constant : (v : Datum) (a : Scalar) (vs : Scope) (s : Variables) (d from z at : ℕ) (store regs : Store) (callers : List Caller) (m : Meter) → IsProper v → effect mach.shapes (instr.Const z a) regs ≡ goes_on (put regs z (Some v)) [] → IsTarget n d from z s → instr_at (Some r) at ≡ Some (instr.Const z a) → Live vs s store regs → length regs ≡ r.registers
      → Leaves (with_table c routines) wide 1 2 m (at_place f at regs callers m.output) (spend true (Done v) m) (Comes f (at + 1) callers (Gained vs from z s store regs))
  constant v a vs s d from z at store regs callers m ok does goal stands live whole =
      paid c routines f r there w n wide most 0 1 1 at regs callers m (Done v) (at + 1) (Gained vs from z s store regs) (omega arith) (omega arith)
      (λ j e l. follows_knowing mach wide 0 1 j (at_place f at regs callers j.output) (Done v j) IsProper f (at + 1) callers (Got vs from z s store regs) ok
      (fills mach f r there from z wide vs s goal.apart store at (instr.Const z a) [] regs regs regs callers j v stands refl does whole live (λ t x y. refl) refl))

  pub null_fills : (i : ℕ) (s : Variables) (d from z : ℕ) → IsFilled (NullExpr i) s d from z (into c (NullExpr i) s d z)
  null_fills i s d from z o k vs at store regs callers m b low known behind goal stands live proper whole few = constant Null scalar.Null vs s d from z at store regs callers m tt refl goal stands.0 live whole

  pub truth_fills : (i : ℕ) (truth : Bool) (s : Variables) (d from z : ℕ) → IsFilled (BoolExpr i truth) s d from z (into c (BoolExpr i truth) s d z)
  truth_fills i truth s d from z o k vs at store regs callers m b low known behind goal stands live proper whole few = constant (Truth truth) (scalar.Bool truth) vs s d from z at store regs callers m tt refl goal stands.0 live whole

  pub number_fills : (i : ℕ) (number : ℤ) → IsInt number → (s : Variables) (d from z : ℕ) → IsFilled (IntExpr i number) s d from z (into c (IntExpr i number) s d z)
  number_fills i number is s d from z o k vs at store regs callers m b low known behind goal stands live proper whole few =
      constant (Whole number) (scalar.Int number) vs s d from z at store regs callers m (literal_proper 0 m number is) refl goal stands.0 live whole

  pub variable_fills : (i x : ℕ) (s : Variables) (d from z : ℕ) → IsFilled (VarExpr i x) s d from z (into c (VarExpr i x) s d z)
  variable_fills i x s d from z o k vs at store regs callers m b low known behind goal stands live proper whole few =
      let later : Live vs s store regs = live_fewer vs (with s x) s store regs (λ y h. still_live y (VarExpr i x) s h) live in
      let less : x < n = known.below x b in
      paid c routines f r there w n wide most 0 1 1 at regs callers m (needed (w.place i) (slot store x) Done) (at + 1) (Gained vs from z s store regs) (omega arith) (omega arith)
      (λ j e l. follows_needed mach wide 0 1 j (at_place f at regs callers j.output) (w.place i) (slot store x) Done (Comes f (at + 1) callers (Gained vs from z s store regs))
      (λ v held. follows_knowing mach wide 0 1 j (at_place f at regs callers j.output) (Done v j) IsProper f (at + 1) callers (Got vs from z s store regs) (slot_proper store x v proper held)
      (variable c routines f r there w n wide most from z at x vs s (has s x) store regs callers j v refl goal.apart (λ t a g same. let p = goal.within t a g in absurd (omega (arith, p, less, same))) stands (live.holds x v b (with_has s x) held) later whole)))

  -- ---- one operand

  module _ (i : ℕ) (a : Expr ℕ) (sa : IsBrief c routines f r there w n wide most a) (s : Variables) (d from z : ℕ) where
    pub negated_fills : IsFilled (NegExpr i a) s d from z (into c (NegExpr i a) s d z)
    negated_fills o k vs at store regs callers m b low known behind goal stands live proper whole few =
        one_part c routines f r there w n wide most a (variable_in a) (variable_read a) sa (negated_into d z (standing (variable_in a) d)) (operations.negated (w.place i)) 0 2 (size a + 1) (omega arith) (omega arith) (λ v j p. negated_proper (w.place i) j v p) o k vs s d at store regs callers m (Got vs from z s store regs)
        (λ v j p last pv got ys. follows_at mach wide 0 2 j (at_place f p last callers j.output) (operations.negated (w.place i) v j) f (p + 1 + 1) (p + 2) callers (Got vs from z s store regs) (omega arith)
        (negated_follows mach f r there from z wide vs s goal.apart store (standing (variable_in a) d) p regs last whole callers (w.place i) j v (stands_one n d from z s goal vs store regs last v (variable_in a) got)
        (suc d) (free_behind n d from z s goal (is_below n vs s known) behind (suc d) (omega arith)) (λ same. let l = stands_low vs n d (variable_in a) s store regs last v known behind got in absurd (omega (arith, l, same))) ys))
        b low known behind stands live proper whole few

    pub denied_fills : IsFilled (NotExpr i a) s d from z (into c (NotExpr i a) s d z)
    denied_fills o k vs at store regs callers m b low known behind goal stands live proper whole few =
        one_part c routines f r there w n wide most a (variable_in a) (variable_read a) sa (Does (instr.Not z (standing (variable_in a) d)) ∷ []) (denied (w.place i)) 0 1 (size a + 1) (omega arith) (omega arith) (λ v j p. denied_proper (w.place i) j v p) o k vs s d at store regs callers m (Got vs from z s store regs)
        (λ v j p last pv got ys. denied_follows mach f r there from z wide vs s goal.apart store (standing (variable_in a) d) p regs last whole callers (w.place i) j v (stands_one n d from z s goal vs store regs last v (variable_in a) got) ys.0)
        b low known behind stands live proper whole few

    pub length_fills : IsFilled (LenExpr i a) s d from z (into c (LenExpr i a) s d z)
    length_fills o k vs at store regs callers m b low known behind goal stands live proper whole few =
        one_part c routines f r there w n wide most a (read a s) (live_read a s) sa (Does (instr.Len z (standing (read a s) d)) ∷ []) (length_result (w.place i)) 0 1 (size a + 1) (omega arith) (omega arith) (λ v j p. length_proper (w.place i) j v p) o k vs s d at store regs callers m (Got vs from z s store regs)
        (λ v j p last pv got ys. length_follows mach f r there from z wide vs s goal.apart store (standing (read a s) d) p regs last whole callers (w.place i) j v (stands_one n d from z s goal vs store regs last v (read a s) got) ys.0)
        b low known behind stands live proper whole few

    pub field_fills : (name : List ℕ) → slice_get c.table.names (number_of name c.table.names) ≡ Some name → IsFilled (FieldExpr i a name) s d from z (into c (FieldExpr i a name) s d z)
    field_fills name named o k vs at store regs callers m b low known behind goal stands live proper whole few =
        one_part c routines f r there w n wide most a (read a s) (live_read a s) sa (Does (instr.Field z (standing (read a s) d) (number_of name c.table.names)) ∷ []) (λ v. field_of (w.place i) v name) 0 1 (size a + 1) (omega arith) (omega arith) (λ v j p. field_proper (w.place i) j name v p) o k vs s d at store regs callers m (Got vs from z s store regs)
        (λ v j p last pv got ys. field_follows mach f r there from z wide vs s goal.apart store (standing (read a s) d) p regs last whole callers (w.place i) j v (stands_one n d from z s goal vs store regs last v (read a s) got) (number_of name c.table.names) name named ys.0)
        b low known behind stands live proper whole few

  -- ---- two operands

  module _ (i : ℕ) (a e : Expr ℕ) (sa : IsBrief c routines f r there w n wide most a) (se : IsBrief c routines f r there w n wide most e) (s : Variables) (d from z : ℕ) where
    pub item_fills : IsFilled (IndexExpr i a e) s d from z (into c (IndexExpr i a e) s d z)
    item_fills o k vs at store regs callers m b low known behind goal stands live proper whole few =
        let l = standing (read a s) d in
        let h = standing (variable_in e) (suc d) in
        let ys : List Step = Does (instr.Get z l h) ∷ [] in
        paid c routines f r there w n wide most (size a + size e + 0) 1 (size a + size e + 1) at regs callers m (λ j. eval w true a store j >>= (λ v t. eval w true e store t >>= item_of (w.place i) v))
        (at + length (unless_read (read a s) (code c a (before e s) d) ++ (unless_read (variable_in e) (code c e s (suc d)) ++ ys))) (Gained vs from z s store regs) (omega arith) (omega arith)
        (λ j g le. two_parts c routines f r there w n wide most a e (read a s) (variable_in e) (live_read a s) (variable_read e) sa se ys (item_of (w.place i)) 0 1 (λ v u j p q. item_proper (w.place i) j v u p q) o k vs s d at store regs callers j (Got vs from z s store regs) (live_kept a s)
        (λ v u t p last le2 pv pu both ys. item_follows mach f r there from z wide vs s goal.apart store l h p regs last whole callers (w.place i) t v u (both_within n d from z s goal vs store regs last v l h u both) ys.0)
        b.0 b.1 low known behind stands live proper whole (omega (arith, le, few)))

    -- each operator that evaluates both
    pub operator_fills : (o : Op) → IsStrict o → IsFilled (BinaryExpr i o a e) s d from z (into c (BinaryExpr i o a e) s d z)
    operator_fills op.Add is o k vs at store regs callers m b low known behind goal stands live proper whole few = numbers c routines f r there w n wide most op.Add tt (w.place i) a e sa se s o k vs d from z at store regs callers m b low known behind goal stands live proper whole few
    operator_fills op.Sub is o k vs at store regs callers m b low known behind goal stands live proper whole few = numbers c routines f r there w n wide most op.Sub tt (w.place i) a e sa se s o k vs d from z at store regs callers m b low known behind goal stands live proper whole few
    operator_fills op.Mul is o k vs at store regs callers m b low known behind goal stands live proper whole few = numbers c routines f r there w n wide most op.Mul tt (w.place i) a e sa se s o k vs d from z at store regs callers m b low known behind goal stands live proper whole few
    operator_fills op.Div is o k vs at store regs callers m b low known behind goal stands live proper whole few = numbers c routines f r there w n wide most op.Div tt (w.place i) a e sa se s o k vs d from z at store regs callers m b low known behind goal stands live proper whole few
    operator_fills op.Mod is o k vs at store regs callers m b low known behind goal stands live proper whole few = numbers c routines f r there w n wide most op.Mod tt (w.place i) a e sa se s o k vs d from z at store regs callers m b low known behind goal stands live proper whole few
    operator_fills op.Equal is o k vs at store regs callers m b low known behind goal stands live proper whole few = alike c routines f r there w n wide most (w.place i) a e sa se s o k vs d from z at store regs callers m b low known behind goal stands live proper whole few
    operator_fills op.Less is o k vs at store regs callers m b low known behind goal stands live proper whole few = numbers c routines f r there w n wide most op.Less tt (w.place i) a e sa se s o k vs d from z at store regs callers m b low known behind goal stands live proper whole few
    operator_fills op.LessEqual is o k vs at store regs callers m b low known behind goal stands live proper whole few = numbers c routines f r there w n wide most op.LessEqual tt (w.place i) a e sa se s o k vs d from z at store regs callers m b low known behind goal stands live proper whole few
    operator_fills op.Greater is o k vs at store regs callers m b low known behind goal stands live proper whole few = numbers c routines f r there w n wide most op.Greater tt (w.place i) a e sa se s o k vs d from z at store regs callers m b low known behind goal stands live proper whole few
    operator_fills op.GreaterEqual is o k vs at store regs callers m b low known behind goal stands live proper whole few = numbers c routines f r there w n wide most op.GreaterEqual tt (w.place i) a e sa se s o k vs d from z at store regs callers m b low known behind goal stands live proper whole few
    operator_fills op.And is o k vs at store regs callers m b low known behind goal stands live proper whole few = absurd is
    operator_fills op.Or is o k vs at store regs callers m b low known behind goal stands live proper whole few = absurd is
