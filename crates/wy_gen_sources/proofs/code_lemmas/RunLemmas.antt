-- Runs of safe code keep nothing dead.
use Rattle.std.proofs.Common.{◌≡◌, ◌≢◌, ◌<◌, ◌⊎◌, inl, inr, ℕ, zero, suc, ◌+◌, ◌-◌, List, [], ◌∷◌, ◌++◌, length, Bool, true, false, cond, nat_eq, Option, Some, None, ℤ, pos, refl, sym, ◌∙◌, ap, subst, arith}
use Rattle.std.specs.Prelude.{slice_get, not, ◌&&◌, int_le}
use Rattle.std.proofs.lemmas.Bool.Decides.{nat_tests}
use Rattle.wy_lemmas.proofs.Options.{some_is as some_same}
use Rattle.wy_value.specs.Datum.{Datum, Null, Truth, Whole, Array, Record, Data, no_items, item, Fields}
use Rattle.wy_value.specs.Numbers.{is_int}
use Rattle.wy_value.specs.Seen.{data_of}
use Rattle.wy_value.specs.Values.{length_of}
use Rattle.wy_value.specs.declared.shapes.Shapes.{Shapes}
use Rattle.wy_code.specs.declared.instructions.Scalar.{Scalar}
use Rattle.wy_code.specs.declared.instructions.Scalar.TheVariants as scalar
use Rattle.wy_code.specs.declared.instructions.Arithmetic.{Arithmetic}
use Rattle.wy_code.specs.declared.instructions.Arithmetic.TheVariants as arithmetic
use Rattle.wy_code.specs.declared.instructions.Slot as code_slot
use Rattle.wy_code.specs.declared.instructions.Slot.TheVariants as path_step
use Rattle.wy_code.specs.declared.instructions.Kind.{Kind}
use Rattle.wy_code.specs.declared.instructions.Kind.TheVariants as kind
use Rattle.wy_code.specs.declared.instructions.Instr.{Instr}
use Rattle.wy_code.specs.declared.instructions.Instr.TheVariants as instr
use Rattle.wy_code.specs.declared.routines.Routine.{Routine}
use Rattle.wy_code.specs.declared.routines.Code.{Code}
use Rattle.wy_gen_laws.specs.wy_sem.Operations.{longest, nat_of, same, item_at, find, copies, is_index, Slot, ItemSlot, FieldSlot, updated}
use Rattle.wy_gen_laws.specs.wy_sem.Expressions.{Store, slot, put}
use Rattle.wy_gen_laws.specs.wy_sem.Evaluation.{is_ascii}
use Rattle.wy_gen_laws.specs.wy_code_spec.step.Step as machine
use Rattle.wy_gen_laws.specs.wy_code_spec.step.Step.{State, Runs, Ended, Stuck, Frame, Caller, Effect, GoesOn, GoesTo, Calls, Returns, Fails, there, held, moved, moved_all, cleared, where_so, numbers, scalar_of, gives_int, computes, compares, record_of, shape_names, slots_of, has_path, kind_answer, as_bytes, effect, empties, holding, entry_registers, entered, returned, next_of, stepped, executed, step, start, after}
use Rattle.wy_code.specs.pieces.Placing.{slot_registers}
use Rattle.wy_gen_sources.specs.code.Large.{IsLarge, HoldsLarge, IsNone}
use Rattle.wy_gen_sources.specs.code.Safe.{Gives, After, Onward, Safe, SafeCode, FrameKeeps, CallersKeep, KeepsNothing, SafeRunsKeepNothing}
use Rattle.wy_gen_sources.proofs.code_lemmas.SafeLemmas.{safe_less}

-- ---- registers, one of which gets another value

put_large : (s : Store) (d r : ℕ) (v : Option Datum) → HoldsLarge (slot (put s d v) r) → ((r ≡ d) × HoldsLarge v) ⊎ ((r ≢ d) × HoldsLarge (slot s r))
put_large [] d r v h = absurd h
put_large (w ∷ s) zero zero v h = inl (refl, h)
put_large (w ∷ s) zero (suc r) v h = inr (λ e. absurd (omega (arith, e)), h)
put_large (w ∷ s) (suc d) zero v h = inr (λ e. absurd (omega (arith, e)), h)
put_large (w ∷ s) (suc d) (suc r) v h = by (put_large s d r v h)
  where
    by : ((r ≡ d) × HoldsLarge v) ⊎ ((r ≢ d) × HoldsLarge (slot s r)) → ((suc r ≡ suc d) × HoldsLarge v) ⊎ ((suc r ≢ suc d) × HoldsLarge (slot s r))
    by (inl p) = inl (ap suc p.0, p.1)
    by (inr p) = inr (λ e. p.0 (omega (arith, e)), p.1)

cleared_large : (s : Store) (rs : List ℕ) (r : ℕ) → HoldsLarge (slot (cleared s rs) r) → IsNone r rs × HoldsLarge (slot s r)
cleared_large s [] r h = (tt, h)
cleared_large s (x ∷ rs) r h = by (cleared_large (put s x None) rs r h)
  where
    by : IsNone r rs × HoldsLarge (slot (put s x None) r) → IsNone r (x ∷ rs) × HoldsLarge (slot s r)
    by p = last (put_large s x r None p.1)
      where
        last : ((r ≡ x) × HoldsLarge None) ⊎ ((r ≢ x) × HoldsLarge (slot s r)) → IsNone r (x ∷ rs) × HoldsLarge (slot s r)
        last (inl g) = absurd g.1
        last (inr g) = ((g.0, p.0), g.1)

scalar_small : (c : Scalar) → IsLarge (scalar_of c) → ⊥
scalar_small scalar.Null h = h
scalar_small (scalar.Bool b) h = h
scalar_small (scalar.Int z) h = h

-- ---- effects

module _ (t : Gives) (f : ℕ) (body : List Instr) (p : ℕ) (regs : Store) where
  -- the registers that hold a list or a record
  abbrev Large : Store → ℕ → Type 0
  Large s r = HoldsLarge (slot s r)

  abbrev Always : ℕ → (ℕ → Type 0) → Type 0
  Always q P = (n : ℕ) → Safe t f body n q P

  -- the frame is safe behind the effect of the instruction at this place
  abbrev EffectKeeps : Effect → Type 0
  EffectKeeps (GoesOn s printed) = Always (p + 1) (Large s)
  EffectKeeps (GoesTo q) = Always q (Large regs)
  EffectKeeps (Calls d g vs s) = ((r : ℕ) → Large s r → r ≢ d) × Always (p + 1) (λ r. Large s r ⊎ ((r ≡ d) × (t g ≡ true)))
  EffectKeeps (Returns v) = IsLarge v → t f ≡ true
  EffectKeeps Fails = Unit {0}

  there_keeps : {X : Type 0} (o : Option X) (next : X → Effect) → ((x : X) → o ≡ Some x → EffectKeeps (next x)) → EffectKeeps (there o next)
  there_keeps None next h = tt
  there_keeps (Some x) next h = h x refl

  number_keeps : (v : Datum) (next : ℤ → Effect) → ((z : ℤ) → v ≡ Whole z → EffectKeeps (next z)) → EffectKeeps (machine.as_number v next)
  number_keeps (Whole z) next h = h z refl
  number_keeps Null next h = tt
  number_keeps (Truth b) next h = tt
  number_keeps (Array ds) next h = tt
  number_keeps (Record fs) next h = tt

  truth_keeps : (v : Datum) (next : Bool → Effect) → ((b : Bool) → v ≡ Truth b → EffectKeeps (next b)) → EffectKeeps (machine.as_truth v next)
  truth_keeps (Truth b) next h = h b refl
  truth_keeps Null next h = tt
  truth_keeps (Whole z) next h = tt
  truth_keeps (Array ds) next h = tt
  truth_keeps (Record fs) next h = tt

  items_keep : (v : Datum) (next : Data → Effect) → ((ds : Data) → EffectKeeps (next ds)) → EffectKeeps (machine.as_items v next)
  items_keep (Array ds) next h = h ds
  items_keep Null next h = tt
  items_keep (Truth b) next h = tt
  items_keep (Whole z) next h = tt
  items_keep (Record fs) next h = tt

  fields_keep : (v : Datum) (next : Fields → Effect) → ((fs : Fields) → EffectKeeps (next fs)) → EffectKeeps (machine.as_fields v next)
  fields_keep (Record fs) next h = h fs
  fields_keep Null next h = tt
  fields_keep (Truth b) next h = tt
  fields_keep (Whole z) next h = tt
  fields_keep (Array ds) next h = tt

  where_keeps : (b : Bool) (next : Effect) → EffectKeeps next → EffectKeeps (where_so b next)
  where_keeps true next h = h
  where_keeps false next h = tt

  cond_keeps : (b : Bool) (one two : Effect) → EffectKeeps one → EffectKeeps two → EffectKeeps (cond b one two)
  cond_keeps true one two h g = h
  cond_keeps false one two h g = g

  -- the register holds a value that is no list and no record
  abbrev IsSmall : ℕ → Type 0
  IsSmall s = Large regs s → ⊥

  number_small : (s : ℕ) (v : Datum) (z : ℤ) → slot regs s ≡ Some v → v ≡ Whole z → IsSmall s
  number_small s v z e g h = subst (λ (o : Option Datum). HoldsLarge o) (e ∙ ap (λ (u : Datum). Some u) g) h

  truth_small : (s : ℕ) (v : Datum) (b : Bool) → slot regs s ≡ Some v → v ≡ Truth b → IsSmall s
  truth_small s v b e g h = subst (λ (o : Option Datum). HoldsLarge o) (e ∙ ap (λ (u : Datum). Some u) g) h

  other_than : (s r : ℕ) → IsSmall s → Large regs r → r ≢ s
  other_than s r small h e = small (subst (λ (x : ℕ). Large regs x) e h)

  numbers_keep : (a b : ℕ) (next : ℤ → ℤ → Effect) → ((x y : ℤ) → IsSmall a → IsSmall b → EffectKeeps (next x y)) → EffectKeeps (numbers regs a b next)
  numbers_keep a b next h = there_keeps (slot regs a) _ (λ v e. there_keeps (slot regs b) _ (λ u g. number_keeps v _ (λ x i. number_keeps u _ (λ y j. h x y (number_small a v x e i) (number_small b u y g j)))))

  moved_all_keeps : (s : Store) (rs : List ℕ) (next : List Datum → Store → Effect)
      → ((vs : List Datum) (rest : Store) → ((r : ℕ) → Large rest r → IsNone r rs × Large s r) → EffectKeeps (next vs rest)) → EffectKeeps (moved_all s rs next)
  moved_all_keeps s [] next h = h [] s (λ r g. (tt, g))
  moved_all_keeps s (x ∷ rs) next h =
      there_keeps (slot s x) _ (λ v e. moved_all_keeps (put s x None) rs (λ vs last. next (v ∷ vs) last) (λ vs rest g. h (v ∷ vs) rest (λ r k. by r (g r k))))
    where
      by : (r : ℕ) → IsNone r rs × Large (put s x None) r → IsNone r (x ∷ rs) × Large s r
      by r k = last (put_large s x r None k.1)
        where
          last : ((r ≡ x) × HoldsLarge None) ⊎ ((r ≢ x) × Large s r) → IsNone r (x ∷ rs) × Large s r
          last (inl g) = absurd g.1
          last (inr g) = ((g.0, k.0), g.1)

  bytes_keep : (ds : Data) (next : List ℕ → Effect) → ((bytes : List ℕ) → EffectKeeps (next bytes)) → EffectKeeps (as_bytes ds next)
  bytes_keep no_items next h = h []
  bytes_keep (item d ds) next h = number_keeps d _ (λ z e. where_keeps (is_ascii z) _ (bytes_keep ds (λ bytes. next (nat_of z ∷ bytes)) (λ bytes. h (nat_of z ∷ bytes))))

  -- the registers of the indices hold numbers
  abbrev AllSmall : List ℕ → Type 0
  AllSmall rs = (r : ℕ) → Large regs r → IsNone r rs

  slots_keep : (shapes : Shapes) (path : List code_slot.Slot) (next : List Slot → Effect) → ((ps : List Slot) → AllSmall (slot_registers path) → EffectKeeps (next ps)) → EffectKeeps (slots_of shapes regs path next)
  slots_keep shapes [] next h = h [] (λ r l. tt)
  slots_keep shapes (path_step.Item s ∷ path) next h = there_keeps (slot regs s) _ (λ v e. number_keeps v _ (λ i g. where_keeps (int_le (pos 0) i) _
      (slots_keep shapes path (λ ps. next (ItemSlot (nat_of i) ∷ ps)) (λ ps k. h (ItemSlot (nat_of i) ∷ ps) (λ r l. (other_than s r (number_small s v i e g) l, k r l))))))
  slots_keep shapes (path_step.Field k ∷ path) next h = there_keeps (slice_get shapes.names k) _ (λ name e. slots_keep shapes path (λ ps. next (FieldSlot name ∷ ps)) (λ ps g. h (FieldSlot name ∷ ps) g))

  kind_keeps : (shapes : Shapes) (k : Kind) (v : Datum) (next : Bool → Effect) → ((b : Bool) → EffectKeeps (next b)) → EffectKeeps (kind_answer shapes k v next)
  kind_keeps shapes kind.Null v next h = h _
  kind_keeps shapes kind.Bool v next h = h _
  kind_keeps shapes kind.Int v next h = h _
  kind_keeps shapes kind.Array v next h = h _
  kind_keeps shapes (kind.Shape k) v next h = there_keeps (shape_names shapes k) _ (λ names e. h _)

  computed_keeps : (op : Arithmetic) (x y : ℤ) (next : ℤ → Effect) → ((z : ℤ) → EffectKeeps (next z)) → EffectKeeps (computes op x y next)
  computed_keeps arithmetic.Add x y next h = h _
  computed_keeps arithmetic.Sub x y next h = h _
  computed_keeps arithmetic.Mul x y next h = h _
  computed_keeps arithmetic.Div x y next h = where_keeps _ _ (h _)
  computed_keeps arithmetic.Mod x y next h = where_keeps _ _ (h _)

  -- ---- instructions

  abbrev Behind : Instr → ℕ → Type 0
  Behind i r = After t i (Large regs) r

  -- fewer registers hold something large than may do so
  lessen : (q : ℕ) (P Q : ℕ → Type 0) → ((r : ℕ) → P r → Q r) → Always q Q → Always q P
  lessen q P Q h k = λ n. safe_less t f body n q P Q h (k n)

  -- a small value comes into a register
  small_put : (d : ℕ) (v : Datum) (r : ℕ) → (IsLarge v → ⊥) → Large (put regs d (Some v)) r → (r ≢ d) × Large regs r
  small_put d v r small h = by (put_large regs d r (Some v) h)
    where
      by : ((r ≡ d) × IsLarge v) ⊎ ((r ≢ d) × Large regs r) → (r ≢ d) × Large regs r
      by (inl g) = absurd (small g.1)
      by (inr g) = g

  -- any value comes into a register, where these were emptied
  any_put : (rs : List ℕ) (d : ℕ) (rest : Store) (v : Datum) (r : ℕ) → ((x : ℕ) → Large rest x → IsNone x rs × Large regs x) → Large (put rest d (Some v)) r → (((r ≢ d) × IsNone r rs) × Large regs r) ⊎ ((r ≡ d) × IsLarge v)
  any_put rs d rest v r g h = by (put_large rest d r (Some v) h)
    where
      by : ((r ≡ d) × IsLarge v) ⊎ ((r ≢ d) × Large rest r) → (((r ≢ d) × IsNone r rs) × Large regs r) ⊎ ((r ≡ d) × IsLarge v)
      by (inl e) = inr e
      by (inr e) = let o = g r e.1 in inl ((e.0, o.0), o.1)

  one_gone : (x r : ℕ) → Large (put regs x None) r → IsNone r (x ∷ []) × Large regs r
  one_gone x r h = by (put_large regs x r None h)
    where
      by : ((r ≡ x) × HoldsLarge None) ⊎ ((r ≢ x) × Large regs r) → IsNone r (x ∷ []) × Large regs r
      by (inl g) = absurd g.1
      by (inr g) = ((g.0, tt), g.1)

  -- what a register holds is large where the value is
  source_large : (s : ℕ) (v : Datum) → slot regs s ≡ Some v → IsLarge v → Large regs s
  source_large s v e h = subst (λ (o : Option Datum). HoldsLarge o) (sym e) h

  moved_in : (d s : ℕ) (v : Datum) (r : ℕ) → slot regs s ≡ Some v → Large (put (put regs s None) d (Some v)) r → Behind (instr.Move d s) r
  moved_in d s v r e h = by (any_put (s ∷ []) d (put regs s None) v r (one_gone s) h)
    where
      by : (((r ≢ d) × IsNone r (s ∷ [])) × Large regs r) ⊎ ((r ≡ d) × IsLarge v) → Behind (instr.Move d s) r
      by (inl g) = inl (g.1, g.0)
      by (inr g) = inr (g.0, source_large s v e g.1)

  shared_in : (d s : ℕ) (v : Datum) (r : ℕ) → slot regs s ≡ Some v → Large (put regs d (Some v)) r → Behind (instr.Share d s) r
  shared_in d s v r e h = by (any_put [] d regs v r (λ x l. (tt, l)) h)
    where
      by : (((r ≢ d) × IsNone r []) × Large regs r) ⊎ ((r ≡ d) × IsLarge v) → Behind (instr.Share d s) r
      by (inl g) = inl (g.1, (g.0.0, tt))
      by (inr g) = inr (g.0, source_large s v e g.1)

  filled_in : (d v n : ℕ) (u : Datum) (r : ℕ) → IsSmall n → Large (put (put regs v None) d (Some u)) r → Behind (instr.Fill d v n) r
  filled_in d v n u r small h = by (any_put (v ∷ []) d (put regs v None) u r (one_gone v) h)
    where
      by : (((r ≢ d) × IsNone r (v ∷ [])) × Large regs r) ⊎ ((r ≡ d) × IsLarge u) → Behind (instr.Fill d v n) r
      by (inl g) = inl (g.1, (g.0.0, (g.0.1.0, (other_than n r small g.1, tt))))
      by (inr g) = inr g.0

  got_in : (d a i : ℕ) (u : Datum) (r : ℕ) → IsSmall i → Large (put regs d (Some u)) r → Behind (instr.Get d a i) r
  got_in d a i u r small h = by (any_put [] d regs u r (λ x l. (tt, l)) h)
    where
      by : (((r ≢ d) × IsNone r []) × Large regs r) ⊎ ((r ≡ d) × IsLarge u) → Behind (instr.Get d a i) r
      by (inl g) = inl (g.1, (g.0.0, (other_than i r small g.1, tt)))
      by (inr g) = inr g.0

  field_in : (d a k : ℕ) (u : Datum) (r : ℕ) → Large (put regs d (Some u)) r → Behind (instr.Field d a k) r
  field_in d a k u r h = by (any_put [] d regs u r (λ x l. (tt, l)) h)
    where
      by : (((r ≢ d) × IsNone r []) × Large regs r) ⊎ ((r ≡ d) × IsLarge u) → Behind (instr.Field d a k) r
      by (inl g) = inl (g.1, (g.0.0, tt))
      by (inr g) = inr g.0

  updated_in : (a : ℕ) (path : List code_slot.Slot) (v : ℕ) (u : Datum) (r : ℕ) → AllSmall (slot_registers path) → Large (put (put regs v None) a (Some u)) r → Behind (instr.Put a path v) r
  updated_in a path v u r small h = by (any_put (v ∷ []) a (put regs v None) u r (one_gone v) h)
    where
      by : (((r ≢ a) × IsNone r (v ∷ [])) × Large regs r) ⊎ ((r ≡ a) × IsLarge u) → Behind (instr.Put a path v) r
      by (inl g) = inl (g.1, (g.0.0, (g.0.1.0, small r g.1)))
      by (inr g) = inr g.0

  array_in : (d : ℕ) (rs : List ℕ) (rest : Store) (u : Datum) (r : ℕ) → ((x : ℕ) → Large rest x → IsNone x rs × Large regs x) → Large (put rest d (Some u)) r → Behind (instr.Array d rs) r
  array_in d rs rest u r g h = by (any_put rs d rest u r g h)
    where
      by : (((r ≢ d) × IsNone r rs) × Large regs r) ⊎ ((r ≡ d) × IsLarge u) → Behind (instr.Array d rs) r
      by (inl k) = inl (k.1, (k.0.0, k.0.1))
      by (inr k) = inr k.0

  record_in : (d m : ℕ) (rs : List ℕ) (rest : Store) (u : Datum) (r : ℕ) → ((x : ℕ) → Large rest x → IsNone x rs × Large regs x) → Large (put rest d (Some u)) r → Behind (instr.Record d m rs) r
  record_in d m rs rest u r g h = by (any_put rs d rest u r g h)
    where
      by : (((r ≢ d) × IsNone r rs) × Large regs r) ⊎ ((r ≡ d) × IsLarge u) → Behind (instr.Record d m rs) r
      by (inl k) = inl (k.1, (k.0.0, k.0.1))
      by (inr k) = inr k.0

  called_in : (d g : ℕ) (rs : List ℕ) (rest : Store) (r : ℕ) → ((x : ℕ) → Large rest x → IsNone x rs × Large regs x) → Large rest r ⊎ ((r ≡ d) × (t g ≡ true)) → Behind (instr.Call d g rs) r
  called_in d g rs rest r h (inl l) = let o = h r l in inl (o.1, o.0)
  called_in d g rs rest r h (inr e) = inr e

  module _ (here : (n : ℕ) (i : Instr) → slice_get body p ≡ Some i → Onward t f (Safe t f body n) p i (Large regs)) where
    effect_keeps : (shapes : Shapes) (i : Instr) → slice_get body p ≡ Some i → EffectKeeps (effect shapes i regs)
    effect_keeps shapes (instr.Const d c) is = lessen (p + 1) (Large (put regs d (Some (scalar_of c)))) (Behind (instr.Const d c)) (λ r l. let o = small_put d (scalar_of c) r (scalar_small c) l in inl (o.1, (o.0, tt))) (λ n. here n (instr.Const d c) is)
    effect_keeps shapes (instr.Move d s) is = there_keeps (slot regs s) _ (λ v e. lessen (p + 1) (Large (put (put regs s None) d (Some v))) (Behind (instr.Move d s)) (λ r l. moved_in d s v r e l) (λ n. here n (instr.Move d s) is))
    effect_keeps shapes (instr.Share d s) is = there_keeps (slot regs s) _ (λ v e. lessen (p + 1) (Large (put regs d (Some v))) (Behind (instr.Share d s)) (λ r l. shared_in d s v r e l) (λ n. here n (instr.Share d s) is))
    effect_keeps shapes (instr.Clear rs) is = lessen (p + 1) (Large (cleared regs rs)) (Behind (instr.Clear rs)) (λ r l. let g = cleared_large regs rs r l in inl (g.1, g.0)) (λ n. here n (instr.Clear rs) is)
    effect_keeps shapes (instr.Arith d op a b) is = numbers_keep a b _ (λ x y sa sb. computed_keeps op x y _ (λ z. where_keeps (is_int z) _
        (lessen (p + 1) (Large (put regs d (Some (Whole z)))) (Behind (instr.Arith d op a b)) (λ r l. let o = small_put d (Whole z) r (λ w. w) l in inl (o.1, (o.0, (other_than a r sa o.1, (other_than b r sb o.1, tt))))) (λ n. here n (instr.Arith d op a b) is))))
    effect_keeps shapes (instr.Compare d op a b) is = numbers_keep a b _ (λ x y sa sb.
        lessen (p + 1) (Large (put regs d (Some (Truth (compares op x y))))) (Behind (instr.Compare d op a b)) (λ r l. let o = small_put d (Truth (compares op x y)) r (λ w. w) l in inl (o.1, (o.0, (other_than a r sa o.1, (other_than b r sb o.1, tt))))) (λ n. here n (instr.Compare d op a b) is))
    effect_keeps shapes (instr.Equal d a b) is = there_keeps (slot regs a) _ (λ v e. there_keeps (slot regs b) _ (λ u g.
        lessen (p + 1) (Large (put regs d (Some (Truth (same v u))))) (Behind (instr.Equal d a b)) (λ r l. let o = small_put d (Truth (same v u)) r (λ w. w) l in inl (o.1, (o.0, tt))) (λ n. here n (instr.Equal d a b) is)))
    effect_keeps shapes (instr.Not d a) is = there_keeps (slot regs a) _ (λ v e. truth_keeps v _ (λ b g.
        lessen (p + 1) (Large (put regs d (Some (Truth (not b))))) (Behind (instr.Not d a)) (λ r l. let o = small_put d (Truth (not b)) r (λ w. w) l in inl (o.1, (o.0, (other_than a r (truth_small a v b e g) o.1, tt)))) (λ n. here n (instr.Not d a) is)))
    effect_keeps shapes (instr.Jump q) is = lessen q (Large regs) (Behind (instr.Jump q)) (λ r l. inl (l, tt)) (λ n. here n (instr.Jump q) is)
    effect_keeps shapes (instr.Branch s q) is = there_keeps (slot regs s) _ (λ v e. truth_keeps v _ (λ b g.
        let still : (r : ℕ) → Large regs r → Behind (instr.Branch s q) r = λ r l. inl (l, (other_than s r (truth_small s v b e g) l, tt)) in
        cond_keeps b (GoesOn regs []) (GoesTo q) (lessen (p + 1) (Large regs) (Behind (instr.Branch s q)) still (λ n. (here n (instr.Branch s q) is).0)) (lessen q (Large regs) (Behind (instr.Branch s q)) still (λ n. (here n (instr.Branch s q) is).1))))
    effect_keeps shapes (instr.Array d rs) is = moved_all_keeps regs rs _ (λ vs rest g. lessen (p + 1) (Large (put rest d (Some (Array (data_of vs))))) (Behind (instr.Array d rs)) (λ r l. array_in d rs rest (Array (data_of vs)) r g l) (λ n. here n (instr.Array d rs) is))
    effect_keeps shapes (instr.Record d m rs) is = there_keeps (shape_names shapes m) _ (λ names e. moved_all_keeps regs rs _ (λ vs rest g. there_keeps (record_of names vs) _ (λ fs i.
        lessen (p + 1) (Large (put rest d (Some (Record fs)))) (Behind (instr.Record d m rs)) (λ r l. record_in d m rs rest (Record fs) r g l) (λ n. here n (instr.Record d m rs) is))))
    effect_keeps shapes (instr.Fill d v m) is =
        there_keeps (slot regs m) _ (λ u e. number_keeps u _ (λ z g. where_keeps (int_le (pos 0) z && int_le z (pos longest)) _ (there_keeps (slot regs v) _ (λ w i.
        lessen (p + 1) (Large (put (put regs v None) d (Some (Array (copies (nat_of z) w))))) (Behind (instr.Fill d v m)) (λ r l. filled_in d v m (Array (copies (nat_of z) w)) r (number_small m u z e g) l) (λ n. here n (instr.Fill d v m) is)))))
    effect_keeps shapes (instr.Len d a) is = there_keeps (slot regs a) _ (λ v e. items_keep v _ (λ ds. lessen (p + 1) (Large (put regs d (Some (Whole (pos (length_of ds)))))) (Behind (instr.Len d a)) (λ r l. let o = small_put d (Whole (pos (length_of ds))) r (λ w. w) l in inl (o.1, (o.0, tt))) (λ n. here n (instr.Len d a) is)))
    effect_keeps shapes (instr.Get d a j) is =
        there_keeps (slot regs a) _ (λ v e. there_keeps (slot regs j) _ (λ u g. items_keep v _ (λ ds. number_keeps u _ (λ z k. where_keeps (is_index z ds) _
        (lessen (p + 1) (Large (put regs d (Some (item_at ds (nat_of z))))) (Behind (instr.Get d a j)) (λ r l. got_in d a j (item_at ds (nat_of z)) r (number_small j u z g k) l) (λ n. here n (instr.Get d a j) is))))))
    effect_keeps shapes (instr.Field d a m) is =
        there_keeps (slot regs a) _ (λ v e. fields_keep v _ (λ fs. there_keeps (slice_get shapes.names m) _ (λ name g. there_keeps (find fs name) _ (λ part i.
        lessen (p + 1) (Large (put regs d (Some part))) (Behind (instr.Field d a m)) (λ r l. field_in d a m part r l) (λ n. here n (instr.Field d a m) is)))))
    effect_keeps shapes (instr.Put a path v) is = slots_keep shapes path _ (λ ps small. there_keeps (slot regs v) _ (λ u e. there_keeps (slot (put regs v None) a) _ (λ whole g. where_keeps (has_path ps whole) _
        (lessen (p + 1) (Large (put (put regs v None) a (Some (updated whole ps u)))) (Behind (instr.Put a path v)) (λ r l. updated_in a path v (updated whole ps u) r small l) (λ n. here n (instr.Put a path v) is)))))
    effect_keeps shapes (instr.Kind d a m) is = there_keeps (slot regs a) _ (λ v e. kind_keeps shapes m v _ (λ b. lessen (p + 1) (Large (put regs d (Some (Truth b)))) (Behind (instr.Kind d a m)) (λ r l. let o = small_put d (Truth b) r (λ w. w) l in inl (o.1, (o.0, tt))) (λ n. here n (instr.Kind d a m) is)))
    effect_keeps shapes (instr.Call d g rs) is = moved_all_keeps regs rs _ (λ vs rest h. (
      (λ r l. let o = h r l in (here 0 (instr.Call d g rs) is).0 r o.1 o.0),
      lessen (p + 1) (λ r. Large rest r ⊎ ((r ≡ d) × (t g ≡ true))) (Behind (instr.Call d g rs)) (λ r l. called_in d g rs rest r h l) (λ n. (here n (instr.Call d g rs) is).1),
    ))
    effect_keeps shapes (instr.Return s) is = there_keeps (slot regs s) _ (λ v e h. here 0 (instr.Return s) is (source_large s v e h))
    effect_keeps shapes (instr.Print a) is = there_keeps (slot regs a) _ (λ v e. items_keep v _ (λ ds. bytes_keep ds _ (λ bytes. lessen (p + 1) (Large regs) (Behind (instr.Print a)) (λ r l. inl (l, tt)) (λ n. here n (instr.Print a) is))))
    effect_keeps shapes (instr.PrintInt a) is = there_keeps (slot regs a) _ (λ v e. number_keeps v _ (λ z g. lessen (p + 1) (Large regs) (Behind (instr.PrintInt a)) (λ r l. inl (l, (other_than a r (number_small a v z e g) l, tt))) (λ n. here n (instr.PrintInt a) is)))

-- ---- steps

empty_small : (n r : ℕ) → HoldsLarge (slot (empties n) r) → ⊥
empty_small zero r h = h
empty_small (suc n) zero h = h
empty_small (suc n) (suc r) h = empty_small n r h

entry_large : (vs : List Datum) (n r : ℕ) → HoldsLarge (slot (holding vs ++ empties n) r) → r < length vs
entry_large [] n r h = absurd (empty_small n r h)
entry_large (v ∷ vs) n zero h = omega arith
entry_large (v ∷ vs) n (suc r) h = let l = entry_large vs n r h in omega (arith, l)

module _ (t : Gives) (code : Code) (safe : SafeCode t code) where
  -- the frame is safe where at most these registers hold lists or records
  abbrev FrameSafe : Frame → (ℕ → Type 0) → Type 0
  FrameSafe fr P = (r : Routine) → slice_get code.routines fr.routine ≡ Some r → (n : ℕ) → Safe t fr.routine r.body n fr.at P

  -- the frames that wait, the first for a result of this routine
  abbrev CallersSafe : ℕ → List Caller → Type 0
  CallersSafe g [] = Unit {0}
  CallersSafe g (c ∷ callers) =
      ((r : ℕ) → HoldsLarge (slot c.frame.registers r) → r ≢ c.target)
      × FrameSafe c.frame (λ r. HoldsLarge (slot c.frame.registers r) ⊎ ((r ≡ c.target) × (t g ≡ true))) × CallersSafe c.frame.routine callers

  abbrev StateSafe : State → Type 0
  StateSafe (Runs fr callers output) = FrameSafe fr (λ r. HoldsLarge (slot fr.registers r)) × CallersSafe fr.routine callers
  StateSafe (Ended v output) = Unit {0}
  StateSafe Stuck = Unit {0}

  entered_safe : (o : Option Routine) (f : ℕ) (vs : List Datum) (callers : List Caller) (output : List ℕ) → slice_get code.routines f ≡ o → CallersSafe f callers → StateSafe (entered o f vs callers output)
  entered_safe None f vs callers output e h = tt
  entered_safe (Some r) f vs callers output e h = by (nat_eq (length vs) r.params) refl
    where
      equal_numbers : (a b : ℕ) → nat_eq a b ≡ true → a ≡ b
      equal_numbers a b g = grind (arith, nat_tests)

      by : (b : Bool) → nat_eq (length vs) r.params ≡ b → StateSafe (cond b (Runs (record { routine = f; at = 0; registers = entry_registers r vs }) callers output) Stuck)
      by true g = (
        (λ r2 e2 n. safe_less t f r2.body n 0 (λ x. HoldsLarge (slot (entry_registers r vs) x)) (λ x. x < r2.params)
            (λ x l. let m = entry_large vs (r.registers - length vs) x l in let i = equal_numbers (length vs) r.params g in let same : r.params ≡ r2.params = ap (λ (z : Routine). z.params) (some_same r r2 (sym e ∙ e2)) in omega (arith, m, i, same)) (safe f r2 e2 n)),
        h,
      )
      by false g = tt

  returned_safe : (f : ℕ) (v : Datum) (callers : List Caller) (output : List ℕ) → CallersSafe f callers → (IsLarge v → t f ≡ true) → StateSafe (returned v callers output)
  returned_safe f v [] output h g = tt
  returned_safe f v (c ∷ callers) output h g = ((λ r e n. safe_less t c.frame.routine r.body n c.frame.at (λ x. HoldsLarge (slot (put c.frame.registers c.target (Some v)) x)) (λ x. HoldsLarge (slot c.frame.registers x) ⊎ ((x ≡ c.target) × (t f ≡ true))) (λ x l. by x (put_large c.frame.registers c.target x (Some v) l)) (h.1 r e n)), h.2)
    where
      by : (x : ℕ) → ((x ≡ c.target) × IsLarge v) ⊎ ((x ≢ c.target) × HoldsLarge (slot c.frame.registers x)) → HoldsLarge (slot c.frame.registers x) ⊎ ((x ≡ c.target) × (t f ≡ true))
      by x (inl k) = inr (k.0, g k.1)
      by x (inr k) = inl k.1

  -- behind an effect that keeps the frame safe, where the routine is there
  stepped_safe : (fr : Frame) (r : Routine) → slice_get code.routines fr.routine ≡ Some r → (callers : List Caller) (output : List ℕ) (e : Effect) → CallersSafe fr.routine callers → EffectKeeps t fr.routine r.body fr.at fr.registers e → StateSafe (stepped code fr callers output e)
  stepped_safe fr r is callers output (GoesOn s printed) g k = ((λ r2 e2 n. subst (λ (z : Routine). Safe t fr.routine z.body n (fr.at + 1) (λ x. HoldsLarge (slot s x))) (some_same r r2 (sym is ∙ e2)) (k n)), g)
  stepped_safe fr r is callers output (GoesTo q) g k = ((λ r2 e2 n. subst (λ (z : Routine). Safe t fr.routine z.body n q (λ x. HoldsLarge (slot fr.registers x))) (some_same r r2 (sym is ∙ e2)) (k n)), g)
  stepped_safe fr r is callers output (Calls d f vs s) g k = entered_safe (slice_get code.routines f) f vs (record { frame = record fr { at = fr.at + 1; registers = s }; target = d } ∷ callers) output refl
      (k.0, (λ r2 e2 n. subst (λ (z : Routine). Safe t fr.routine z.body n (fr.at + 1) (λ x. HoldsLarge (slot s x) ⊎ ((x ≡ d) × (t f ≡ true)))) (some_same r r2 (sym is ∙ e2)) (k.1 n)), g)
  stepped_safe fr r is callers output (Returns v) g k = returned_safe fr.routine v callers output g k
  stepped_safe fr r is callers output Fails g k = tt

  executed_safe : (fr : Frame) (callers : List Caller) (output : List ℕ) (o : Option Routine) → slice_get code.routines fr.routine ≡ o → FrameSafe fr (λ r. HoldsLarge (slot fr.registers r)) → CallersSafe fr.routine callers
      → (i : Option Instr) → machine.instr_at o fr.at ≡ i → StateSafe (executed code fr callers output i)
  executed_safe fr callers output o is h g None e = tt
  executed_safe fr callers output None is h g (Some i) e = absurd (let z : None ≡ Some i = e in cc)
  executed_safe fr callers output (Some r) is h g (Some i) e =
      stepped_safe fr r is callers output (effect code.shapes i fr.registers) g (effect_keeps t fr.routine r.body fr.at fr.registers (λ n j there. (h r is (suc n) j there).1) code.shapes i e)

  step_safe : (st : State) → StateSafe st → StateSafe (step code st)
  step_safe (Runs fr callers output) h = executed_safe fr callers output (slice_get code.routines fr.routine) refl h.0 h.1 (next_of code.routines fr) refl
  step_safe (Ended v output) h = tt
  step_safe Stuck h = tt

  after_safe : (n : ℕ) (st : State) → StateSafe st → StateSafe (after code n st)
  after_safe zero st h = h
  after_safe (suc n) st h = after_safe n (step code st) (step_safe st h)

  -- what is safe keeps nothing dead
  frame_keeps : (fr : Frame) (P : ℕ → Type 0) → FrameSafe fr P → ((r : ℕ) → HoldsLarge (slot fr.registers r) → P r) → FrameKeeps code fr
  frame_keeps fr P h k r e i is not_clear x l = (h r e 1 i is).0 not_clear x (k x l)

  callers_keep : (g : ℕ) (callers : List Caller) → CallersSafe g callers → CallersKeep code callers
  callers_keep g [] h = tt
  callers_keep g (c ∷ callers) h = (frame_keeps c.frame (λ r. HoldsLarge (slot c.frame.registers r) ⊎ ((r ≡ c.target) × (t g ≡ true))) h.1 (λ r l. inl l), h.0, callers_keep c.frame.routine callers h.2)

  state_keeps : (st : State) → StateSafe st → KeepsNothing code st
  state_keeps (Runs fr callers output) h = (frame_keeps fr (λ r. HoldsLarge (slot fr.registers r)) h.0 (λ r l. l), callers_keep fr.routine callers h.1)
  state_keeps (Ended v output) h = tt
  state_keeps Stuck h = tt

pub safe_runs : SafeRunsKeepNothing
safe_runs t code safe f vs n = state_keeps t code safe (after code n (start code f vs)) (after_safe t code safe n (start code f vs) (entered_safe t code safe (slice_get code.routines f) f vs [] [] refl tt))
