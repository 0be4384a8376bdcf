-- The instructions behind the parts of an expression, where what the parts give is in its registers.
use Rattle.std.proofs.Common.{◌≡◌, ◌<◌, ◌≤◌, ℕ, suc, ◌+◌, List, [], ◌∷◌, length, Bool, true, false, Some, None, ℤ, pos, refl, ◌∙◌, ap, subst, arith}
use Rattle.std.specs.Prelude.{◌≢◌, ◌&&◌, not, slice_get, All, ◌+ℤ◌, ◌-ℤ◌, ◌*ℤ◌, neg_ℤ, int_le}
use Rattle.std.proofs.Math.IntN.{+ℤ_idl}
use Rattle.std.specs.Int.{int_div_euclid, int_rem_euclid}
use Rattle.std.proofs.lemmas.List.Elements.{All-head}
use Rattle.wy_value.specs.Datum.{Datum, Truth, Whole, Array}
use Rattle.wy_value.specs.Numbers.{is_int}
use Rattle.wy_value.specs.Values.{length_of}
use Rattle.wy_core.specs.declared.expressions.Op.{Op}
use Rattle.wy_core.specs.declared.expressions.Op.TheVariants as op
use Rattle.wy_term.specs.declared.cond.CondKind.TheVariants as kind
use Rattle.wy_core.specs.formed.Bound.{Scope}
use Rattle.wy_code_spec.specs.wy_live.Sets.{Variables}
use Rattle.wy_code.specs.declared.instructions.Scalar.TheVariants as scalar
use Rattle.wy_code.specs.declared.instructions.Arithmetic.{Arithmetic}
use Rattle.wy_code.specs.declared.instructions.Arithmetic.TheVariants as arithmetic
use Rattle.wy_code.specs.declared.instructions.Comparison.{Comparison}
use Rattle.wy_code.specs.declared.instructions.Comparison.TheVariants as comparison
use Rattle.wy_code.specs.declared.instructions.Instr.{Instr}
use Rattle.wy_code.specs.declared.instructions.Instr.TheVariants as instr
use Rattle.wy_code.specs.declared.routines.Routine.{Routine}
use Rattle.wy_code.specs.declared.routines.Code.{Code}
use Rattle.wy_code.specs.declared.pieces.steps.Step.TheVariants.{Does}
use Rattle.wy_code.specs.pieces.Placing.{registers_in}
use Rattle.wy_code_spec.specs.compiled.Expressions.{equal, operator}
use Rattle.wy_vc_spec.specs.wy_sem.Meter.{Meter, Done, check}
use Rattle.wy_vc_spec.specs.wy_sem.Operations.{as_number, needed, in_range, same, same_number, negated, denied, length_result, applied, item_of, field_of, repeated, nat_of, is_index, item_at, find, longest, copies}
use Rattle.wy_vc_spec.specs.wy_sem.Expressions.{Store, slot, put}
use Rattle.wy_code_spec.specs.step.Step.{Caller, GoesOn as goes_on, effect, computes, compares, gives, gives_int, where_so, instr_at}
use Rattle.wy_gen_laws.specs.Places.{StandAt, IsRoutine}
use Rattle.wy_gen_laws.specs.Follows.{Follows, at_place, Comes}
use Rattle.wy_gen_laws.specs.Registers.{Live, Got}
use Rattle.wy_gen_laws.proofs.PlaceLemmas.{all_at}
use Rattle.wy_gen_laws.proofs.StoreLemmas.{put_here, put_other, put_size, live_put}
use Rattle.wy_gen_laws.proofs.FollowLemmas.{follows_number, follows_truth, follows_items, follows_fields, follows_needed, follows_check, follows_more, follows_at}
use Rattle.wy_gen_laws.proofs.InstructionLemmas.{arith_does, compare_does, equal_does, not_does, len_does, get_does, field_does, fill_does}
use Rattle.wy_gen_laws.proofs.PieceLemmas.{does_then, does_last}
use Rattle.wy_vc_spec.specs.wy_sem.kept.Kept.{IsProper}
use Rattle.wy_gen_laws.proofs.expressions_lemmas.KnownLemmas.{Apart, got_put}
use Rattle.wy_gen_laws.proofs.expressions_lemmas.KnowingLemmas.{rest_proper}
use Rattle.wy_gen_laws.proofs.expressions_lemmas.ReadLemmas.{One, Both, IsFree}

-- an operator that evaluates both operands
abbrev pub IsStrict : Op → Type 0
IsStrict op.Add = Unit {0}
IsStrict op.Sub = Unit {0}
IsStrict op.Mul = Unit {0}
IsStrict op.Div = Unit {0}
IsStrict op.Mod = Unit {0}
IsStrict op.Equal = Unit {0}
IsStrict op.Less = Unit {0}
IsStrict op.LessEqual = Unit {0}
IsStrict op.Greater = Unit {0}
IsStrict op.GreaterEqual = Unit {0}
IsStrict op.And = ⊥
IsStrict op.Or = ⊥

-- the register that an instruction fills is one of the frame
pub room_at : (mach : Code) (f : ℕ) (r : Routine) → IsRoutine mach f r → (at d : ℕ) (i : Instr) (rest : List ℕ) → instr_at (Some r) at ≡ Some i → registers_in i ≡ d ∷ rest → d < r.registers
room_at mach f r there at d i rest stands e = All-head (λ (k : ℕ). k < r.registers) d rest (subst (λ (ks : List ℕ). All (λ (k : ℕ). k < r.registers) ks) e (all_at (λ (j : Instr). All (λ (k : ℕ). k < r.registers) (registers_in j)) r.body at i there.room stands))

zero_less : (x : ℤ) → pos 0 -ℤ x ≡ neg_ℤ x
zero_less x = +ℤ_idl (neg_ℤ x)

-- the value comes into register t, which no live variable has; the registers from n up to it are kept
module _ (mach : Code) (f : ℕ) (r : Routine) (there : IsRoutine mach f r) (n t wide : ℕ) (vs : Scope) (s : Variables) (apart : Apart s t) (store : Store) where
  target_room : (at d : ℕ) (i : Instr) (rest : List ℕ) → instr_at (Some r) at ≡ Some i → registers_in i ≡ d ∷ rest → d < r.registers
  target_room at d i rest stands e = room_at mach f r there at d i rest stands e

  -- an instruction that fills it
  pub fills : (at : ℕ) (i : Instr) (rest : List ℕ) (regs left first : Store) (callers : List Caller) (m : Meter) (v : Datum) → instr_at (Some r) at ≡ Some i → registers_in i ≡ t ∷ rest → effect mach.shapes i regs ≡ goes_on (put left t (Some v)) []
      → length left ≡ r.registers → Live vs s store left → ((y : ℕ) → n ≤ y → y < t → slot left y ≡ slot first y) → length left ≡ length first
      → Follows mach wide 0 1 m (at_place f at regs callers m.output) (Done v m) (Comes f (at + 1) callers (Got vs n t s store first))
  fills at i rest regs left first callers m v stands names does size live kept same =
      does_last mach f r there wide at i regs (put left t (Some v)) callers m v (Got vs n t s store first) stands does
      (got_put vs n s store first left t v apart (let l = target_room at t i rest stands names in omega (arith, l, size)) live kept same)

  -- ---- one operand, where it stands

  module _ (l at : ℕ) (first regs : Store) (whole : length first ≡ r.registers) (callers : List Caller) (place : ℕ) (m : Meter) (v : Datum) (got : One vs n t l s store first v regs) where
    long : length regs ≡ r.registers
    long = got.size ∙ whole

    pub denied_follows : instr_at (Some r) at ≡ Some (instr.Not t l) → Follows mach wide 0 1 m (at_place f at regs callers m.output) (denied place v m) (Comes f (at + 1) callers (Got vs n t s store first))
    denied_follows stands = follows_truth mach wide 0 1 m (at_place f at regs callers m.output) place v (λ b. Done (Truth (not b))) (Comes f (at + 1) callers (Got vs n t s store first))
        (λ b e. fills at (instr.Not t l) (l ∷ []) regs regs first callers m (Truth (not b)) stands refl (not_does mach.shapes regs t l b (got.value ∙ ap (λ (u : Datum). Some u) e)) long got.live got.kept got.size)

    pub length_follows : instr_at (Some r) at ≡ Some (instr.Len t l) → Follows mach wide 0 1 m (at_place f at regs callers m.output) (length_result place v m) (Comes f (at + 1) callers (Got vs n t s store first))
    length_follows stands = follows_items mach wide 0 1 m (at_place f at regs callers m.output) place v (λ ds. Done (Whole (pos (length_of ds)))) (Comes f (at + 1) callers (Got vs n t s store first))
        (λ ds e. fills at (instr.Len t l) (l ∷ []) regs regs first callers m (Whole (pos (length_of ds))) stands refl (len_does mach.shapes regs t l ds (got.value ∙ ap (λ (u : Datum). Some u) e)) long got.live got.kept got.size)

    pub field_follows : (k : ℕ) (name : List ℕ) → slice_get mach.shapes.names k ≡ Some name → instr_at (Some r) at ≡ Some (instr.Field t l k) → Follows mach wide 0 1 m (at_place f at regs callers m.output) (field_of place v name m) (Comes f (at + 1) callers (Got vs n t s store first))
    field_follows k name named stands = follows_fields mach wide 0 1 m (at_place f at regs callers m.output) place v (λ fs. needed place (find fs name) Done) (Comes f (at + 1) callers (Got vs n t s store first))
        (λ fs e. follows_needed mach wide 0 1 m (at_place f at regs callers m.output) place (find fs name) Done (Comes f (at + 1) callers (Got vs n t s store first))
        (λ u g. fills at (instr.Field t l k) (l ∷ []) regs regs first callers m u stands refl (field_does mach.shapes regs t l k fs name u (got.value ∙ ap (λ (u : Datum). Some u) e) named g) long got.live got.kept got.size))

    -- the number is taken from 0, which comes into register z
    pub negated_follows : (z : ℕ) → IsFree n t s z → l ≢ z → StandAt r.body at (Does (instr.Const z (scalar.Int (pos 0))) ∷ Does (instr.Arith t arithmetic.Sub z l) ∷ []) → Follows mach wide 0 2 m (at_place f at regs callers m.output) (negated place v m) (Comes f (at + 1 + 1) callers (Got vs n t s store first))
    negated_follows z free other stands = follows_number mach wide 0 2 m (at_place f at regs callers m.output) place v (λ x. in_range place (neg_ℤ x)) (Comes f (at + 1 + 1) callers (Got vs n t s store first))
        (λ x e. follows_check mach wide 0 2 m (at_place f at regs callers m.output) (is_int (neg_ℤ x)) kind.Range place (Done (Whole (neg_ℤ x))) (Comes f (at + 1 + 1) callers (Got vs n t s store first)) (λ ok. two x e ok))
      where
        room : z < length regs
        room = let l = target_room at z (instr.Const z (scalar.Int (pos 0))) [] stands.0 refl in omega (arith, l, long)

        zeroed : Store
        zeroed = put regs z (Some (Whole (pos 0)))

        is_given : (regs : Store) (d : ℕ) (u : ℤ) → is_int u ≡ true → gives_int regs d u ≡ goes_on (put regs d (Some (Whole u))) []
        is_given regs d u ok = ap (λ (b : Bool). where_so b (gives regs d (Whole u))) ok

        sum : (x : ℤ) → v ≡ Whole x → is_int (neg_ℤ x) ≡ true → effect mach.shapes (instr.Arith t arithmetic.Sub z l) zeroed ≡ goes_on (put zeroed t (Some (Whole (neg_ℤ x)))) []
        sum x e ok =
            let a : slot zeroed z ≡ Some (Whole (pos 0)) = put_here regs z (Some (Whole (pos 0))) room in
            let b : slot zeroed l ≡ Some (Whole x) = put_other regs z l (Some (Whole (pos 0))) other ∙ got.value ∙ ap (λ (u : Datum). Some u) e in
            arith_does mach.shapes zeroed arithmetic.Sub t z l (pos 0) x a b ∙ ap (λ (u : ℤ). gives_int zeroed t u) (zero_less x) ∙ is_given zeroed t (neg_ℤ x) ok

        two : (x : ℤ) → v ≡ Whole x → is_int (neg_ℤ x) ≡ true → Follows mach wide 0 2 m (at_place f at regs callers m.output) (Done (Whole (neg_ℤ x)) m) (Comes f (at + 1 + 1) callers (Got vs n t s store first))
        two x e ok = does_then mach f r there wide 0 1 at (instr.Const z (scalar.Int (pos 0))) regs zeroed callers m (Done (Whole (neg_ℤ x)) m) (at + 1 + 1) (Got vs n t s store first) stands.0 refl
            (fills (at + 1) (instr.Arith t arithmetic.Sub z l) (z ∷ l ∷ []) zeroed zeroed first callers m (Whole (neg_ℤ x)) stands.1.0 refl (sum x e ok)
            (put_size regs z (Some (Whole (pos 0))) ∙ long)
            (live_put vs s store regs z (Some (Whole (pos 0))) (λ y i h. free.apart y h) got.live)
            (λ y a b. put_other regs z y (Some (Whole (pos 0))) (free.before y a b) ∙ got.kept y a b)
            (put_size regs z (Some (Whole (pos 0))) ∙ got.size))

  -- ---- two operands, in the registers where they stand

  module _ (left right at : ℕ) (first regs : Store) (whole : length first ≡ r.registers) (callers : List Caller) (place : ℕ) (m : Meter) (v u : Datum) (got : Both vs n t left right s store first v u regs) where
    both_filled : (at : ℕ) (i : Instr) (rest : List ℕ) (w : Datum) → instr_at (Some r) at ≡ Some i → registers_in i ≡ t ∷ rest → effect mach.shapes i regs ≡ goes_on (put regs t (Some w)) []
        → Follows mach wide 0 1 m (at_place f at regs callers m.output) (Done w m) (Comes f (at + 1) callers (Got vs n t s store first))
    both_filled at i rest w stands names does = fills at i rest regs regs first callers m w stands names does (got.size ∙ whole) got.live got.kept got.size

    pub item_follows : instr_at (Some r) at ≡ Some (instr.Get t left right) → Follows mach wide 0 1 m (at_place f at regs callers m.output) (item_of place v u m) (Comes f (at + 1) callers (Got vs n t s store first))
    item_follows stands = follows_items mach wide 0 1 m (at_place f at regs callers m.output) place v (λ ds. as_number place u (λ i. check (is_index i ds) kind.Index place (Done (item_at ds (nat_of i))))) (Comes f (at + 1) callers (Got vs n t s store first))
        (λ ds e. follows_number mach wide 0 1 m (at_place f at regs callers m.output) place u (λ i. check (is_index i ds) kind.Index place (Done (item_at ds (nat_of i)))) (Comes f (at + 1) callers (Got vs n t s store first))
        (λ z g. follows_check mach wide 0 1 m (at_place f at regs callers m.output) (is_index z ds) kind.Index place (Done (item_at ds (nat_of z))) (Comes f (at + 1) callers (Got vs n t s store first))
        (λ ok. both_filled at (instr.Get t left right) (left ∷ right ∷ []) (item_at ds (nat_of z)) stands refl (get_does mach.shapes regs t left right ds z (got.left ∙ ap (λ (x : Datum). Some x) e) (got.right ∙ ap (λ (x : Datum). Some x) g) ok))))

    -- a sum, a difference, a product, a quotient or a rest
    arith_follows : (o : Arithmetic) (x y z : ℤ) → instr_at (Some r) at ≡ Some (instr.Arith t o left right) → v ≡ Whole x → u ≡ Whole y → effect mach.shapes (instr.Arith t o left right) regs ≡ goes_on (put regs t (Some (Whole z))) []
        → Follows mach wide 0 1 m (at_place f at regs callers m.output) (Done (Whole z) m) (Comes f (at + 1) callers (Got vs n t s store first))
    arith_follows o x y z stands e g does = both_filled at (instr.Arith t o left right) (left ∷ right ∷ []) (Whole z) stands refl does

    compare_follows : (o : Comparison) (x y : ℤ) → instr_at (Some r) at ≡ Some (instr.Compare t o left right) → v ≡ Whole x → u ≡ Whole y
        → Follows mach wide 0 1 m (at_place f at regs callers m.output) (Done (Truth (compares o x y)) m) (Comes f (at + 1) callers (Got vs n t s store first))
    compare_follows o x y stands e g = both_filled at (instr.Compare t o left right) (left ∷ right ∷ []) (Truth (compares o x y)) stands refl
        (compare_does mach.shapes regs o t left right x y (got.left ∙ ap (λ (x : Datum). Some x) e) (got.right ∙ ap (λ (x : Datum). Some x) g))

    equal_steps : (plain : Bool) → (plain ≡ false → IsFree n t s right) → StandAt r.body at (equal plain t left right) → Follows mach wide 0 2 m (at_place f at regs callers m.output) (Done (Truth (same v u)) m) (Comes f (at + length (equal plain t left right)) callers (Got vs n t s store first))
    equal_steps true far stands = follows_more mach wide 0 1 0 2 m (at_place f at regs callers m.output) (Done (Truth (same v u)) m) (Comes f (at + 1) callers (Got vs n t s store first)) (omega arith) (omega arith)
        (both_filled at (instr.Equal t left right) (left ∷ right ∷ []) (Truth (same v u)) stands.0 refl (equal_does mach.shapes regs t left right v u got.left got.right))
    equal_steps false far stands =
        follows_at mach wide 0 2 m (at_place f at regs callers m.output) (Done (Truth (same v u)) m) f (at + 1 + 1) (at + 2) callers (Got vs n t s store first) (omega arith)
        (does_then mach f r there wide 0 1 at (instr.Equal t left right) regs (put regs t (Some (Truth (same v u)))) callers m (Done (Truth (same v u)) m) (at + 1 + 1) (Got vs n t s store first) stands.0 (equal_does mach.shapes regs t left right v u got.left got.right)
        (does_last mach f r there wide (at + 1) (instr.Clear (right ∷ [])) (put regs t (Some (Truth (same v u)))) (put (put regs t (Some (Truth (same v u)))) right None) callers m (Truth (same v u)) (Got vs n t s store first) stands.1.0 refl (released (filled stands.0))))
      where
        filled : instr_at (Some r) at ≡ Some (instr.Equal t left right) → Got vs n t s store first (Truth (same v u)) (put regs t (Some (Truth (same v u))))
        filled stood = got_put vs n s store first regs t (Truth (same v u)) apart (let l = target_room at t (instr.Equal t left right) (left ∷ right ∷ []) stood refl in let z : length regs ≡ r.registers = got.size ∙ whole in omega (arith, l, z)) got.live got.kept got.size

        released : {w : Datum} {after_it : Store} → Got vs n t s store first w after_it → Got vs n t s store first w (put after_it right None)
        released {w} {after_it} g = record {
          value = put_other after_it right t None (far refl).other ∙ g.value;
          live = live_put vs s store after_it right None (λ y i h. (far refl).apart y h) g.live;
          kept = λ y a b. put_other after_it right y None ((far refl).before y a b) ∙ g.kept y a b;
          size = put_size after_it right None ∙ g.size;
        }

    is_given : (z : ℤ) → is_int z ≡ true → gives_int regs t z ≡ goes_on (put regs t (Some (Whole z))) []
    is_given z ok = ap (λ (b : Bool). where_so b (gives regs t (Whole z))) ok

    quotient : (x y : ℤ) → not (same_number y (pos 0)) ≡ true → computes arithmetic.Div x y (λ z. gives_int regs t z) ≡ gives_int regs t (int_div_euclid x y)
    quotient x y other = ap (λ (b : Bool). where_so b (gives_int regs t (int_div_euclid x y))) other

    remainder : (x y : ℤ) → not (same_number y (pos 0)) ≡ true → computes arithmetic.Mod x y (λ z. gives_int regs t z) ≡ gives_int regs t (int_rem_euclid x y)
    remainder x y other = ap (λ (b : Bool). where_so b (gives_int regs t (int_rem_euclid x y))) other

    is_proper : (t : Datum) (z : ℤ) → t ≡ Whole z → IsProper t → is_int z ≡ true
    is_proper t z e p = subst (λ (a : Datum). IsProper a) e p

    -- the operator on two operands that both were evaluated
    pub applied_follows : (o : Op) (plain : Bool) → (plain ≡ false → IsFree n t s right) → IsStrict o → IsProper v → IsProper u → StandAt r.body at (operator o t left right plain) → Follows mach wide 0 2 m (at_place f at regs callers m.output) (applied o place v u m) (Comes f (at + length (operator o t left right plain)) callers (Got vs n t s store first))
    applied_follows op.Add plain far strict pv pu stands = follows_number mach wide 0 2 m (at_place f at regs callers m.output) place v (λ x. as_number place u (λ y. in_range place (x +ℤ y))) (Comes f (at + 1) callers (Got vs n t s store first))
        (λ x e. follows_number mach wide 0 2 m (at_place f at regs callers m.output) place u (λ y. in_range place (x +ℤ y)) (Comes f (at + 1) callers (Got vs n t s store first))
        (λ y g. follows_check mach wide 0 2 m (at_place f at regs callers m.output) (is_int (x +ℤ y)) kind.Range place (Done (Whole (x +ℤ y))) (Comes f (at + 1) callers (Got vs n t s store first)) (λ ok. follows_more mach wide 0 1 0 2 m (at_place f at regs callers m.output) (Done (Whole (x +ℤ y)) m) (Comes f (at + 1) callers (Got vs n t s store first)) (omega arith) (omega arith) (arith_follows arithmetic.Add x y (x +ℤ y) stands.0 e g (arith_does mach.shapes regs arithmetic.Add t left right x y (got.left ∙ ap (λ (t : Datum). Some t) e) (got.right ∙ ap (λ (t : Datum). Some t) g) ∙ is_given (x +ℤ y) ok)))))
    applied_follows op.Sub plain far strict pv pu stands = follows_number mach wide 0 2 m (at_place f at regs callers m.output) place v (λ x. as_number place u (λ y. in_range place (x -ℤ y))) (Comes f (at + 1) callers (Got vs n t s store first))
        (λ x e. follows_number mach wide 0 2 m (at_place f at regs callers m.output) place u (λ y. in_range place (x -ℤ y)) (Comes f (at + 1) callers (Got vs n t s store first))
        (λ y g. follows_check mach wide 0 2 m (at_place f at regs callers m.output) (is_int (x -ℤ y)) kind.Range place (Done (Whole (x -ℤ y))) (Comes f (at + 1) callers (Got vs n t s store first)) (λ ok. follows_more mach wide 0 1 0 2 m (at_place f at regs callers m.output) (Done (Whole (x -ℤ y)) m) (Comes f (at + 1) callers (Got vs n t s store first)) (omega arith) (omega arith) (arith_follows arithmetic.Sub x y (x -ℤ y) stands.0 e g (arith_does mach.shapes regs arithmetic.Sub t left right x y (got.left ∙ ap (λ (t : Datum). Some t) e) (got.right ∙ ap (λ (t : Datum). Some t) g) ∙ is_given (x -ℤ y) ok)))))
    applied_follows op.Mul plain far strict pv pu stands = follows_number mach wide 0 2 m (at_place f at regs callers m.output) place v (λ x. as_number place u (λ y. in_range place (x *ℤ y))) (Comes f (at + 1) callers (Got vs n t s store first))
        (λ x e. follows_number mach wide 0 2 m (at_place f at regs callers m.output) place u (λ y. in_range place (x *ℤ y)) (Comes f (at + 1) callers (Got vs n t s store first))
        (λ y g. follows_check mach wide 0 2 m (at_place f at regs callers m.output) (is_int (x *ℤ y)) kind.Range place (Done (Whole (x *ℤ y))) (Comes f (at + 1) callers (Got vs n t s store first)) (λ ok. follows_more mach wide 0 1 0 2 m (at_place f at regs callers m.output) (Done (Whole (x *ℤ y)) m) (Comes f (at + 1) callers (Got vs n t s store first)) (omega arith) (omega arith) (arith_follows arithmetic.Mul x y (x *ℤ y) stands.0 e g (arith_does mach.shapes regs arithmetic.Mul t left right x y (got.left ∙ ap (λ (t : Datum). Some t) e) (got.right ∙ ap (λ (t : Datum). Some t) g) ∙ is_given (x *ℤ y) ok)))))
    applied_follows op.Div plain far strict pv pu stands = follows_number mach wide 0 2 m (at_place f at regs callers m.output) place v (λ x. as_number place u (λ y. check (not (same_number y (pos 0))) kind.Divisor place (in_range place (int_div_euclid x y)))) (Comes f (at + 1) callers (Got vs n t s store first))
        (λ x e. follows_number mach wide 0 2 m (at_place f at regs callers m.output) place u (λ y. check (not (same_number y (pos 0))) kind.Divisor place (in_range place (int_div_euclid x y))) (Comes f (at + 1) callers (Got vs n t s store first))
        (λ y g. follows_check mach wide 0 2 m (at_place f at regs callers m.output) (not (same_number y (pos 0))) kind.Divisor place (in_range place (int_div_euclid x y)) (Comes f (at + 1) callers (Got vs n t s store first)) (λ other. follows_check mach wide 0 2 m (at_place f at regs callers m.output) (is_int (int_div_euclid x y)) kind.Range place (Done (Whole (int_div_euclid x y))) (Comes f (at + 1) callers (Got vs n t s store first)) (λ ok. follows_more mach wide 0 1 0 2 m (at_place f at regs callers m.output) (Done (Whole (int_div_euclid x y)) m) (Comes f (at + 1) callers (Got vs n t s store first)) (omega arith) (omega arith) (arith_follows arithmetic.Div x y (int_div_euclid x y) stands.0 e g (arith_does mach.shapes regs arithmetic.Div t left right x y (got.left ∙ ap (λ (t : Datum). Some t) e) (got.right ∙ ap (λ (t : Datum). Some t) g) ∙ quotient x y other ∙ is_given (int_div_euclid x y) ok))))))
    applied_follows op.Mod plain far strict pv pu stands = follows_number mach wide 0 2 m (at_place f at regs callers m.output) place v (λ x. as_number place u (λ y. check (not (same_number y (pos 0))) kind.Divisor place (Done (Whole (int_rem_euclid x y))))) (Comes f (at + 1) callers (Got vs n t s store first))
        (λ x e. follows_number mach wide 0 2 m (at_place f at regs callers m.output) place u (λ y. check (not (same_number y (pos 0))) kind.Divisor place (Done (Whole (int_rem_euclid x y)))) (Comes f (at + 1) callers (Got vs n t s store first))
        (λ y g. follows_check mach wide 0 2 m (at_place f at regs callers m.output) (not (same_number y (pos 0))) kind.Divisor place (Done (Whole (int_rem_euclid x y))) (Comes f (at + 1) callers (Got vs n t s store first)) (λ other. follows_more mach wide 0 1 0 2 m (at_place f at regs callers m.output) (Done (Whole (int_rem_euclid x y)) m) (Comes f (at + 1) callers (Got vs n t s store first)) (omega arith) (omega arith) (arith_follows arithmetic.Mod x y (int_rem_euclid x y) stands.0 e g (arith_does mach.shapes regs arithmetic.Mod t left right x y (got.left ∙ ap (λ (t : Datum). Some t) e) (got.right ∙ ap (λ (t : Datum). Some t) g) ∙ remainder x y other ∙ is_given (int_rem_euclid x y) (rest_proper x y (is_proper v x e pv) (is_proper u y g pu) other))))))
    applied_follows op.Equal plain far strict pv pu stands = equal_steps plain far stands
    applied_follows op.Less plain far strict pv pu stands = follows_number mach wide 0 2 m (at_place f at regs callers m.output) place v (λ x. as_number place u (λ y. Done (Truth (compares comparison.Less x y)))) (Comes f (at + 1) callers (Got vs n t s store first))
        (λ x e. follows_number mach wide 0 2 m (at_place f at regs callers m.output) place u (λ y. Done (Truth (compares comparison.Less x y))) (Comes f (at + 1) callers (Got vs n t s store first))
        (λ y g. follows_more mach wide 0 1 0 2 m (at_place f at regs callers m.output) (Done (Truth (compares comparison.Less x y)) m) (Comes f (at + 1) callers (Got vs n t s store first)) (omega arith) (omega arith) (compare_follows comparison.Less x y stands.0 e g)))
    applied_follows op.LessEqual plain far strict pv pu stands = follows_number mach wide 0 2 m (at_place f at regs callers m.output) place v (λ x. as_number place u (λ y. Done (Truth (compares comparison.LessEqual x y)))) (Comes f (at + 1) callers (Got vs n t s store first))
        (λ x e. follows_number mach wide 0 2 m (at_place f at regs callers m.output) place u (λ y. Done (Truth (compares comparison.LessEqual x y))) (Comes f (at + 1) callers (Got vs n t s store first))
        (λ y g. follows_more mach wide 0 1 0 2 m (at_place f at regs callers m.output) (Done (Truth (compares comparison.LessEqual x y)) m) (Comes f (at + 1) callers (Got vs n t s store first)) (omega arith) (omega arith) (compare_follows comparison.LessEqual x y stands.0 e g)))
    applied_follows op.Greater plain far strict pv pu stands = follows_number mach wide 0 2 m (at_place f at regs callers m.output) place v (λ x. as_number place u (λ y. Done (Truth (compares comparison.Greater x y)))) (Comes f (at + 1) callers (Got vs n t s store first))
        (λ x e. follows_number mach wide 0 2 m (at_place f at regs callers m.output) place u (λ y. Done (Truth (compares comparison.Greater x y))) (Comes f (at + 1) callers (Got vs n t s store first))
        (λ y g. follows_more mach wide 0 1 0 2 m (at_place f at regs callers m.output) (Done (Truth (compares comparison.Greater x y)) m) (Comes f (at + 1) callers (Got vs n t s store first)) (omega arith) (omega arith) (compare_follows comparison.Greater x y stands.0 e g)))
    applied_follows op.GreaterEqual plain far strict pv pu stands = follows_number mach wide 0 2 m (at_place f at regs callers m.output) place v (λ x. as_number place u (λ y. Done (Truth (compares comparison.GreaterEqual x y)))) (Comes f (at + 1) callers (Got vs n t s store first))
        (λ x e. follows_number mach wide 0 2 m (at_place f at regs callers m.output) place u (λ y. Done (Truth (compares comparison.GreaterEqual x y))) (Comes f (at + 1) callers (Got vs n t s store first))
        (λ y g. follows_more mach wide 0 1 0 2 m (at_place f at regs callers m.output) (Done (Truth (compares comparison.GreaterEqual x y)) m) (Comes f (at + 1) callers (Got vs n t s store first)) (omega arith) (omega arith) (compare_follows comparison.GreaterEqual x y stands.0 e g)))
    applied_follows op.And plain far strict pv pu stands = absurd strict
    applied_follows op.Or plain far strict pv pu stands = absurd strict

  -- an array of copies
  module _ (at : ℕ) (first regs : Store) (whole : length first ≡ r.registers) (callers : List Caller) (place : ℕ) (m : Meter) (v u : Datum) (got : Both vs n t t (suc t) s store first v u regs) where
    pub repeated_follows : instr_at (Some r) at ≡ Some (instr.Fill t t (suc t)) → Follows mach wide 0 1 m (at_place f at regs callers m.output) (repeated place v u m) (Comes f (at + 1) callers (Got vs n t s store first))
    repeated_follows stands = follows_number mach wide 0 1 m (at_place f at regs callers m.output) place u (λ y. check (int_le (pos 0) y) kind.Length place (check (int_le y (pos longest)) kind.Length place (Done (Array (copies (nat_of y) v))))) (Comes f (at + 1) callers (Got vs n t s store first))
        (λ z e. follows_check mach wide 0 1 m (at_place f at regs callers m.output) (int_le (pos 0) z) kind.Length place (check (int_le z (pos longest)) kind.Length place (Done (Array (copies (nat_of z) v)))) (Comes f (at + 1) callers (Got vs n t s store first))
        (λ low. follows_check mach wide 0 1 m (at_place f at regs callers m.output) (int_le z (pos longest)) kind.Length place (Done (Array (copies (nat_of z) v))) (Comes f (at + 1) callers (Got vs n t s store first))
        (λ high. fills at (instr.Fill t t (suc t)) (t ∷ suc t ∷ []) regs (put regs t None) first callers m (Array (copies (nat_of z) v)) stands refl
        (fill_does mach.shapes regs t t (suc t) v z (got.right ∙ ap (λ (t : Datum). Some t) e) got.left (within low high))
        (put_size regs t None ∙ got.size ∙ whole)
        (live_put vs s store regs t None (λ y i h. apart y h) got.live)
        (λ y a b. put_other regs t y None (λ g. absurd (omega (arith, b, g))) ∙ got.kept y a b)
        (put_size regs t None ∙ got.size))))
      where
        within : {a b : Bool} → a ≡ true → b ≡ true → (a && b) ≡ true
        within {a} {b} p q = rw (p, q) refl
