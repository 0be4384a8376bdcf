-- Runs of whose answers something is known, and what is known of the answers of expressions and of their parts.
use Rattle.std.proofs.Common.{◌≡◌, ◌≤◌, ℕ, zero, suc, List, [], ◌∷◌, Bool, true, false, Option, Some, None, ℤ, pos, subst, arith}
use Rattle.std.specs.Prelude.{◌+ℤ◌, not, int_lt, int_le}
use Rattle.std.specs.Int.{int_rem_euclid}
use Rattle.std.proofs.lemmas.Int.{ints}
use Rattle.wy_lemmas.proofs.Choices.{and-left as low_of, and-right as high_of, both_true}
use Rattle.wy_value.specs.declared.bounds.TheConstants.{INT_MIN, INT_MAX}
use Rattle.wy_value.specs.Datum.{Datum, Null, Truth, Whole, Array, Record}
use Rattle.wy_value.specs.Numbers.{is_int}
use Rattle.wy_core.specs.CoreTree.{Expr, IntExpr, VarExpr, NegExpr, NotExpr, LenExpr, BinaryExpr, IndexExpr, FieldExpr, RepeatExpr}
use Rattle.wy_core.specs.declared.expressions.Op.{Op}
use Rattle.wy_core.specs.declared.expressions.Op.TheVariants as op
use Rattle.wy_core.specs.formed.Literals.{IsInt, IntsExpr}
use Rattle.wy_core.specs.formed.Sizes.{size}
use Rattle.wy_term.specs.declared.cond.CondKind.TheVariants as kind
use Rattle.wy_code.specs.declared.routines.Code.{Code}
use Rattle.wy_vc_spec.specs.wy_sem.Meter.{Meter, Outcome, Done, Fault, More, Spent, check}
use Rattle.wy_vc_spec.specs.wy_sem.Operations.{longest, same_number, negated, denied, length_result, applied, item_of, field_of, repeated}
use Rattle.wy_vc_spec.specs.wy_sem.Expressions.{Store, slot, put, Setting, no_calls, span, eval}
use Rattle.wy_code_spec.specs.step.Step.{State, Caller}
use Rattle.wy_gen_laws.specs.Follows.{Follows, Comes}
use Rattle.wy_vc_spec.specs.wy_sem.kept.Kept.{IsProper, SlotProper, StoreProper, Gives, CallsGive}
use Rattle.wy_vc_spec.proofs.wy_sem_proofs.kept_lemmas.KeptLemmas.{values_kept}

-- an outcome that is followed, and whose answer has a property, comes to a state with both
pub follows_knowing : {X : Type 0} (code : Code) (wide lo hi : ℕ) (m : Meter) (st : State) (o : Outcome X) (P : X → Type 0) (routine at : ℕ) (callers : List Caller) (R : X → Store → Type 0) → Gives P o
    → Follows code wide lo hi m st o (Comes routine at callers R) → Follows code wide lo hi m st o (Comes routine at callers (λ x regs. P x × R x regs))
follows_knowing code wide lo hi m st (Done x k) P routine at callers R p h = record { steps = h.steps; spent = h.spent; total = h.total; least = h.least; most = h.most; there = record { regs = h.there.regs; is = h.there.is; ok = (p, h.there.ok) } }
follows_knowing code wide lo hi m st (Fault kind at2 k) P routine at callers R p h = tt
follows_knowing code wide lo hi m st (More k) P routine at callers R p h = h
follows_knowing code wide lo hi m st Spent P routine at callers R p h = tt

-- ---- stores

pub slot_proper : (s : Store) (x : ℕ) (v : Datum) → StoreProper s → slot s x ≡ Some v → IsProper v
slot_proper s x v h e = subst (λ (o : Option Datum). SlotProper o) e (by s x h)
  where
    by : (s : Store) (x : ℕ) → StoreProper s → SlotProper (slot s x)
    by [] x h = tt
    by (w ∷ ws) zero h = h.0
    by (w ∷ ws) (suc x) h = by ws x h.1

pub store_proper : (s : Store) (x : ℕ) (v : Datum) → IsProper v → StoreProper s → StoreProper (put s x (Some v))
store_proper [] x v p h = tt
store_proper (w ∷ ws) zero v p h = (p, h.1)
store_proper (w ∷ ws) (suc x) v p h = (h.0, store_proper ws x v p h.1)

-- ---- what is done with values gives values

pub few_nodes : (n : ℕ) → n ≤ 3 → n ≤ longest
unfolding longest
few_nodes n h = omega (arith, h)

module _ (place : ℕ) (m : Meter) where
  -- an evaluation of variables alone
  abbrev alone : Setting ℕ
  alone = record { place = λ (at : ℕ). place; limit = None; test = λ paid t d k. More k; call = no_calls }

  nothing_called : CallsGive alone
  nothing_called g at vs k h = tt

  one_kept : (v : Datum) (e : Expr ℕ) → IntsExpr e → size e ≤ 3 → IsProper v → Gives IsProper (eval alone false e (Some v ∷ []) m)
  one_kept v e i few p = values_kept alone false nothing_called e i (few_nodes (size e) few) (Some v ∷ []) (p, tt) m

  two_kept : (v u : Datum) (e : Expr ℕ) → IntsExpr e → size e ≤ 3 → IsProper v → IsProper u → Gives IsProper (eval alone false e (Some v ∷ Some u ∷ []) m)
  two_kept v u e i few p q = values_kept alone false nothing_called e i (few_nodes (size e) few) (Some v ∷ Some u ∷ []) (p, (q, tt)) m

  pub literal_proper : (z : ℤ) → IsInt z → IsProper (Whole z)
  literal_proper z h = one_kept Null (IntExpr 0 z) h (omega arith) tt

  pub negated_proper : (v : Datum) → IsProper v → Gives IsProper (negated place v m)
  negated_proper v p = one_kept v (NegExpr 0 (VarExpr 0 0)) tt (omega arith) p

  pub denied_proper : (v : Datum) → IsProper v → Gives IsProper (denied place v m)
  denied_proper v p = one_kept v (NotExpr 0 (VarExpr 0 0)) tt (omega arith) p

  pub length_proper : (v : Datum) → IsProper v → Gives IsProper (length_result place v m)
  length_proper v p = one_kept v (LenExpr 0 (VarExpr 0 0)) tt (omega arith) p

  pub field_proper : (name : List ℕ) (v : Datum) → IsProper v → Gives IsProper (field_of place v name m)
  field_proper name v p = one_kept v (FieldExpr 0 (VarExpr 0 0) name) tt (omega arith) p

  pub item_proper : (v u : Datum) → IsProper v → IsProper u → Gives IsProper (item_of place v u m)
  item_proper v u p q = two_kept v u (IndexExpr 0 (VarExpr 0 0) (VarExpr 0 1)) (tt, tt) (omega arith) p q

  pub repeated_proper : (v u : Datum) → IsProper v → IsProper u → Gives IsProper (repeated place v u m)
  repeated_proper v u p q = two_kept v u (RepeatExpr 0 (VarExpr 0 0) (VarExpr 0 1)) (tt, tt) (omega arith) p q

  -- an operator that evaluates both of its operands
  strict_proper : (o : Op) (v u : Datum) → IsProper v → IsProper u → Gives IsProper (eval alone false (BinaryExpr 0 o (VarExpr 0 0) (VarExpr 0 1)) (Some v ∷ Some u ∷ []) m)
  strict_proper o v u p q = two_kept v u (BinaryExpr 0 o (VarExpr 0 0) (VarExpr 0 1)) (tt, tt) (omega arith) p q

  truth_proper : (u : Datum) → Gives IsProper (applied op.And place (Truth true) u m)
  truth_proper (Truth b) = tt
  truth_proper Null = tt
  truth_proper (Whole z) = tt
  truth_proper (Array ds) = tt
  truth_proper (Record fs) = tt

  pub applied_proper : (o : Op) (v u : Datum) → IsProper v → IsProper u → Gives IsProper (applied o place v u m)
  applied_proper op.Add v u p q = strict_proper op.Add v u p q
  applied_proper op.Sub v u p q = strict_proper op.Sub v u p q
  applied_proper op.Mul v u p q = strict_proper op.Mul v u p q
  applied_proper op.Div v u p q = strict_proper op.Div v u p q
  applied_proper op.Mod v u p q = strict_proper op.Mod v u p q
  applied_proper op.Equal v u p q = strict_proper op.Equal v u p q
  applied_proper op.Less v u p q = strict_proper op.Less v u p q
  applied_proper op.LessEqual v u p q = strict_proper op.LessEqual v u p q
  applied_proper op.Greater v u p q = strict_proper op.Greater v u p q
  applied_proper op.GreaterEqual v u p q = strict_proper op.GreaterEqual v u p q
  applied_proper op.And v u p q = truth_proper u
  applied_proper op.Or v u p q = truth_proper u

-- a remainder of `int`s is one
pub rest_proper : (x y : ℤ) → is_int x ≡ true → is_int y ≡ true → not (same_number y (pos 0)) ≡ true → is_int (int_rem_euclid x y) ≡ true
rest_proper x y p q other =
    let m : Meter = record { ticks = 0; turns = 0; output = [] } in
    subst (λ (b : Bool). Gives IsProper (check b kind.Divisor 0 (Done (Whole (int_rem_euclid x y))) m)) other (applied_proper 0 m op.Mod (Whole x) (Whole y) p q)

-- ---- values in a row

-- ---- the numbers of a quantifier

pub span_none : (i to : ℤ) → int_lt i to ≡ false → span i to ≡ 0
span_none i to h = grind (arith, ints)

-- the number behind one that is less than an `int`
pub next_int : (i to : ℤ) → int_lt i to ≡ true → is_int i ≡ true → is_int to ≡ true → is_int (i +ℤ pos 1) ≡ true
next_int i to h p q =
    let a = low_of (int_le INT_MIN i) (int_le i INT_MAX) p in
    let b = high_of (int_le INT_MIN to) (int_le to INT_MAX) q in
    both_true (int_le INT_MIN (i +ℤ pos 1)) (int_le (i +ℤ pos 1) INT_MAX) (grind (arith, ints, a)) (grind (arith, ints, b, h))
