-- What single instructions do, where their operands are known.
use Rattle.std.proofs.Common.{◌≡◌, ◌<◌, ℕ, zero, suc, List, [], ◌∷◌, length, Bool, true, false, Option, Some, None, ℤ, pos, refl, sym, ◌∙◌, ap, arith}
use Rattle.std.specs.Prelude.{◌≢◌, ◌&&◌, not, int_le, slice_get}
use Rattle.wy_value.specs.Datum.{Datum, Truth, Whole, Array, Record, Data, Fields}
use Rattle.wy_value.specs.Seen.{data_of}
use Rattle.wy_value.specs.Values.{length_of}
use Rattle.wy_value.specs.declared.shapes.Shapes.{Shapes}
use Rattle.wy_code.specs.declared.instructions.Arithmetic.{Arithmetic}
use Rattle.wy_code.specs.declared.instructions.Comparison.{Comparison}
use Rattle.wy_code.specs.declared.instructions.Instr.TheVariants as instr
use Rattle.wy_vc_spec.specs.wy_sem.Operations.{longest, nat_of, same, item_at, find, copies, is_index}
use Rattle.wy_vc_spec.specs.wy_sem.Expressions.{Store, slot, put}
use Rattle.wy_code.specs.pieces.Steps.{registers_from}
use Rattle.wy_code_spec.specs.step.Step.{Effect, GoesOn, GoesTo, effect, computes, compares, gives_int, gives, there, moved_all, shape_names, record_of, cleared}
use Rattle.wy_gen_laws.specs.Registers.{Hold}
use Rattle.wy_gen_laws.proofs.StoreLemmas.{put_other, put_size}

module _ (shapes : Shapes) (s : Store) where
  pub share_does : (d r : ℕ) (v : Datum) → slot s r ≡ Some v → effect shapes (instr.Share d r) s ≡ GoesOn (put s d (Some v)) []
  share_does d r v e = rw e refl

  pub arith_does : (op : Arithmetic) (d a b : ℕ) (x y : ℤ) → slot s a ≡ Some (Whole x) → slot s b ≡ Some (Whole y) → effect shapes (instr.Arith d op a b) s ≡ computes op x y (λ z. gives_int s d z)
  arith_does op d a b x y e f = rw (e, f) refl

  pub compare_does : (op : Comparison) (d a b : ℕ) (x y : ℤ) → slot s a ≡ Some (Whole x) → slot s b ≡ Some (Whole y) → effect shapes (instr.Compare d op a b) s ≡ GoesOn (put s d (Some (Truth (compares op x y)))) []
  compare_does op d a b x y e f = rw (e, f) refl

  pub equal_does : (d a b : ℕ) (v w : Datum) → slot s a ≡ Some v → slot s b ≡ Some w → effect shapes (instr.Equal d a b) s ≡ GoesOn (put s d (Some (Truth (same v w)))) []
  equal_does d a b v w e f = rw (e, f) refl

  pub not_does : (d a : ℕ) (b : Bool) → slot s a ≡ Some (Truth b) → effect shapes (instr.Not d a) s ≡ GoesOn (put s d (Some (Truth (not b)))) []
  not_does d a b e = rw e refl

  pub branch_on : (r t : ℕ) → slot s r ≡ Some (Truth true) → effect shapes (instr.Branch r t) s ≡ GoesOn s []
  branch_on r t e = rw e refl

  pub branch_off : (r t : ℕ) → slot s r ≡ Some (Truth false) → effect shapes (instr.Branch r t) s ≡ GoesTo t
  branch_off r t e = rw e refl

  pub len_does : (d a : ℕ) (ds : Data) → slot s a ≡ Some (Array ds) → effect shapes (instr.Len d a) s ≡ GoesOn (put s d (Some (Whole (pos (length_of ds))))) []
  len_does d a ds e = rw e refl

  pub get_does : (d a i : ℕ) (ds : Data) (z : ℤ) → slot s a ≡ Some (Array ds) → slot s i ≡ Some (Whole z) → is_index z ds ≡ true → effect shapes (instr.Get d a i) s ≡ GoesOn (put s d (Some (item_at ds (nat_of z)))) []
  get_does d a i ds z e f g = rw (e, f, g) refl

  pub field_does : (d a f : ℕ) (fs : Fields) (name : List ℕ) (v : Datum) → slot s a ≡ Some (Record fs) → slice_get shapes.names f ≡ Some name → find fs name ≡ Some v → effect shapes (instr.Field d a f) s ≡ GoesOn (put s d (Some v)) []
  field_does d a f fs name v e g h = rw (e, g, h) refl

  pub move_does : (d r : ℕ) (v : Datum) → slot s r ≡ Some v → effect shapes (instr.Move d r) s ≡ GoesOn (put (put s r None) d (Some v)) []
  move_does d r v e = rw e refl

  pub fill_does : (d v n : ℕ) (u : Datum) (z : ℤ) → slot s n ≡ Some (Whole z) → slot s v ≡ Some u → (int_le (pos 0) z && int_le z (pos longest)) ≡ true
      → effect shapes (instr.Fill d v n) s ≡ GoesOn (put (put s v None) d (Some (Array (copies (nat_of z) u)))) []
  fill_does d v n u z e f g = rw (e, g, f) refl

-- ---- values in registers that follow on one another

-- so many registers from d on are empty, the others as before
abbrev pub emptied : Store → ℕ → ℕ → Store
emptied s d zero = s
emptied s d (suc k) = emptied (put s d None) (suc d) k

-- a register in front of them gets another value
pub hold_put : (s : Store) (t d : ℕ) (u : Option Datum) (vs : List Datum) → t < d → Hold s d vs → Hold (put s t u) d vs
hold_put s t d u [] less h = tt
hold_put s t d u (v ∷ vs) less h = (put_other s t d u (λ e. absurd (omega (arith, less, e))) ∙ h.0, hold_put s t (suc d) u vs (omega (arith, less)) h.1)

pub emptied_below : (s : Store) (d k x : ℕ) → x < d → slot (emptied s d k) x ≡ slot s x
emptied_below s d zero x less = refl
emptied_below s d (suc k) x less = emptied_below (put s d None) (suc d) k x (omega (arith, less)) ∙ put_other s d x None (λ e. absurd (omega (arith, less, e)))

pub emptied_size : (s : Store) (d k : ℕ) → length (emptied s d k) ≡ length s
emptied_size s d zero = refl
emptied_size s d (suc k) = emptied_size (put s d None) (suc d) k ∙ put_size s d None

moved_first : (s : Store) (d : ℕ) (rs : List ℕ) (v : Datum) (next : List Datum → Store → Effect) → slot s d ≡ Some v → moved_all s (d ∷ rs) next ≡ moved_all (put s d None) rs (λ vs last. next (v ∷ vs) last)
moved_first s d rs v next e = rw e refl

-- they are moved
pub moved_does : (s : Store) (d : ℕ) (vs : List Datum) (next : List Datum → Store → Effect) → Hold s d vs → moved_all s (registers_from d (length vs)) next ≡ next vs (emptied s d (length vs))
moved_does s d [] next h = refl
moved_does s d (v ∷ vs) next h = moved_first s d (registers_from (suc d) (length vs)) v next h.0 ∙ moved_does (put s d None) (suc d) vs (λ us last. next (v ∷ us) last) (hold_put s d (suc d) None vs (omega arith) h.1)

pub array_does : (shapes : Shapes) (s : Store) (d count : ℕ) (vs : List Datum) → length vs ≡ count → Hold s d vs
    → effect shapes (instr.Array d (registers_from d count)) s ≡ GoesOn (put (emptied s d (length vs)) d (Some (Array (data_of vs)))) []
array_does shapes s d count vs e h = ap (λ (k : ℕ). effect shapes (instr.Array d (registers_from d k)) s) (sym e) ∙ moved_does s d vs (λ us rest. gives rest d (Array (data_of us))) h

pub record_does : (shapes : Shapes) (s : Store) (d k count : ℕ) (vs : List Datum) (names : List (List ℕ)) (fs : Fields) → length vs ≡ count → Hold s d vs → shape_names shapes k ≡ Some names → record_of names vs ≡ Some fs
    → effect shapes (instr.Record d k (registers_from d count)) s ≡ GoesOn (put (emptied s d (length vs)) d (Some (Record fs))) []
record_does shapes s d k count vs names fs e h n r =
    ap (λ (c : ℕ). effect shapes (instr.Record d k (registers_from d c)) s) (sym e)
    ∙ ap (λ (o : Option (List (List ℕ))). there o (λ ns. moved_all s (registers_from d (length vs)) (λ us rest. there (record_of ns us) (λ gs. gives rest d (Record gs))))) n
    ∙ moved_does s d vs (λ us rest. there (record_of names us) (λ gs. gives rest d (Record gs))) h
    ∙ ap (λ (o : Option Fields). there o (λ gs. gives (emptied s d (length vs)) d (Record gs))) r

-- ---- released registers

-- this register is none of these
abbrev pub IsNone : ℕ → List ℕ → Type 0
IsNone x [] = Unit {0}
IsNone x (r ∷ rs) = (x ≢ r) × IsNone x rs

pub cleared_other : (s : Store) (rs : List ℕ) (x : ℕ) → IsNone x rs → slot (cleared s rs) x ≡ slot s x
cleared_other s [] x h = refl
cleared_other s (r ∷ rs) x h = cleared_other (put s r None) rs x h.1 ∙ put_other s r x None h.0

pub cleared_size : (s : Store) (rs : List ℕ) → length (cleared s rs) ≡ length s
cleared_size s [] = refl
cleared_size s (r ∷ rs) = cleared_size (put s r None) rs ∙ put_size s r None
