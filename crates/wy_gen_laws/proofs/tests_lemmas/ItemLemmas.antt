-- The test of an array: its items one by one, the index in a register.
use Rattle.std.proofs.Common.{◌≡◌, ◌<◌, ◌≤◌, ℕ, suc, ◌+◌, ◌-◌, List, [], ◌∷◌, ◌++◌, length, Bool, true, false, Option, Some, None, ℤ, pos, refl, sym, ◌∙◌, ap, subst, arith, length-append}
use Rattle.std.specs.Prelude.{◌≢◌, ◌&&◌, ◌+ℤ◌, int_lt, int_le}
use Rattle.std.proofs.lemmas.Int.{ints}
use Rattle.wy_value.specs.declared.bounds.TheConstants.{INT_MIN, INT_MAX}
use Rattle.wy_value.specs.Datum.{Datum, Truth, Whole, Array, Data, no_items, item}
use Rattle.wy_value.specs.Values.{length_of}
use Rattle.wy_value.specs.Numbers.{is_int}
use Rattle.wy_core.specs.Types.{Ty}
use Rattle.wy_core.specs.formed.Sizes.{size_ty}
use Rattle.wy_code.specs.declared.instructions.Scalar.TheVariants as scalar
use Rattle.wy_code.specs.declared.instructions.Arithmetic.TheVariants as arithmetic
use Rattle.wy_code.specs.declared.instructions.Comparison.TheVariants as comparison
use Rattle.wy_code.specs.declared.instructions.Kind.TheVariants as kind
use Rattle.wy_code.specs.declared.instructions.Instr.TheVariants as instr
use Rattle.wy_code.specs.declared.routines.Routine.{Routine}
use Rattle.wy_code.specs.declared.routines.Code.{Code}
use Rattle.wy_code_spec.specs.declared.tables.context.Context.{Context}
use Rattle.wy_code.specs.declared.pieces.steps.Step.{Step}
use Rattle.wy_code.specs.declared.pieces.steps.Step.TheVariants.{Does, GoesBack, GoesOnUnless}
use Rattle.wy_code_spec.specs.compiled.TypeTests.{test, item_end, items_test, array_test}
use Rattle.wy_vc_spec.specs.wy_sem.Meter.{Meter, Done, choose}
use Rattle.wy_vc_spec.specs.wy_sem.Operations.{longest, item_at, is_index}
use Rattle.wy_vc_spec.specs.wy_sem.Expressions.{Store, slot, put}
use Rattle.wy_vc_spec.specs.wy_sem.TypeTests.{answer, Questions, few_enough, tested, items_tested}
use Rattle.wy_code_spec.specs.step.Step.{Caller, GoesOn as goes_on, effect, gives, gives_int, where_so, instr_at}
use Rattle.wy_gen_laws.specs.Places.{StandAt, IsRoutine}
use Rattle.wy_gen_laws.specs.Follows.{Follows, at_place, Comes}
use Rattle.wy_gen_laws.proofs.PlaceLemmas.{stand_front, stand_back}
use Rattle.wy_gen_laws.proofs.StoreLemmas.{put_here, put_other, put_size}
use Rattle.wy_gen_laws.proofs.FollowLemmas.{follows_more, follows_at, follows_choose, follows_end}
use Rattle.wy_gen_laws.proofs.SpareLemmas.{leaves_then}
use Rattle.wy_gen_laws.proofs.InstructionLemmas.{len_does, get_does, move_does, arith_does, compare_does, branch_on, branch_off}
use Rattle.wy_gen_laws.proofs.PieceLemmas.{does_then, does_last}
use Rattle.wy_gen_laws.specs.expressions.Standing.{with_table}
use Rattle.wy_gen_laws.specs.expressions.Rests.{Told}
use Rattle.wy_gen_laws.proofs.expressions_lemmas.PartLemmas.{room_at}
use Rattle.wy_gen_laws.proofs.expressions_lemmas.QuantifierLemmas.{from_place, wide_then, far_then}
use Rattle.wy_gen_laws.proofs.tests_lemmas.StructureLemmas.{Visited, IsTested, kind_then, told_put}

-- ---- what is left of an array from an index on

-- the items from the index on are these
pub record IsRest (all rest : Data) (i : ℕ) : Type 0 where
  pub long : length_of all ≡ i + length_of rest
  pub same : (j : ℕ) → item_at all (i + j) ≡ item_at rest j

pub rest_whole : (all : Data) → IsRest all all 0
rest_whole all = record { long = omega arith; same = λ j. ap (λ (k : ℕ). item_at all k) (let e : 0 + j ≡ j = omega arith in e) }

rest_next : (all rest : Data) (d : Datum) (i : ℕ) → IsRest all (item d rest) i → IsRest all rest (i + 1)
rest_next all rest d i h = record {
  long = let l : length_of all ≡ i + (length_of rest + 1) = h.long in omega (arith, l);
  same = λ j. ap (λ (k : ℕ). item_at all k) (let e : i + 1 + j ≡ i + suc j = omega arith in e) ∙ h.same (suc j);
}

rest_first : (all rest : Data) (d : Datum) (i : ℕ) → IsRest all (item d rest) i → item_at all i ≡ d
rest_first all rest d i h = ap (λ (k : ℕ). item_at all k) (let e : i ≡ i + 0 = omega arith in e) ∙ h.same 0

-- ---- numbers

less_than : (i n : ℕ) → i < n → int_lt (pos i) (pos n) ≡ true
less_than i n h = grind (arith, ints, h)

not_less : (i n : ℕ) → n ≤ i → int_lt (pos i) (pos n) ≡ false
not_less i n h = grind (arith, ints, h)

is_there : (all : Data) (i : ℕ) → i < length_of all → is_index (pos i) all ≡ true
is_there all i h = both_so (int_le (pos 0) (pos i)) (int_lt (pos i) (pos (length_of all))) (grind (arith, ints)) (less_than i (length_of all) h)
  where
    both_so : (a b : Bool) → a ≡ true → b ≡ true → (a && b) ≡ true
    both_so a b p q = ap (λ (x : Bool). x && b) p ∙ q

index_int : (n : ℕ) → n ≤ longest → is_int (pos n) ≡ true
unfolding longest
index_int n h = both_so (int_le INT_MIN (pos n)) (int_le (pos n) INT_MAX) (grind (arith, ints)) (small n (omega (arith, h)))
  where
    both_so : (a b : Bool) → a ≡ true → b ≡ true → (a && b) ≡ true
    both_so a b p q = ap (λ (x : Bool). x && b) p ∙ q

    small : (n : ℕ) → n ≤ 39614081257132168796771975167 → int_le (pos n) INT_MAX ≡ true
    small n h = grind (arith, ints, h)

next_number : (i : ℕ) → pos i +ℤ pos 1 ≡ pos (i + 1)
next_number i = grind (arith, ints)

few_so : (ds : Data) → length_of ds ≤ longest → few_enough ds ≡ true
few_so ds h = by (length_of ds) longest h
  where
    by : (n k : ℕ) → n ≤ k → int_le (pos n) (pos k) ≡ true
    by n k h = grind (arith, ints, h)

module _ (c : Context) (routines : List Routine) (wide : ℕ) (t : Ty) (small : size_ty t ≤ wide) where
  -- each item is tested as the type says
  abbrev pub AllTested : Questions → Data → Type 0
  AllTested qs no_items = Unit {0}
  AllTested qs (item d ds) = IsTested c routines wide (tested qs d t) t d × AllTested qs ds

  module _ (qs : Questions) (all : Data) (few : length_of all ≤ longest) (f : ℕ) (r : Routine) (there : IsRoutine (with_table c routines) f r) (v q g p : ℕ) (first : Store) (callers : List Caller)
      (held : slot first v ≡ Some (Array all)) (va : v < g) (qa : q < g) (other : v ≢ q) (whole : length first ≡ r.registers) where
    abbrev mach : Code
    mach = with_table c routines

    abbrev one : List Step
    one = test c t (suc (suc g)) q (suc (suc (suc g)))

    abbrev steps : List Step
    steps = items_test v q g one

    abbrev inside : List Step
    inside = one ++ item_end q g

    abbrev back : List Step
    back = GoesBack (suc (suc (suc (length inside)))) ∷ []

    -- between items: the length, and the index of the next item
    pub record Turning (regs : Store) (i : ℕ) : Type 0 where
      pub many : slot regs g ≡ Some (Whole (pos (length_of all)))
      pub index : slot regs (suc g) ≡ Some (Whole (pos i))
      pub kept : (z : ℕ) → z < g → z ≢ q → slot regs z ≡ slot first z
      pub size : length regs ≡ length first

    -- what is behind the index, and the answer, may change
    turning_put : (regs : Store) (i t : ℕ) (u : Option Datum) → t ≢ g → t ≢ suc g → ((z : ℕ) → z < g → z ≢ q → z ≢ t) → Turning regs i → Turning (put regs t u) i
    turning_put regs i t u a b h m = record {
      many = put_other regs t g u (λ e. a (sym e)) ∙ m.many;
      index = put_other regs t (suc g) u (λ e. b (sym e)) ∙ m.index;
      kept = λ z l o. put_other regs t z u (h z l o) ∙ m.kept z l o;
      size = put_size regs t u ∙ m.size;
    }

    turning_answer : (regs : Store) (i : ℕ) (u : Option Datum) → Turning regs i → Turning (put regs q u) i
    turning_answer regs i u m = turning_put regs i q u (λ e. absurd (omega (arith, e, qa))) (λ e. absurd (omega (arith, e, qa))) (λ z l o. o) m

    turning_far : (regs : Store) (i t : ℕ) (u : Option Datum) → suc g < t → Turning regs i → Turning (put regs t u) i
    turning_far regs i t u far m = turning_put regs i t u (λ e. absurd (omega (arith, e, far))) (λ e. absurd (omega (arith, e, far))) (λ z l o e. absurd (omega (arith, l, far, e))) m

    turning_next : (regs : Store) (i j : ℕ) → suc g < length regs → Turning regs i → Turning (put regs (suc g) (Some (Whole (pos j)))) j
    turning_next regs i j room m = record {
      many = put_other regs (suc g) g (Some (Whole (pos j))) (λ e. absurd (omega (arith, e))) ∙ m.many;
      index = put_here regs (suc g) (Some (Whole (pos j))) room;
      kept = λ z l o. put_other regs (suc g) z (Some (Whole (pos j))) (λ e. absurd (omega (arith, l, e))) ∙ m.kept z l o;
      size = put_size regs (suc g) (Some (Whole (pos j))) ∙ m.size;
    }

    -- registers in front of the item and behind the answer are those of before the test of the item
    turning_told : (regs last : Store) (i : ℕ) (b : Bool) → Turning regs i → Told q (suc (suc (suc g))) regs b last → Turning last i
    turning_told regs last i b m told = record {
      many = told.kept g (omega arith) (λ e. absurd (omega (arith, e, qa))) ∙ m.many;
      index = told.kept (suc g) (omega arith) (λ e. absurd (omega (arith, e, qa))) ∙ m.index;
      kept = λ z l o. told.kept z (omega (arith, l)) o ∙ m.kept z l o;
      size = told.size ∙ m.size;
    }

    turning_tells : (regs : Store) (i : ℕ) (b : Bool) → slot regs q ≡ Some (Truth b) → Turning regs i → Told q g first b regs
    turning_tells regs i b e m = record { value = e; kept = m.kept; size = m.size }

    whole_of : (regs : Store) (i : ℕ) → Turning regs i → slot regs v ≡ Some (Array all)
    whole_of regs i m = m.kept v va other ∙ held

    module _ (stands : StandAt r.body p steps) where
      abbrev inner : ℕ
      inner = p + 1 + 1 + 1

      long_inside : length inside ≡ length one + 5
      long_inside = length-append one (item_end q g)

      turns_stand : StandAt r.body inner (inside ++ back)
      turns_stand = stand_front r.body inner (inside ++ back) (Does (instr.Const q (scalar.Bool true)) ∷ []) stands.1.1.1

      long_turns : length (inside ++ back) ≡ length inside + 1
      long_turns = length-append inside back

      long_all : length ((inside ++ back) ++ Does (instr.Const q (scalar.Bool true)) ∷ []) ≡ length (inside ++ back) + 1
      long_all = length-append (inside ++ back) (Does (instr.Const q (scalar.Bool true)) ∷ [])

      inside_stands : StandAt r.body inner inside
      inside_stands = stand_front r.body inner inside back turns_stand

      one_stands : StandAt r.body inner one
      one_stands = stand_front r.body inner one (item_end q g) inside_stands

      end_stands : StandAt r.body (inner + length one) (item_end q g)
      end_stands = stand_back r.body inner one (item_end q g) inside_stands

      back_at : (e : ℕ) → e ≡ inner + length inside → instr_at (Some r) e ≡ Some (instr.Jump p)
      back_at e is =
          let stood : StandAt r.body (inner + length inside) back = stand_back r.body inner inside back turns_stand in
          let home : inner + length inside - suc (suc (suc (length inside))) ≡ p = omega arith in
          ap (λ (z : ℕ). instr_at (Some r) z) is ∙ stood.0 ∙ ap (λ (z : ℕ). Some (instr.Jump z)) home

      yes_at : (e : ℕ) → e ≡ inner + length inside + 1 → instr_at (Some r) e ≡ Some (instr.Const q (scalar.Bool true))
      yes_at e is =
          let stood : StandAt r.body (inner + length (inside ++ back)) (Does (instr.Const q (scalar.Bool true)) ∷ []) = stand_back r.body inner (inside ++ back) (Does (instr.Const q (scalar.Bool true)) ∷ []) stands.1.1.1 in
          ap (λ (z : ℕ). instr_at (Some r) z) (let l = long_turns in let e2 : e ≡ inner + length (inside ++ back) = omega (arith, is, l) in e2) ∙ stood.0

      room_far : suc (suc g) < r.registers
      room_far = room_at mach f r there (p + 1 + 1) (suc (suc g)) (instr.Get (suc (suc g)) v (suc g)) (v ∷ suc g ∷ []) stands.1.1.0 refl

      abbrev R : Bool → Store → Type 0
      R = Told q g first

      -- the item is in its type, and the next one follows
      item_on : (i : ℕ) (rest : Data) (m : Meter) → i < length_of all → ((regs : Store) (k : Meter) → Turning regs (i + 1) → Follows mach wide 0 3 k (at_place f p regs callers k.output) (items_tested qs rest t k) (Comes f (p + length steps) callers R)) → (regs : Store) (e : ℕ) → e + 3 ≡ inner + length inside
          → StandAt r.body e (GoesOnUnless q 4 ∷ Does (instr.Const (suc (suc g)) (scalar.Int (pos 1))) ∷ Does (instr.Arith (suc g) arithmetic.Add (suc g) (suc (suc g))) ∷ []) → slot regs q ≡ Some (Truth true) → Turning regs i
          → Follows mach wide 0 7 m (at_place f e regs callers m.output) (items_tested qs rest t m) (Comes f (p + length steps) callers R)
      item_on i rest m less next regs e is stood said turning =
          let a = suc (suc g) in
          let o = items_tested qs rest t m in
          let regs2 = put regs a (Some (Whole (pos 1))) in
          let regs3 = put regs2 (suc g) (Some (Whole (pos (i + 1)))) in
          let long : length regs ≡ r.registers = turning.size ∙ whole in
          let t2 : Turning regs2 i = turning_far regs i a (Some (Whole (pos 1))) (omega arith) turning in
          let one_there : slot regs2 a ≡ Some (Whole (pos 1)) = put_here regs a (Some (Whole (pos 1))) (let l = room_far in omega (arith, l, long)) in
          let ok : is_int (pos i +ℤ pos 1) ≡ true = ap (λ (z : ℤ). is_int z) (next_number i) ∙ index_int (i + 1) (omega (arith, less, few)) in
          let given : gives_int regs2 (suc g) (pos i +ℤ pos 1) ≡ goes_on regs3 [] = ap (λ (b : Bool). where_so b (gives regs2 (suc g) (Whole (pos i +ℤ pos 1)))) ok ∙ ap (λ (z : ℤ). gives regs2 (suc g) (Whole z)) (next_number i) in
          does_then mach f r there wide 0 6 e (instr.Branch q (suc e + 4)) regs regs callers m o (p + length steps) R stood.0 (branch_on mach.shapes regs q (suc e + 4) said)
          (does_then mach f r there wide 0 5 (e + 1) (instr.Const a (scalar.Int (pos 1))) regs regs2 callers m o (p + length steps) R stood.1.0 refl
          (does_then mach f r there wide 0 4 (e + 1 + 1) (instr.Arith (suc g) arithmetic.Add (suc g) a) regs2 regs3 callers m o (p + length steps) R stood.1.1.0 (arith_does mach.shapes regs2 arithmetic.Add (suc g) (suc g) a (pos i) (pos 1) t2.index one_there ∙ given)
          (far_then mach f r there wide callers 0 3 (e + 1 + 1 + 1) p (instr.Jump p) regs3 m o (Comes f (p + length steps) callers R) (back_at (e + 1 + 1 + 1) (omega (arith, is))) refl
          (next regs3 m (turning_next regs2 i (i + 1) (let l = room_far in let s = t2.size in omega (arith, l, s, whole)) t2)))))

      -- or it isn't, and so isn't the array
      item_off : (i : ℕ) (m : Meter) (regs : Store) (e : ℕ) → e + 3 ≡ inner + length inside → instr_at (Some r) e ≡ Some (instr.Branch q (suc e + 4)) → slot regs q ≡ Some (Truth false) → Turning regs i
          → Follows mach wide 0 7 m (at_place f e regs callers m.output) (Done false m) (Comes f (p + length steps) callers R)
      item_off i m regs e is stood said turning =
          let Q = Comes f (p + length steps) callers R in
          follows_more mach wide 0 1 0 7 m (at_place f e regs callers m.output) (Done false m) Q (omega arith) (omega arith)
          (far_then mach f r there wide callers 0 0 e (suc e + 4) (instr.Branch q (suc e + 4)) regs m (Done false m) Q stood (branch_off mach.shapes regs q (suc e + 4) said)
          (from_place mach f r there wide callers 0 0 (p + length steps) (suc e + 4) regs m (Done false m) Q (let l = long_turns in let k = long_all in omega (arith, is, l, k))
          (follows_end mach wide 0 0 m (at_place f (p + length steps) regs callers m.output) false Q (record { regs = regs; is = refl; ok = turning_tells regs i false said turning }))))

      -- behind the test of the item, which is released
      item_over : (i : ℕ) (rest : Data) (m : Meter) (b : Bool) → i < length_of all → ((regs : Store) (k : Meter) → Turning regs (i + 1) → Follows mach wide 0 3 k (at_place f p regs callers k.output) (items_tested qs rest t k) (Comes f (p + length steps) callers R)) → (regs : Store) (d : Datum) → slot regs (suc (suc g)) ≡ Some d → slot regs q ≡ Some (Truth b) → Turning regs i
          → Follows mach wide 0 9 m (at_place f (inner + length one) regs callers m.output) (choose b (items_tested qs rest t) (answer false) m) (Comes f (p + length steps) callers R)
      item_over i rest m b less next regs d there_it said turning =
          let a = suc (suc g) in
          let e = inner + length one in
          let o = choose b (items_tested qs rest t) (answer false) m in
          let regs2 = put (put regs a None) (suc a) (Some d) in
          let regs3 = put regs2 (suc a) None in
          let t2 : Turning regs2 i = turning_far (put regs a None) i (suc a) (Some d) (omega arith) (turning_far regs i a None (omega arith) turning) in
          let t3 : Turning regs3 i = turning_far regs2 i (suc a) None (omega arith) t2 in
          let said3 : slot regs3 q ≡ Some (Truth b) = put_other regs2 (suc a) q None (λ z. absurd (omega (arith, z, qa))) ∙ put_other (put regs a None) (suc a) q (Some d) (λ z. absurd (omega (arith, z, qa))) ∙ put_other regs a q None (λ z. absurd (omega (arith, z, qa))) ∙ said in
          let is : e + 1 + 1 + 3 ≡ inner + length inside = let l = long_inside in omega (arith, l) in
          does_then mach f r there wide 0 8 e (instr.Move (suc a) a) regs regs2 callers m o (p + length steps) R end_stands.0 (move_does mach.shapes regs (suc a) a d there_it)
          (does_then mach f r there wide 0 7 (e + 1) (instr.Clear (suc a ∷ [])) regs2 regs3 callers m o (p + length steps) R end_stands.1.0 refl
          (follows_choose mach wide 0 7 m (at_place f (e + 1 + 1) regs3 callers m.output) b (items_tested qs rest t) (answer false) (Comes f (p + length steps) callers R)
          (λ yes. item_on i rest m less next regs3 (e + 1 + 1) is end_stands.1.1 (said3 ∙ ap (λ (z : Bool). Some (Truth z)) yes) t3)
          (λ no. item_off i m regs3 (e + 1 + 1) is end_stands.1.1.0 (said3 ∙ ap (λ (z : Bool). Some (Truth z)) no) t3)))

      pub items_follow : (rest : Data) (i : ℕ) → IsRest all rest i → AllTested qs rest → (regs : Store) (m : Meter) → Turning regs i → Follows mach wide 0 3 m (at_place f p regs callers m.output) (items_tested qs rest t m) (Comes f (p + length steps) callers R)
      items_follow no_items i left oks regs m turning =
          let Q = Comes f (p + length steps) callers R in
          let far = suc (p + 1) + (suc (length inside) + 1) in
          let regs1 = put regs q (Some (Truth (int_lt (pos i) (pos (length_of all))))) in
          let regs2 = put regs1 q (Some (Truth true)) in
          let long : length regs ≡ r.registers = turning.size ∙ whole in
          let q_room : q < r.registers = let l = room_far in omega (arith, l, qa) in
          let none : int_lt (pos i) (pos (length_of all)) ≡ false = not_less i (length_of all) (let l = left.long in omega (arith, l)) in
          let said : slot regs1 q ≡ Some (Truth false) = put_here regs q (Some (Truth (int_lt (pos i) (pos (length_of all))))) (omega (arith, q_room, long)) ∙ ap (λ (z : Bool). Some (Truth z)) none in
          let t1 : Turning regs1 i = turning_answer regs i (Some (Truth (int_lt (pos i) (pos (length_of all))))) turning in
          let t2 : Turning regs2 i = turning_answer regs1 i (Some (Truth true)) t1 in
          let tells : slot regs2 q ≡ Some (Truth true) = put_here regs1 q (Some (Truth true)) (let l = t1.size in omega (arith, q_room, l, whole)) in
          does_then mach f r there wide 0 2 p (instr.Compare q comparison.Less (suc g) g) regs regs1 callers m (Done true m) (p + length steps) R stands.0 (compare_does mach.shapes regs comparison.Less q (suc g) g (pos i) (pos (length_of all)) turning.index turning.many)
          (far_then mach f r there wide callers 0 1 (p + 1) far (instr.Branch q far) regs1 m (Done true m) Q stands.1.0 (branch_off mach.shapes regs1 q far said)
          (follows_at mach wide 0 1 m (at_place f far regs1 callers m.output) (Done true m) f (far + 1) (p + length steps) callers R (let l = long_turns in let k = long_all in omega (arith, l, k))
          (does_last mach f r there wide far (instr.Const q (scalar.Bool true)) regs1 regs2 callers m true R (yes_at far (omega arith)) refl (turning_tells regs2 i true tells t2))))
      items_follow (item d ds) i left oks regs m turning =
          let a = suc (suc g) in
          let far = suc (p + 1) + (suc (length inside) + 1) in
          let o = items_tested qs (item d ds) t m in
          let less : i < length_of all = let l : length_of all ≡ i + (length_of ds + 1) = left.long in omega (arith, l) in
          let regs1 = put regs q (Some (Truth (int_lt (pos i) (pos (length_of all))))) in
          let regs2 = put regs1 a (Some d) in
          let long : length regs ≡ r.registers = turning.size ∙ whole in
          let q_room : q < r.registers = let l = room_far in omega (arith, l, qa) in
          let said : slot regs1 q ≡ Some (Truth true) = put_here regs q (Some (Truth (int_lt (pos i) (pos (length_of all))))) (omega (arith, q_room, long)) ∙ ap (λ (z : Bool). Some (Truth z)) (less_than i (length_of all) less) in
          let t1 : Turning regs1 i = turning_answer regs i (Some (Truth (int_lt (pos i) (pos (length_of all))))) turning in
          let t2 : Turning regs2 i = turning_far regs1 i a (Some d) (omega arith) t1 in
          let long2 : length regs2 ≡ r.registers = t2.size ∙ whole in
          let here : slot regs2 a ≡ Some d = put_here regs1 a (Some d) (let l = room_far in let s = t1.size in omega (arith, l, s, whole)) in
          let read : effect mach.shapes (instr.Get a v (suc g)) regs1 ≡ goes_on regs2 [] = get_does mach.shapes regs1 a v (suc g) all (pos i) (whole_of regs1 i t1) t1.index (is_there all i less) ∙ ap (λ (z : Datum). goes_on (put regs1 a (Some z)) []) (rest_first all ds d i left) in
          wide_then mach f r there wide callers (size_ty t) 2 p (instr.Compare q comparison.Less (suc g) g) regs regs1 m o (p + length steps) R small stands.0 (compare_does mach.shapes regs comparison.Less q (suc g) g (pos i) (pos (length_of all)) turning.index turning.many)
          (does_then mach f r there wide (size_ty t) 1 (p + 1) (instr.Branch q far) regs1 regs1 callers m o (p + length steps) R stands.1.0 (branch_on mach.shapes regs1 q far said)
          (does_then mach f r there wide (size_ty t) 0 (p + 1 + 1) (instr.Get a v (suc g)) regs1 regs2 callers m o (p + length steps) R stands.1.1.0 read
          (leaves_then mach wide (size_ty t) 9 0 9 (size_ty t) 0 m (at_place f inner regs2 callers m.output) (tested qs d t m) (λ b. choose b (items_tested qs ds t) (answer false)) f (inner + length one) callers (Told q (suc a) regs2) (Comes f (p + length steps) callers R) (omega arith) (omega arith)
          (oks.0 f r there a q (suc a) inner regs2 callers m here (omega arith) (omega (arith, qa)) (λ e. absurd (omega (arith, e, qa))) long2 one_stands)
          (λ b k last le told. item_over i ds k b less (λ regs4 k4 t4. items_follow ds (i + 1) (rest_next all ds d i left) oks.1 regs4 k4 t4) last d (told.kept a (omega arith) (λ e. absurd (omega (arith, e, qa))) ∙ here) told.value (turning_told regs2 last i b t2 told)))))

  -- ---- the whole array

  pub array_visited : (qs : Questions) (all : Data) → length_of all ≤ longest → AllTested qs all → Visited c routines wide 0 (λ v q g. array_test v q g (items_test v q g (test c t (suc (suc g)) q (suc (suc (suc g)))))) (choose (few_enough all) (items_tested qs all t) (answer false)) (Array all)
  array_visited qs all few oks f r there v q g at regs callers m held va qa other whole stands =
      let mach = with_table c routines in
      let one = test c t (suc (suc g)) q (suc (suc (suc g))) in
      let steps = items_test v q g one in
      let to = at + 1 + 1 + 1 + 1 + length steps in
      let R = Told q g regs in
      let o = items_tested qs all t m in
      let regs1 = put regs q (Some (Truth true)) in
      let regs2 = put regs1 g (Some (Whole (pos (length_of all)))) in
      let regs3 = put regs2 (suc g) (Some (Whole (pos 0))) in
      let g_room : suc g < r.registers = room_at mach f r there (at + 1 + 1 + 1) (suc g) (instr.Const (suc g) (scalar.Int (pos 0))) [] stands.1.1.1.0 refl in
      let told : Told q g regs true regs1 = told_put q g regs true (omega (arith, g_room, qa, whole)) in
      let held1 : slot regs1 v ≡ Some (Array all) = told.kept v va other ∙ held in
      let size2 : length regs2 ≡ length regs = put_size regs1 g (Some (Whole (pos (length_of all)))) ∙ told.size in
      follows_at mach wide 0 7 m (at_place f at regs callers m.output) (choose (few_enough all) (items_tested qs all t) (answer false) m) f to (at + length (array_test v q g steps)) callers R (omega arith)
      (subst (λ (b : Bool). Follows mach wide 0 7 m (at_place f at regs callers m.output) (choose b (items_tested qs all t) (answer false) m) (Comes f to callers R)) (sym (few_so all few))
      (kind_then c routines wide f r there 0 6 v q at regs callers m kind.Array (Array all) o to R held (λ next. refl) stands.0
      (does_then mach f r there wide 0 5 (at + 1) (instr.Branch q (suc (at + 1) + suc (suc (length steps)))) regs1 regs1 callers m o to R stands.1.0 (branch_on mach.shapes regs1 q (suc (at + 1) + suc (suc (length steps))) told.value)
      (does_then mach f r there wide 0 4 (at + 1 + 1) (instr.Len g v) regs1 regs2 callers m o to R stands.1.1.0 (len_does mach.shapes regs1 g v all held1)
      (does_then mach f r there wide 0 3 (at + 1 + 1 + 1) (instr.Const (suc g) (scalar.Int (pos 0))) regs2 regs3 callers m o to R stands.1.1.1.0 refl
      (items_follow qs all few f r there v q g (at + 1 + 1 + 1 + 1) regs callers held va qa other whole stands.1.1.1.1 all 0 (rest_whole all) oks regs3 m (record {
        many = put_other regs2 (suc g) g (Some (Whole (pos 0))) (λ e. absurd (omega (arith, e))) ∙ put_here regs1 g (Some (Whole (pos (length_of all)))) (let s = told.size in omega (arith, g_room, s, whole));
        index = put_here regs2 (suc g) (Some (Whole (pos 0))) (omega (arith, g_room, size2, whole));
        kept = λ z l o2. put_other regs2 (suc g) z (Some (Whole (pos 0))) (λ e. absurd (omega (arith, l, e))) ∙ put_other regs1 g z (Some (Whole (pos (length_of all)))) (λ e. absurd (omega (arith, l, e))) ∙ told.kept z l o2;
        size = put_size regs2 (suc g) (Some (Whole (pos 0))) ∙ size2;
      })))))))
