-- The code of an expression does what the expression does.
use Rattle.std.proofs.Common.{◌≡◌, ◌<◌, ◌≤◌, inl, inr, ℕ, zero, suc, ◌+◌, List, [], ◌∷◌, ◌++◌, length, Bool, true, false, Option, Some, None, ℤ, refl, ◌∙◌, ap, subst, arith, length-append}
use Rattle.std.specs.Prelude.{◌≢◌, pos, ◌+ℤ◌}
use Rattle.wy_vc_spec.proofs.wy_sem_proofs.kept_lemmas.KeptLemmas.{data_many, data_proper}
use Rattle.wy_lemmas.proofs.Choices.{false_true as never}
use Rattle.wy_value.specs.Datum.{Datum, Null, Truth, Whole, Array, Record, Fields, no_fields, field}
use Rattle.wy_value.specs.Numbers.{is_int}
use Rattle.wy_core.specs.Types.{Ty}
use Rattle.wy_core.specs.CoreTree as tree
use Rattle.wy_core.specs.CoreTree.{Expr, NullExpr, BoolExpr, IntExpr, VarExpr, CallExpr, NegExpr, NotExpr, LenExpr, BinaryExpr, IsExpr, IndexExpr, FieldExpr, ListExpr, RepeatExpr, RecordExpr, QuantExpr, Exprs, NoExprs, MoreExprs, NoFields, MoreFields}
use Rattle.wy_core.specs.declared.expressions.Op.{Op}
use Rattle.wy_core.specs.declared.expressions.Op.TheVariants as op
use Rattle.wy_core.specs.formed.Offers.{Offers}
use Rattle.wy_core.specs.formed.Bound.{Scope, BoundTy, BoundFields}
use Rattle.wy_core.specs.formed.Calls.{CallsExpr, CallsExprs, CallsFields}
use Rattle.wy_core.specs.formed.Literals.{IntsExpr, IntsExprs, IntsFields}
use Rattle.wy_core.specs.formed.Recursion.{NamesIn, Mentions, MentionsIn, MentionsInFields}
use Rattle.wy_core.specs.formed.Sizes.{size, sizes, field_sizes, size_ty}
use Rattle.wy_code_spec.specs.wy_live.Sets.{Variables, has}
use Rattle.wy_code_spec.specs.wy_live.Walks.{before, before_all, before_fields, turned}
use Rattle.wy_code.specs.declared.instructions.Instr.TheVariants as instr
use Rattle.wy_code.specs.declared.routines.Routine.{Routine}
use Rattle.wy_code.specs.declared.routines.Code.{Code}
use Rattle.wy_code_spec.specs.declared.tables.context.Context.{Context}
use Rattle.wy_code_spec.specs.tables.Tables.{target, shape_number, names_in}
use Rattle.wy_code.specs.declared.pieces.steps.Step.{Step}
use Rattle.wy_code.specs.declared.pieces.steps.Step.TheVariants.{Does}
use Rattle.wy_code.specs.pieces.Steps.{registers_from, dropped}
use Rattle.wy_code_spec.specs.compiled.TypeTests.{test, looks}
use Rattle.wy_code_spec.specs.compiled.Operands.{read}
use Rattle.wy_code_spec.specs.compiled.Straight.{is_on_numbers, is_straight, into}
use Rattle.wy_code_spec.specs.compiled.Expressions.{code, codes, field_codes, released, call, is_test, tested, tested_read, quantify, count_of, field_count}
use Rattle.wy_code_spec.specs.numbered.Numbered.{NumberedTy, NumberedExpr, NumberedExprs, NumberedFields}
use Rattle.wy_vc_spec.specs.wy_sem.Meter.{Meter, Outcome, Done, Fault, More, Spent, Run, ◌>>=◌, turn, choose}
use Rattle.wy_vc_spec.specs.wy_sem.Operations.{longest, agrees, or_null, as_number, as_truth, needed, repeated}
use Rattle.wy_vc_spec.specs.wy_sem.Expressions.{Store, slot, put, Setting, span, each, quantified, eval, eval_all, eval_fields}
use Rattle.wy_code_spec.specs.step.Step as machine
use Rattle.wy_code_spec.specs.step.Step.{Caller, instr_at, shape_names, behind_field}
use Rattle.wy_gen_laws.specs.Places.{StandAt, IsRoutine}
use Rattle.wy_gen_laws.specs.Follows.{Follows, at_place, Comes}
use Rattle.wy_gen_laws.specs.Registers.{Live, Got}
use Rattle.wy_gen_laws.proofs.PlaceLemmas.{stand_front, stand_back}
use Rattle.wy_gen_laws.proofs.StoreLemmas.{put_other, put_size, live_put}
use Rattle.wy_gen_laws.proofs.FollowLemmas.{follows_then, follows_more, follows_at, follows_number, follows_needed}
use Rattle.wy_gen_laws.proofs.SpareLemmas.{leaves_follows}
use Rattle.wy_gen_laws.proofs.InstructionLemmas.{move_does, emptied, emptied_below, emptied_size, array_does, record_does}
use Rattle.wy_gen_laws.proofs.PieceLemmas.{stays_last, does_then}
use Rattle.wy_vc_spec.specs.wy_sem.kept.Kept.{IsProper, FieldsProper, SlotProper, StoreProper, Gives}
use Rattle.wy_gen_laws.specs.expressions.Standing.{with_table, AreKnown}
use Rattle.wy_gen_laws.specs.expressions.Rests.{Called, Told, Rests}
use Rattle.wy_gen_laws.specs.expressions.Evaluated.{Anything, IsDeclared, Fits, FitAll, Gained, GotAll, IsEvaluated, IsEvaluatedInto, AreEvaluated, ExpressionsAreEvaluated}
use Rattle.wy_gen_laws.proofs.expressions_lemmas.KnownLemmas.{apart_behind, known_all, known_fields, known_turned, is_below}
use Rattle.wy_gen_laws.proofs.expressions_lemmas.KnowingLemmas.{repeated_proper}
use Rattle.wy_gen_laws.proofs.expressions_lemmas.ReadLemmas.{Stands, own_target, variable_target, stood_got, live_read, read_where}
use Rattle.wy_gen_laws.proofs.expressions_lemmas.PartLemmas.{IsStrict, fills, repeated_follows}
use Rattle.wy_gen_laws.proofs.expressions_lemmas.OperandLemmas.{IsBrief, paid, first_part, one_part, two_parts, early}
use Rattle.wy_gen_laws.proofs.expressions_lemmas.IntoLemmas.{IsFilled, null_fills, truth_fills, number_fills, variable_fills, negated_fills, denied_fills, length_fills, field_fills, item_fills, operator_fills}
use Rattle.wy_gen_laws.proofs.expressions_lemmas.QuantifierLemmas.{turns_follow}
use Rattle.wy_value.specs.Seen.{data_of}

-- the fields that values in a row make
record GotFields (vs : Scope) (n d count : ℕ) (names : List (List ℕ)) (s : Variables) (store first : Store) (fs : Fields) (regs : Store) : Type 0 where
  pub listed : List Datum
  pub got : GotAll vs n d count s store first listed regs
  pub fields : machine.record_of names listed ≡ Some fs
  pub proper : FieldsProper fs

-- ---- sizes of parts

first_fits : (a b t : ℕ) → a + b + 1 ≤ t → a ≤ t
first_fits a b t h = omega (arith, h)

second_fits : (a b t : ℕ) → a + b + 1 ≤ t → b ≤ t
second_fits a b t h = omega (arith, h)

one_fits : (a t : ℕ) → a + 1 ≤ t → a ≤ t
one_fits a t h = omega (arith, h)

head_fits : (a b t : ℕ) → a + b ≤ t → a ≤ t
head_fits a b t h = omega (arith, h)

tail_fits : (a b t : ℕ) → a + b ≤ t → b ≤ t
tail_fits a b t h = omega (arith, h)

-- an expression has a node at least
some_node : (e : Expr ℕ) → 1 ≤ size e
some_node (NullExpr at) = omega arith
some_node (BoolExpr at truth) = omega arith
some_node (IntExpr at number) = omega arith
some_node (VarExpr at x) = omega arith
some_node (CallExpr at routine args) = omega arith
some_node (NegExpr at a) = omega arith
some_node (NotExpr at a) = omega arith
some_node (LenExpr at a) = omega arith
some_node (BinaryExpr at op a b) = omega arith
some_node (IsExpr at a ty) = omega arith
some_node (IndexExpr at a b) = omega arith
some_node (FieldExpr at a name) = omega arith
some_node (ListExpr at items) = omega arith
some_node (RepeatExpr at a b) = omega arith
some_node (RecordExpr at fs) = omega arith
some_node (QuantExpr at all x a b body) = omega arith

-- so there are no more items than nodes
few_items : (es : Exprs ℕ) → count_of es ≤ sizes es
few_items NoExprs = omega arith
few_items (MoreExprs e es) = let a = some_node e in let b = few_items es in omega (arith, a, b)

-- an operator on numbers evaluates both of its operands
on_numbers_strict : (o : Op) → is_on_numbers o ≡ true → IsStrict o
on_numbers_strict op.Add h = tt
on_numbers_strict op.Sub h = tt
on_numbers_strict op.Mul h = tt
on_numbers_strict op.Div h = tt
on_numbers_strict op.Mod h = tt
on_numbers_strict op.Equal h = tt
on_numbers_strict op.Less h = tt
on_numbers_strict op.LessEqual h = tt
on_numbers_strict op.Greater h = tt
on_numbers_strict op.GreaterEqual h = tt
on_numbers_strict op.And h = never h
on_numbers_strict op.Or h = never h

-- ---- what is known of numbers and of what quantifiers say

number_int : (v : Datum) (z : ℤ) → v ≡ Whole z → IsProper v → is_int z ≡ true
number_int v z e p = subst (λ (a : Datum). IsProper a) e p

-- what follows a turn says a truth value
judged_gives : (q : Bool) (place : ℕ) (next : Run Datum) → ((k : Meter) → Gives IsProper (next k)) → (v : Datum) (k : Meter) → Gives IsProper (as_truth place v (λ b. choose (agrees q b) next (Done (Truth b))) k)
judged_gives q place next ok (Truth b) k = on (agrees q b)
  where
    on : (g : Bool) → Gives IsProper (choose g next (Done (Truth b)) k)
    on true = ok k
    on false = tt
judged_gives q place next ok Null k = tt
judged_gives q place next ok (Whole z) k = tt
judged_gives q place next ok (Array ds) k = tt
judged_gives q place next ok (Record fs) k = tt

turn_gives : (q : Bool) (place : ℕ) (next : Run Datum) → ((k : Meter) → Gives IsProper (next k)) → (o : Outcome Datum) → Gives IsProper (o >>= (λ v. as_truth place v (λ b. choose (agrees q b) next (Done (Truth b)))))
turn_gives q place next ok (Done v k) = judged_gives q place next ok v k
turn_gives q place next ok (Fault kind at k) = tt
turn_gives q place next ok (More k) = tt
turn_gives q place next ok Spent = tt

each_gives : (q : Bool) (place : ℕ) (body : ℤ → Run Datum) (i : ℤ) (j : ℕ) (m : Meter) → Gives IsProper (each q place body i j m)
each_gives q place body i zero m = tt
each_gives q place body i (suc j) m = turn_gives q place (each q place body (i +ℤ pos 1) j) (λ k. each_gives q place body (i +ℤ pos 1) j k) (body i m)

quantified_gives : (q : Bool) (place : ℕ) (body : ℤ → Run Datum) (v u : Datum) (m : Meter) → Gives IsProper (quantified q place body v u m)
quantified_gives q place body (Whole x) (Whole y) m = each_gives q place body x (span x y) m
quantified_gives q place body (Whole x) Null m = tt
quantified_gives q place body (Whole x) (Truth b) m = tt
quantified_gives q place body (Whole x) (Array ds) m = tt
quantified_gives q place body (Whole x) (Record fs) m = tt
quantified_gives q place body Null u m = tt
quantified_gives q place body (Truth b) u m = tt
quantified_gives q place body (Array ds) u m = tt
quantified_gives q place body (Record fs) u m = tt

module _ (c : Context) (routines : List Routine) (f : ℕ) (r : Routine) (there : IsRoutine (with_table c routines) f r) (w : Setting ℕ) (n wide most : ℕ) (C P : ℕ → Type 0) (rests : Rests c routines w wide most C P) where
  abbrev mach : Code
  mach = with_table c routines

  -- a value that has come
  gained : (vs : Scope) (d p : ℕ) (v : Datum) (s : Variables) (store first regs : Store) (callers : List Caller) (m : Meter) → IsProper v → Follows mach wide 0 1 m (at_place f p regs callers m.output) (Done v m) (Comes f (p + 1) callers (Got vs n d s store first))
      → Follows mach wide 0 1 m (at_place f p regs callers m.output) (Done v m) (Comes f (p + 1) callers (Gained vs n d s store first))
  gained vs d p v s store first regs callers m ok h = record { steps = h.steps; spent = h.spent; total = h.total; least = h.least; most = h.most; there = record { regs = h.there.regs; is = h.there.is; ok = (ok, h.there.ok) } }

  -- ---- arrays and records

  -- registers before d, and live variables, stay where those from d on are emptied
  emptied_live : (vs : Scope) (d count : ℕ) (s : Variables) (store regs : Store) → ((x : ℕ) → has s x ≡ true → x < n) → n ≤ d → Live vs s store regs → Live vs s store (emptied regs d count)
  emptied_live vs d count s store regs below behind live = record { holds = λ x v i h e. emptied_below regs d count x (let l = below x h in omega (arith, l, behind)) ∙ live.holds x v i h e }

  array : (vs : Scope) (d p count : ℕ) (s : Variables) (store first regs : Store) (us : List Datum) (callers : List Caller) (m : Meter) → count ≤ longest → ((x : ℕ) → has s x ≡ true → x < n) → n ≤ d → length first ≡ r.registers → GotAll vs n d count s store first us regs → instr_at (Some r) p ≡ Some (instr.Array d (registers_from d count))
      → Follows mach wide 0 1 m (at_place f p regs callers m.output) (Done (Array (data_of us)) m) (Comes f (p + 1) callers (Gained vs n d s store first))
  array vs d p count s store first regs us callers m few below behind whole got stands =
      gained vs d p (Array (data_of us)) s store first regs callers m (let a = data_many us in let b = got.many in omega (arith, a, b, few), data_proper us got.proper)
      (fills mach f r there n d wide vs s (apart_behind n s d below behind) store p (instr.Array d (registers_from d count)) (registers_from d count) regs (emptied regs d (length us)) first callers m (Array (data_of us)) stands refl
      (array_does mach.shapes regs d count us got.many got.values)
      (emptied_size regs d (length us) ∙ got.size ∙ whole) (emptied_live vs d (length us) s store regs below behind got.live)
      (λ t a b. emptied_below regs d (length us) t b ∙ got.kept t a b) (emptied_size regs d (length us) ∙ got.size))

  record_made : (vs : Scope) (d p count : ℕ) (names : List (List ℕ)) (s : Variables) (store first regs : Store) (ds : Fields) (shape : ℕ) (callers : List Caller) (m : Meter) → ((x : ℕ) → has s x ≡ true → x < n) → n ≤ d → length first ≡ r.registers → GotFields vs n d count names s store first ds regs
      → shape_names c.table shape ≡ Some names → instr_at (Some r) p ≡ Some (instr.Record d shape (registers_from d count))
      → Follows mach wide 0 1 m (at_place f p regs callers m.output) (Done (Record ds) m) (Comes f (p + 1) callers (Gained vs n d s store first))
  record_made vs d p count names s store first regs ds shape callers m below behind whole made shaped stands =
      let got = made.got in
      let us = made.listed in
      gained vs d p (Record ds) s store first regs callers m made.proper
      (fills mach f r there n d wide vs s (apart_behind n s d below behind) store p (instr.Record d shape (registers_from d count)) (registers_from d count) regs (emptied regs d (length us)) first callers m (Record ds) stands refl
      (record_does mach.shapes regs d shape count us names ds got.many got.values shaped made.fields)
      (emptied_size regs d (length us) ∙ got.size ∙ whole) (emptied_live vs d (length us) s store regs below behind got.live)
      (λ t a b. emptied_below regs d (length us) t b ∙ got.kept t a b) (emptied_size regs d (length us) ∙ got.size))

  -- one value more in front
  one_more : (vs : Scope) (d count : ℕ) (s t : Variables) (store first middle regs : Store) (v : Datum) (us : List Datum) → n ≤ d → IsProper v → Got vs n d s store first v middle → GotAll vs n (suc d) count t store middle us regs → GotAll vs n d (suc count) t store first (v ∷ us) regs
  one_more vs d count s t store first middle regs v us behind p one more = record {
    values = (more.kept d behind (omega arith) ∙ one.value, more.values);
    many = ap suc more.many;
    proper = (p, more.proper);
    live = more.live;
    kept = λ x a b. more.kept x a (omega (arith, b)) ∙ one.kept x a b;
    size = more.size ∙ one.size;
  }

  -- ---- calls

  called : (vs : Scope) (d p g place : ℕ) (us : List Datum) (s : Variables) (store first regs : Store) (callers : List Caller) (m : Meter) (count : ℕ) → C g → m.ticks ≤ most → ((x : ℕ) → has s x ≡ true → x < n) → n ≤ d → length first ≡ r.registers → GotAll vs n d count s store first us regs
      → StandAt r.body p (call (target c.results g) g d count)
      → Follows mach wide 0 0 m (at_place f p regs callers m.output) (w.call g place us m >>= (λ v. needed place v Done)) (Comes f (p + length (call (target c.results g) g d count)) callers (Gained vs n d s store first))
  called vs d p g place us s store first regs callers m count ok few below behind whole got stands =
      subst (λ (q : ℕ). StandAt r.body p (call (target c.results g) g d q) → Follows mach wide 0 0 m (at_place f p regs callers m.output) (w.call g place us m >>= (λ v. needed place v Done)) (Comes f (p + length (call (target c.results g) g d q)) callers (Gained vs n d s store first))) got.many by stands
    where
      by : StandAt r.body p (call (target c.results g) g d (length us)) → Follows mach wide 0 0 m (at_place f p regs callers m.output) (w.call g place us m >>= (λ v. needed place v Done)) (Comes f (p + length (call (target c.results g) g d (length us))) callers (Gained vs n d s store first))
      by stood =
          let to = p + length (call (target c.results g) g d (length us)) in
          let R = Gained vs n d s store first in
          follows_then mach wide 0 0 0 0 0 0 m (at_place f p regs callers m.output) (w.call g place us m) (λ v. needed place v Done) f to callers (Called d regs) (Comes f to callers R) (omega arith) (omega arith)
          (rests.calls f r there g place d p us regs callers m ok few got.proper got.values (got.size ∙ whole) stood)
          (λ v k last le came. follows_needed mach wide 0 0 k (at_place f to last callers k.output) place v Done (Comes f to callers R)
          (λ u is. stays_last mach f r there wide to last callers k u R (
            subst (λ (z : Option Datum). SlotProper z) is came.proper,
            record {
              value = came.value ∙ ap (λ (z : Option Datum). Some (or_null z)) is;
              live = record { holds = λ x y i h e. came.kept x (let l = below x h in omega (arith, l, behind)) ∙ got.live.holds x y i h e };
              kept = λ t a b. came.kept t b ∙ got.kept t a b;
              size = came.size ∙ got.size;
            },
          )))

  -- ---- tests of types

  -- the value in d is released, and the answer behind it comes into d
  answered : (vs : Scope) (d p : ℕ) (b : Bool) (s : Variables) (store first regs : Store) (callers : List Caller) (m : Meter) (v : Datum) → ((x : ℕ) → has s x ≡ true → x < n) → n ≤ d → length first ≡ r.registers → slot regs d ≡ Some v → slot regs (suc d) ≡ Some (Truth b) → Live vs s store regs → ((t : ℕ) → n ≤ t → t < d → slot regs t ≡ slot first t) → length regs ≡ length first
      → StandAt r.body p (dropped d (suc (suc d)) ++ Does (instr.Move d (suc d)) ∷ []) → Follows mach wide 0 3 m (at_place f p regs callers m.output) (Done (Truth b) m) (Comes f (p + 3) callers (Got vs n d s store first))
  answered vs d p b s store first regs callers m v below behind whole held said live kept size stands =
      let a = suc (suc d) in
      let regs1 = put (put regs d None) a (Some v) in
      let regs2 = put regs1 a None in
      let o = Done (Truth b) m in
      let far : (t : ℕ) → t < a → t ≢ d → slot regs2 t ≡ slot regs t = λ t l other. put_other regs1 a t None (λ e. absurd (omega (arith, l, e))) ∙ put_other (put regs d None) a t (Some v) (λ e. absurd (omega (arith, l, e))) ∙ put_other regs d t None other in
      let size2 : length regs2 ≡ length regs = put_size regs1 a None ∙ put_size (put regs d None) a (Some v) ∙ put_size regs d None in
      let answer : slot regs2 (suc d) ≡ Some (Truth b) = far (suc d) (omega arith) (λ e. absurd (omega (arith, e))) ∙ said in
      follows_at mach wide 0 3 m (at_place f p regs callers m.output) o f (p + 1 + 1 + 1) (p + 3) callers (Got vs n d s store first) (omega arith)
      (does_then mach f r there wide 0 2 p (instr.Move a d) regs regs1 callers m o (p + 1 + 1 + 1) (Got vs n d s store first) stands.0 (move_does mach.shapes regs a d v held)
      (does_then mach f r there wide 0 1 (p + 1) (instr.Clear (a ∷ [])) regs1 regs2 callers m o (p + 1 + 1 + 1) (Got vs n d s store first) stands.1.0 refl
      (fills mach f r there n d wide vs s (apart_behind n s d below behind) store (p + 1 + 1) (instr.Move d (suc d)) (suc d ∷ []) regs2 (put regs2 (suc d) None) first callers m (Truth b) stands.1.1.0 refl (move_does mach.shapes regs2 d (suc d) (Truth b) answer)
      (put_size regs2 (suc d) None ∙ size2 ∙ size ∙ whole)
      (live_put vs s store regs2 (suc d) None (λ x i h e. absurd (let l = below x h in omega (arith, l, behind, e))) (record { holds = λ x u i h e. far x (let l = below x h in omega (arith, l, behind)) (λ g. absurd (let l = below x h in omega (arith, l, behind, g))) ∙ live.holds x u i h e }))
      (λ t y z. put_other regs2 (suc d) t None (λ e. absurd (omega (arith, z, e))) ∙ far t (omega (arith, z)) (λ e. absurd (omega (arith, z, e))) ∙ kept t y z)
      (put_size regs2 (suc d) None ∙ size2 ∙ size))))

  told_follows : (vs : Scope) (d p : ℕ) (ty : Ty) (s : Variables) (store first regs : Store) (callers : List Caller) (m : Meter) (v : Datum) (types : ℕ) → BoundTy types ty → NumberedTy c.table ty → ((q : ℕ) → NamesIn true ty q → P q) → size_ty ty ≤ wide → ((x : ℕ) → has s x ≡ true → x < n) → n ≤ d → length first ≡ r.registers → IsProper v → Got vs n d s store first v regs
      → StandAt r.body p (is_test c ty d) → Follows mach wide (size_ty ty) 3 m (at_place f p regs callers m.output) (w.test true ty v m >>= (λ b. Done (Truth b))) (Comes f (p + length (is_test c ty d)) callers (Got vs n d s store first))
  told_follows vs d p ty s store first regs callers m v types bound numbered names small below behind whole proper got stands =
      let xs = test c ty d (suc d) (suc (suc d)) in
      let ys : List Step = dropped d (suc (suc d)) ++ Does (instr.Move d (suc d)) ∷ [] in
      let l1 : length (xs ++ ys) ≡ length xs + 3 = length-append xs ys in
      let R = Got vs n d s store first in
      follows_at mach wide (size_ty ty) 3 m (at_place f p regs callers m.output) (w.test true ty v m >>= (λ b. Done (Truth b))) f (p + length xs + 3) (p + length (xs ++ ys)) callers R (omega (arith, l1))
      (follows_then mach wide (size_ty ty) 0 0 3 (size_ty ty) 3 m (at_place f p regs callers m.output) (w.test true ty v m) (λ b. Done (Truth b)) f (p + length xs) callers (Told (suc d) (suc (suc d)) regs) (Comes f (p + length xs + 3) callers R) (omega arith) (omega arith)
      (rests.tests f r there ty d (suc d) (suc (suc d)) p v regs callers m types bound numbered names small proper got.value (omega arith) (omega arith) (λ e. absurd (omega (arith, e))) (got.size ∙ whole) (stand_front r.body p xs ys stands))
      (λ b k last le told. answered vs d (p + length xs) b s store first last callers k v below behind whole (told.kept d (omega arith) (λ e. absurd (omega (arith, e))) ∙ got.value) told.value
      (record { holds = λ x u i h e. told.kept x (let l = below x h in omega (arith, l, behind)) (λ g. absurd (let l = below x h in omega (arith, l, behind, g))) ∙ got.live.holds x u i h e })
      (λ t a z. told.kept t (omega (arith, z)) (λ e. absurd (omega (arith, z, e))) ∙ got.kept t a z) (told.size ∙ got.size) (stand_back r.body p xs ys stands)))

  -- a variable stays in its register, and nothing is released
  told_in_place : (vs : Scope) (d p x : ℕ) (ty : Ty) (s : Variables) (store first regs : Store) (callers : List Caller) (m : Meter) (v : Datum) (types : ℕ) → BoundTy types ty → NumberedTy c.table ty → ((q : ℕ) → NamesIn true ty q → P q) → size_ty ty ≤ wide → ((y : ℕ) → has s y ≡ true → y < n) → x < n → n ≤ d → length first ≡ r.registers → IsProper v → Stands vs n d (Some x) s store first v regs
      → StandAt r.body p (tested c ty (Some x) d) → Follows mach wide (size_ty ty) 3 m (at_place f p regs callers m.output) (w.test true ty v m >>= (λ b. Done (Truth b))) (Comes f (p + length (tested c ty (Some x) d)) callers (Got vs n d s store first))
  told_in_place vs d p x ty s store first regs callers m v types bound numbered names small below less behind whole proper one stands =
      let a = suc d in
      let xs = test c ty x a (suc a) in
      let ys : List Step = Does (instr.Move d a) ∷ [] in
      let l1 : length (xs ++ ys) ≡ length xs + 1 = length-append xs ys in
      let R = Got vs n d s store first in
      follows_at mach wide (size_ty ty) 3 m (at_place f p regs callers m.output) (w.test true ty v m >>= (λ b. Done (Truth b))) f (p + length xs + 1) (p + length (xs ++ ys)) callers R (omega (arith, l1))
      (follows_then mach wide (size_ty ty) 0 0 3 (size_ty ty) 3 m (at_place f p regs callers m.output) (w.test true ty v m) (λ b. Done (Truth b)) f (p + length xs) callers (Told a (suc a) regs) (Comes f (p + length xs + 1) callers R) (omega arith) (omega arith)
      (rests.tests f r there ty x a (suc a) p v regs callers m types bound numbered names small proper one.value (omega (arith, less, behind)) (omega arith) (λ e. absurd (omega (arith, less, behind, e))) (one.size ∙ whole) (stand_front r.body p xs ys stands))
      (λ b k last le told. follows_more mach wide 0 1 0 3 k (at_place f (p + length xs) last callers k.output) (Done (Truth b) k) (Comes f (p + length xs + 1) callers R) (omega arith) (omega arith)
      (fills mach f r there n d wide vs s (apart_behind n s d below behind) store (p + length xs) (instr.Move d a) (a ∷ []) last (put last a None) first callers k (Truth b) (stand_back r.body p xs ys stands).0 refl (move_does mach.shapes last d a (Truth b) told.value)
      (put_size last a None ∙ told.size ∙ one.size ∙ whole)
      (live_put vs s store last a None (λ y i h e. absurd (let l = below y h in omega (arith, l, behind, e))) (record { holds = λ y u i h e. told.kept y (let l = below y h in omega (arith, l, behind)) (λ g. absurd (let l = below y h in omega (arith, l, behind, g))) ∙ one.live.holds y u i h e }))
      (λ t y z. put_other last a t None (λ e. absurd (omega (arith, z, e))) ∙ told.kept t (omega (arith, z)) (λ e. absurd (omega (arith, z, e))) ∙ one.kept t y z)
      (put_size last a None ∙ told.size ∙ one.size))))

  -- a value is tested where it stands
  tested_follows : (q : Option ℕ) (vs : Scope) (d p : ℕ) (ty : Ty) (s : Variables) (store first regs : Store) (callers : List Caller) (m : Meter) (v : Datum) (types : ℕ) → BoundTy types ty → NumberedTy c.table ty → ((q : ℕ) → NamesIn true ty q → P q) → size_ty ty ≤ wide → AreKnown n vs s → n ≤ d → length first ≡ r.registers → IsProper v → Stands vs n d q s store first v regs
      → StandAt r.body p (tested c ty q d) → Follows mach wide (size_ty ty) 3 m (at_place f p regs callers m.output) (w.test true ty v m >>= (λ b. Done (Truth b))) (Comes f (p + length (tested c ty q d)) callers (Got vs n d s store first))
  tested_follows None vs d p ty s store first regs callers m v types bound numbered names small known behind whole proper one stands =
      told_follows vs d p ty s store first regs callers m v types bound numbered names small (is_below n vs s known) behind whole proper (stood_got vs n d s store first regs v one) stands
  tested_follows (Some x) vs d p ty s store first regs callers m v types bound numbered names small known behind whole proper one stands =
      told_in_place vs d p x ty s store first regs callers m v types bound numbered names small (is_below n vs s known) (known.below x one.whose.0) behind whole proper one stands

  truth_gives : (ty : Ty) (v : Datum) (m : Meter) → Gives IsProper (w.test true ty v m >>= (λ b. Done (Truth b)))
  truth_gives ty v m = by (w.test true ty v m)
    where
      by : (o : Outcome Bool) → Gives IsProper (o >>= (λ b. Done (Truth b)))
      by (Done b k) = tt
      by (Fault kind at k) = tt
      by (More k) = tt
      by Spent = tt

  -- ---- all

  module _ (top : ℕ) (small : top ≤ wide) (short : top ≤ longest) where
    below_top : (a : ℕ) → a ≤ top → a ≤ longest
    below_top a h = omega (arith, h, short)

    mutual
      expr : (e : Expr ℕ) → NumberedExpr c.table e → IntsExpr e → CallsExpr C e → ((q : ℕ) → Mentions e q → P q) → size e ≤ top → IsBrief c routines f r there w n wide most e
      expr (NullExpr i) nu iz ca me le o k vs s d at store regs callers m b low known behind stands live proper whole few = null_fills c routines f r there w n wide most i s d n d o k vs at store regs callers m b low known behind (own_target n d s (is_below n vs s known) behind) stands live proper whole few
      expr (BoolExpr i truth) nu iz ca me le o k vs s d at store regs callers m b low known behind stands live proper whole few = truth_fills c routines f r there w n wide most i truth s d n d o k vs at store regs callers m b low known behind (own_target n d s (is_below n vs s known) behind) stands live proper whole few
      expr (IntExpr i number) nu iz ca me le o k vs s d at store regs callers m b low known behind stands live proper whole few = number_fills c routines f r there w n wide most i number iz s d n d o k vs at store regs callers m b low known behind (own_target n d s (is_below n vs s known) behind) stands live proper whole few
      expr (VarExpr i x) nu iz ca me le o k vs s d at store regs callers m b low known behind stands live proper whole few = variable_fills c routines f r there w n wide most i x s d n d o k vs at store regs callers m b low known behind (own_target n d s (is_below n vs s known) behind) stands live proper whole few
      expr (CallExpr i g args) nu iz ca me le o k vs s d at store regs callers m b low known behind stands live proper whole few =
          let xs = codes c args s d in
          let ys = call (target c.results g) g d (count_of args) in
          let l1 : length (xs ++ ys) ≡ length xs + length ys = length-append xs ys in
          let R = (Gained vs n d s store regs) in
          let F = λ (us : List Datum) (t : Meter). w.call g (w.place i) us t >>= (λ v. needed (w.place i) v Done) in
          paid c routines f r there w n wide most (sizes args) 0 (sizes args + 1) at regs callers m (λ j. eval_all w true args store j >>= F) (at + length (xs ++ ys)) R (omega arith) (omega arith)
          (λ j e l. follows_at mach wide (sizes args) 0 j (at_place f at regs callers j.output) (eval_all w true args store j >>= F) f (at + length xs + length ys) (at + length (xs ++ ys)) callers R (omega (arith, l1))
          (follows_then mach wide (sizes args) 0 0 0 (sizes args) 0 j (at_place f at regs callers j.output) (eval_all w true args store j) F f (at + length xs) callers (GotAll vs n d (count_of args) s store regs) (Comes f (at + length xs + length ys) callers R) (omega arith) (omega arith)
          (all args nu iz ca.1 me (one_fits (sizes args) top le) o k vs s d at store regs callers j b.1 low known behind (stand_front r.body at xs ys stands) live proper whole (omega (arith, l, few)))
          (λ us t last le2 got. called vs d (at + length xs) g (w.place i) us s store regs last callers t (count_of args) ca.0 (omega (arith, le2, l, few)) (is_below n vs s known) behind whole got (stand_back r.body at xs ys stands))))
      expr (NegExpr i a) nu iz ca me le o k vs s d at store regs callers m b low known behind stands live proper whole few = negated_fills c routines f r there w n wide most i a (expr a nu iz ca me (one_fits (size a) top le)) s d n d o k vs at store regs callers m b low known behind (own_target n d s (is_below n vs s known) behind) stands live proper whole few
      expr (NotExpr i a) nu iz ca me le o k vs s d at store regs callers m b low known behind stands live proper whole few = denied_fills c routines f r there w n wide most i a (expr a nu iz ca me (one_fits (size a) top le)) s d n d o k vs at store regs callers m b low known behind (own_target n d s (is_below n vs s known) behind) stands live proper whole few
      expr (LenExpr i a) nu iz ca me le o k vs s d at store regs callers m b low known behind stands live proper whole few = length_fills c routines f r there w n wide most i a (expr a nu iz ca me (one_fits (size a) top le)) s d n d o k vs at store regs callers m b low known behind (own_target n d s (is_below n vs s known) behind) stands live proper whole few
      expr (BinaryExpr i op.Add a e2) nu iz ca me le o k vs s d at store regs callers m b low known behind stands live proper whole few = operator_fills c routines f r there w n wide most i a e2 (expr a nu.0 iz.0 ca.0 (λ z h. me z (inl h)) (first_fits (size a) (size e2) top le)) (expr e2 nu.1 iz.1 ca.1 (λ z h. me z (inr h)) (second_fits (size a) (size e2) top le)) s d n d op.Add tt o k vs at store regs callers m b low known behind (own_target n d s (is_below n vs s known) behind) stands live proper whole few
      expr (BinaryExpr i op.Sub a e2) nu iz ca me le o k vs s d at store regs callers m b low known behind stands live proper whole few = operator_fills c routines f r there w n wide most i a e2 (expr a nu.0 iz.0 ca.0 (λ z h. me z (inl h)) (first_fits (size a) (size e2) top le)) (expr e2 nu.1 iz.1 ca.1 (λ z h. me z (inr h)) (second_fits (size a) (size e2) top le)) s d n d op.Sub tt o k vs at store regs callers m b low known behind (own_target n d s (is_below n vs s known) behind) stands live proper whole few
      expr (BinaryExpr i op.Mul a e2) nu iz ca me le o k vs s d at store regs callers m b low known behind stands live proper whole few = operator_fills c routines f r there w n wide most i a e2 (expr a nu.0 iz.0 ca.0 (λ z h. me z (inl h)) (first_fits (size a) (size e2) top le)) (expr e2 nu.1 iz.1 ca.1 (λ z h. me z (inr h)) (second_fits (size a) (size e2) top le)) s d n d op.Mul tt o k vs at store regs callers m b low known behind (own_target n d s (is_below n vs s known) behind) stands live proper whole few
      expr (BinaryExpr i op.Div a e2) nu iz ca me le o k vs s d at store regs callers m b low known behind stands live proper whole few = operator_fills c routines f r there w n wide most i a e2 (expr a nu.0 iz.0 ca.0 (λ z h. me z (inl h)) (first_fits (size a) (size e2) top le)) (expr e2 nu.1 iz.1 ca.1 (λ z h. me z (inr h)) (second_fits (size a) (size e2) top le)) s d n d op.Div tt o k vs at store regs callers m b low known behind (own_target n d s (is_below n vs s known) behind) stands live proper whole few
      expr (BinaryExpr i op.Mod a e2) nu iz ca me le o k vs s d at store regs callers m b low known behind stands live proper whole few = operator_fills c routines f r there w n wide most i a e2 (expr a nu.0 iz.0 ca.0 (λ z h. me z (inl h)) (first_fits (size a) (size e2) top le)) (expr e2 nu.1 iz.1 ca.1 (λ z h. me z (inr h)) (second_fits (size a) (size e2) top le)) s d n d op.Mod tt o k vs at store regs callers m b low known behind (own_target n d s (is_below n vs s known) behind) stands live proper whole few
      expr (BinaryExpr i op.Equal a e2) nu iz ca me le o k vs s d at store regs callers m b low known behind stands live proper whole few = operator_fills c routines f r there w n wide most i a e2 (expr a nu.0 iz.0 ca.0 (λ z h. me z (inl h)) (first_fits (size a) (size e2) top le)) (expr e2 nu.1 iz.1 ca.1 (λ z h. me z (inr h)) (second_fits (size a) (size e2) top le)) s d n d op.Equal tt o k vs at store regs callers m b low known behind (own_target n d s (is_below n vs s known) behind) stands live proper whole few
      expr (BinaryExpr i op.Less a e2) nu iz ca me le o k vs s d at store regs callers m b low known behind stands live proper whole few = operator_fills c routines f r there w n wide most i a e2 (expr a nu.0 iz.0 ca.0 (λ z h. me z (inl h)) (first_fits (size a) (size e2) top le)) (expr e2 nu.1 iz.1 ca.1 (λ z h. me z (inr h)) (second_fits (size a) (size e2) top le)) s d n d op.Less tt o k vs at store regs callers m b low known behind (own_target n d s (is_below n vs s known) behind) stands live proper whole few
      expr (BinaryExpr i op.LessEqual a e2) nu iz ca me le o k vs s d at store regs callers m b low known behind stands live proper whole few = operator_fills c routines f r there w n wide most i a e2 (expr a nu.0 iz.0 ca.0 (λ z h. me z (inl h)) (first_fits (size a) (size e2) top le)) (expr e2 nu.1 iz.1 ca.1 (λ z h. me z (inr h)) (second_fits (size a) (size e2) top le)) s d n d op.LessEqual tt o k vs at store regs callers m b low known behind (own_target n d s (is_below n vs s known) behind) stands live proper whole few
      expr (BinaryExpr i op.Greater a e2) nu iz ca me le o k vs s d at store regs callers m b low known behind stands live proper whole few = operator_fills c routines f r there w n wide most i a e2 (expr a nu.0 iz.0 ca.0 (λ z h. me z (inl h)) (first_fits (size a) (size e2) top le)) (expr e2 nu.1 iz.1 ca.1 (λ z h. me z (inr h)) (second_fits (size a) (size e2) top le)) s d n d op.Greater tt o k vs at store regs callers m b low known behind (own_target n d s (is_below n vs s known) behind) stands live proper whole few
      expr (BinaryExpr i op.GreaterEqual a e2) nu iz ca me le o k vs s d at store regs callers m b low known behind stands live proper whole few = operator_fills c routines f r there w n wide most i a e2 (expr a nu.0 iz.0 ca.0 (λ z h. me z (inl h)) (first_fits (size a) (size e2) top le)) (expr e2 nu.1 iz.1 ca.1 (λ z h. me z (inr h)) (second_fits (size a) (size e2) top le)) s d n d op.GreaterEqual tt o k vs at store regs callers m b low known behind (own_target n d s (is_below n vs s known) behind) stands live proper whole few
      expr (BinaryExpr i op.And a e2) nu iz ca me le o k vs s d at store regs callers m b low known behind stands live proper whole few =
          early c routines f r there w n wide most op.And tt (w.place i) a e2 (expr a nu.0 iz.0 ca.0 (λ z h. me z (inl h)) (first_fits (size a) (size e2) top le)) (expr e2 nu.1 iz.1 ca.1 (λ z h. me z (inr h)) (second_fits (size a) (size e2) top le)) o k vs s d at store regs callers m b low known behind stands live proper whole few
      expr (BinaryExpr i op.Or a e2) nu iz ca me le o k vs s d at store regs callers m b low known behind stands live proper whole few =
          early c routines f r there w n wide most op.Or tt (w.place i) a e2 (expr a nu.0 iz.0 ca.0 (λ z h. me z (inl h)) (first_fits (size a) (size e2) top le)) (expr e2 nu.1 iz.1 ca.1 (λ z h. me z (inr h)) (second_fits (size a) (size e2) top le)) o k vs s d at store regs callers m b low known behind stands live proper whole few
      expr (IsExpr i a ty) nu iz ca me le o k vs s d at store regs callers m b low known behind stands live proper whole few =
          one_part c routines f r there w n wide most a (tested_read ty a s) (read_where (looks ty) a (read a s) (live_read a s)) (expr a nu.0 iz ca (λ z h. me z (inl h)) (first_fits (size a) (size_ty ty) top le)) (tested c ty (tested_read ty a s) d) (λ v j. w.test true ty v j >>= (λ t. Done (Truth t))) (size_ty ty) 3 (size a + size_ty ty + 1) (omega arith) (omega arith) (λ v j p. truth_gives ty v j) o k vs s d at store regs callers m (Got vs n d s store regs)
          (λ v j p last pv got ys. tested_follows (tested_read ty a s) vs d p ty s store regs last callers j v o.types b.1 nu.1 (λ z h. me z (inr h)) (omega (arith, le, small)) known behind whole pv got ys)
          b.0 low known behind stands live proper whole few
      expr (IndexExpr i a e2) nu iz ca me le o k vs s d at store regs callers m b low known behind stands live proper whole few = item_fills c routines f r there w n wide most i a e2 (expr a nu.0 iz.0 ca.0 (λ z h. me z (inl h)) (first_fits (size a) (size e2) top le)) (expr e2 nu.1 iz.1 ca.1 (λ z h. me z (inr h)) (second_fits (size a) (size e2) top le)) s d n d o k vs at store regs callers m b low known behind (own_target n d s (is_below n vs s known) behind) stands live proper whole few
      expr (FieldExpr i a name) nu iz ca me le o k vs s d at store regs callers m b low known behind stands live proper whole few = field_fills c routines f r there w n wide most i a (expr a nu.0 iz ca me (one_fits (size a) top le)) s d n d name nu.1 o k vs at store regs callers m b low known behind (own_target n d s (is_below n vs s known) behind) stands live proper whole few
      expr (ListExpr i items) nu iz ca me le o k vs s d at store regs callers m b low known behind stands live proper whole few =
          let xs = codes c items s d in
          let ys : List Step = Does (instr.Array d (registers_from d (count_of items))) ∷ [] in
          let l1 : length (xs ++ ys) ≡ length xs + 1 = length-append xs ys in
          let R = (Gained vs n d s store regs) in
          let F = λ (us : List Datum). Done (Array (data_of us)) in
          paid c routines f r there w n wide most (sizes items) 1 (sizes items + 1) at regs callers m (λ j. eval_all w true items store j >>= F) (at + length (xs ++ ys)) R (omega arith) (omega arith)
          (λ j e l. follows_at mach wide (sizes items) 1 j (at_place f at regs callers j.output) (eval_all w true items store j >>= F) f (at + length xs + 1) (at + length (xs ++ ys)) callers R (omega (arith, l1))
          (follows_then mach wide (sizes items) 0 0 1 (sizes items) 1 j (at_place f at regs callers j.output) (eval_all w true items store j) F f (at + length xs) callers (GotAll vs n d (count_of items) s store regs) (Comes f (at + length xs + 1) callers R) (omega arith) (omega arith)
          (all items nu iz ca me (one_fits (sizes items) top le) o k vs s d at store regs callers j b low known behind (stand_front r.body at xs ys stands) live proper whole (omega (arith, l, few)))
          (λ us t last le2 got. array vs d (at + length xs) (count_of items) s store regs last us callers t (below_top (count_of items) (let z = few_items items in omega (arith, z, le))) (is_below n vs s known) behind whole got (stand_back r.body at xs ys stands).0)))
      expr (RepeatExpr i a e2) nu iz ca me le o k vs s d at store regs callers m b low known behind stands live proper whole few =
          let ys : List Step = Does (instr.Fill d d (suc d)) ∷ [] in
          paid c routines f r there w n wide most (size a + size e2 + 0) 1 (size a + size e2 + 1) at regs callers m (λ j. eval w true a store j >>= (λ v t. eval w true e2 store t >>= repeated (w.place i) v)) (at + length (code c a (before e2 s) d ++ (code c e2 s (suc d) ++ ys))) (Gained vs n d s store regs) (omega arith) (omega arith)
          (λ j e l. two_parts c routines f r there w n wide most a e2 None None tt tt (expr a nu.0 iz.0 ca.0 (λ z h. me z (inl h)) (first_fits (size a) (size e2) top le)) (expr e2 nu.1 iz.1 ca.1 (λ z h. me z (inr h)) (second_fits (size a) (size e2) top le)) ys (repeated (w.place i)) 0 1 (λ v u j p q. repeated_proper (w.place i) j v u p q) o k vs s d at store regs callers j (Got vs n d s store regs) tt
          (λ v u t p last le2 pv pu both ys. repeated_follows mach f r there n d wide vs s (apart_behind n s d (is_below n vs s known) behind) store p regs last whole callers (w.place i) t v u both ys.0)
          b.0 b.1 low known behind stands live proper whole (omega (arith, l, few)))
      expr (RecordExpr i fs) nu iz ca me le o k vs s d at store regs callers m b low known behind stands live proper whole few =
          let xs = field_codes c fs s d in
          let shape = shape_number c.table (names_in fs) in
          let ys : List Step = Does (instr.Record d shape (registers_from d (field_count fs))) ∷ [] in
          let l1 : length (xs ++ ys) ≡ length xs + 1 = length-append xs ys in
          let R = (Gained vs n d s store regs) in
          let F = λ (ds : Fields). Done (Record ds) in
          paid c routines f r there w n wide most (field_sizes fs) 1 (field_sizes fs + 1) at regs callers m (λ j. eval_fields w true fs store j >>= F) (at + length (xs ++ ys)) R (omega arith) (omega arith)
          (λ j e l. follows_at mach wide (field_sizes fs) 1 j (at_place f at regs callers j.output) (eval_fields w true fs store j >>= F) f (at + length xs + 1) (at + length (xs ++ ys)) callers R (omega (arith, l1))
          (follows_then mach wide (field_sizes fs) 0 0 1 (field_sizes fs) 1 j (at_place f at regs callers j.output) (eval_fields w true fs store j) F f (at + length xs) callers (GotFields vs n d (field_count fs) (names_in fs) s store regs) (Comes f (at + length xs + 1) callers R) (omega arith) (omega arith)
          (fields fs nu.1 iz ca me (one_fits (field_sizes fs) top le) o k vs s d at store regs callers j b.1 low known behind (stand_front r.body at xs ys stands) live proper whole (omega (arith, l, few)))
          (λ ds t last le2 made. record_made vs d (at + length xs) (field_count fs) (names_in fs) s store regs last ds shape callers t (is_below n vs s known) behind whole made nu.0.1 (stand_back r.body at xs ys stands).0)))
      expr (QuantExpr i q x a e2 body) nu iz ca me le o k vs s d at store regs callers m b low known behind stands live proper whole few =
          let T = turned x body s in
          let x_below : x < n = let z = b.0.0 in omega (arith, z, low) in
          let known_T = known_turned o k n low vs x body s x_below b.3 known in
          let one = expr a nu.0 iz.0 ca.0 (λ z h. me z (inl h)) (omega (arith, le)) in
          let two = expr e2 nu.1.0 iz.1 ca.1 (λ z h. me z (inr (inl h))) (omega (arith, le)) in
          let three = expr body nu.1.1 iz.2 ca.2 (λ z h. me z (inr (inr h))) (omega (arith, le)) in
          let ys = quantify q x d (code c body T (suc (suc d))) (released T s) in
          let F = λ (z : ℤ). turn w.limit true (eval w true body (put store x (Some (Whole z)))) in
          paid c routines f r there w n wide most (size a + size e2 + 0) 5 (size a + size e2 + size body + 1) at regs callers m (λ j. eval w true a store j >>= (λ v t. eval w true e2 store t >>= quantified q (w.place i) F v)) (at + length (code c a (before e2 T) d ++ (code c e2 T (suc d) ++ ys))) (Gained vs n d s store regs) (omega arith) (omega arith)
          (λ j e l. two_parts c routines f r there w n wide most a e2 None None tt tt one two ys (λ v u. quantified q (w.place i) F v u) 0 5 (λ v u t p g. quantified_gives q (w.place i) F v u t) o k vs T d at store regs callers j (Got vs n d s store regs) tt
          (λ v u t p last le2 pv pu both stood.
          let Q = Comes f (p + length ys) callers (Got vs n d s store regs) in
          let st = at_place f p last callers t.output in
          follows_number mach wide 0 5 t st (w.place i) v (λ from. as_number (w.place i) u (λ to. each q (w.place i) F from (span from to))) Q
          (λ from is_from. follows_number mach wide 0 5 t st (w.place i) u (λ to. each q (w.place i) F from (span from to)) Q
          (λ to is_to. turns_follow c routines f r there w n wide most q x body three (omega (arith, le, small)) o k low vs b.0 b.3 s known d behind store regs proper whole callers (w.place i) p to (number_int u to is_to pu) stood (span from to) from refl (number_int v from is_from pv) last t (omega (arith, le2, l, few)) (record {
            count = both.left ∙ ap (λ (z : Datum). Some z) is_from;
            last = both.right ∙ ap (λ (z : Datum). Some z) is_to;
            live = both.live;
            kept = both.kept;
            size = both.size;
          }))))
          b.1 b.2 low known_T behind stands live proper whole (omega (arith, l, few)))

      all : (es : Exprs ℕ) → NumberedExprs c.table es → IntsExprs es → CallsExprs C es → ((q : ℕ) → MentionsIn es q → P q) → sizes es ≤ top → AreEvaluated c routines f r w n wide most es
      all NoExprs nu iz ca me le o k vs s d at store regs callers m b low known behind stands live proper whole few =
          follows_at mach wide 0 0 m (at_place f at regs callers m.output) (Done [] m) f at (at + 0) callers (GotAll vs n d 0 s store regs) (omega arith)
          (stays_last mach f r there wide at regs callers m [] (GotAll vs n d 0 s store regs) (record { values = tt; many = refl; proper = tt; live = live; kept = λ t x y. refl; size = refl }))
      all (MoreExprs e es) nu iz ca me le o k vs s d at store regs callers m b low known behind stands live proper whole few =
          let xs = code c e (before_all es s) d in
          let ys = codes c es s (suc d) in
          let l1 : length (xs ++ ys) ≡ length xs + length ys = length-append xs ys in
          let R = GotAll vs n d (suc (count_of es)) s store regs in
          let to = at + length xs + length ys in
          follows_at mach wide (size e + sizes es) 0 m (at_place f at regs callers m.output) (eval_all w true (MoreExprs e es) store m) f to (at + length (xs ++ ys)) callers R (omega (arith, l1))
          (first_part c routines f r there w n wide most e (expr e nu.0 iz.0 ca.0 (λ z h. me z (inl h)) (head_fits (size e) (sizes es) top le)) (sizes es) 0 (size e + sizes es) (omega arith) o k vs (before_all es s) d at store regs callers m b.0 low (known_all o k n low vs es s b.1 known) behind (stand_front r.body at xs ys stands) live proper whole few (λ v j. eval_all w true es store j >>= (λ us. Done (v ∷ us))) to R
          (λ v j middle le2 p one. follows_then mach wide (sizes es) 0 0 0 (sizes es) 0 j (at_place f (at + length xs) middle callers j.output) (eval_all w true es store j) (λ us. Done (v ∷ us)) f to callers (GotAll vs n (suc d) (count_of es) s store middle) (Comes f to callers R) (omega arith) (omega arith)
          (all es nu.1 iz.1 ca.1 (λ z h. me z (inr h)) (tail_fits (size e) (sizes es) top le) o k vs s (suc d) (at + length xs) store middle callers j b.1 low known (omega (arith, behind)) (stand_back r.body at xs ys stands) one.live proper (one.size ∙ whole) (omega (arith, le2, few)))
          (λ us i last le3 more. stays_last mach f r there wide to last callers i (v ∷ us) R (one_more vs d (count_of es) (before_all es s) s store regs middle last v us behind p one more))))

      fields : (fs : tree.Fields ℕ) → NumberedFields c.table fs → IntsFields fs → CallsFields C fs → ((q : ℕ) → MentionsInFields fs q → P q) → field_sizes fs ≤ top → (o : Offers) (k : ℕ) (vs : Scope) (s : Variables) (d at : ℕ) (store regs : Store) (callers : List Caller) (m : Meter)
          → BoundFields o k vs fs → k ≤ n → AreKnown n vs s → n ≤ d → StandAt r.body at (field_codes c fs s d) → Live vs (before_fields fs s) store regs → StoreProper store → length regs ≡ r.registers → m.ticks ≤ most
          → Follows (with_table c routines) wide (field_sizes fs) 0 m (at_place f at regs callers m.output) (eval_fields w true fs store m) (Comes f (at + length (field_codes c fs s d)) callers (GotFields vs n d (field_count fs) (names_in fs) s store regs))
      fields NoFields nu iz ca me le o k vs s d at store regs callers m b low known behind stands live proper whole few =
          follows_at mach wide 0 0 m (at_place f at regs callers m.output) (Done no_fields m) f at (at + 0) callers (GotFields vs n d 0 [] s store regs) (omega arith)
          (stays_last mach f r there wide at regs callers m no_fields (GotFields vs n d 0 [] s store regs) (record { listed = []; got = record { values = tt; many = refl; proper = tt; live = live; kept = λ t x y. refl; size = refl }; fields = refl; proper = tt }))
      fields (MoreFields name e fs) nu iz ca me le o k vs s d at store regs callers m b low known behind stands live proper whole few =
          let xs = code c e (before_fields fs s) d in
          let ys = field_codes c fs s (suc d) in
          let l1 : length (xs ++ ys) ≡ length xs + length ys = length-append xs ys in
          let R = GotFields vs n d (suc (field_count fs)) (name ∷ names_in fs) s store regs in
          let to = at + length xs + length ys in
          follows_at mach wide (size e + field_sizes fs) 0 m (at_place f at regs callers m.output) (eval_fields w true (MoreFields name e fs) store m) f to (at + length (xs ++ ys)) callers R (omega (arith, l1))
          (first_part c routines f r there w n wide most e (expr e nu.0 iz.0 ca.0 (λ z h. me z (inl h)) (head_fits (size e) (field_sizes fs) top le)) (field_sizes fs) 0 (size e + field_sizes fs) (omega arith) o k vs (before_fields fs s) d at store regs callers m b.0 low (known_fields o k n low vs fs s b.1 known) behind (stand_front r.body at xs ys stands) live proper whole few (λ v j. eval_fields w true fs store j >>= (λ ds. Done (field name v ds))) to R
          (λ v j middle le2 p one. follows_then mach wide (field_sizes fs) 0 0 0 (field_sizes fs) 0 j (at_place f (at + length xs) middle callers j.output) (eval_fields w true fs store j) (λ ds. Done (field name v ds)) f to callers (GotFields vs n (suc d) (field_count fs) (names_in fs) s store middle) (Comes f to callers R) (omega arith) (omega arith)
          (fields fs nu.1 iz.1 ca.1 (λ z h. me z (inr h)) (tail_fits (size e) (field_sizes fs) top le) o k vs s (suc d) (at + length xs) store middle callers j b.1 low known (omega (arith, behind)) (stand_back r.body at xs ys stands) one.live proper (one.size ∙ whole) (omega (arith, le2, few)))
          (λ ds i last le3 more. stays_last mach f r there wide to last callers i (field name v ds) R
          (record { listed = v ∷ more.listed; got = one_more vs d (field_count fs) (before_fields fs s) s store regs middle last v more.listed behind p one more.got; fields = ap (λ (x : Option Fields). behind_field name v x) more.fields; proper = (p, more.proper) }))))

    -- where its value comes straight into the register of a variable
    straight : (e : Expr ℕ) → NumberedExpr c.table e → IntsExpr e → CallsExpr C e → ((q : ℕ) → Mentions e q → P q) → size e ≤ top → (s : Variables) → is_straight e s ≡ true → (d from z : ℕ) → IsFilled c routines f r there w n wide most e s d from z (into c e s d z)
    straight (NullExpr i) nu iz ca me le s is d from z = null_fills c routines f r there w n wide most i s d from z
    straight (BoolExpr i truth) nu iz ca me le s is d from z = truth_fills c routines f r there w n wide most i truth s d from z
    straight (IntExpr i number) nu iz ca me le s is d from z = number_fills c routines f r there w n wide most i number iz s d from z
    straight (VarExpr i x) nu iz ca me le s is d from z = variable_fills c routines f r there w n wide most i x s d from z
    straight (NegExpr i a) nu iz ca me le s is d from z = negated_fills c routines f r there w n wide most i a (expr a nu iz ca me (one_fits (size a) top le)) s d from z
    straight (NotExpr i a) nu iz ca me le s is d from z = denied_fills c routines f r there w n wide most i a (expr a nu iz ca me (one_fits (size a) top le)) s d from z
    straight (LenExpr i a) nu iz ca me le s is d from z = length_fills c routines f r there w n wide most i a (expr a nu iz ca me (one_fits (size a) top le)) s d from z
    straight (BinaryExpr i o a e2) nu iz ca me le s is d from z = operator_fills c routines f r there w n wide most i a e2 (expr a nu.0 iz.0 ca.0 (λ z h. me z (inl h)) (first_fits (size a) (size e2) top le)) (expr e2 nu.1 iz.1 ca.1 (λ z h. me z (inr h)) (second_fits (size a) (size e2) top le)) s d from z o (on_numbers_strict o is)
    straight (IndexExpr i a e2) nu iz ca me le s is d from z = item_fills c routines f r there w n wide most i a e2 (expr a nu.0 iz.0 ca.0 (λ z h. me z (inl h)) (first_fits (size a) (size e2) top le)) (expr e2 nu.1 iz.1 ca.1 (λ z h. me z (inr h)) (second_fits (size a) (size e2) top le)) s d from z
    straight (FieldExpr i a name) nu iz ca me le s is d from z = field_fills c routines f r there w n wide most i a (expr a nu.0 iz ca me (one_fits (size a) top le)) s d from z name nu.1
    straight (CallExpr i g args) nu iz ca me le s is d from z = never is
    straight (IsExpr i a ty) nu iz ca me le s is d from z = never is
    straight (ListExpr i items) nu iz ca me le s is d from z = never is
    straight (RepeatExpr i a e2) nu iz ca me le s is d from z = never is
    straight (RecordExpr i fs) nu iz ca me le s is d from z = never is
    straight (QuantExpr i q x a e2 body) nu iz ca me le s is d from z = never is

-- ---- the law

pub brief_one : (c : Context) (routines : List Routine) (f : ℕ) (r : Routine) (there : IsRoutine (with_table c routines) f r) (w : Setting ℕ) (n wide most : ℕ) (C P : ℕ → Type 0) → Rests c routines w wide most C P
    → (e : Expr ℕ) → Fits c wide C P e → IsBrief c routines f r there w n wide most e
brief_one c routines f r there w n wide most C P rests e h = expr c routines f r there w n wide most C P rests (size e) h.nodes h.few e h.numbered h.ints h.calls h.names (omega arith)

pub evaluated_one : (c : Context) (routines : List Routine) (f : ℕ) (r : Routine) (there : IsRoutine (with_table c routines) f r) (w : Setting ℕ) (n wide most : ℕ) (C P : ℕ → Type 0) → Rests c routines w wide most C P
    → (e : Expr ℕ) → Fits c wide C P e → IsEvaluated c routines f r w n wide most e
evaluated_one c routines f r there w n wide most C P rests e h o k vs s d at store regs callers m b low known behind stands live proper whole few =
    leaves_follows (with_table c routines) wide (size e) 2 m (at_place f at regs callers m.output) (eval w true e store m) (Comes f (at + length (code c e s d)) callers (Gained vs n d s store regs))
    (brief_one c routines f r there w n wide most C P rests e h o k vs s d at store regs callers m b low known behind stands live proper whole few)

pub evaluated_into : (c : Context) (routines : List Routine) (f : ℕ) (r : Routine) (there : IsRoutine (with_table c routines) f r) (w : Setting ℕ) (n wide most : ℕ) (C P : ℕ → Type 0) → Rests c routines w wide most C P
    → (e : Expr ℕ) → Fits c wide C P e → IsEvaluatedInto c routines f r w n wide most e
evaluated_into c routines f r there w n wide most C P rests e h o k vs s d x at store regs callers m is b low known behind less apart stands live proper whole few =
    leaves_follows (with_table c routines) wide (size e) 2 m (at_place f at regs callers m.output) (eval w true e store m) (Comes f (at + length (into c e s d x)) callers (Gained vs x x s store regs))
    (straight c routines f r there w n wide most C P rests (size e) h.nodes h.few e h.numbered h.ints h.calls h.names (omega arith) s is d x x o k vs at store regs callers m b low known behind (variable_target n d x s apart less behind) stands live proper whole few)

pub evaluated_all : (c : Context) (routines : List Routine) (f : ℕ) (r : Routine) (there : IsRoutine (with_table c routines) f r) (w : Setting ℕ) (n wide most : ℕ) (C P : ℕ → Type 0) → Rests c routines w wide most C P
    → (es : Exprs ℕ) → FitAll c wide C P es → AreEvaluated c routines f r w n wide most es
evaluated_all c routines f r there w n wide most C P rests es h = all c routines f r there w n wide most C P rests (sizes es) h.nodes h.few es h.numbered h.ints h.calls h.names (omega arith)

pub expressions_evaluated : ExpressionsAreEvaluated
expressions_evaluated = record {
  one = λ c routines f r there w n wide most types rests e h. evaluated_one c routines f r there w n wide most Anything (IsDeclared types) rests e h;
  straight = λ c routines f r there w n wide most types rests e h. evaluated_into c routines f r there w n wide most Anything (IsDeclared types) rests e h;
  all = λ c routines f r there w n wide most types rests es h. evaluated_all c routines f r there w n wide most Anything (IsDeclared types) rests es h;
}
