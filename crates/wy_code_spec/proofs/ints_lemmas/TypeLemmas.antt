-- A test of a type has few steps for each of its visits.
use Rattle.std.proofs.Common.{◌≤◌, ◌+◌, ◌*◌, ℕ, suc, pos, List, [], ◌∷◌, ◌++◌, length, arith, length-append}
use Rattle.wy_core.specs.Types.{Ty, NullTy, BoolTy, IntTy, AnyTy, VoidTy, RecordTy, ArrayTy, UnionTy, InterTy, NotTy, NamedTy, NormalTy, FieldTys, NoFieldTys, MoreFieldTys}
use Rattle.wy_code.specs.declared.instructions.Comparison.TheVariants.{Less}
use Rattle.wy_code.specs.declared.instructions.Instr.TheVariants.{Compare, Get, Len, Const, Not}
use Rattle.wy_code.specs.declared.instructions.Scalar.TheVariants as scalar
use Rattle.wy_code_spec.specs.declared.tables.context.Context.{Context}
use Rattle.wy_code_spec.specs.tables.Tables.{shape_number, ty_names_in}
use Rattle.wy_code.specs.declared.pieces.steps.Step.{Step}
use Rattle.wy_code.specs.declared.pieces.steps.Step.TheVariants.{Does}
use Rattle.wy_code.specs.pieces.Steps.{dropped, where_true, fork, turns}
use Rattle.wy_code_spec.specs.compiled.TypeTests.{item_end, yes, items_test, array_test, record_test, field_end, test, fields_test}
use Rattle.wy_code_spec.specs.ints.Ticks.{visits, field_visits}
use Rattle.wy_code_spec.proofs.ints_lemmas.PieceLemmas.{where_true_small, fork_small, turns_small}

items_small : (v r f : ℕ) (one : List Step) → length (items_test v r f one) ≤ length one + 10
items_small v r f one =
    let body = Does (Get (suc (suc f)) v (suc f)) ∷ (one ++ item_end r f) in
    let t : length (turns (Does (Compare r Less (suc f) f) ∷ []) r body) ≤ 1 + length body + 2 = turns_small (Does (Compare r Less (suc f) f) ∷ []) body r in
    let e : length (item_end r f) ≤ 5 = omega arith in
    omega (arith, length-append (turns (Does (Compare r Less (suc f) f) ∷ []) r body) (yes r), length-append one (item_end r f))

array_small : (v r f : ℕ) (items : List Step) → length (array_test v r f items) ≤ length items + 4
array_small v r f items = let h : length (where_true r (Does (Len f v) ∷ Does (Const (suc f) (scalar.Int (pos 0))) ∷ items)) ≤ suc (suc (length items)) + 1 = where_true_small r (Does (Len f v) ∷ Does (Const (suc f) (scalar.Int (pos 0))) ∷ items) in omega arith

record_small : (shape v r : ℕ) (parts : List Step) → length (record_test shape v r parts) ≤ length parts + 2
record_small shape v r parts = let h : length (where_true r parts) ≤ length parts + 1 = where_true_small r parts in omega arith

field_small : (r f : ℕ) (rest : List Step) → length (field_end r f rest) ≤ length rest + 3
field_small r f rest = let h : length (where_true r rest) ≤ length rest + 1 = where_true_small r rest in omega (arith, length-append (dropped f (suc f)) (fork r rest []))

-- ---- over plain numbers

array_sum : (n m v : ℕ) → n ≤ m + 14 → m + 4 ≤ 16 * v → n + 4 ≤ 16 * suc v
array_sum n m v h k = omega arith

both_sum : (n a b v w : ℕ) → n ≤ a + b + 2 → a + 4 ≤ 16 * v → b + 4 ≤ 16 * w → n + 4 ≤ 16 * suc (v + w)
both_sum n a b v w h k l = omega arith

not_sum : (n m v : ℕ) → n ≤ m + 1 → m + 4 ≤ 16 * v → n + 4 ≤ 16 * suc v
not_sum n m v h k = omega arith

record_sum : (n m v : ℕ) → n ≤ m + 2 → m ≤ 16 * v → n + 4 ≤ 16 * suc v
record_sum n m v h k = omega arith

field_sum : (n t rest v w : ℕ) → n ≤ suc (t + (rest + 3)) → t + 4 ≤ 16 * v → rest ≤ 16 * w → n ≤ 16 * (v + w)
field_sum n t rest v w h k l = omega arith

mutual
  pub test_small : (c : Context) (t : Ty) (v r f : ℕ) → length (test c t v r f) + 4 ≤ 16 * visits t
  test_small c NullTy v r f = omega arith
  test_small c BoolTy v r f = omega arith
  test_small c IntTy v r f = omega arith
  test_small c AnyTy v r f = omega arith
  test_small c VoidTy v r f = omega arith
  test_small c (RecordTy fs) v r f =
      record_sum (length (test c (RecordTy fs) v r f)) (length (fields_test c fs v r f)) (field_visits fs) (record_small (shape_number c.table (ty_names_in fs)) v r (fields_test c fs v r f)) (fields_small c fs v r f)
  test_small c (ArrayTy t) v r f =
      let one = test c t (suc (suc f)) r (suc (suc (suc f))) in
      let h : length (array_test v r f (items_test v r f one)) ≤ length (items_test v r f one) + 4 = array_small v r f (items_test v r f one) in
      let k : length (items_test v r f one) ≤ length one + 10 = items_small v r f one in
      array_sum (length (test c (ArrayTy t) v r f)) (length one) (visits t) (omega (arith, h, k)) (test_small c t (suc (suc f)) r (suc (suc (suc f))))
  test_small c (UnionTy s t) v r f =
      let one = test c s v r f in let two = test c t v r f in let h : length (fork r [] two) ≤ 0 + length two + 2 = fork_small r [] two in
      both_sum (length (test c (UnionTy s t) v r f)) (length one) (length two) (visits s) (visits t) (omega (arith, h, length-append one (fork r [] two))) (test_small c s v r f) (test_small c t v r f)
  test_small c (InterTy s t) v r f =
      let one = test c s v r f in let two = test c t v r f in let h : length (where_true r two) ≤ length two + 1 = where_true_small r two in
      both_sum (length (test c (InterTy s t) v r f)) (length one) (length two) (visits s) (visits t) (omega (arith, h, length-append one (fork r two []))) (test_small c s v r f) (test_small c t v r f)
  test_small c (NotTy t) v r f =
      let one = test c t v r f in
      not_sum (length (test c (NotTy t) v r f)) (length one) (visits t) (omega (arith, length-append one (Does (Not r r) ∷ []))) (test_small c t v r f)
  test_small c (NamedTy n) v r f = omega arith
  test_small c (NormalTy union) v r f = omega arith

  pub fields_small : (c : Context) (fs : FieldTys) (v r f : ℕ) → length (fields_test c fs v r f) ≤ 16 * field_visits fs
  fields_small c NoFieldTys v r f = omega arith
  fields_small c (MoreFieldTys name t fs) v r f =
      let one = test c t f r (suc f) in let rest = fields_test c fs v r f in
      let h : length (field_end r f rest) ≤ length rest + 3 = field_small r f rest in
      field_sum (length (fields_test c (MoreFieldTys name t fs) v r f)) (length one) (length rest) (visits t) (field_visits fs) (omega (arith, h, length-append one (field_end r f rest))) (test_small c t f r (suc f)) (fields_small c fs v r f)
