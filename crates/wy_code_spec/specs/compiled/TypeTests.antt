-- The code of a test of a type: its visits in the order of the semantics.
use Rattle.std.specs.Prelude.{ℕ, suc, ◌+◌, List, [], ◌∷◌, ◌++◌, length, Bool, true, false, pos}
use Rattle.wy_core.specs.Types.{Ty, NullTy, BoolTy, IntTy, AnyTy, VoidTy, RecordTy, ArrayTy, UnionTy, InterTy, NotTy, NamedTy, NormalTy, FieldTys, NoFieldTys, MoreFieldTys}
use Rattle.wy_code.specs.declared.instructions.Scalar.TheVariants as scalar
use Rattle.wy_code.specs.declared.instructions.Arithmetic.TheVariants.{Add}
use Rattle.wy_code.specs.declared.instructions.Comparison.TheVariants.{Less}
use Rattle.wy_code.specs.declared.instructions.Kind.TheVariants as kind
use Rattle.wy_code.specs.declared.instructions.Instr.TheVariants.{Const, Share, Arith, Compare, Not, Len, Get, Field, Kind, Call}
use Rattle.wy_code_spec.specs.declared.tables.context.Context.{Context}
use Rattle.wy_code.specs.declared.pieces.steps.Step.{Step}
use Rattle.wy_code.specs.declared.pieces.steps.Step.TheVariants.{Does, GoesOnUnless}
use Rattle.wy_code.specs.pieces.Steps.{dropped, fork, turns}
use Rattle.wy_code_spec.specs.tables.Tables.{number_of, shape_number, ty_names_in}

-- ---- arrays: r tells whether all items so far are in, f holds the length, suc f the index, and suc (suc f) an item

-- behind the test of an item: where it isn't in, the code behind the test of the array is next; else the next item
abbrev pub item_end : ℕ → ℕ → List Step
item_end r f =
    dropped (suc (suc f)) (suc (suc (suc f)))
    ++ GoesOnUnless r 4 ∷ Does (Const (suc (suc f)) (scalar.Int (pos 1))) ∷ Does (Arith (suc f) Add (suc f) (suc (suc f))) ∷ []

-- the turns over the items, with what stands behind reading an item
abbrev pub item_turns : ℕ → ℕ → ℕ → List Step → List Step
item_turns v r f rest = turns (Does (Compare r Less (suc f) f) ∷ []) r (Does (Get (suc (suc f)) v (suc f)) ∷ rest)

-- the answer is yes
abbrev pub yes : ℕ → List Step
yes r = Does (Const r (scalar.Bool true)) ∷ []

-- the items, of which the test of one is given
abbrev pub items_test : ℕ → ℕ → ℕ → List Step → List Step
items_test v r f one = item_turns v r f (one ++ item_end r f) ++ yes r

-- the routine of a declared type is called on the value
abbrev pub named_test : Context → ℕ → ℕ → ℕ → ℕ → List Step
named_test c n v r f = Does (Share f v) ∷ Does (Call r (length c.results + n) (f ∷ [])) ∷ []

-- an array is one, and then its items are tested
abbrev pub array_test : ℕ → ℕ → ℕ → List Step → List Step
array_test v r f items = Does (Kind r v kind.Array) ∷ fork r (Does (Len f v) ∷ Does (Const (suc f) (scalar.Int (pos 0))) ∷ items) []

-- ---- records

-- a record has this shape, and then its fields are tested
abbrev pub record_test : ℕ → ℕ → ℕ → List Step → List Step
record_test shape v r parts = Does (Kind r v (kind.Shape shape)) ∷ fork r parts []

-- behind the test of the field in f it is released, and where it is in its type the next ones are tested
abbrev pub field_end : ℕ → ℕ → List Step → List Step
field_end r f rest = dropped f (suc f) ++ fork r rest []

-- whether a test of the type begins with an instruction that reads the value: the answer for `any` and `void` is a constant
abbrev pub looks : Ty → Bool
looks NullTy = true
looks BoolTy = true
looks IntTy = true
looks AnyTy = false
looks VoidTy = false
looks (RecordTy fs) = true
looks (ArrayTy t) = true
looks (UnionTy s t) = looks s
looks (InterTy s t) = looks s
looks (NotTy t) = looks t
looks (NamedTy n) = true
looks (NormalTy union) = false

abbrev mutual
  -- whether the value in v, which stays there, is in the type comes into r; the registers from f on are free
  pub test : Context → Ty → ℕ → ℕ → ℕ → List Step
  test c NullTy v r f = Does (Kind r v kind.Null) ∷ []
  test c BoolTy v r f = Does (Kind r v kind.Bool) ∷ []
  test c IntTy v r f = Does (Kind r v kind.Int) ∷ []
  test c AnyTy v r f = Does (Const r (scalar.Bool true)) ∷ []
  test c VoidTy v r f = Does (Const r (scalar.Bool false)) ∷ []
  test c (RecordTy fs) v r f = record_test (shape_number c.table (ty_names_in fs)) v r (fields_test c fs v r f)
  test c (ArrayTy t) v r f = array_test v r f (items_test v r f (test c t (suc (suc f)) r (suc (suc (suc f)))))
  test c (UnionTy s t) v r f = test c s v r f ++ fork r [] (test c t v r f)
  test c (InterTy s t) v r f = test c s v r f ++ fork r (test c t v r f) []
  test c (NotTy t) v r f = test c t v r f ++ Does (Not r r) ∷ []
  test c (NamedTy n) v r f = named_test c n v r f
  test c (NormalTy union) v r f = Does (Const r (scalar.Bool false)) ∷ []

  -- of a record with these fields, from left to right up to the first whose value isn't in its type
  pub fields_test : Context → FieldTys → ℕ → ℕ → ℕ → List Step
  fields_test c NoFieldTys v r f = []
  fields_test c (MoreFieldTys name t fs) v r f =
      Does (Field f v (number_of name c.table.names)) ∷ (test c t f r (suc f) ++ field_end r f (fields_test c fs v r f))
