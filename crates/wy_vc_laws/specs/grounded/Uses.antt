-- Which named types a type names, and which the tests of an expression ask about.
use Rattle.std.specs.Prelude.{ℕ, List, [], ◌∷◌}
use Rattle.wy_sound_terms.specs.wy_core.Types.{Ty, NullTy, BoolTy, IntTy, AnyTy, VoidTy, RecordTy, ArrayTy, UnionTy, InterTy, NotTy, NamedTy, NormalTy, FieldTys, NoFieldTys, MoreFieldTys}
use Rattle.wy_sound_terms.specs.wy_core.CoreTree.{Expr, NullExpr, BoolExpr, IntExpr, VarExpr, CallExpr, NegExpr, NotExpr, LenExpr, BinaryExpr, IsExpr, IndexExpr, FieldExpr, ListExpr, RepeatExpr, RecordExpr, QuantExpr, Exprs, NoExprs, MoreExprs, Fields, NoFields, MoreFields}

abbrev mutual
  -- each name in the type has this property
  pub NamesAll : (ℕ → Type 0) → Ty → Type 0
  NamesAll P NullTy = Unit {0}
  NamesAll P BoolTy = Unit {0}
  NamesAll P IntTy = Unit {0}
  NamesAll P AnyTy = Unit {0}
  NamesAll P VoidTy = Unit {0}
  NamesAll P (RecordTy fields) = AllNamesAll P fields
  NamesAll P (ArrayTy item) = NamesAll P item
  NamesAll P (UnionTy s t) = NamesAll P s × NamesAll P t
  NamesAll P (InterTy s t) = NamesAll P s × NamesAll P t
  NamesAll P (NotTy t) = NamesAll P t
  NamesAll P (NamedTy n) = P n
  NamesAll P (NormalTy union) = Unit {0}

  pub AllNamesAll : (ℕ → Type 0) → FieldTys → Type 0
  AllNamesAll P NoFieldTys = Unit {0}
  AllNamesAll P (MoreFieldTys name t fields) = NamesAll P t × AllNamesAll P fields

-- each name outside of records and arrays has the first property, each inside of one the second
abbrev pub NamesBare : (ℕ → Type 0) → (ℕ → Type 0) → Ty → Type 0
NamesBare P Q NullTy = Unit {0}
NamesBare P Q BoolTy = Unit {0}
NamesBare P Q IntTy = Unit {0}
NamesBare P Q AnyTy = Unit {0}
NamesBare P Q VoidTy = Unit {0}
NamesBare P Q (RecordTy fields) = AllNamesAll Q fields
NamesBare P Q (ArrayTy item) = NamesAll Q item
NamesBare P Q (UnionTy s t) = NamesBare P Q s × NamesBare P Q t
NamesBare P Q (InterTy s t) = NamesBare P Q s × NamesBare P Q t
NamesBare P Q (NotTy t) = NamesBare P Q t
NamesBare P Q (NamedTy n) = P n
NamesBare P Q (NormalTy union) = Unit {0}

abbrev mutual
  -- each name in the types that an expression tests has this property
  pub TestsAll : {N : Type 0} → (ℕ → Type 0) → Expr N → Type 0
  TestsAll P (NullExpr k) = Unit {0}
  TestsAll P (BoolExpr k b) = Unit {0}
  TestsAll P (IntExpr k z) = Unit {0}
  TestsAll P (VarExpr k x) = Unit {0}
  TestsAll P (CallExpr k routine args) = AllTestAll P args
  TestsAll P (NegExpr k a) = TestsAll P a
  TestsAll P (NotExpr k a) = TestsAll P a
  TestsAll P (LenExpr k a) = TestsAll P a
  TestsAll P (BinaryExpr k o a b) = TestsAll P a × TestsAll P b
  TestsAll P (IsExpr k a t) = TestsAll P a × NamesAll P t
  TestsAll P (IndexExpr k a b) = TestsAll P a × TestsAll P b
  TestsAll P (FieldExpr k a name) = TestsAll P a
  TestsAll P (ListExpr k items) = AllTestAll P items
  TestsAll P (RepeatExpr k a b) = TestsAll P a × TestsAll P b
  TestsAll P (RecordExpr k fields) = FieldsTestAll P fields
  TestsAll P (QuantExpr k all x a b body) = TestsAll P a × TestsAll P b × TestsAll P body

  pub AllTestAll : {N : Type 0} → (ℕ → Type 0) → Exprs N → Type 0
  AllTestAll P NoExprs = Unit {0}
  AllTestAll P (MoreExprs e es) = TestsAll P e × AllTestAll P es

  pub FieldsTestAll : {N : Type 0} → (ℕ → Type 0) → Fields N → Type 0
  FieldsTestAll P NoFields = Unit {0}
  FieldsTestAll P (MoreFields name e fs) = TestsAll P e × FieldsTestAll P fs

abbrev pub ClausesTestAll : {N : Type 0} → (ℕ → Type 0) → List (Expr N) → Type 0
ClausesTestAll P [] = Unit {0}
ClausesTestAll P (e ∷ es) = TestsAll P e × ClausesTestAll P es
