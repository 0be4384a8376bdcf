-- How many nodes an expression has, the types of its tests among them, and how high it is. A leaf has one node and the height 1.
use Rattle.std.specs.Prelude.{◌≤◌, ℕ, ◌+◌, max}
use Rattle.wy_core.specs.Types.{Ty, FieldTys, NullTy, BoolTy, IntTy, AnyTy, VoidTy, RecordTy, ArrayTy, UnionTy, InterTy, NotTy, NamedTy, NormalTy, NoFieldTys, MoreFieldTys}
use Rattle.wy_core.specs.CoreTree.{Expr, NullExpr, BoolExpr, IntExpr, VarExpr, CallExpr, NegExpr, NotExpr, LenExpr, BinaryExpr, IsExpr, IndexExpr, FieldExpr, ListExpr, RepeatExpr, RecordExpr, QuantExpr, Exprs, NoExprs, MoreExprs, Fields, NoFields, MoreFields}

abbrev mutual
  -- the nodes of a type
  pub size_ty : Ty → ℕ
  size_ty NullTy = 1
  size_ty BoolTy = 1
  size_ty IntTy = 1
  size_ty AnyTy = 1
  size_ty VoidTy = 1
  size_ty (RecordTy fields) = size_field_tys fields + 1
  size_ty (ArrayTy item) = size_ty item + 1
  size_ty (UnionTy left right) = (size_ty left + size_ty right) + 1
  size_ty (InterTy left right) = (size_ty left + size_ty right) + 1
  size_ty (NotTy t) = size_ty t + 1
  size_ty (NamedTy n) = 1
  size_ty (NormalTy union) = 1

  pub size_field_tys : FieldTys → ℕ
  size_field_tys NoFieldTys = 0
  size_field_tys (MoreFieldTys name t rest) = size_ty t + size_field_tys rest

abbrev mutual
  -- the height of a type
  pub height_ty : Ty → ℕ
  height_ty NullTy = 1
  height_ty BoolTy = 1
  height_ty IntTy = 1
  height_ty AnyTy = 1
  height_ty VoidTy = 1
  height_ty (RecordTy fields) = height_field_tys fields + 1
  height_ty (ArrayTy item) = height_ty item + 1
  height_ty (UnionTy left right) = (max (height_ty left) (height_ty right)) + 1
  height_ty (InterTy left right) = (max (height_ty left) (height_ty right)) + 1
  height_ty (NotTy t) = height_ty t + 1
  height_ty (NamedTy n) = 1
  height_ty (NormalTy union) = 1

  pub height_field_tys : FieldTys → ℕ
  height_field_tys NoFieldTys = 0
  height_field_tys (MoreFieldTys name t rest) = max (height_ty t) (height_field_tys rest)

abbrev mutual
  -- the nodes of an expression
  pub size : Expr ℕ → ℕ
  size (NullExpr at) = 1
  size (BoolExpr at truth) = 1
  size (IntExpr at number) = 1
  size (VarExpr at v) = 1
  size (CallExpr at routine args) = sizes args + 1
  size (NegExpr at a) = size a + 1
  size (NotExpr at a) = size a + 1
  size (LenExpr at a) = size a + 1
  size (BinaryExpr at op a b) = (size a + size b) + 1
  size (IsExpr at a t) = (size a + size_ty t) + 1
  size (IndexExpr at a b) = (size a + size b) + 1
  size (FieldExpr at a name) = size a + 1
  size (ListExpr at items) = sizes items + 1
  size (RepeatExpr at a b) = (size a + size b) + 1
  size (RecordExpr at fields) = field_sizes fields + 1
  size (QuantExpr at all v from to body) = ((size from + size to) + size body) + 1

  pub sizes : Exprs ℕ → ℕ
  sizes NoExprs = 0
  sizes (MoreExprs e rest) = size e + sizes rest

  pub field_sizes : Fields ℕ → ℕ
  field_sizes NoFields = 0
  field_sizes (MoreFields name e rest) = size e + field_sizes rest

abbrev mutual
  -- the height of an expression
  pub height : Expr ℕ → ℕ
  height (NullExpr at) = 1
  height (BoolExpr at truth) = 1
  height (IntExpr at number) = 1
  height (VarExpr at v) = 1
  height (CallExpr at routine args) = heights args + 1
  height (NegExpr at a) = height a + 1
  height (NotExpr at a) = height a + 1
  height (LenExpr at a) = height a + 1
  height (BinaryExpr at op a b) = (max (height a) (height b)) + 1
  height (IsExpr at a t) = (max (height a) (height_ty t)) + 1
  height (IndexExpr at a b) = (max (height a) (height b)) + 1
  height (FieldExpr at a name) = height a + 1
  height (ListExpr at items) = heights items + 1
  height (RepeatExpr at a b) = (max (height a) (height b)) + 1
  height (RecordExpr at fields) = field_heights fields + 1
  height (QuantExpr at all v from to body) = (max (height from) (max (height to) (height body))) + 1

  pub heights : Exprs ℕ → ℕ
  heights NoExprs = 0
  heights (MoreExprs e rest) = max (height e) (heights rest)

  pub field_heights : Fields ℕ → ℕ
  field_heights NoFields = 0
  field_heights (MoreFields name e rest) = max (height e) (field_heights rest)

-- a whole expression is within the limits
pub record IsSmall (e : Expr ℕ) : Type 0 where
  pub nodes : size e ≤ 4096
  pub high : height e ≤ 400
