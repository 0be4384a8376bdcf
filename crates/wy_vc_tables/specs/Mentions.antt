-- The names that types and expressions mention.
use Rattle.std.specs.Prelude.{ℕ, List, [], ◌∷◌, ◌++◌}
use Rattle.wy_core.specs.Types.{Ty, NullTy, BoolTy, IntTy, AnyTy, VoidTy, RecordTy, ArrayTy, UnionTy, InterTy, NotTy, NamedTy, NormalTy, FieldTys, NoFieldTys, MoreFieldTys}
use Rattle.wy_core.specs.CoreTree.{Expr, NullExpr, BoolExpr, IntExpr, VarExpr, CallExpr, NegExpr, NotExpr, LenExpr, BinaryExpr, IsExpr, IndexExpr, FieldExpr, ListExpr, RepeatExpr, RecordExpr, QuantExpr, Exprs, NoExprs, MoreExprs, Fields, NoFields, MoreFields, Alias}
use Rattle.wy_vc_spec.specs.wy_sem.TypeTests.{has_clauses}
use Rattle.wy_vc_spec.specs.Named.{nodes_of_alias}
use Rattle.wy_graph.specs.declared.reach.entries.Entry.{Entry}

abbrev mutual
  -- these names, and behind them those that a type mentions, in order
  pub with_ty : List ℕ → Ty → List ℕ
  with_ty ns NullTy = ns
  with_ty ns BoolTy = ns
  with_ty ns IntTy = ns
  with_ty ns AnyTy = ns
  with_ty ns VoidTy = ns
  with_ty ns (RecordTy fields) = with_field_tys ns fields
  with_ty ns (ArrayTy item) = with_ty ns item
  with_ty ns (UnionTy s t) = with_ty (with_ty ns s) t
  with_ty ns (InterTy s t) = with_ty (with_ty ns s) t
  with_ty ns (NotTy t) = with_ty ns t
  with_ty ns (NamedTy n) = ns ++ n ∷ []
  with_ty ns (NormalTy union) = ns

  pub with_field_tys : List ℕ → FieldTys → List ℕ
  with_field_tys ns NoFieldTys = ns
  with_field_tys ns (MoreFieldTys f t fields) = with_field_tys (with_ty ns t) fields

abbrev mutual
  -- and those of the types that an expression tests
  pub with_expr : {N : Type 0} → List ℕ → Expr N → List ℕ
  with_expr ns (NullExpr n) = ns
  with_expr ns (BoolExpr n truth) = ns
  with_expr ns (IntExpr n number) = ns
  with_expr ns (VarExpr n x) = ns
  with_expr ns (CallExpr n routine args) = with_exprs ns args
  with_expr ns (NegExpr n a) = with_expr ns a
  with_expr ns (NotExpr n a) = with_expr ns a
  with_expr ns (LenExpr n a) = with_expr ns a
  with_expr ns (BinaryExpr n op a b) = with_expr (with_expr ns a) b
  with_expr ns (IsExpr n a t) = with_ty (with_expr ns a) t
  with_expr ns (IndexExpr n a b) = with_expr (with_expr ns a) b
  with_expr ns (FieldExpr n a name) = with_expr ns a
  with_expr ns (ListExpr n items) = with_exprs ns items
  with_expr ns (RepeatExpr n a b) = with_expr (with_expr ns a) b
  with_expr ns (RecordExpr n fields) = with_fields ns fields
  with_expr ns (QuantExpr n all x a b body) = with_expr (with_expr (with_expr ns a) b) body

  pub with_exprs : {N : Type 0} → List ℕ → Exprs N → List ℕ
  with_exprs ns NoExprs = ns
  with_exprs ns (MoreExprs e es) = with_exprs (with_expr ns e) es

  pub with_fields : {N : Type 0} → List ℕ → Fields N → List ℕ
  with_fields ns NoFields = ns
  with_fields ns (MoreFields name e fs) = with_fields (with_expr ns e) fs

abbrev pub with_clauses : {N : Type 0} → List ℕ → List (Expr N) → List ℕ
with_clauses ns [] = ns
with_clauses ns (e ∷ es) = with_clauses (with_expr ns e) es

-- a name counts nothing
abbrev pub no_nodes : ℕ → ℕ
no_nodes n = 0

-- what a named type says of others
abbrev pub entry_of : {N : Type 0} → Alias N → Entry
entry_of a = record { names = with_clauses (with_ty [] a.ty) a.clauses; own = nodes_of_alias no_nodes a; has_clauses = has_clauses a.clauses }
