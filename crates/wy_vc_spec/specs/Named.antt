-- What formulas say of named types: which are written out, and from which a type with a clause is reached.
use Rattle.std.specs.Prelude.{ℕ, zero, suc, ◌+◌, List, [], ◌∷◌, length, Bool, true, false, not, ◌&&◌, ◌||◌, ◌==◌, nat_le, if◌then◌else◌}
use Rattle.wy_sem.specs.wy_core.Types as ty
use Rattle.wy_sem.specs.wy_core.Types.{Ty, NullTy, BoolTy, IntTy, AnyTy, VoidTy, RecordTy, ArrayTy, UnionTy, InterTy, NotTy, NamedTy, NormalTy, FieldTys, NoFieldTys, MoreFieldTys, Conjuncts, NoConjuncts, MoreConjuncts}
use Rattle.wy_sem.specs.wy_core.CoreTree.{Expr, NullExpr, BoolExpr, IntExpr, VarExpr, CallExpr, NegExpr, NotExpr, LenExpr, BinaryExpr, IsExpr, IndexExpr, FieldExpr, ListExpr, RepeatExpr, RecordExpr, QuantExpr, Exprs, NoExprs, MoreExprs, Fields, NoFields, MoreFields, Alias}
use Rattle.wy_sem.specs.TypeTests.{alias_at, mentions}

-- ---- names that lead back to themselves

abbrev mutual
  -- a type that an `is` test of the expression asks about has this property
  pub some_test : {N : Type 0} → (Ty → Bool) → Expr N → Bool
  some_test p (NullExpr n) = false
  some_test p (BoolExpr n truth) = false
  some_test p (IntExpr n number) = false
  some_test p (VarExpr n x) = false
  some_test p (CallExpr n routine args) = some_test_all p args
  some_test p (NegExpr n a) = some_test p a
  some_test p (NotExpr n a) = some_test p a
  some_test p (LenExpr n a) = some_test p a
  some_test p (BinaryExpr n op a b) = some_test p a || some_test p b
  some_test p (IsExpr n a t) = some_test p a || p t
  some_test p (IndexExpr n a b) = some_test p a || some_test p b
  some_test p (FieldExpr n a name) = some_test p a
  some_test p (ListExpr n items) = some_test_all p items
  some_test p (RepeatExpr n a b) = some_test p a || some_test p b
  some_test p (RecordExpr n fields) = some_test_fields p fields
  some_test p (QuantExpr n all x a b body) = some_test p a || (some_test p b || some_test p body)

  pub some_test_all : {N : Type 0} → (Ty → Bool) → Exprs N → Bool
  some_test_all p NoExprs = false
  some_test_all p (MoreExprs e es) = some_test p e || some_test_all p es

  pub some_test_fields : {N : Type 0} → (Ty → Bool) → Fields N → Bool
  some_test_fields p NoFields = false
  some_test_fields p (MoreFields name e fs) = some_test p e || some_test_fields p fs

abbrev pub some_test_in : {N : Type 0} → (Ty → Bool) → List (Expr N) → Bool
some_test_in p [] = false
some_test_in p (e ∷ es) = some_test p e || some_test_in p es

-- the definition of a name or its clauses mention a name with this property
abbrev pub alias_mentions : {N : Type 0} → (ℕ → Bool) → Alias N → Bool
alias_mentions p a = mentions p a.ty || some_test_in (mentions p) a.clauses

-- from this name the other is reached in at most so many steps, and at least one
abbrev pub leads_to : {N : Type 0} → List (Alias N) → ℕ → ℕ → ℕ → Bool
leads_to types to zero n = false
leads_to types to (suc j) n = alias_mentions (λ m. (m == to) || leads_to types to j m) (alias_at types n)

-- the name leads back to itself, by its definition or its clauses
abbrev pub is_recursive : {N : Type 0} → List (Alias N) → ℕ → Bool
is_recursive types n = leads_to types n (length types) n

-- ---- sizes

abbrev mutual
  -- how many nodes a type has, where each name has this many
  pub nodes_of_ty : (ℕ → ℕ) → Ty → ℕ
  nodes_of_ty name NullTy = 1
  nodes_of_ty name BoolTy = 1
  nodes_of_ty name IntTy = 1
  nodes_of_ty name AnyTy = 1
  nodes_of_ty name VoidTy = 1
  nodes_of_ty name (RecordTy fields) = 1 + nodes_of_fields name fields
  nodes_of_ty name (ArrayTy item) = 1 + nodes_of_ty name item
  nodes_of_ty name (UnionTy s t) = 1 + nodes_of_ty name s + nodes_of_ty name t
  nodes_of_ty name (InterTy s t) = 1 + nodes_of_ty name s + nodes_of_ty name t
  nodes_of_ty name (NotTy t) = 1 + nodes_of_ty name t
  nodes_of_ty name (NamedTy n) = name n
  nodes_of_ty name (NormalTy union) = 1

  pub nodes_of_fields : (ℕ → ℕ) → FieldTys → ℕ
  nodes_of_fields name NoFieldTys = 0
  nodes_of_fields name (MoreFieldTys f t fields) = nodes_of_ty name t + nodes_of_fields name fields

abbrev mutual
  -- how many nodes an expression has, with those of the types that it tests
  pub nodes_of_expr : {N : Type 0} → (ℕ → ℕ) → Expr N → ℕ
  nodes_of_expr name (NullExpr n) = 1
  nodes_of_expr name (BoolExpr n truth) = 1
  nodes_of_expr name (IntExpr n number) = 1
  nodes_of_expr name (VarExpr n x) = 1
  nodes_of_expr name (CallExpr n routine args) = 1 + nodes_of_exprs name args
  nodes_of_expr name (NegExpr n a) = 1 + nodes_of_expr name a
  nodes_of_expr name (NotExpr n a) = 1 + nodes_of_expr name a
  nodes_of_expr name (LenExpr n a) = 1 + nodes_of_expr name a
  nodes_of_expr name (BinaryExpr n op a b) = 1 + nodes_of_expr name a + nodes_of_expr name b
  nodes_of_expr name (IsExpr n a t) = 1 + nodes_of_expr name a + nodes_of_ty name t
  nodes_of_expr name (IndexExpr n a b) = 1 + nodes_of_expr name a + nodes_of_expr name b
  nodes_of_expr name (FieldExpr n a f) = 1 + nodes_of_expr name a
  nodes_of_expr name (ListExpr n items) = 1 + nodes_of_exprs name items
  nodes_of_expr name (RepeatExpr n a b) = 1 + nodes_of_expr name a + nodes_of_expr name b
  nodes_of_expr name (RecordExpr n fields) = 1 + nodes_of_values name fields
  nodes_of_expr name (QuantExpr n all x a b body) = 1 + nodes_of_expr name a + nodes_of_expr name b + nodes_of_expr name body

  pub nodes_of_exprs : {N : Type 0} → (ℕ → ℕ) → Exprs N → ℕ
  nodes_of_exprs name NoExprs = 0
  nodes_of_exprs name (MoreExprs e es) = nodes_of_expr name e + nodes_of_exprs name es

  pub nodes_of_values : {N : Type 0} → (ℕ → ℕ) → Fields N → ℕ
  nodes_of_values name NoFields = 0
  nodes_of_values name (MoreFields f e fs) = nodes_of_expr name e + nodes_of_values name fs

abbrev pub nodes_of_clauses : {N : Type 0} → (ℕ → ℕ) → List (Expr N) → ℕ
nodes_of_clauses name [] = 0
nodes_of_clauses name (e ∷ es) = nodes_of_expr name e + nodes_of_clauses name es

-- the nodes of a name's definition and clauses
abbrev pub nodes_of_alias : {N : Type 0} → (ℕ → ℕ) → Alias N → ℕ
nodes_of_alias name a = nodes_of_ty name a.ty + nodes_of_clauses name a.clauses

-- the nodes of a name that stands in another one: where it is recursive it is one node, else it counts as what it is written out
abbrev pub written_nodes : {N : Type 0} → List (Alias N) → ℕ → ℕ → ℕ
written_nodes types zero n = 1
written_nodes types (suc j) n = if is_recursive types n then 1 else nodes_of_alias (written_nodes types j) (alias_at types n)

-- a formula has the definition and the clauses of a name where it speaks of it: it is not recursive, and with the names in it written out it has at most 64 nodes
abbrev pub is_written : {N : Type 0} → List (Alias N) → ℕ → Bool
is_written types n = not (is_recursive types n) && nat_le (written_nodes types (suc (length types)) n) 64

-- ---- numbers

-- each conjunct is one of numbers; a normal type's conjuncts have values
abbrev pub all_numbers : Conjuncts → Bool
all_numbers NoConjuncts = true
all_numbers (MoreConjuncts ty.IntAtom negatives rest) = all_numbers rest
all_numbers (MoreConjuncts atom negatives rest) = false

-- a flow type has numbers alone
abbrev pub is_number_type : Ty → Bool
is_number_type (NormalTy conjuncts) = all_numbers conjuncts
is_number_type t = false
