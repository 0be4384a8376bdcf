-- Where the names of a core lead. Each variable, type, function and method that is used is in scope at its use; each variable is declared where no other with its number is in scope, and has a name. Calls have as many values as are asked for, and a result where one is wanted. The fields of records rise, and types are such as a source may write. `break` and `continue` stand in loops, and what is returned is what the declaration says.
use Rattle.std.specs.Prelude.{◌≡◌, ◌⊎◌, ◌<◌, ℕ, ◌+◌, Bool, true, false, List, [], ◌∷◌, length, Option, Some, None, is_some}
use Rattle.std.specs.Cmp.Lexicographic.{slice_cmp}
use Rattle.std.specs.Ordering.{nat_cmp}
use Rattle.std.specs.declared.cmp.Ordering.TheVariants.{Less}
use Rattle.wy_core.specs.Types.{Ty, FieldTys, NullTy, BoolTy, IntTy, AnyTy, VoidTy, RecordTy, ArrayTy, UnionTy, InterTy, NotTy, NamedTy, NormalTy, NoFieldTys, MoreFieldTys}
use Rattle.wy_core.specs.CoreTree.{Expr, NullExpr, BoolExpr, IntExpr, VarExpr, CallExpr, NegExpr, NotExpr, LenExpr, BinaryExpr, IsExpr, IndexExpr, FieldExpr, ListExpr, RepeatExpr, RecordExpr, QuantExpr, Exprs, NoExprs, MoreExprs, Fields, NoFields, MoreFields, Step, IndexStep, FieldStep, Stmt, Stmts, DeclareStmt, AssignStmt, CallStmt, ReturnStmt, AssertStmt, BreakStmt, ContinueStmt, SkipStmt, FailStmt, IfStmt, WhileStmt, NoStmts, MoreStmts, Param, Output, Alias, Routine, Decl, AliasDecl, RoutineDecl, Core}
use Rattle.wy_core.specs.formed.Offers.{Offers, offers_of, IsCall}

-- the first name goes before the one behind it, where there is one
abbrev pub GoesBefore : List ℕ → List (List ℕ) → Type 0
GoesBefore name [] = Unit {0}
GoesBefore name (other ∷ names) = slice_cmp nat_cmp name other ≡ Less

-- the names rise by their bytes, so none stands twice
abbrev pub Rise : List (List ℕ) → Type 0
Rise [] = Unit {0}
Rise (name ∷ names) = GoesBefore name names × Rise names

-- the names of fields
abbrev pub names_of_tys : FieldTys → List (List ℕ)
names_of_tys NoFieldTys = []
names_of_tys (MoreFieldTys name t rest) = name ∷ names_of_tys rest

abbrev pub names_of : {N : Type 0} → Fields N → List (List ℕ)
names_of NoFields = []
names_of (MoreFields name e rest) = name ∷ names_of rest

-- the variables in scope, by their numbers, the last declared first
abbrev pub Scope : Type 0
Scope = List ℕ

-- the variable is in scope
abbrev pub Has : Scope → ℕ → Type 0
Has [] v = ⊥
Has (w ∷ vs) v = (w ≡ v) ⊎ Has vs v

-- the variable is one of those that have a name, and isn't in scope yet
abbrev pub IsNew : ℕ → Scope → ℕ → Type 0
IsNew n vs v = (v < n) × (Has vs v → ⊥)

abbrev mutual
  -- a type as a source may write it, with fewer than so many names
  pub BoundTy : ℕ → Ty → Type 0
  BoundTy types NullTy = Unit {0}
  BoundTy types BoolTy = Unit {0}
  BoundTy types IntTy = Unit {0}
  BoundTy types AnyTy = Unit {0}
  BoundTy types VoidTy = Unit {0}
  BoundTy types (RecordTy fields) = Rise (names_of_tys fields) × BoundFieldTys types fields
  BoundTy types (ArrayTy item) = BoundTy types item
  BoundTy types (UnionTy left right) = BoundTy types left × BoundTy types right
  BoundTy types (InterTy left right) = BoundTy types left × BoundTy types right
  BoundTy types (NotTy t) = BoundTy types t
  BoundTy types (NamedTy number) = number < types
  BoundTy types (NormalTy union) = ⊥

  pub BoundFieldTys : ℕ → FieldTys → Type 0
  BoundFieldTys types NoFieldTys = Unit {0}
  BoundFieldTys types (MoreFieldTys name t rest) = BoundTy types t × BoundFieldTys types rest

-- how many expressions there are
abbrev pub count_of : {N : Type 0} → Exprs N → ℕ
count_of NoExprs = 0
count_of (MoreExprs e rest) = count_of rest + 1

abbrev mutual
  -- an expression among the variables in scope, of a declaration that names so many variables
  pub BoundExpr : Offers → ℕ → Scope → Expr ℕ → Type 0
  BoundExpr o n vs (NullExpr at) = Unit {0}
  BoundExpr o n vs (BoolExpr at truth) = Unit {0}
  BoundExpr o n vs (IntExpr at number) = Unit {0}
  BoundExpr o n vs (VarExpr at v) = Has vs v
  BoundExpr o n vs (CallExpr at routine args) = IsCall o true routine (count_of args) × BoundExprs o n vs args
  BoundExpr o n vs (NegExpr at a) = BoundExpr o n vs a
  BoundExpr o n vs (NotExpr at a) = BoundExpr o n vs a
  BoundExpr o n vs (LenExpr at a) = BoundExpr o n vs a
  BoundExpr o n vs (BinaryExpr at op a b) = BoundExpr o n vs a × BoundExpr o n vs b
  BoundExpr o n vs (IsExpr at a t) = BoundExpr o n vs a × BoundTy o.types t
  BoundExpr o n vs (IndexExpr at a b) = BoundExpr o n vs a × BoundExpr o n vs b
  BoundExpr o n vs (FieldExpr at a name) = BoundExpr o n vs a
  BoundExpr o n vs (ListExpr at items) = BoundExprs o n vs items
  BoundExpr o n vs (RepeatExpr at a b) = BoundExpr o n vs a × BoundExpr o n vs b
  BoundExpr o n vs (RecordExpr at fields) = Rise (names_of fields) × BoundFields o n vs fields
  BoundExpr o n vs (QuantExpr at all v from to body) = IsNew n vs v × BoundExpr o n vs from × BoundExpr o n vs to × BoundExpr o n (v ∷ vs) body

  pub BoundExprs : Offers → ℕ → Scope → Exprs ℕ → Type 0
  BoundExprs o n vs NoExprs = Unit {0}
  BoundExprs o n vs (MoreExprs e rest) = BoundExpr o n vs e × BoundExprs o n vs rest

  pub BoundFields : Offers → ℕ → Scope → Fields ℕ → Type 0
  BoundFields o n vs NoFields = Unit {0}
  BoundFields o n vs (MoreFields name e rest) = BoundExpr o n vs e × BoundFields o n vs rest

-- each of these expressions
abbrev pub BoundClauses : Offers → ℕ → Scope → List (Expr ℕ) → Type 0
BoundClauses o n vs [] = Unit {0}
BoundClauses o n vs (e ∷ es) = BoundExpr o n vs e × BoundClauses o n vs es

-- an expression that may be absent
abbrev pub BoundOption : Offers → ℕ → Scope → Option (Expr ℕ) → Type 0
BoundOption o n vs None = Unit {0}
BoundOption o n vs (Some e) = BoundExpr o n vs e

-- the steps of a path
abbrev pub BoundPath : Offers → ℕ → Scope → List (Step ℕ) → Type 0
BoundPath o n vs [] = Unit {0}
BoundPath o n vs (IndexStep at e ∷ steps) = BoundExpr o n vs e × BoundPath o n vs steps
BoundPath o n vs (FieldStep at name ∷ steps) = BoundPath o n vs steps

-- what a statement stands in: a loop or none, and a declaration with or without a result
pub record Around : Type 0 where
  pub in_loop : Bool
  pub has_result : Bool

abbrev pub looped : Around → Around
looped a = record { in_loop = true; has_result = a.has_result }

-- the variables in scope behind a statement: a variable is in scope behind its declaration, up to the end of the block
abbrev pub behind : Scope → Stmt ℕ → Scope
behind vs (DeclareStmt at t v value) = v ∷ vs
behind vs (AssignStmt at v path value) = vs
behind vs (CallStmt at routine args) = vs
behind vs (ReturnStmt at value) = vs
behind vs (AssertStmt at test) = vs
behind vs (BreakStmt at) = vs
behind vs (ContinueStmt at) = vs
behind vs (SkipStmt at) = vs
behind vs (FailStmt at) = vs
behind vs (IfStmt at test first second) = vs
behind vs (WhileStmt at test invariants body) = vs

abbrev mutual
  -- a statement among the variables in scope
  pub BoundStmt : Offers → ℕ → Around → Scope → Stmt ℕ → Type 0
  BoundStmt o n a vs (DeclareStmt at t v value) = BoundTy o.types t × BoundOption o n vs value × IsNew n vs v
  BoundStmt o n a vs (AssignStmt at v path value) = Has vs v × BoundPath o n vs path × BoundExpr o n vs value
  BoundStmt o n a vs (CallStmt at routine args) = IsCall o false routine (count_of args) × BoundExprs o n vs args
  BoundStmt o n a vs (ReturnStmt at value) = (is_some value ≡ a.has_result) × BoundOption o n vs value
  BoundStmt o n a vs (AssertStmt at test) = BoundExpr o n vs test
  BoundStmt o n a vs (BreakStmt at) = a.in_loop ≡ true
  BoundStmt o n a vs (ContinueStmt at) = a.in_loop ≡ true
  BoundStmt o n a vs (SkipStmt at) = Unit {0}
  BoundStmt o n a vs (FailStmt at) = Unit {0}
  BoundStmt o n a vs (IfStmt at test first second) = BoundExpr o n vs test × BoundStmts o n a vs first × BoundStmts o n a vs second
  BoundStmt o n a vs (WhileStmt at test invariants body) = BoundExpr o n vs test × BoundClauses o n vs invariants × BoundStmts o n (looped a) vs body

  -- a block
  pub BoundStmts : Offers → ℕ → Around → Scope → Stmts ℕ → Type 0
  BoundStmts o n a vs NoStmts = Unit {0}
  BoundStmts o n a vs (MoreStmts x rest) = BoundStmt o n a vs x × BoundStmts o n a (behind vs x) rest

-- a variable that may be absent: it is new where there is one
abbrev pub IsNewOption : ℕ → Scope → Option ℕ → Type 0
IsNewOption n vs None = Unit {0}
IsNewOption n vs (Some v) = IsNew n vs v

-- the variables in scope with it
abbrev pub with_option : Scope → Option ℕ → Scope
with_option vs None = vs
with_option vs (Some v) = v ∷ vs

-- parameters, each behind those before it
abbrev pub BoundParams : Offers → ℕ → Scope → List Param → Type 0
BoundParams o n vs [] = Unit {0}
BoundParams o n vs (p ∷ ps) = BoundTy o.types p.ty × IsNew n vs p.variable × BoundParams o n (p.variable ∷ vs) ps

-- the variables in scope behind parameters
abbrev pub with_params : Scope → List Param → Scope
with_params vs [] = vs
with_params vs (p ∷ ps) = with_params (p.variable ∷ vs) ps

-- the variable of a result, where it has one
abbrev pub result_variable : Option Output → Option ℕ
result_variable None = None
result_variable (Some r) = r.variable

abbrev pub BoundResult : Offers → Option Output → Type 0
BoundResult o None = Unit {0}
BoundResult o (Some r) = BoundTy o.types r.ty

-- a declared type
pub record BoundAlias (o : Offers) (a : Alias ℕ) : Type 0 where
  pub ty : BoundTy o.types a.ty
  pub variable : IsNewOption (length a.variables) [] a.variable
  pub clauses : BoundClauses o (length a.variables) (with_option [] a.variable) a.clauses

-- a function or method: the postconditions speak of the parameters and of the result, the body of the parameters alone
pub record BoundRoutine (o : Offers) (r : Routine ℕ) : Type 0 where
  pub params : BoundParams o (length r.variables) [] r.params
  pub result : BoundResult o r.result
  pub preconditions : BoundClauses o (length r.variables) (with_params [] r.params) r.preconditions
  pub variable : IsNewOption (length r.variables) (with_params [] r.params) (result_variable r.result)
  pub postconditions : BoundClauses o (length r.variables) (with_option (with_params [] r.params) (result_variable r.result)) r.postconditions
  pub body : BoundStmts o (length r.variables) (record { in_loop = false; has_result = is_some r.result }) (with_params [] r.params) r.body

abbrev pub BoundDecl : Offers → Decl ℕ → Type 0
BoundDecl o (AliasDecl a) = BoundAlias o a
BoundDecl o (RoutineDecl r) = BoundRoutine o r

abbrev pub BoundDecls : Offers → List (Decl ℕ) → Type 0
BoundDecls o [] = Unit {0}
BoundDecls o (d ∷ ds) = BoundDecl o d × BoundDecls o ds

-- a program, by what it offers itself
abbrev pub Bound : Core ℕ → Type 0
Bound core = BoundDecls (offers_of core) core
