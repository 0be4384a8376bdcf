-- Where the recursion of declared types passes: through records or arrays, and never through a test of a clause.
use Rattle.std.specs.Prelude.{◌≡◌, ◌⊎◌, ℕ, Bool, true, false, List, [], ◌∷◌, Some, slice_get}
use Rattle.wy_core.specs.Types.{Ty, FieldTys, NullTy, BoolTy, IntTy, AnyTy, VoidTy, RecordTy, ArrayTy, UnionTy, InterTy, NotTy, NamedTy, NormalTy, NoFieldTys, MoreFieldTys}
use Rattle.wy_core.specs.CoreTree.{Expr, NullExpr, BoolExpr, IntExpr, VarExpr, CallExpr, NegExpr, NotExpr, LenExpr, BinaryExpr, IsExpr, IndexExpr, FieldExpr, ListExpr, RepeatExpr, RecordExpr, QuantExpr, Exprs, NoExprs, MoreExprs, Fields, NoFields, MoreFields, Alias, Core, aliases_of}

-- inside of a record or an array, where that counts
abbrev pub Inside : Bool → Type 0 → Type 0
Inside true A = A
Inside false A = ⊥

abbrev mutual
  -- the type names the one with this number; whether names inside of records and arrays count, the first says
  pub NamesIn : Bool → Ty → ℕ → Type 0
  NamesIn all NullTy b = ⊥
  NamesIn all BoolTy b = ⊥
  NamesIn all IntTy b = ⊥
  NamesIn all AnyTy b = ⊥
  NamesIn all VoidTy b = ⊥
  NamesIn all (RecordTy fields) b = Inside all (NamesInFields fields b)
  NamesIn all (ArrayTy item) b = Inside all (NamesIn true item b)
  NamesIn all (UnionTy left right) b = NamesIn all left b ⊎ NamesIn all right b
  NamesIn all (InterTy left right) b = NamesIn all left b ⊎ NamesIn all right b
  NamesIn all (NotTy t) b = NamesIn all t b
  NamesIn all (NamedTy n) b = n ≡ b
  NamesIn all (NormalTy union) b = ⊥

  pub NamesInFields : FieldTys → ℕ → Type 0
  NamesInFields NoFieldTys b = ⊥
  NamesInFields (MoreFieldTys name t rest) b = NamesIn true t b ⊎ NamesInFields rest b

abbrev mutual
  -- a test of the expression mentions the type with this number
  pub Mentions : Expr ℕ → ℕ → Type 0
  Mentions (NullExpr at) b = ⊥
  Mentions (BoolExpr at truth) b = ⊥
  Mentions (IntExpr at number) b = ⊥
  Mentions (VarExpr at v) b = ⊥
  Mentions (CallExpr at routine args) b = MentionsIn args b
  Mentions (NegExpr at a) b = Mentions a b
  Mentions (NotExpr at a) b = Mentions a b
  Mentions (LenExpr at a) b = Mentions a b
  Mentions (BinaryExpr at op x y) b = Mentions x b ⊎ Mentions y b
  Mentions (IsExpr at a t) b = Mentions a b ⊎ NamesIn true t b
  Mentions (IndexExpr at x y) b = Mentions x b ⊎ Mentions y b
  Mentions (FieldExpr at a name) b = Mentions a b
  Mentions (ListExpr at items) b = MentionsIn items b
  Mentions (RepeatExpr at x y) b = Mentions x b ⊎ Mentions y b
  Mentions (RecordExpr at fields) b = MentionsInFields fields b
  Mentions (QuantExpr at all v from to body) b = Mentions from b ⊎ Mentions to b ⊎ Mentions body b

  pub MentionsIn : Exprs ℕ → ℕ → Type 0
  MentionsIn NoExprs b = ⊥
  MentionsIn (MoreExprs e rest) b = Mentions e b ⊎ MentionsIn rest b

  pub MentionsInFields : Fields ℕ → ℕ → Type 0
  MentionsInFields NoFields b = ⊥
  MentionsInFields (MoreFields name e rest) b = Mentions e b ⊎ MentionsInFields rest b

-- one of the clauses does
abbrev pub ClausesMention : List (Expr ℕ) → ℕ → Type 0
ClausesMention [] b = ⊥
ClausesMention (e ∷ es) b = Mentions e b ⊎ ClausesMention es b

-- the declared type names the other one, or mentions it in a clause
abbrev pub UsesType : Bool → Alias ℕ → ℕ → Type 0
UsesType all x b = NamesIn all x.ty b ⊎ ClausesMention x.clauses b

-- the first type leads to the second: they are one, or the first uses a type that leads to the second
pub data Reaches (all : Bool) (aliases : List (Alias ℕ)) : ℕ → ℕ → Type 0 where
  stays : {a b : ℕ} → a ≡ b → Reaches all aliases a b
  goes : {a b : ℕ} (x : Alias ℕ) (c : ℕ) → slice_get aliases a ≡ Some x → UsesType all x c → Reaches all aliases c b → Reaches all aliases a b

-- no type that is named outside of records and arrays leads back without passing through one; and none that a clause mentions leads back at all
pub record RecursWell (aliases : List (Alias ℕ)) : Type 0 where
  pub bare : (a b : ℕ) (x : Alias ℕ) → slice_get aliases a ≡ Some x → NamesIn false x.ty b → Reaches false aliases b a → ⊥
  pub mention : (a b : ℕ) (x : Alias ℕ) → slice_get aliases a ≡ Some x → ClausesMention x.clauses b → Reaches true aliases b a → ⊥

-- so of the types of a program
abbrev pub Recursion : Core ℕ → Type 0
Recursion core = RecursWell (aliases_of core)
