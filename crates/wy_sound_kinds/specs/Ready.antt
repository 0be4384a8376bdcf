-- What a formed and assigned program gives of each expression.
use Rattle.std.specs.Prelude.{◌≡◌, ℕ, ◌+◌, ◌-◌, ◌^◌, ◌<◌, ◌≤◌, ◌==◌, ◌||◌, List, [], ◌∷◌, Bool, true, false}
use Rattle.wy_value.specs.Values.{Rise}
use Rattle.wy_value.specs.Numbers.{is_int}
use Rattle.wy_core.specs.Types.{Ty}
use Rattle.wy_core.specs.CoreTree.{Expr, NullExpr, BoolExpr, IntExpr, VarExpr, CallExpr, NegExpr, NotExpr, LenExpr, BinaryExpr, IsExpr, IndexExpr, FieldExpr, ListExpr, RepeatExpr, RecordExpr, QuantExpr, Exprs, NoExprs, MoreExprs, Fields, NoFields, MoreFields}

-- the types about which `is` tests may ask, and which functions and methods may be called, each with so many arguments
pub record Rules : Type 0 where
  pub tested : Ty → Bool
  pub called : ℕ → ℕ → Bool

-- these variables, and one more
abbrev pub with_one : ℕ → (ℕ → Bool) → ℕ → Bool
with_one x seen y = (x == y) || seen y

-- how many expressions there are
abbrev pub count_of : {N : Type 0} → Exprs N → ℕ
count_of NoExprs = 0
count_of (MoreExprs e es) = count_of es + 1

-- the names of fields
abbrev pub names_in : {N : Type 0} → Fields N → List (List ℕ)
names_in NoFields = []
names_in (MoreFields name e fs) = name ∷ names_in fs

abbrev mutual
  -- numbers are `int`s; variables that are used are marked; the variable of a quantifier is one of those of the store, which are so many; lists are no longer than an array may be; the names of records rise; and where the Boolean says so, nothing is called. Quantifiers call nothing
  pub Ready : Rules → Bool → ℕ → (ℕ → Bool) → Expr ℕ → Type 0
  Ready r q n seen (NullExpr at) = Unit {0}
  Ready r q n seen (BoolExpr at b) = Unit {0}
  Ready r q n seen (IntExpr at z) = is_int z ≡ true
  Ready r q n seen (VarExpr at x) = seen x ≡ true
  Ready r q n seen (CallExpr at f es) = (q ≡ false) × (r.called f (count_of es) ≡ true) × AllReady r q n seen es
  Ready r q n seen (NegExpr at a) = Ready r q n seen a
  Ready r q n seen (NotExpr at a) = Ready r q n seen a
  Ready r q n seen (LenExpr at a) = Ready r q n seen a
  Ready r q n seen (BinaryExpr at o a b) = Ready r q n seen a × Ready r q n seen b
  Ready r q n seen (IsExpr at a t) = (r.tested t ≡ true) × Ready r q n seen a
  Ready r q n seen (IndexExpr at a b) = Ready r q n seen a × Ready r q n seen b
  Ready r q n seen (FieldExpr at a name) = Ready r q n seen a
  Ready r q n seen (ListExpr at es) = (count_of es ≤ 2 ^ 63 - 1) × AllReady r q n seen es
  Ready r q n seen (RepeatExpr at a b) = Ready r q n seen a × Ready r q n seen b
  Ready r q n seen (RecordExpr at fs) = Rise (names_in fs) × FieldsReady r q n seen fs
  Ready r q n seen (QuantExpr at all x a b body) = (x < n) × Ready r q n seen a × Ready r q n seen b × Ready r true n (with_one x seen) body

  pub AllReady : Rules → Bool → ℕ → (ℕ → Bool) → Exprs ℕ → Type 0
  AllReady r q n seen NoExprs = Unit {0}
  AllReady r q n seen (MoreExprs e es) = Ready r q n seen e × AllReady r q n seen es

  pub FieldsReady : Rules → Bool → ℕ → (ℕ → Bool) → Fields ℕ → Type 0
  FieldsReady r q n seen NoFields = Unit {0}
  FieldsReady r q n seen (MoreFields name e fs) = Ready r q n seen e × FieldsReady r q n seen fs
