-- What an expression that calls nothing denotes, by the data of its variables and the data that named types stand for. Each operation is total here, as in terms.
use Rattle.std.specs.Prelude.{ℕ, List, [], ◌∷◌, Bool, true, false, cond, not, ◌&&◌, ◌||◌, ◌==◌, Option, Some, None, ℤ, neg_ℤ, ◌+ℤ◌, ◌-ℤ◌, ◌*ℤ◌, int_le, int_lt}
use Rattle.wy_value.specs.Datum.{Datum, Null, Truth, Whole, Array, Record}
use Rattle.wy_core.specs.CoreTree.{Expr, NullExpr, BoolExpr, IntExpr, VarExpr, CallExpr, NegExpr, NotExpr, LenExpr, BinaryExpr, IsExpr, IndexExpr, FieldExpr, ListExpr, RepeatExpr, RecordExpr, QuantExpr, Exprs, NoExprs, MoreExprs, Fields, NoFields, MoreFields, Alias}
use Rattle.wy_core.specs.declared.expressions.Op.{Op}
use Rattle.wy_core.specs.declared.expressions.Op.TheVariants.{Add, Sub, Mul, Div, Mod, Equal, Less, LessEqual, Greater, GreaterEqual, And, Or}
use Rattle.wy_term.specs.Data.{quotient, remainder, number_in, length_in, element, repeated, field_in, fields_with, items_with}
use Rattle.wy_term.specs.Meaning.{each_from, any_from, distance}
use Rattle.wy_sem.specs.Operations.{same, same_number}
use Rattle.wy_sem.specs.Expressions.{node}
use Rattle.wy_sound_statements.specs.wy_vc_spec.Values.{field_names}
use Rattle.wy_sound_statements.specs.wy_sound_walks.expressions.Types.{is_in}

-- ---- operations

-- it is the truth value `true`
abbrev pub is_true : Datum → Bool
is_true d = same d (Truth true)

-- numbers are compared as numbers where it is known that both are
abbrev pub equals : Bool → Datum → Datum → Bool
equals true d e = same_number (number_in d) (number_in e)
equals false d e = same d e

abbrev pub operates : Op → Bool → Datum → Datum → Datum
operates Add numbers d e = Whole (number_in d +ℤ number_in e)
operates Sub numbers d e = Whole (number_in d -ℤ number_in e)
operates Mul numbers d e = Whole (number_in d *ℤ number_in e)
operates Div numbers d e = Whole (quotient (number_in d) (number_in e))
operates Mod numbers d e = Whole (remainder (number_in d) (number_in e))
operates Equal numbers d e = Truth (equals numbers d e)
operates Less numbers d e = Truth (int_lt (number_in d) (number_in e))
operates LessEqual numbers d e = Truth (int_le (number_in d) (number_in e))
operates Greater numbers d e = Truth (int_lt (number_in e) (number_in d))
operates GreaterEqual numbers d e = Truth (int_le (number_in e) (number_in d))
operates And numbers d e = Truth (is_true d && is_true e)
operates Or numbers d e = Truth (is_true d || is_true e)

-- the test holds of each of so many numbers from one on, or of some
abbrev pub holds_of : Bool → ℤ → ℕ → (ℤ → Bool) → Bool
holds_of true from many test = each_from from many test
holds_of false from many test = any_from from many test

-- from the first number on and below the second
abbrev pub holds_between : Bool → Datum → Datum → (ℤ → Bool) → Bool
holds_between all d e test = holds_of all (number_in d) (distance (number_in e -ℤ number_in d)) test

-- ---- variables

-- one variable has this datum
abbrev pub with_value : ℕ → Datum → (ℕ → Datum) → ℕ → Datum
with_value x d has y = cond (x == y) d (has y)

-- a variable without a value counts as null
abbrev pub nothing_had : ℕ → Datum
nothing_had x = Null

-- the variable, if there is one, has this datum
abbrev pub value_if : Option ℕ → Datum → ℕ → Datum
value_if None d = nothing_had
value_if (Some x) d = with_value x d nothing_had

-- ---- expressions

abbrev mutual
  pub denoted : {N : Type 0} → (ℕ → Datum → Bool) → (N → Bool) → Expr N → (ℕ → Datum) → Datum
  denoted members is_number (NullExpr k) has = Null
  denoted members is_number (BoolExpr k b) has = Truth b
  denoted members is_number (IntExpr k z) has = Whole z
  denoted members is_number (VarExpr k x) has = has x
  denoted members is_number (CallExpr k routine args) has = Null
  denoted members is_number (NegExpr k a) has = Whole (neg_ℤ (number_in (denoted members is_number a has)))
  denoted members is_number (NotExpr k a) has = Truth (not (is_true (denoted members is_number a has)))
  denoted members is_number (LenExpr k a) has = Whole (length_in (denoted members is_number a has))
  denoted members is_number (BinaryExpr k o a b) has = operates o (is_number (node a) && is_number (node b)) (denoted members is_number a has) (denoted members is_number b has)
  denoted members is_number (IsExpr k a t) has = Truth (is_in members t (denoted members is_number a has))
  denoted members is_number (IndexExpr k a b) has = element (denoted members is_number a has) (number_in (denoted members is_number b has))
  denoted members is_number (FieldExpr k a name) has = field_in (denoted members is_number a has) name
  denoted members is_number (ListExpr k items) has = Array (items_with (all_denoted members is_number items has))
  denoted members is_number (RepeatExpr k a b) has = repeated (denoted members is_number a has) (number_in (denoted members is_number b has))
  denoted members is_number (RecordExpr k fields) has = Record (fields_with (field_names fields) (parts_denoted members is_number fields has))
  denoted members is_number (QuantExpr k all x a b body) has =
      Truth (holds_between all (denoted members is_number a has) (denoted members is_number b has) (λ i. is_true (denoted members is_number body (with_value x (Whole i) has))))

  pub all_denoted : {N : Type 0} → (ℕ → Datum → Bool) → (N → Bool) → Exprs N → (ℕ → Datum) → List Datum
  all_denoted members is_number NoExprs has = []
  all_denoted members is_number (MoreExprs e es) has = denoted members is_number e has ∷ all_denoted members is_number es has

  pub parts_denoted : {N : Type 0} → (ℕ → Datum → Bool) → (N → Bool) → Fields N → (ℕ → Datum) → List Datum
  parts_denoted members is_number NoFields has = []
  parts_denoted members is_number (MoreFields name e fs) has = denoted members is_number e has ∷ parts_denoted members is_number fs has

-- ---- named types

-- each of the clauses is true
abbrev pub clauses_denote : {N : Type 0} → (ℕ → Datum → Bool) → (N → Bool) → List (Expr N) → (ℕ → Datum) → Bool
clauses_denote members is_number [] has = true
clauses_denote members is_number (e ∷ es) has = is_true (denoted members is_number e has) && clauses_denote members is_number es has

-- so of the clauses of a type, whose variable has the datum
abbrev pub alias_denotes : {N : Type 0} → (ℕ → Datum → Bool) → (N → Bool) → Alias N → Datum → Bool
alias_denotes members is_number a d = clauses_denote members is_number a.clauses (value_if a.variable d)

-- the datum is in the type's definition, and its clauses are true
abbrev pub is_defined : {N : Type 0} → (ℕ → Datum → Bool) → (N → Bool) → Alias N → Datum → Bool
is_defined members is_number a d = is_in members a.ty d && alias_denotes members is_number a d
