-- The formula that a datum is in a type, and the term of what an expression evaluates to.
use Rattle.std.specs.Prelude.{ℕ, zero, suc, List, [], ◌∷◌, length, Bool, true, ◌&&◌, if◌then◌else◌, Option, Some, None, pos, slice_index_or}
use Rattle.wy_sem.specs.wy_core.Types.{Ty, NullTy, BoolTy, IntTy, AnyTy, VoidTy, RecordTy, ArrayTy, UnionTy, InterTy, NotTy, NamedTy, NormalTy, FieldTys, NoFieldTys, MoreFieldTys}
use Rattle.wy_sem.specs.wy_core.CoreTree.{Expr, NullExpr, BoolExpr, IntExpr, VarExpr, CallExpr, NegExpr, NotExpr, LenExpr, BinaryExpr, IsExpr, IndexExpr, FieldExpr, ListExpr, RepeatExpr, RecordExpr, QuantExpr, Exprs, NoExprs, MoreExprs, Fields, NoFields, MoreFields, Alias}
use Rattle.wy_sem.specs.wy_term.Term.{Term, null_kind, bool_kind, int_kind, array_kind, record_kind}
use Rattle.wy_sem.specs.wy_value.declared.bounds.TheConstants.{INT_MIN, INT_MAX}
use Rattle.wy_sem.specs.Expressions.{node}
use Rattle.wy_sem.specs.TypeTests.{alias_at}
use Rattle.wy_vc_spec.specs.Named.{is_written}
use Rattle.wy_vc_spec.specs.Making.{number_of, int_name, val_name, num, len, get, field, null, truth, int, value_of, all_of, any_of, falsehood, denied, at_most, of_kind, in_type, formula, bound}
use Rattle.wy_vc_spec.specs.Variables.{Vars, slot_at, put, put_if}
use Rattle.wy_vc_spec.specs.Operations as op

-- a term or formula, and how many names were made up to it
pub record Valued : Type 0 where
  pub count : ℕ
  pub term : Term

pub record ValuedAll : Type 0 where
  pub count : ℕ
  pub terms : List Term

abbrev pub valued : ℕ → Term → Valued
valued n t = record { count = n; term = t }

abbrev pub valued_all : ℕ → List Term → ValuedAll
valued_all n ts = record { count = n; terms = ts }

-- what is said of a named type: its number, the datum, the number of names made
abbrev pub Naming : Type 0
Naming = ℕ → Term → ℕ → Valued

-- what a walk over expressions asks of the program: where a node stands, whether its expression is a number, and the declared types
pub record Setting (N : Type 0) : Type 0 where
  pub place : N → ℕ
  pub is_number : N → Bool
  pub types : List (Alias N)

-- ---- words

abbrev pub x_word : List ℕ
x_word = 120 ∷ []

abbrev pub k_word : List ℕ
k_word = 107 ∷ []

-- the word of a variable
abbrev pub word_at : List (List ℕ) → ℕ → List ℕ
word_at words x = slice_index_or words x x_word

abbrev pub word_if : List (List ℕ) → Option ℕ → List ℕ → List ℕ
word_if words None word = word
word_if words (Some x) word = word_at words x

abbrev pub or_null : Option Term → Term
or_null None = null
or_null (Some t) = t

-- the term of a variable
abbrev pub variable : Vars → ℕ → Term
variable vars x = or_null (slot_at vars x)

-- ---- types

-- the most elements of an array
abbrev pub longest : Term
longest = number_of (pos 9223372036854775807)

abbrev pub is_int : Term → Term
is_int v = all_of (of_kind int_kind v ∷ at_most (number_of INT_MIN) (num v) ∷ at_most (num v) (number_of INT_MAX) ∷ [])

abbrev pub names_of : FieldTys → List (List ℕ)
names_of NoFieldTys = []
names_of (MoreFieldTys f t fields) = f ∷ names_of fields

abbrev mutual
  -- the datum is in the type; each quantifier takes a new name
  pub holds : Naming → Ty → Term → ℕ → Valued
  holds named NullTy v n = valued n (of_kind null_kind v)
  holds named BoolTy v n = valued n (of_kind bool_kind v)
  holds named IntTy v n = valued n (is_int v)
  holds named AnyTy v n = valued n (all_of [])
  holds named VoidTy v n = valued n falsehood
  holds named (RecordTy fields) v n =
      let parts = fields_hold named fields v n in valued parts.count (all_of (of_kind (record_kind (names_of fields)) v ∷ parts.terms))
  holds named (ArrayTy item) v n =
      let part = holds named item (get v (int_name k_word n)) (suc n) in
      valued part.count (all_of (of_kind array_kind v ∷ at_most (len v) longest ∷ bound true k_word n (number_of (pos 0)) (len v) part.term ∷ []))
  holds named (UnionTy s t) v n =
      let first = holds named s v n in let second = holds named t v first.count in valued second.count (any_of (first.term ∷ second.term ∷ []))
  holds named (InterTy s t) v n =
      let first = holds named s v n in let second = holds named t v first.count in valued second.count (all_of (first.term ∷ second.term ∷ []))
  holds named (NotTy t) v n = let inside = holds named t v n in valued inside.count (denied inside.term)
  holds named (NamedTy number) v n = named number v n
  holds named (NormalTy union) v n = valued n falsehood

  -- each field of the datum is in its type
  pub fields_hold : Naming → FieldTys → Term → ℕ → ValuedAll
  fields_hold named NoFieldTys v n = valued_all n []
  fields_hold named (MoreFieldTys f t fields) v n =
      let first = holds named t (field f v) n in let rest = fields_hold named fields v first.count in valued_all rest.count (first.term ∷ rest.terms)

-- ---- expressions

abbrev mutual
  -- the term of what an expression of a contract evaluates to; each quantifier takes a new name. A contract calls nothing
  pub value : {N : Type 0} → Setting N → Naming → List (List ℕ) → Expr N → Vars → ℕ → Valued
  value s named words (NullExpr k) vars n = valued n null
  value s named words (BoolExpr k b) vars n = valued n (truth b)
  value s named words (IntExpr k z) vars n = valued n (int (number_of z))
  value s named words (VarExpr k x) vars n = valued n (variable vars x)
  value s named words (CallExpr k routine args) vars n = valued n null
  value s named words (NegExpr k a) vars n = let v = value s named words a vars n in valued v.count (op.negated v.term)
  value s named words (NotExpr k a) vars n = let v = value s named words a vars n in valued v.count (op.with_denial v.term)
  value s named words (LenExpr k a) vars n = let v = value s named words a vars n in valued v.count (op.length v.term)
  value s named words (BinaryExpr k o a b) vars n =
      let v = value s named words a vars n in let w = value s named words b vars v.count in
      valued w.count (op.operated o (s.is_number (node a) && s.is_number (node b)) v.term w.term)
  value s named words (IsExpr k a t) vars n =
      let v = value s named words a vars n in let f = holds named t v.term v.count in valued f.count (value_of f.term)
  value s named words (IndexExpr k a b) vars n =
      let v = value s named words a vars n in let w = value s named words b vars v.count in valued w.count (op.element v.term w.term)
  value s named words (FieldExpr k a name) vars n = let v = value s named words a vars n in valued v.count (field name v.term)
  value s named words (ListExpr k items) vars n = let vs = values s named words items vars n in valued vs.count (op.list vs.terms)
  value s named words (RepeatExpr k a b) vars n =
      let v = value s named words a vars n in let w = value s named words b vars v.count in valued w.count (op.repeated v.term w.term)
  value s named words (RecordExpr k fields) vars n =
      let vs = field_values s named words fields vars n in valued vs.count (op.record_of (field_names fields) vs.terms)
  value s named words (QuantExpr k all x a b body) vars n =
      let v = value s named words a vars n in let w = value s named words b vars v.count in
      let u = value s named words body (put vars x (int (int_name (word_at words x) w.count))) (suc w.count) in
      valued u.count (op.quantified all (word_at words x) w.count v.term w.term u.term)

  pub values : {N : Type 0} → Setting N → Naming → List (List ℕ) → Exprs N → Vars → ℕ → ValuedAll
  values s named words NoExprs vars n = valued_all n []
  values s named words (MoreExprs e es) vars n =
      let v = value s named words e vars n in let vs = values s named words es vars v.count in valued_all vs.count (v.term ∷ vs.terms)

  pub field_values : {N : Type 0} → Setting N → Naming → List (List ℕ) → Fields N → Vars → ℕ → ValuedAll
  field_values s named words NoFields vars n = valued_all n []
  field_values s named words (MoreFields name e fs) vars n =
      let v = value s named words e vars n in let vs = field_values s named words fs vars v.count in valued_all vs.count (v.term ∷ vs.terms)

  pub field_names : {N : Type 0} → Fields N → List (List ℕ)
  field_names NoFields = []
  field_names (MoreFields name e fs) = name ∷ field_names fs

-- ---- named types

-- the formula of a clause
abbrev pub clause_formula : {N : Type 0} → Setting N → Naming → List (List ℕ) → Expr N → Vars → ℕ → Valued
clause_formula s named words e vars n = let v = value s named words e vars n in valued v.count (formula v.term)

-- the formulas of clauses, one after the other
abbrev pub clause_formulas : {N : Type 0} → Setting N → Naming → List (List ℕ) → List (Expr N) → Vars → ℕ → ValuedAll
clause_formulas s named words [] vars n = valued_all n []
clause_formulas s named words (e ∷ es) vars n =
    let f = clause_formula s named words e vars n in let fs = clause_formulas s named words es vars f.count in valued_all fs.count (f.term ∷ fs.terms)

-- the definition and the clauses of a named type
abbrev pub defined : {N : Type 0} → Setting N → Naming → Alias N → Term → ℕ → Valued
defined s named a v n =
    let f = holds named a.ty v n in let fs = clause_formulas s named a.variables a.clauses (put_if [] a.variable v) f.count in
    valued fs.count (all_of (f.term ∷ fs.terms))

-- a name: its definition and its clauses where it is written out, else its test; no more than so many names are written out one in another
abbrev pub named_to : {N : Type 0} → Setting N → ℕ → Naming
named_to s zero number v n = valued n (in_type number v)
named_to s (suc depth) number v n = if is_written s.types number then defined s (named_to s depth) (alias_at s.types number) v n else valued n (in_type number v)

-- one that is written out doesn't lead back to itself, so no more than there are
abbrev pub named_in : {N : Type 0} → Setting N → Naming
named_in s = named_to s (length s.types)

-- what the test of a named type stands for: a Val name with the number 0, and the definition and the clauses of it, whose quantifiers have the numbers from 1
abbrev pub test_name : {N : Type 0} → Setting N → ℕ → Term
test_name s number = let a = alias_at s.types number in val_name (word_if a.variables a.variable x_word) 0

abbrev pub test_formula : {N : Type 0} → Setting N → ℕ → Term
test_formula s number = (defined s (named_in s) (alias_at s.types number) (test_name s number) 1).term
