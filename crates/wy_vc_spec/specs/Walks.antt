-- What an expression owes.
use Rattle.std.specs.Prelude.{ℕ, suc, List, [], ◌∷◌, ◌++◌, ◌&&◌, pos}
use Rattle.wy_sem.specs.wy_core.CoreTree.{Expr, NullExpr, BoolExpr, IntExpr, VarExpr, CallExpr, NegExpr, NotExpr, LenExpr, BinaryExpr, IsExpr, IndexExpr, FieldExpr, ListExpr, RepeatExpr, RecordExpr, QuantExpr, Exprs, NoExprs, MoreExprs, Fields, NoFields, MoreFields, Routine}
use Rattle.wy_sem.specs.wy_core.declared.expressions.Op.{Op}
use Rattle.wy_sem.specs.wy_core.declared.expressions.Op.TheVariants as sign
use Rattle.wy_sem.specs.wy_term.declared.cond.CondKind.{CondKind}
use Rattle.wy_sem.specs.wy_term.declared.cond.CondKind.TheVariants as kind
use Rattle.wy_sem.specs.wy_term.Term.{Term}
use Rattle.wy_sem.specs.wy_value.declared.bounds.TheConstants.{INT_MIN, INT_MAX}
use Rattle.wy_sem.specs.Expressions.{node}
use Rattle.wy_vc_spec.specs.Making.{number_of, int_name, num, len, field, null, truth, int, value_of, any_of, at_most, less_than, denied, formula}
use Rattle.wy_vc_spec.specs.Variables.{Vars, put}
use Rattle.wy_vc_spec.specs.Operations as op
use Rattle.wy_vc_spec.specs.Values.{Setting, longest, word_at, variable, field_names}
use Rattle.wy_vc_spec.specs.Owed.{Owed, assume, assume_all, owe}
use Rattle.wy_vc_spec.specs.Clauses.{in_type}
use Rattle.wy_vc_spec.specs.Calls.{Walked, call_walk}

pub record WalkedAll : Type 0 where
  pub count : ℕ
  pub hyps : List Term
  pub terms : List Term
  pub owed : List Owed

-- ---- the table of what operations owe

-- the result of arithmetic is an `int`
abbrev pub range_goals : Term → List Term
range_goals v = at_most (number_of INT_MIN) (num v) ∷ at_most (num v) (number_of INT_MAX) ∷ []

-- a divisor is above 0 or below
abbrev pub divisor_goals : Term → List Term
divisor_goals v = any_of (less_than (number_of (pos 0)) (num v) ∷ less_than (num v) (number_of (pos 0)) ∷ []) ∷ []

-- an index is at least 0 and below the length of its array
abbrev pub index_goals : Term → Term → List Term
index_goals v i = at_most (number_of (pos 0)) (num i) ∷ less_than (num i) (len v) ∷ []

-- a length is one that an array can have
abbrev pub length_goals : Term → List Term
length_goals v = at_most (number_of (pos 0)) (num v) ∷ at_most (num v) longest ∷ []

-- goals of one kind
pub record Goals : Type 0 where
  pub kind : CondKind
  pub goals : List Term

abbrev pub goals_of : CondKind → List Term → Goals
goals_of kind goals = record { kind = kind; goals = goals }

-- what an operator owes, by its right operand and its result
abbrev pub operator_goals : Op → Term → Term → List Goals
operator_goals sign.Add w v = goals_of kind.Range (range_goals v) ∷ []
operator_goals sign.Sub w v = goals_of kind.Range (range_goals v) ∷ []
operator_goals sign.Mul w v = goals_of kind.Range (range_goals v) ∷ []
operator_goals sign.Div w v = goals_of kind.Divisor (divisor_goals w) ∷ goals_of kind.Range (range_goals v) ∷ []
operator_goals sign.Mod w v = goals_of kind.Divisor (divisor_goals w) ∷ []
operator_goals sign.Equal w v = []
operator_goals sign.Less w v = []
operator_goals sign.LessEqual w v = []
operator_goals sign.Greater w v = []
operator_goals sign.GreaterEqual w v = []
operator_goals sign.And w v = []
operator_goals sign.Or w v = []

-- what the right operand is walked under: for `&&` that the left one is true, for `||` that it is false
abbrev pub right_hyps : Op → Term → List Term → List Term
right_hyps sign.And v hyps = assume hyps (formula v)
right_hyps sign.Or v hyps = assume hyps (denied (formula v))
right_hyps o v hyps = hyps

-- what is assumed behind both operands: nothing that the right one of `&&` or `||` told
abbrev pub behind_hyps : Op → List Term → List Term → List Term
behind_hyps sign.And left right = left
behind_hyps sign.Or left right = left
behind_hyps o left right = right

-- ---- goals after a walk

abbrev pub assume_goals : List Term → List Goals → List Term
assume_goals hyps [] = hyps
assume_goals hyps (g ∷ gs) = assume_goals (assume_all hyps g.goals) gs

abbrev pub owe_goals : ℕ → List Term → List Goals → List Owed
owe_goals at hyps [] = []
owe_goals at hyps (g ∷ gs) = owe g.kind at hyps g.goals ++ owe_goals at (assume_all hyps g.goals) gs

-- a term of a node that owes these, behind its parts
abbrev pub owing : ℕ → ℕ → List Term → Term → List Goals → List Owed → Walked
owing at n hyps v goals owed = record { count = n; hyps = assume_goals hyps goals; term = v; owed = owed ++ owe_goals at hyps goals }

-- a term of a node that owes nothing itself
abbrev pub free : ℕ → List Term → Term → List Owed → Walked
free n hyps v owed = record { count = n; hyps = hyps; term = v; owed = owed }

-- the walk of a call: its number, its place, the terms of its arguments, the hypotheses, the count
abbrev pub CallWalks : Type 0
CallWalks = ℕ → ℕ → List Term → List Term → ℕ → Walked

abbrev mutual
  -- the term of an expression, and what is owed on the way to it
  pub walk : {N : Type 0} → Setting N → CallWalks → List (List ℕ) → Expr N → Vars → List Term → ℕ → Walked
  walk s call words (NullExpr k) vars hyps n = free n hyps null []
  walk s call words (BoolExpr k b) vars hyps n = free n hyps (truth b) []
  walk s call words (IntExpr k z) vars hyps n = free n hyps (int (number_of z)) []
  walk s call words (VarExpr k x) vars hyps n = free n hyps (variable vars x) []
  walk s call words (CallExpr k f args) vars hyps n =
      let vs = walk_all s call words args vars hyps n in let w = call f (s.place k) vs.terms vs.hyps vs.count in
      free w.count w.hyps w.term (vs.owed ++ w.owed)
  walk s call words (NegExpr k a) vars hyps n =
      let v = walk s call words a vars hyps n in
      owing (s.place k) v.count v.hyps (op.negated v.term) (goals_of kind.Range (range_goals (op.negated v.term)) ∷ []) v.owed
  walk s call words (NotExpr k a) vars hyps n =
      let v = walk s call words a vars hyps n in free v.count v.hyps (op.with_denial v.term) v.owed
  walk s call words (LenExpr k a) vars hyps n =
      let v = walk s call words a vars hyps n in free v.count v.hyps (op.length v.term) v.owed
  walk s call words (BinaryExpr k o a b) vars hyps n =
      let v = walk s call words a vars hyps n in
      let w = walk s call words b vars (right_hyps o v.term v.hyps) v.count in
      let made = op.operated o (s.is_number (node a) && s.is_number (node b)) v.term w.term in
      owing (s.place k) w.count (behind_hyps o v.hyps w.hyps) made (operator_goals o w.term made) (v.owed ++ w.owed)
  walk s call words (IsExpr k a t) vars hyps n =
      let v = walk s call words a vars hyps n in let f = in_type s t v.term v.count in free f.count v.hyps (value_of f.term) v.owed
  walk s call words (IndexExpr k a b) vars hyps n =
      let v = walk s call words a vars hyps n in let w = walk s call words b vars v.hyps v.count in
      owing (s.place k) w.count w.hyps (op.element v.term w.term) (goals_of kind.Index (index_goals v.term w.term) ∷ []) (v.owed ++ w.owed)
  walk s call words (FieldExpr k a name) vars hyps n =
      let v = walk s call words a vars hyps n in free v.count v.hyps (field name v.term) v.owed
  walk s call words (ListExpr k items) vars hyps n =
      let vs = walk_all s call words items vars hyps n in free vs.count vs.hyps (op.list vs.terms) vs.owed
  walk s call words (RepeatExpr k a b) vars hyps n =
      let v = walk s call words a vars hyps n in let w = walk s call words b vars v.hyps v.count in
      owing (s.place k) w.count w.hyps (op.repeated v.term w.term) (goals_of kind.Length (length_goals w.term) ∷ []) (v.owed ++ w.owed)
  walk s call words (RecordExpr k fields) vars hyps n =
      let vs = walk_fields s call words fields vars hyps n in free vs.count vs.hyps (op.record_of (field_names fields) vs.terms) vs.owed
  walk s call words (QuantExpr k all x a b body) vars hyps n =
      let v = walk s call words a vars hyps n in let w = walk s call words b vars v.hyps v.count in
      let i = int_name (word_at words x) w.count in
      let u = walk s call words body (put vars x (int i)) (assume (assume w.hyps (at_most (num v.term) i)) (less_than i (num w.term))) (suc w.count) in
      free u.count w.hyps (op.quantified all (word_at words x) w.count v.term w.term u.term) (v.owed ++ (w.owed ++ u.owed))

  pub walk_all : {N : Type 0} → Setting N → CallWalks → List (List ℕ) → Exprs N → Vars → List Term → ℕ → WalkedAll
  walk_all s call words NoExprs vars hyps n = record { count = n; hyps = hyps; terms = []; owed = [] }
  walk_all s call words (MoreExprs e es) vars hyps n =
      let v = walk s call words e vars hyps n in let vs = walk_all s call words es vars v.hyps v.count in
      record { count = vs.count; hyps = vs.hyps; terms = v.term ∷ vs.terms; owed = v.owed ++ vs.owed }

  pub walk_fields : {N : Type 0} → Setting N → CallWalks → List (List ℕ) → Fields N → Vars → List Term → ℕ → WalkedAll
  walk_fields s call words NoFields vars hyps n = record { count = n; hyps = hyps; terms = []; owed = [] }
  walk_fields s call words (MoreFields name e fs) vars hyps n =
      let v = walk s call words e vars hyps n in let vs = walk_fields s call words fs vars v.hyps v.count in
      record { count = vs.count; hyps = vs.hyps; terms = v.term ∷ vs.terms; owed = v.owed ++ vs.owed }

-- what a walk rests on: the setting, and the functions and methods
pub record Program (N : Type 0) : Type 0 where
  pub setting : Setting N
  pub routines : List (Routine N)

-- the term of an expression of code, and what is owed on the way to it
abbrev pub walk_expr : {N : Type 0} → Program N → List (List ℕ) → Expr N → Vars → List Term → ℕ → Walked
walk_expr p words e vars hyps n = walk p.setting (call_walk p.setting p.routines) words e vars hyps n
