-- The walk of an expression with any formulas for tests of types. With those of the conditions it is their walk; and the value of an expression that calls nothing is its term.
use Rattle.std.proofs.Common.{◌≡◌, ℕ, zero, suc, List, [], ◌∷◌, ◌++◌, Bool, true, false, ◌&&◌, refl, sym, ap, ◌∙◌, subst}
use Rattle.wy_core.specs.Types.{Ty}
use Rattle.wy_core.specs.CoreTree.{Expr, NullExpr, BoolExpr, IntExpr, VarExpr, CallExpr, NegExpr, NotExpr, LenExpr, BinaryExpr, IsExpr, IndexExpr, FieldExpr, ListExpr, RepeatExpr, RecordExpr, QuantExpr, Exprs, NoExprs, MoreExprs, Fields, NoFields, MoreFields}
use Rattle.wy_term.specs.declared.cond.CondKind.TheVariants as kind
use Rattle.wy_term.specs.Term.{Term}
use Rattle.wy_sound_terms.specs.wy_sem.Expressions.{node}
use Rattle.wy_sound_terms.specs.wy_vc_spec.Making.{number_of, int_name, num, field, null, truth, int, value_of, at_most, less_than}
use Rattle.wy_sound_terms.specs.wy_vc_spec.Variables.{Vars, put}
use Rattle.wy_sound_terms.specs.wy_vc_spec.Operations as op
use Rattle.wy_sound_terms.specs.wy_vc_spec.Values.{Setting, Valued, ValuedAll, valued, valued_all, Naming, word_at, variable, field_names, holds, value, values, field_values}
use Rattle.wy_sound_terms.specs.wy_vc_spec.Owed.{Owed, assume}
use Rattle.wy_sound_terms.specs.wy_vc_spec.Clauses.{in_type}
use Rattle.wy_sound_terms.specs.wy_vc_spec.Calls.{Walked}
use Rattle.wy_sound_terms.specs.wy_vc_spec.Walks.{WalkedAll, CallWalks, range_goals, index_goals, length_goals, goals_of, operator_goals, right_hyps, behind_hyps, owing, free, walk, walk_all, walk_fields}

-- the formula of a test: its type, the datum, the number of names made
abbrev pub Tests : Type 0
Tests = Ty → Term → ℕ → Valued

abbrev mutual
  pub walk_by : {N : Type 0} → Setting N → Tests → CallWalks → List (List ℕ) → Expr N → Vars → List Term → ℕ → Walked
  walk_by s tests call words (NullExpr k) vars hyps n = free n hyps null []
  walk_by s tests call words (BoolExpr k b) vars hyps n = free n hyps (truth b) []
  walk_by s tests call words (IntExpr k z) vars hyps n = free n hyps (int (number_of z)) []
  walk_by s tests call words (VarExpr k x) vars hyps n = free n hyps (variable vars x) []
  walk_by s tests call words (CallExpr k f args) vars hyps n =
      let vs = walk_all_by s tests call words args vars hyps n in let w = call f (s.place k) vs.terms vs.hyps vs.count in
      free w.count w.hyps w.term (vs.owed ++ w.owed)
  walk_by s tests call words (NegExpr k a) vars hyps n =
      let v = walk_by s tests call words a vars hyps n in
      owing (s.place k) v.count v.hyps (op.negated v.term) (goals_of kind.Range (range_goals (op.negated v.term)) ∷ []) v.owed
  walk_by s tests call words (NotExpr k a) vars hyps n =
      let v = walk_by s tests call words a vars hyps n in free v.count v.hyps (op.with_denial v.term) v.owed
  walk_by s tests call words (LenExpr k a) vars hyps n =
      let v = walk_by s tests call words a vars hyps n in free v.count v.hyps (op.length v.term) v.owed
  walk_by s tests call words (BinaryExpr k o a b) vars hyps n =
      let v = walk_by s tests call words a vars hyps n in
      let w = walk_by s tests call words b vars (right_hyps o v.term v.hyps) v.count in
      let made = op.operated o (s.is_number (node a) && s.is_number (node b)) v.term w.term in
      owing (s.place k) w.count (behind_hyps o v.hyps w.hyps) made (operator_goals o w.term made) (v.owed ++ w.owed)
  walk_by s tests call words (IsExpr k a t) vars hyps n =
      let v = walk_by s tests call words a vars hyps n in let f = tests t v.term v.count in free f.count v.hyps (value_of f.term) v.owed
  walk_by s tests call words (IndexExpr k a b) vars hyps n =
      let v = walk_by s tests call words a vars hyps n in let w = walk_by s tests call words b vars v.hyps v.count in
      owing (s.place k) w.count w.hyps (op.element v.term w.term) (goals_of kind.Index (index_goals v.term w.term) ∷ []) (v.owed ++ w.owed)
  walk_by s tests call words (FieldExpr k a name) vars hyps n =
      let v = walk_by s tests call words a vars hyps n in free v.count v.hyps (field name v.term) v.owed
  walk_by s tests call words (ListExpr k items) vars hyps n =
      let vs = walk_all_by s tests call words items vars hyps n in free vs.count vs.hyps (op.list vs.terms) vs.owed
  walk_by s tests call words (RepeatExpr k a b) vars hyps n =
      let v = walk_by s tests call words a vars hyps n in let w = walk_by s tests call words b vars v.hyps v.count in
      owing (s.place k) w.count w.hyps (op.repeated v.term w.term) (goals_of kind.Length (length_goals w.term) ∷ []) (v.owed ++ w.owed)
  walk_by s tests call words (RecordExpr k fields) vars hyps n =
      let vs = walk_fields_by s tests call words fields vars hyps n in free vs.count vs.hyps (op.record_of (field_names fields) vs.terms) vs.owed
  walk_by s tests call words (QuantExpr k all x a b body) vars hyps n =
      let v = walk_by s tests call words a vars hyps n in let w = walk_by s tests call words b vars v.hyps v.count in
      let i = int_name (word_at words x) w.count in
      let u = walk_by s tests call words body (put vars x (int i)) (assume (assume w.hyps (at_most (num v.term) i)) (less_than i (num w.term))) (suc w.count) in
      free u.count w.hyps (op.quantified all (word_at words x) w.count v.term w.term u.term) (v.owed ++ (w.owed ++ u.owed))

  pub walk_all_by : {N : Type 0} → Setting N → Tests → CallWalks → List (List ℕ) → Exprs N → Vars → List Term → ℕ → WalkedAll
  walk_all_by s tests call words NoExprs vars hyps n = record { count = n; hyps = hyps; terms = []; owed = [] }
  walk_all_by s tests call words (MoreExprs e es) vars hyps n =
      let v = walk_by s tests call words e vars hyps n in let vs = walk_all_by s tests call words es vars v.hyps v.count in
      record { count = vs.count; hyps = vs.hyps; terms = v.term ∷ vs.terms; owed = v.owed ++ vs.owed }

  pub walk_fields_by : {N : Type 0} → Setting N → Tests → CallWalks → List (List ℕ) → Fields N → Vars → List Term → ℕ → WalkedAll
  walk_fields_by s tests call words NoFields vars hyps n = record { count = n; hyps = hyps; terms = []; owed = [] }
  walk_fields_by s tests call words (MoreFields name e fs) vars hyps n =
      let v = walk_by s tests call words e vars hyps n in let vs = walk_fields_by s tests call words fs vars v.hyps v.count in
      record { count = vs.count; hyps = vs.hyps; terms = v.term ∷ vs.terms; owed = v.owed ++ vs.owed }

-- ---- with the formulas of the conditions

module _ {N : Type 0} (s : Setting N) (call : CallWalks) (words : List (List ℕ)) where
  mutual
    pub walk_is : (e : Expr N) (vars : Vars) (hyps : List Term) (n : ℕ) → walk s call words e vars hyps n ≡ walk_by s (in_type s) call words e vars hyps n
    walk_is (NullExpr k) vars hyps n = refl
    walk_is (BoolExpr k b) vars hyps n = refl
    walk_is (IntExpr k z) vars hyps n = refl
    walk_is (VarExpr k x) vars hyps n = refl
    walk_is (CallExpr k f args) vars hyps n = rw (all_is args vars hyps n) refl
    walk_is (NegExpr k a) vars hyps n = rw (walk_is a vars hyps n) refl
    walk_is (NotExpr k a) vars hyps n = rw (walk_is a vars hyps n) refl
    walk_is (LenExpr k a) vars hyps n = rw (walk_is a vars hyps n) refl
    walk_is (BinaryExpr k o a b) vars hyps n =
        let v = walk_by s (in_type s) call words a vars hyps n in
        rw (walk_is a vars hyps n) (rw (walk_is b vars (right_hyps o v.term v.hyps) v.count) refl)
    walk_is (IsExpr k a t) vars hyps n = rw (walk_is a vars hyps n) refl
    walk_is (IndexExpr k a b) vars hyps n =
        let v = walk_by s (in_type s) call words a vars hyps n in rw (walk_is a vars hyps n) (rw (walk_is b vars v.hyps v.count) refl)
    walk_is (FieldExpr k a name) vars hyps n = rw (walk_is a vars hyps n) refl
    walk_is (ListExpr k items) vars hyps n = rw (all_is items vars hyps n) refl
    walk_is (RepeatExpr k a b) vars hyps n =
        let v = walk_by s (in_type s) call words a vars hyps n in rw (walk_is a vars hyps n) (rw (walk_is b vars v.hyps v.count) refl)
    walk_is (RecordExpr k fields) vars hyps n = rw (fields_are fields vars hyps n) refl
    walk_is (QuantExpr k all x a b body) vars hyps n =
        let v = walk_by s (in_type s) call words a vars hyps n in let w = walk_by s (in_type s) call words b vars v.hyps v.count in
        let i = int_name (word_at words x) w.count in
        rw (walk_is a vars hyps n) (rw (walk_is b vars v.hyps v.count) (rw (walk_is body (put vars x (int i)) (assume (assume w.hyps (at_most (num v.term) i)) (less_than i (num w.term))) (suc w.count)) refl))

    pub all_is : (es : Exprs N) (vars : Vars) (hyps : List Term) (n : ℕ) → walk_all s call words es vars hyps n ≡ walk_all_by s (in_type s) call words es vars hyps n
    all_is NoExprs vars hyps n = refl
    all_is (MoreExprs e es) vars hyps n =
        let v = walk_by s (in_type s) call words e vars hyps n in rw (walk_is e vars hyps n) (rw (all_is es vars v.hyps v.count) refl)

    pub fields_are : (fs : Fields N) (vars : Vars) (hyps : List Term) (n : ℕ) → walk_fields s call words fs vars hyps n ≡ walk_fields_by s (in_type s) call words fs vars hyps n
    fields_are NoFields vars hyps n = refl
    fields_are (MoreFields name e fs) vars hyps n =
        let v = walk_by s (in_type s) call words e vars hyps n in rw (walk_is e vars hyps n) (rw (fields_are fs vars v.hyps v.count) refl)
