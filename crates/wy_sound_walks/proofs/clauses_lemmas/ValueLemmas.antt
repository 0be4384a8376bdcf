-- The value of an expression that calls nothing is the term of its walk.
use Rattle.std.proofs.Common.{◌≡◌, ℕ, zero, suc, List, [], ◌∷◌, refl}
use Rattle.wy_core.specs.CoreTree.{Expr, NullExpr, BoolExpr, IntExpr, VarExpr, CallExpr, NegExpr, NotExpr, LenExpr, BinaryExpr, IsExpr, IndexExpr, FieldExpr, ListExpr, RepeatExpr, RecordExpr, QuantExpr, Exprs, NoExprs, MoreExprs, Fields, NoFields, MoreFields}
use Rattle.wy_term.specs.Term.{Term}
use Rattle.wy_sound_terms.specs.wy_vc_spec.Making.{int_name, num, int, at_most, less_than}
use Rattle.wy_sound_terms.specs.wy_vc_spec.Variables.{Vars, put}
use Rattle.wy_sound_terms.specs.wy_vc_spec.Values.{Setting, Valued, ValuedAll, valued, valued_all, Naming, word_at, holds, value, values, field_values}
use Rattle.wy_sound_terms.specs.wy_vc_spec.Owed.{assume}
use Rattle.wy_sound_terms.specs.wy_vc_spec.Calls.{Walked}
use Rattle.wy_sound_terms.specs.wy_vc_spec.Walks.{WalkedAll, CallWalks, right_hyps}
use Rattle.wy_sound_walks.proofs.expressions_lemmas.GenericWalks.{walk_by, walk_all_by, walk_fields_by}
use Rattle.wy_sound_walks.specs.clauses.Quiet.{CallsNothing, AllCallNothing, FieldsCallNothing}

abbrev pub of_walk : Walked → Valued
of_walk w = valued w.count w.term

abbrev of_walks : WalkedAll → ValuedAll
of_walks w = valued_all w.count w.terms

module _ {N : Type 0} (s : Setting N) (named : Naming) (call : CallWalks) (words : List (List ℕ)) where
  abbrev W : Expr N → Vars → List Term → ℕ → Walked
  W e vars hyps n = walk_by s (holds named) call words e vars hyps n

  mutual
    pub value_is : (e : Expr N) → CallsNothing e → (vars : Vars) (hyps : List Term) (n : ℕ) → value s named words e vars n ≡ of_walk (W e vars hyps n)
    value_is (NullExpr k) q vars hyps n = refl
    value_is (BoolExpr k b) q vars hyps n = refl
    value_is (IntExpr k z) q vars hyps n = refl
    value_is (VarExpr k x) q vars hyps n = refl
    value_is (CallExpr k f es) q vars hyps n = absurd q
    value_is (NegExpr k a) q vars hyps n = rw (value_is a q vars hyps n) refl
    value_is (NotExpr k a) q vars hyps n = rw (value_is a q vars hyps n) refl
    value_is (LenExpr k a) q vars hyps n = rw (value_is a q vars hyps n) refl
    value_is (BinaryExpr k o a b) q vars hyps n =
        let v = W a vars hyps n in rw (value_is a q.0 vars hyps n) (rw (value_is b q.1 vars (right_hyps o v.term v.hyps) v.count) refl)
    value_is (IsExpr k a t) q vars hyps n = rw (value_is a q vars hyps n) refl
    value_is (IndexExpr k a b) q vars hyps n = let v = W a vars hyps n in rw (value_is a q.0 vars hyps n) (rw (value_is b q.1 vars v.hyps v.count) refl)
    value_is (FieldExpr k a name) q vars hyps n = rw (value_is a q vars hyps n) refl
    value_is (ListExpr k es) q vars hyps n = rw (values_are es q vars hyps n) refl
    value_is (RepeatExpr k a b) q vars hyps n = let v = W a vars hyps n in rw (value_is a q.0 vars hyps n) (rw (value_is b q.1 vars v.hyps v.count) refl)
    value_is (RecordExpr k fs) q vars hyps n = rw (parts_are fs q vars hyps n) refl
    value_is (QuantExpr k all x a b body) q vars hyps n =
        let v = W a vars hyps n in let w = W b vars v.hyps v.count in
        let i = int_name (word_at words x) w.count in
        rw (value_is a q.0 vars hyps n) (rw (value_is b q.1 vars v.hyps v.count) (rw (value_is body q.2 (put vars x (int i)) (assume (assume w.hyps (at_most (num v.term) i)) (less_than i (num w.term))) (suc w.count)) refl))

    pub values_are : (es : Exprs N) → AllCallNothing es → (vars : Vars) (hyps : List Term) (n : ℕ) → values s named words es vars n ≡ of_walks (walk_all_by s (holds named) call words es vars hyps n)
    values_are NoExprs q vars hyps n = refl
    values_are (MoreExprs e es) q vars hyps n = let v = W e vars hyps n in rw (value_is e q.0 vars hyps n) (rw (values_are es q.1 vars v.hyps v.count) refl)

    pub parts_are : (fs : Fields N) → FieldsCallNothing fs → (vars : Vars) (hyps : List Term) (n : ℕ) → field_values s named words fs vars n ≡ of_walks (walk_fields_by s (holds named) call words fs vars hyps n)
    parts_are NoFields q vars hyps n = refl
    parts_are (MoreFields name e fs) q vars hyps n = let v = W e vars hyps n in rw (value_is e q.0 vars hyps n) (rw (parts_are fs q.1 vars v.hyps v.count) refl)
