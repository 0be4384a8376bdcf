-- The terms of walks are Val terms.
use Rattle.std.proofs.Common.{ℕ, zero, suc, List, [], ◌∷◌, ◌++◌, ◌&&◌}
use Rattle.wy_core.specs.Types.{Ty}
use Rattle.wy_core.specs.CoreTree.{Expr, NullExpr, BoolExpr, IntExpr, VarExpr, CallExpr, NegExpr, NotExpr, LenExpr, BinaryExpr, IsExpr, IndexExpr, FieldExpr, ListExpr, RepeatExpr, RecordExpr, QuantExpr, Exprs, NoExprs, MoreExprs, Fields, NoFields, MoreFields}
use Rattle.wy_term.specs.Term.{Term}
use Rattle.wy_term.specs.Sorts.{val_sort, formula_sort}
use Rattle.wy_sound_terms.specs.wy_sem.Expressions.{node}
use Rattle.wy_sound_terms.specs.wy_vc_spec.Making.{int_name, num, int, at_most, less_than}
use Rattle.wy_sound_terms.specs.wy_vc_spec.Variables.{Vars, put}
use Rattle.wy_sound_terms.specs.wy_vc_spec.Values.{Setting, word_at, field_names}
use Rattle.wy_sound_terms.specs.wy_vc_spec.Owed.{assume}
use Rattle.wy_sound_terms.specs.wy_vc_spec.Walks.{CallWalks, right_hyps}
use Rattle.wy_sound_terms.proofs.formed_lemmas.MakingLemmas.{IsOf, AllOf, none, more, null_sorted, truth_sorted, number_sorted, int_sorted, int_name_sorted, value_sorted, field_sorted, negated_sorted, denial_sorted, length_sorted, element_sorted, repeated_sorted, list_sorted, record_sorted, operated_sorted, quantified_sorted}
use Rattle.wy_sound_terms.proofs.formed_lemmas.ValueLemmas.{AreData, put_data, variable_sorted}
use Rattle.wy_sound_walks.proofs.expressions_lemmas.GenericWalks.{Tests, walk_by, walk_all_by, walk_fields_by}

module _ {N : Type 0} (s : Setting N) (tests : Tests) (call : CallWalks) (words : List (List ℕ))
    (formulas : (t : Ty) (n : ℕ) (v : Term) → IsOf val_sort v → IsOf formula_sort (tests t v n).term)
    (calls_sorted : (f at n : ℕ) (ts hyps : List Term) → AllOf val_sort ts → IsOf val_sort (call f at ts hyps n).term) where
  mutual
    pub walk_sorted : (e : Expr N) (vars : Vars) (hyps : List Term) (n : ℕ) → AreData vars → IsOf val_sort (walk_by s tests call words e vars hyps n).term
    walk_sorted (NullExpr k) vars hyps n d = null_sorted
    walk_sorted (BoolExpr k b) vars hyps n d = truth_sorted b
    walk_sorted (IntExpr k z) vars hyps n d = int_sorted (number_sorted z)
    walk_sorted (VarExpr k x) vars hyps n d = variable_sorted d x
    walk_sorted (CallExpr k f args) vars hyps n d =
        let u = walk_all_by s tests call words args vars hyps n in calls_sorted f (s.place k) u.count u.terms u.hyps (all_sorted args vars hyps n d)
    walk_sorted (NegExpr k a) vars hyps n d = negated_sorted (walk_sorted a vars hyps n d)
    walk_sorted (NotExpr k a) vars hyps n d = denial_sorted (walk_sorted a vars hyps n d)
    walk_sorted (LenExpr k a) vars hyps n d = length_sorted (walk_sorted a vars hyps n d)
    walk_sorted (BinaryExpr k o a b) vars hyps n d =
        let u = walk_by s tests call words a vars hyps n in
        operated_sorted o (s.is_number (node a) && s.is_number (node b)) (walk_sorted a vars hyps n d) (walk_sorted b vars (right_hyps o u.term u.hyps) u.count d)
    walk_sorted (IsExpr k a t) vars hyps n d =
        let u = walk_by s tests call words a vars hyps n in value_sorted (formulas t u.count u.term (walk_sorted a vars hyps n d))
    walk_sorted (IndexExpr k a b) vars hyps n d =
        let u = walk_by s tests call words a vars hyps n in element_sorted (walk_sorted a vars hyps n d) (walk_sorted b vars u.hyps u.count d)
    walk_sorted (FieldExpr k a name) vars hyps n d = field_sorted name (walk_sorted a vars hyps n d)
    walk_sorted (ListExpr k items) vars hyps n d = list_sorted (all_sorted items vars hyps n d)
    walk_sorted (RepeatExpr k a b) vars hyps n d =
        let u = walk_by s tests call words a vars hyps n in repeated_sorted (walk_sorted a vars hyps n d) (walk_sorted b vars u.hyps u.count d)
    walk_sorted (RecordExpr k fields) vars hyps n d = record_sorted (field_names fields) (fields_sorted fields vars hyps n d)
    walk_sorted (QuantExpr k all x a b body) vars hyps n d =
        let u = walk_by s tests call words a vars hyps n in let w = walk_by s tests call words b vars u.hyps u.count in
        let name = int_name (word_at words x) w.count in
        quantified_sorted all (word_at words x) w.count (walk_sorted a vars hyps n d) (walk_sorted b vars u.hyps u.count d)
        (walk_sorted body (put vars x (int name)) (assume (assume w.hyps (at_most (num u.term) name)) (less_than name (num w.term))) (suc w.count) (put_data x d (int_sorted (int_name_sorted (word_at words x) w.count))))

    pub all_sorted : (es : Exprs N) (vars : Vars) (hyps : List Term) (n : ℕ) → AreData vars → AllOf val_sort (walk_all_by s tests call words es vars hyps n).terms
    all_sorted NoExprs vars hyps n d = none
    all_sorted (MoreExprs e es) vars hyps n d =
        let u = walk_by s tests call words e vars hyps n in more (walk_sorted e vars hyps n d) (all_sorted es vars u.hyps u.count d)

    pub fields_sorted : (fs : Fields N) (vars : Vars) (hyps : List Term) (n : ℕ) → AreData vars → AllOf val_sort (walk_fields_by s tests call words fs vars hyps n).terms
    fields_sorted NoFields vars hyps n d = none
    fields_sorted (MoreFields name e fs) vars hyps n d =
        let u = walk_by s tests call words e vars hyps n in more (walk_sorted e vars hyps n d) (fields_sorted fs vars u.hyps u.count d)
