-- Walks make names from their count on.
use Rattle.std.proofs.Common.{◌≡◌, ℕ, zero, suc, ◌+◌, ◌≤◌, List, [], ◌∷◌, ◌++◌, arith}
use Rattle.wy_core.specs.Types.{Ty}
use Rattle.wy_core.specs.CoreTree.{Expr, NullExpr, BoolExpr, IntExpr, VarExpr, CallExpr, NegExpr, NotExpr, LenExpr, BinaryExpr, IsExpr, IndexExpr, FieldExpr, ListExpr, RepeatExpr, RecordExpr, QuantExpr, Exprs, NoExprs, MoreExprs, Fields, NoFields, MoreFields}
use Rattle.wy_term.specs.Term.{Term}
use Rattle.wy_sound_terms.specs.wy_vc_spec.Making.{int_name, num, int, at_most, less_than}
use Rattle.wy_sound_terms.specs.wy_vc_spec.Variables.{Vars, put}
use Rattle.wy_sound_terms.specs.wy_vc_spec.Values.{Setting, word_at}
use Rattle.wy_sound_terms.specs.wy_vc_spec.Owed.{assume}
use Rattle.wy_sound_terms.specs.wy_vc_spec.Walks.{CallWalks, right_hyps}
use Rattle.wy_sound_walks.proofs.expressions_lemmas.GenericWalks.{Tests, walk_by, walk_all_by, walk_fields_by}

module _ {N : Type 0} (s : Setting N) (tests : Tests) (call : CallWalks) (words : List (List ℕ))
    (tests_grow : (t : Ty) (v : Term) (n : ℕ) → n ≤ (tests t v n).count)
    (calls_grow : (f at : ℕ) (ts hyps : List Term) (n : ℕ) → n ≤ (call f at ts hyps n).count) where
  mutual
    pub walk_grows : (e : Expr N) (vars : Vars) (hyps : List Term) (n : ℕ) → n ≤ (walk_by s tests call words e vars hyps n).count
    walk_grows (NullExpr k) vars hyps n = omega arith
    walk_grows (BoolExpr k b) vars hyps n = omega arith
    walk_grows (IntExpr k z) vars hyps n = omega arith
    walk_grows (VarExpr k x) vars hyps n = omega arith
    walk_grows (CallExpr k f args) vars hyps n =
        let u = walk_all_by s tests call words args vars hyps n in let i = all_grow args vars hyps n in let j = calls_grow f (s.place k) u.terms u.hyps u.count in omega (arith, i, j)
    walk_grows (NegExpr k a) vars hyps n = walk_grows a vars hyps n
    walk_grows (NotExpr k a) vars hyps n = walk_grows a vars hyps n
    walk_grows (LenExpr k a) vars hyps n = walk_grows a vars hyps n
    walk_grows (BinaryExpr k o a b) vars hyps n =
        let u = walk_by s tests call words a vars hyps n in let i = walk_grows a vars hyps n in let j = walk_grows b vars (right_hyps o u.term u.hyps) u.count in omega (arith, i, j)
    walk_grows (IsExpr k a t) vars hyps n =
        let u = walk_by s tests call words a vars hyps n in let i = walk_grows a vars hyps n in let j = tests_grow t u.term u.count in omega (arith, i, j)
    walk_grows (IndexExpr k a b) vars hyps n =
        let u = walk_by s tests call words a vars hyps n in let i = walk_grows a vars hyps n in let j = walk_grows b vars u.hyps u.count in omega (arith, i, j)
    walk_grows (FieldExpr k a name) vars hyps n = walk_grows a vars hyps n
    walk_grows (ListExpr k items) vars hyps n = all_grow items vars hyps n
    walk_grows (RepeatExpr k a b) vars hyps n =
        let u = walk_by s tests call words a vars hyps n in let i = walk_grows a vars hyps n in let j = walk_grows b vars u.hyps u.count in omega (arith, i, j)
    walk_grows (RecordExpr k fields) vars hyps n = fields_grow fields vars hyps n
    walk_grows (QuantExpr k all x a b body) vars hyps n =
        let u = walk_by s tests call words a vars hyps n in let w = walk_by s tests call words b vars u.hyps u.count in
        let name = int_name (word_at words x) w.count in
        let i = walk_grows a vars hyps n in let j = walk_grows b vars u.hyps u.count in
        let l = walk_grows body (put vars x (int name)) (assume (assume w.hyps (at_most (num u.term) name)) (less_than name (num w.term))) (suc w.count) in
        omega (arith, i, j, l)

    pub all_grow : (es : Exprs N) (vars : Vars) (hyps : List Term) (n : ℕ) → n ≤ (walk_all_by s tests call words es vars hyps n).count
    all_grow NoExprs vars hyps n = omega arith
    all_grow (MoreExprs e es) vars hyps n =
        let u = walk_by s tests call words e vars hyps n in let i = walk_grows e vars hyps n in let j = all_grow es vars u.hyps u.count in omega (arith, i, j)

    pub fields_grow : (fs : Fields N) (vars : Vars) (hyps : List Term) (n : ℕ) → n ≤ (walk_fields_by s tests call words fs vars hyps n).count
    fields_grow NoFields vars hyps n = omega arith
    fields_grow (MoreFields name e fs) vars hyps n =
        let u = walk_by s tests call words e vars hyps n in let i = walk_grows e vars hyps n in let j = fields_grow fs vars u.hyps u.count in omega (arith, i, j)
