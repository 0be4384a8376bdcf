-- The evaluation of expressions keeps each relation of runs.
use Rattle.std.proofs.Common.{ℕ, List, [], ◌∷◌, Bool}
use Rattle.std.specs.Prelude.{Option, Some}
use Rattle.wy_term.specs.wy_value.Datum.{Datum, Null, Truth, Whole, Array, Record, Fields, no_fields, field}
use Rattle.wy_types.specs.wy_core.Types.{Ty}
use Rattle.wy_types.specs.wy_core.CoreTree as tree
use Rattle.wy_types.specs.wy_core.CoreTree.{Expr, NullExpr, BoolExpr, IntExpr, VarExpr, CallExpr, NegExpr, NotExpr, LenExpr, BinaryExpr, IsExpr, IndexExpr, FieldExpr, ListExpr, RepeatExpr, RecordExpr, QuantExpr, Exprs, NoExprs, MoreExprs, NoFields, MoreFields}
use Rattle.wy_sem.specs.Meter.{Run}
use Rattle.wy_sem.specs.Expressions.{Store, slot, put, Setting, eval, eval_all, eval_fields}
use Rattle.wy_sem.specs.Relation.{Relation, Spends, Turns}
use Rattle.wy_sem.proofs.RelatedOperations.{needed-kept, negated-kept, denied-kept, length-kept, operated-kept, item-kept, field-kept, repeated-kept, quantified-kept}
use Rattle.wy_term.specs.wy_value.Seen.{data_of}

abbrev pub setting : {N : Type 0} → (N → ℕ) → Option ℕ → (Bool → Ty → Datum → Run Bool) → (ℕ → ℕ → List Datum → Run (Option Datum)) → Setting N
setting place limit test call = record { place = place; limit = limit; test = test; call = call }

module _ {N : Type 0} (place : N → ℕ) (q : Relation) (paid : Bool) (l1 l2 : Option ℕ) (spends : Spends q paid) (turns : Turns q l1 l2 paid)
    (t1 t2 : Bool → Ty → Datum → Run Bool) (tests : (t : Ty) (d : Datum) → q.Rel Bool (t1 paid t d) (t2 paid t d))
    (c1 c2 : ℕ → ℕ → List Datum → Run (Option Datum)) (calls : (f at : ℕ) (vs : List Datum) → q.Rel (Option Datum) (c1 f at vs) (c2 f at vs)) where
  mutual
    pub eval-kept : (e : Expr N) (s : Store) → q.Rel Datum (eval (setting place l1 t1 c1) paid e s) (eval (setting place l2 t2 c2) paid e s)
    eval-kept (NullExpr n) s = spends Datum _ _ (q.done Datum Null)
    eval-kept (BoolExpr n b) s = spends Datum _ _ (q.done Datum (Truth b))
    eval-kept (IntExpr n z) s = spends Datum _ _ (q.done Datum (Whole z))
    eval-kept (VarExpr n x) s = spends Datum _ _ (needed-kept q Datum Datum (place n) (slot s x) _ _ (λ d. q.done Datum d))
    eval-kept (CallExpr n f es) s = spends Datum _ _ (q.bind (List Datum) Datum _ _ _ _ (eval_all-kept es s) (λ vs. q.bind (Option Datum) Datum _ _ _ _ (calls f (place n) vs) (λ v. needed-kept q Datum Datum (place n) v _ _ (λ d. q.done Datum d))))
    eval-kept (NegExpr n a) s = spends Datum _ _ (q.bind Datum Datum _ _ _ _ (eval-kept a s) (λ v. negated-kept q (place n) v))
    eval-kept (NotExpr n a) s = spends Datum _ _ (q.bind Datum Datum _ _ _ _ (eval-kept a s) (λ v. denied-kept q (place n) v))
    eval-kept (LenExpr n a) s = spends Datum _ _ (q.bind Datum Datum _ _ _ _ (eval-kept a s) (λ v. length-kept q (place n) v))
    eval-kept (BinaryExpr n op a b) s = spends Datum _ _ (q.bind Datum Datum _ _ _ _ (eval-kept a s) (λ v. operated-kept q op (place n) _ _ v (eval-kept b s)))
    eval-kept (IsExpr n a t) s = spends Datum _ _ (q.bind Datum Datum _ _ _ _ (eval-kept a s) (λ v. q.bind Bool Datum _ _ _ _ (tests t v) (λ b. q.done Datum (Truth b))))
    eval-kept (IndexExpr n a i) s = spends Datum _ _ (q.bind Datum Datum _ _ _ _ (eval-kept a s) (λ v. q.bind Datum Datum _ _ _ _ (eval-kept i s) (λ w. item-kept q (place n) v w)))
    eval-kept (FieldExpr n a name) s = spends Datum _ _ (q.bind Datum Datum _ _ _ _ (eval-kept a s) (λ v. field-kept q (place n) v name))
    eval-kept (ListExpr n es) s = spends Datum _ _ (q.bind (List Datum) Datum _ _ _ _ (eval_all-kept es s) (λ vs. q.done Datum (Array (data_of vs))))
    eval-kept (RepeatExpr n a c) s = spends Datum _ _ (q.bind Datum Datum _ _ _ _ (eval-kept a s) (λ v. q.bind Datum Datum _ _ _ _ (eval-kept c s) (λ w. repeated-kept q (place n) v w)))
    eval-kept (RecordExpr n fs) s = spends Datum _ _ (q.bind Fields Datum _ _ _ _ (eval_fields-kept fs s) (λ ds. q.done Datum (Record ds)))
    eval-kept (QuantExpr n all x a b body) s = spends Datum _ _ (q.bind Datum Datum _ _ _ _ (eval-kept a s) (λ v. q.bind Datum Datum _ _ _ _ (eval-kept b s) (λ u.
        quantified-kept q all (place n) _ _ v u (λ i. turns Datum _ _ (eval-kept body (put s x (Some (Whole i))))))))

    pub eval_all-kept : (es : Exprs N) (s : Store) → q.Rel (List Datum) (eval_all (setting place l1 t1 c1) paid es s) (eval_all (setting place l2 t2 c2) paid es s)
    eval_all-kept NoExprs s = q.done (List Datum) []
    eval_all-kept (MoreExprs e es) s = q.bind Datum (List Datum) _ _ _ _ (eval-kept e s) (λ v. q.bind (List Datum) (List Datum) _ _ _ _ (eval_all-kept es s) (λ vs. q.done (List Datum) (v ∷ vs)))

    pub eval_fields-kept : (es : tree.Fields N) (s : Store) → q.Rel Fields (eval_fields (setting place l1 t1 c1) paid es s) (eval_fields (setting place l2 t2 c2) paid es s)
    eval_fields-kept NoFields s = q.done Fields no_fields
    eval_fields-kept (MoreFields name e es) s = q.bind Datum Fields _ _ _ _ (eval-kept e s) (λ v. q.bind Fields Fields _ _ _ _ (eval_fields-kept es s) (λ ds. q.done Fields (field name v ds)))
