-- The evaluation of an expression of a contract ends, where it calls nothing and the tests of its types end.
use Rattle.std.proofs.Common.{ℕ, List, [], ◌∷◌, Bool, true, false, inl, inr}
use Rattle.std.specs.Prelude.{Some, None}
use Rattle.wy_sem.specs.wy_value.Datum.{Datum, Null, Truth, Whole, Array, Record, Fields, no_fields, field}
use Rattle.wy_sem.specs.wy_core.Types.{Ty}
use Rattle.wy_sem.specs.wy_core.CoreTree as tree
use Rattle.wy_sem.specs.wy_core.CoreTree.{Expr, NullExpr, BoolExpr, IntExpr, VarExpr, CallExpr, NegExpr, NotExpr, LenExpr, BinaryExpr, IsExpr, IndexExpr, FieldExpr, ListExpr, RepeatExpr, RecordExpr, QuantExpr, Exprs, NoExprs, MoreExprs, NoFields, MoreFields}
use Rattle.wy_sem.specs.wy_core.formed.Calls.{CallsExpr, CallsExprs, CallsFields, CallsClauses, Nothing}
use Rattle.wy_sem.specs.wy_core.formed.Recursion.{NamesIn, Mentions, MentionsIn, MentionsInFields, ClausesMention}
use Rattle.wy_sem.specs.Meter.{Run}
use Rattle.wy_sem.specs.Expressions.{Store, slot, put, Setting, node, eval, eval_all, eval_fields, no_calls, holds_at, holds}
use Rattle.wy_sem.specs.TypeTests.{all_hold}
use Rattle.wy_vc_spec.proofs.answered_lemmas.Ends.{Ends, done, bind, turned}
use Rattle.wy_vc_spec.proofs.answered_lemmas.EndingOperations.{choose-ends, truth-ends, needed-ends, negated-ends, denied-ends, length-ends, operated-ends, item-ends, field-ends, repeated-ends, quantified-ends}
use Rattle.wy_sem.specs.wy_value.Seen.{data_of}

abbrev pub quiet_setting : (ℕ → ℕ) → (Bool → Ty → Datum → Run Bool) → Setting ℕ
quiet_setting place test = record { place = place; limit = None; test = test; call = no_calls }

module _ (place : ℕ → ℕ) (test : Bool → Ty → Datum → Run Bool) (P : ℕ → Type 0) (tests_end : (t : Ty) → ((c : ℕ) → NamesIn true t c → P c) → (d : Datum) → Ends Bool (test false t d)) where
  abbrev w : Setting ℕ
  w = quiet_setting place test

  mutual
    pub eval-ends : (e : Expr ℕ) → CallsExpr Nothing e → ((c : ℕ) → Mentions e c → P c) → (s : Store) → Ends Datum (eval w false e s)
    eval-ends (NullExpr n) q h s = done Datum Null
    eval-ends (BoolExpr n b) q h s = done Datum (Truth b)
    eval-ends (IntExpr n z) q h s = done Datum (Whole z)
    eval-ends (VarExpr n x) q h s = needed-ends Datum Datum (place n) (slot s x) _ (λ d. done Datum d)
    eval-ends (CallExpr n f es) q h s = absurd q.0
    eval-ends (NegExpr n a) q h s = bind Datum Datum _ _ (eval-ends a q h s) (λ v. negated-ends (place n) v)
    eval-ends (NotExpr n a) q h s = bind Datum Datum _ _ (eval-ends a q h s) (λ v. denied-ends (place n) v)
    eval-ends (LenExpr n a) q h s = bind Datum Datum _ _ (eval-ends a q h s) (λ v. length-ends (place n) v)
    eval-ends (BinaryExpr n op a b) q h s = bind Datum Datum _ _ (eval-ends a q.0 (λ c k. h c (inl k)) s) (λ v. operated-ends op (place n) _ v (eval-ends b q.1 (λ c k. h c (inr k)) s))
    eval-ends (IsExpr n a t) q h s = bind Datum Datum _ _ (eval-ends a q (λ c k. h c (inl k)) s) (λ v. bind Bool Datum _ _ (tests_end t (λ c k. h c (inr k)) v) (λ b. done Datum (Truth b)))
    eval-ends (IndexExpr n a i) q h s = bind Datum Datum _ _ (eval-ends a q.0 (λ c k. h c (inl k)) s) (λ v. bind Datum Datum _ _ (eval-ends i q.1 (λ c k. h c (inr k)) s) (λ u. item-ends (place n) v u))
    eval-ends (FieldExpr n a name) q h s = bind Datum Datum _ _ (eval-ends a q h s) (λ v. field-ends (place n) v name)
    eval-ends (ListExpr n es) q h s = bind (List Datum) Datum _ _ (all-end es q h s) (λ vs. done Datum (Array (data_of vs)))
    eval-ends (RepeatExpr n a i) q h s = bind Datum Datum _ _ (eval-ends a q.0 (λ c k. h c (inl k)) s) (λ v. bind Datum Datum _ _ (eval-ends i q.1 (λ c k. h c (inr k)) s) (λ u. repeated-ends (place n) v u))
    eval-ends (RecordExpr n fs) q h s = bind Fields Datum _ _ (fields-end fs q h s) (λ ds. done Datum (Record ds))
    eval-ends (QuantExpr n all x a b body) q h s = bind Datum Datum _ _ (eval-ends a q.0 (λ c k. h c (inl k)) s) (λ v. bind Datum Datum _ _ (eval-ends b q.1 (λ c k. h c (inr (inl k))) s) (λ u.
        quantified-ends all (place n) _ v u (λ i. turned Datum _ (eval-ends body q.2 (λ c k. h c (inr (inr k))) (put s x (Some (Whole i)))))))

    all-end : (es : Exprs ℕ) → CallsExprs Nothing es → ((c : ℕ) → MentionsIn es c → P c) → (s : Store) → Ends (List Datum) (eval_all w false es s)
    all-end NoExprs q h s = done (List Datum) []
    all-end (MoreExprs e es) q h s = bind Datum (List Datum) _ _ (eval-ends e q.0 (λ c k. h c (inl k)) s) (λ v. bind (List Datum) (List Datum) _ _ (all-end es q.1 (λ c k. h c (inr k)) s) (λ vs. done (List Datum) (v ∷ vs)))

    fields-end : (fs : tree.Fields ℕ) → CallsFields Nothing fs → ((c : ℕ) → MentionsInFields fs c → P c) → (s : Store) → Ends Fields (eval_fields w false fs s)
    fields-end NoFields q h s = done Fields no_fields
    fields-end (MoreFields name e fs) q h s = bind Datum Fields _ _ (eval-ends e q.0 (λ c k. h c (inl k)) s) (λ v. bind Fields Fields _ _ (fields-end fs q.1 (λ c k. h c (inr k)) s) (λ ds. done Fields (field name v ds)))

  -- the clauses of a type
  pub all_hold-ends : (es : List (Expr ℕ)) → CallsClauses Nothing es → ((c : ℕ) → ClausesMention es c → P c) → (s : Store) → Ends Bool (all_hold w false es s)
  all_hold-ends [] q h s = done Bool true
  all_hold-ends (e ∷ es) q h s = bind Datum Bool _ _ (eval-ends e q.0 (λ c k. h c (inl k)) s)
      (λ v. truth-ends Bool (place (node e)) v _ (λ b. choose-ends Bool b _ _ (all_hold-ends es q.1 (λ c k. h c (inr k)) s) (done Bool false)))

  -- a clause of a contract, which faults at this place where it is no truth value
  pub holds_at-ends : (at : ℕ) (e : Expr ℕ) → CallsExpr Nothing e → ((c : ℕ) → Mentions e c → P c) → (s : Store) → Ends Bool (holds_at w at e s)
  holds_at-ends at e q h s = bind Datum Bool _ _ (eval-ends e q h s) (λ v. truth-ends Bool at v _ (λ b. done Bool b))

  pub holds-ends : (e : Expr ℕ) → CallsExpr Nothing e → ((c : ℕ) → Mentions e c → P c) → (s : Store) → Ends Bool (holds w e s)
  holds-ends e q h s = holds_at-ends (place (node e)) e q h s
