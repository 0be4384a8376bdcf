-- Expressions with numbers evaluate as those without.
use Rattle.std.proofs.Common.{◌≡◌, ℕ, ◌+◌, List, [], ◌∷◌, Bool, false, Option, Some, None, ℤ, refl, sym, ap, ap₂, ◌∙◌}
use mathlib.Core.Path.{fun_ext}
use Rattle.wy_term_subst.specs.wy_value.Datum.{Datum, Null, Truth, Whole, Array, Record, Fields, no_fields, field}
use Rattle.wy_vc_spec.specs.wy_core.CoreTree as tree
use Rattle.wy_vc_spec.specs.wy_core.CoreTree.{Expr, NullExpr, BoolExpr, IntExpr, VarExpr, CallExpr, NegExpr, NotExpr, LenExpr, BinaryExpr, IsExpr, IndexExpr, FieldExpr, ListExpr, RepeatExpr, RecordExpr, QuantExpr, Exprs, NoExprs, MoreExprs, NoFields, MoreFields}
use Rattle.wy_term_subst.specs.wy_term.declared.cond.CondKind.{CondKind}
use Rattle.wy_vc_spec.specs.wy_sem.Meter.{Meter, Done, Run, ◌>>=◌, spend, turn, check}
use Rattle.wy_vc_spec.specs.wy_sem.Operations.{as_truth, needed, negated, denied, length_result, operated, item_of, field_of, repeated}
use Rattle.wy_vc_spec.specs.wy_sem.Expressions.{Store, slot, put, Setting, quiet, node, quantified, eval, eval_all, eval_fields, holds_at, holds, clauses}
use Rattle.wy_vc_spec.specs.Sizes.{exprs_in, exprs_in_all, exprs_in_fields, exprs_in_list}
use Rattle.wy_vc_spec.specs.Numbered.{Node, numbered, numbered_all, numbered_fields, numbered_list}
use Rattle.wy_sound_terms.specs.numbers.Numbers.{place_of}
use Rattle.wy_term_subst.specs.wy_value.Seen.{data_of}

-- the same setting, for nodes with numbers
abbrev pub with_numbers : Setting ℕ → Setting Node
with_numbers w = record { place = place_of w.place; limit = w.limit; test = w.test; call = w.call }

module _ (w : Setting ℕ) (paid : Bool) where
  mutual
    pub eval_is : (e : Expr ℕ) (k : ℕ) (s : Store) → eval (with_numbers w) paid (numbered e k) s ≡ eval w paid e s
    eval_is (NullExpr at) k s = refl
    eval_is (BoolExpr at b) k s = refl
    eval_is (IntExpr at z) k s = refl
    eval_is (VarExpr at x) k s = refl
    eval_is (CallExpr at f es) k s = ap (λ (r : Run (List Datum)). spend paid (λ m. r m >>= (λ vs j. w.call f (w.place at) vs j >>= (λ v. needed (w.place at) v Done)))) (all_are es k s)
    eval_is (NegExpr at a) k s = ap (λ (r : Run Datum). spend paid (λ m. r m >>= negated (w.place at))) (eval_is a k s)
    eval_is (NotExpr at a) k s = ap (λ (r : Run Datum). spend paid (λ m. r m >>= denied (w.place at))) (eval_is a k s)
    eval_is (LenExpr at a) k s = ap (λ (r : Run Datum). spend paid (λ m. r m >>= length_result (w.place at))) (eval_is a k s)
    eval_is (BinaryExpr at o a b) k s = ap₂ (λ (r t : Run Datum). spend paid (λ m. r m >>= operated o (w.place at) t)) (eval_is a k s) (eval_is b (k + exprs_in a) s)
    eval_is (IsExpr at a t) k s = ap (λ (r : Run Datum). spend paid (λ m. r m >>= (λ v j. w.test paid t v j >>= (λ b. Done (Truth b))))) (eval_is a k s)
    eval_is (IndexExpr at a i) k s = ap₂ (λ (r t : Run Datum). spend paid (λ m. r m >>= (λ v j. t j >>= item_of (w.place at) v))) (eval_is a k s) (eval_is i (k + exprs_in a) s)
    eval_is (FieldExpr at a name) k s = ap (λ (r : Run Datum). spend paid (λ m. r m >>= (λ v. field_of (w.place at) v name))) (eval_is a k s)
    eval_is (ListExpr at es) k s = ap (λ (r : Run (List Datum)). spend paid (λ m. r m >>= (λ vs. Done (Array (data_of vs))))) (all_are es k s)
    eval_is (RepeatExpr at a c) k s = ap₂ (λ (r t : Run Datum). spend paid (λ m. r m >>= (λ v j. t j >>= repeated (w.place at) v))) (eval_is a k s) (eval_is c (k + exprs_in a) s)
    eval_is (RecordExpr at fs) k s = ap (λ (r : Run Fields). spend paid (λ m. r m >>= (λ ds. Done (Record ds)))) (fields_are fs k s)
    eval_is (QuantExpr at all x a b body) k s =
        ap₂ (λ (r t : Run Datum). spend paid (λ m. r m >>= (λ v j. t j >>= (λ u. quantified all (w.place at) (λ i. turn w.limit paid (eval (with_numbers w) paid (numbered body (k + exprs_in a + exprs_in b)) (put s x (Some (Whole i))))) v u)))) (eval_is a k s) (eval_is b (k + exprs_in a) s)
        ∙ ap (λ (g : ℤ → Run Datum). spend paid (λ m. eval w paid a s m >>= (λ v j. eval w paid b s j >>= (λ u. quantified all (w.place at) g v u))))
        (fun_ext (λ i. ap (λ (r : Run Datum). turn w.limit paid r) (eval_is body (k + exprs_in a + exprs_in b) (put s x (Some (Whole i))))))

    pub all_are : (es : Exprs ℕ) (k : ℕ) (s : Store) → eval_all (with_numbers w) paid (numbered_all es k) s ≡ eval_all w paid es s
    all_are NoExprs k s = refl
    all_are (MoreExprs e es) k s = ap₂ (λ (r : Run Datum) (t : Run (List Datum)). λ m. r m >>= (λ v j. t j >>= (λ vs. Done (v ∷ vs)))) (eval_is e k s) (all_are es (k + exprs_in e) s)

    pub fields_are : (fs : tree.Fields ℕ) (k : ℕ) (s : Store) → eval_fields (with_numbers w) paid (numbered_fields fs k) s ≡ eval_fields w paid fs s
    fields_are NoFields k s = refl
    fields_are (MoreFields name e fs) k s = ap₂ (λ (r : Run Datum) (t : Run Fields). λ m. r m >>= (λ v j. t j >>= (λ ds. Done (field name v ds)))) (eval_is e k s) (fields_are fs (k + exprs_in e) s)

-- ---- clauses

-- the place of an expression
pub place_is : (place : ℕ → ℕ) (e : Expr ℕ) (k : ℕ) → place_of place (node (numbered e k)) ≡ place (node e)
place_is place (NullExpr at) k = refl
place_is place (BoolExpr at b) k = refl
place_is place (IntExpr at z) k = refl
place_is place (VarExpr at x) k = refl
place_is place (CallExpr at f es) k = refl
place_is place (NegExpr at a) k = refl
place_is place (NotExpr at a) k = refl
place_is place (LenExpr at a) k = refl
place_is place (BinaryExpr at o a b) k = refl
place_is place (IsExpr at a t) k = refl
place_is place (IndexExpr at a i) k = refl
place_is place (FieldExpr at a name) k = refl
place_is place (ListExpr at es) k = refl
place_is place (RepeatExpr at a c) k = refl
place_is place (RecordExpr at fs) k = refl
place_is place (QuantExpr at all x a b body) k = refl

pub holds_at_is : (w : Setting ℕ) (at : ℕ) (e : Expr ℕ) (k : ℕ) (s : Store) → holds_at (with_numbers w) at (numbered e k) s ≡ holds_at w at e s
holds_at_is w at e k s = ap (λ (r : Run Datum). λ m. r m >>= (λ v. as_truth at v Done)) (eval_is (quiet w) false e k s)

pub holds_is : (w : Setting ℕ) (e : Expr ℕ) (k : ℕ) (s : Store) → holds (with_numbers w) (numbered e k) s ≡ holds w e s
holds_is w e k s = ap (λ (at : ℕ). holds_at (with_numbers w) at (numbered e k) s) (place_is w.place e k) ∙ holds_at_is w (w.place (node e)) e k s

pub clauses_are : {X : Type 0} (w : Setting ℕ) (kind : CondKind) (at : ℕ) (es : List (Expr ℕ)) (k : ℕ) (s : Store) (next : Run X) → clauses (with_numbers w) kind at (numbered_list es k) s next ≡ clauses w kind at es s next
clauses_are w kind at [] k s next = refl
clauses_are {X} w kind at (e ∷ es) k s next =
    ap₂ (λ (r : Run Bool) (t : Run X). λ m. r m >>= (λ b. check b kind at t)) (holds_is w e k s) (clauses_are w kind at es (k + exprs_in e) s next)
