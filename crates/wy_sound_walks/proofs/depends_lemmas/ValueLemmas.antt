-- The term of what an expression of a contract evaluates to depends on names below its count alone.
use Rattle.std.proofs.Common.{◌≡◌, ℕ, zero, suc, ◌+◌, ◌≤◌, List, [], ◌∷◌, ◌&&◌, Option, Some, None, refl, arith}
use Rattle.wy_core.specs.CoreTree.{Expr, NullExpr, BoolExpr, IntExpr, VarExpr, CallExpr, NegExpr, NotExpr, LenExpr, BinaryExpr, IsExpr, IndexExpr, FieldExpr, ListExpr, RepeatExpr, RecordExpr, QuantExpr, Exprs, NoExprs, MoreExprs, Fields, NoFields, MoreFields}
use Rattle.wy_term.specs.Term.{Term}
use Rattle.wy_term.specs.Sorts.{val_sort}
use Rattle.wy_sound_terms.specs.wy_sem.Expressions.{node}
use Rattle.wy_sound_terms.specs.wy_vc_spec.Making.{number_of, int_name, int, formula}
use Rattle.wy_sound_terms.specs.wy_vc_spec.Variables.{Vars, slot_at, put}
use Rattle.wy_sound_terms.specs.wy_vc_spec.Operations as op
use Rattle.wy_sound_terms.specs.wy_vc_spec.Values.{Naming, Setting, Valued, ValuedAll, word_at, or_null, variable, holds, value, values, field_values, field_names, clause_formula, clause_formulas}
use Rattle.wy_sound_terms.proofs.formed_lemmas.MakingLemmas.{IsOf, AllOf, none, more, null_sorted, truth_sorted, number_sorted, int_sorted, int_name_sorted, value_sorted as truth_value_sorted, field_sorted, negated_sorted, denial_sorted, length_sorted, element_sorted, repeated_sorted, list_sorted, record_sorted, operated_sorted, quantified_sorted}
use Rattle.wy_sound_terms.proofs.formed_lemmas.ValueLemmas.{SaysFormulas, AreData, put_data, variable_sorted, holds_sorted}
use Rattle.wy_sound_walks.proofs.expressions_lemmas.ValueGrows.{holds_grows, value_grows, values_grow, parts_grow, clauses_grow}
use Rattle.wy_sound_walks.specs.joins.Points.{Depends}
use Rattle.wy_sound_walks.specs.depends.Depends.{DependsIf, AllDepend}
use Rattle.wy_sound_walks.proofs.depends_lemmas.MadeLemmas.{Rests, depends_more, rests_more, int_depends, value_depends, field_depends, formula_rests, negated_depends, denial_depends, length_depends, element_depends, repeated_depends, operated_depends, quantified_depends, list_depends, record_depends, EachDepends, none_depends, more_depends, AllRest, none_rest, more_rest}
use Rattle.wy_sound_walks.proofs.depends_lemmas.TypeLemmas.{name_rests, holds_rests}

-- ---- variables

pub if_more : (n m : ℕ) (v : Option Term) → n ≤ m → DependsIf n v → DependsIf m v
if_more n m None le h = tt
if_more n m (Some t) le h = depends_more n m (t) le h

pub all_more : (n m : ℕ) (vars : Vars) → n ≤ m → AllDepend n vars → AllDepend m vars
all_more n m [] le h = tt
all_more n m (v ∷ vars) le h = (if_more n m v le h.0, all_more n m vars le h.1)

pub put_depends : (n : ℕ) (vars : Vars) (x : ℕ) (t : Term) → AllDepend n vars → Depends n t → AllDepend n (put vars x t)
put_depends n [] zero t h g = (g, tt)
put_depends n [] (suc x) t h g = (tt, put_depends n [] x t tt g)
put_depends n (v ∷ vars) zero t h g = (g, h.1)
put_depends n (v ∷ vars) (suc x) t h g = (h.0, put_depends n vars x t h.1 g)

or_null_depends : (n : ℕ) (v : Option Term) → DependsIf n v → Depends n (or_null v)
or_null_depends n None h = λ x y a. refl
or_null_depends n (Some t) h = h

pub slot_depends : (n : ℕ) (vars : Vars) (x : ℕ) → AllDepend n vars → DependsIf n (slot_at vars x)
slot_depends n [] x h = tt
slot_depends n (v ∷ vars) zero h = h.0
slot_depends n (v ∷ vars) (suc x) h = slot_depends n vars x h.1

pub variable_depends : (n : ℕ) (vars : Vars) (x : ℕ) → AllDepend n vars → Depends n (variable vars x)
variable_depends n vars x h = or_null_depends n (slot_at vars x) (slot_depends n vars x h)

-- ---- they are Val terms

module _ {N : Type 0} (s : Setting N) {named : Naming} (formulas : SaysFormulas named) (words : List (List ℕ)) where
  mutual
    pub value_sorted : (e : Expr N) (vars : Vars) (n : ℕ) → AreData vars → IsOf val_sort (value s named words e vars n).term
    value_sorted (NullExpr k) vars n d = null_sorted
    value_sorted (BoolExpr k b) vars n d = truth_sorted b
    value_sorted (IntExpr k z) vars n d = int_sorted (number_sorted z)
    value_sorted (VarExpr k x) vars n d = variable_sorted d x
    value_sorted (CallExpr k f args) vars n d = null_sorted
    value_sorted (NegExpr k a) vars n d = negated_sorted (value_sorted a vars n d)
    value_sorted (NotExpr k a) vars n d = denial_sorted (value_sorted a vars n d)
    value_sorted (LenExpr k a) vars n d = length_sorted (value_sorted a vars n d)
    value_sorted (BinaryExpr k o a b) vars n d =
        let v = value s named words a vars n in operated_sorted o (s.is_number (node a) && s.is_number (node b)) (value_sorted a vars n d) (value_sorted b vars v.count d)
    value_sorted (IsExpr k a t) vars n d = let v = value s named words a vars n in truth_value_sorted (holds_sorted formulas t v.count (value_sorted a vars n d))
    value_sorted (IndexExpr k a b) vars n d = let v = value s named words a vars n in element_sorted (value_sorted a vars n d) (value_sorted b vars v.count d)
    value_sorted (FieldExpr k a name) vars n d = field_sorted name (value_sorted a vars n d)
    value_sorted (ListExpr k items) vars n d = list_sorted (values_sorted items vars n d)
    value_sorted (RepeatExpr k a b) vars n d = let v = value s named words a vars n in repeated_sorted (value_sorted a vars n d) (value_sorted b vars v.count d)
    value_sorted (RecordExpr k fields) vars n d = record_sorted (field_names fields) (parts_sorted fields vars n d)
    value_sorted (QuantExpr k all x a b body) vars n d =
        let v = value s named words a vars n in let w = value s named words b vars v.count in
        let i = int_name (word_at words x) w.count in
        quantified_sorted all (word_at words x) w.count (value_sorted a vars n d) (value_sorted b vars v.count d) (value_sorted body (put vars x (int i)) (suc w.count) (put_data x d (int_sorted (int_name_sorted (word_at words x) w.count))))

    values_sorted : (es : Exprs N) (vars : Vars) (n : ℕ) → AreData vars → AllOf val_sort (values s named words es vars n).terms
    values_sorted NoExprs vars n d = none
    values_sorted (MoreExprs e es) vars n d = let v = value s named words e vars n in more (value_sorted e vars n d) (values_sorted es vars v.count d)

    parts_sorted : (fs : Fields N) (vars : Vars) (n : ℕ) → AreData vars → AllOf val_sort (field_values s named words fs vars n).terms
    parts_sorted NoFields vars n d = none
    parts_sorted (MoreFields name e fs) vars n d = let v = value s named words e vars n in more (value_sorted e vars n d) (parts_sorted fs vars v.count d)

-- ---- they depend on names below the count

module _ {N : Type 0} (s : Setting N) (named : Naming) (formulas : SaysFormulas named) (grows : (number n : ℕ) (v : Term) → n ≤ (named number v n).count)
    (named_rests : (number n : ℕ) (v : Term) → IsOf val_sort v → Depends n v → Rests (named number v n).count (named number v n).term) (words : List (List ℕ)) where
  abbrev V : Expr N → Vars → ℕ → Valued
  V e vars n = value s named words e vars n

  up : (e : Expr N) (vars : Vars) (n : ℕ) → n ≤ (V e vars n).count
  up e vars n = value_grows s named grows words e vars n

  mutual
    pub value_rests : (e : Expr N) (vars : Vars) (n : ℕ) → AreData vars → AllDepend n vars → Depends (V e vars n).count (V e vars n).term
    value_rests (NullExpr k) vars n d h = λ x y a. refl
    value_rests (BoolExpr k b) vars n d h = λ x y a. refl
    value_rests (IntExpr k z) vars n d h = int_depends n (number_of z) (λ x y a. refl)
    value_rests (VarExpr k x) vars n d h = variable_depends n vars x h
    value_rests (CallExpr k f args) vars n d h = λ x y a. refl
    value_rests (NegExpr k a) vars n d h = let v = V a vars n in negated_depends v.count (v.term) (value_rests a vars n d h)
    value_rests (NotExpr k a) vars n d h = let v = V a vars n in denial_depends v.count (v.term) (value_rests a vars n d h)
    value_rests (LenExpr k a) vars n d h = let v = V a vars n in length_depends v.count (v.term) (value_rests a vars n d h)
    value_rests (BinaryExpr k o a b) vars n d h =
        let v = V a vars n in let w = V b vars v.count in
        operated_depends w.count o (s.is_number (node a) && s.is_number (node b)) (v.term) (w.term) (depends_more v.count w.count (v.term) (up b vars v.count) (value_rests a vars n d h)) (value_rests b vars v.count d (all_more n v.count vars (up a vars n) h))
    value_rests (IsExpr k a t) vars n d h =
        let v = V a vars n in let f = holds named t v.term v.count in
        value_depends f.count (f.term) (holds_rests named formulas grows named_rests t v.count v.term (value_sorted s formulas words a vars n d) (value_rests a vars n d h))
    value_rests (IndexExpr k a b) vars n d h =
        let v = V a vars n in let w = V b vars v.count in
        element_depends w.count (v.term) (w.term) (depends_more v.count w.count (v.term) (up b vars v.count) (value_rests a vars n d h)) (value_rests b vars v.count d (all_more n v.count vars (up a vars n) h))
    value_rests (FieldExpr k a name) vars n d h = let v = V a vars n in field_depends v.count name (v.term) (value_rests a vars n d h)
    value_rests (ListExpr k items) vars n d h = let vs = values s named words items vars n in list_depends vs.count (values_rest items vars n d h)
    value_rests (RepeatExpr k a b) vars n d h =
        let v = V a vars n in let w = V b vars v.count in
        repeated_depends w.count (v.term) (w.term) (depends_more v.count w.count (v.term) (up b vars v.count) (value_rests a vars n d h)) (value_rests b vars v.count d (all_more n v.count vars (up a vars n) h))
    value_rests (RecordExpr k fields) vars n d h = let vs = field_values s named words fields vars n in record_depends vs.count (field_names fields) (parts_rest fields vars n d h)
    value_rests (QuantExpr k all x a b body) vars n d h =
        let v = V a vars n in let w = V b vars v.count in
        let word = word_at words x in
        let i = int_name word w.count in
        let u = V body (put vars x (int i)) (suc w.count) in
        let g1 = up a vars n in let g2 = up b vars v.count in let g3 = up body (put vars x (int i)) (suc w.count) in
        let inside = put_data x d (int_sorted (int_name_sorted word w.count)) in
        quantified_depends u.count all word w.count (v.term) (w.term) (u.term) (value_sorted s formulas words a vars n d) (value_sorted s formulas words b vars v.count d) (value_sorted s formulas words body (put vars x (int i)) (suc w.count) inside)
        (depends_more v.count u.count (v.term) (omega (arith, g2, g3)) (value_rests a vars n d h))
        (depends_more w.count u.count (w.term) (omega (arith, g3)) (value_rests b vars v.count d (all_more n v.count vars g1 h)))
        (value_rests body (put vars x (int i)) (suc w.count) inside (put_depends (suc w.count) vars x (int i) (all_more n (suc w.count) vars (omega (arith, g1, g2)) h) (int_depends (suc w.count) (i) (name_rests word w.count (suc w.count) (omega arith)))))

    pub values_rest : (es : Exprs N) (vars : Vars) (n : ℕ) → AreData vars → AllDepend n vars → EachDepends (values s named words es vars n).count (values s named words es vars n).terms
    values_rest NoExprs vars n d h = none_depends
    values_rest (MoreExprs e es) vars n d h =
        let v = V e vars n in let vs = values s named words es vars v.count in
        more_depends (depends_more v.count vs.count (v.term) (values_grow s named grows words es vars v.count) (value_rests e vars n d h)) (values_rest es vars v.count d (all_more n v.count vars (up e vars n) h))

    pub parts_rest : (fs : Fields N) (vars : Vars) (n : ℕ) → AreData vars → AllDepend n vars → EachDepends (field_values s named words fs vars n).count (field_values s named words fs vars n).terms
    parts_rest NoFields vars n d h = none_depends
    parts_rest (MoreFields name e fs) vars n d h =
        let v = V e vars n in let vs = field_values s named words fs vars v.count in
        more_depends (depends_more v.count vs.count (v.term) (parts_grow s named grows words fs vars v.count) (value_rests e vars n d h)) (parts_rest fs vars v.count d (all_more n v.count vars (up e vars n) h))

  pub clauses_rest : (es : List (Expr N)) (vars : Vars) (n : ℕ) → AreData vars → AllDepend n vars → AllRest (clause_formulas s named words es vars n).count (clause_formulas s named words es vars n).terms
  clauses_rest [] vars n d h = none_rest
  clauses_rest (e ∷ es) vars n d h =
      let f = clause_formula s named words e vars n in let fs = clause_formulas s named words es vars f.count in
      more_rest f.term (rests_more f.count fs.count (f.term) (clauses_grow s named grows words es vars f.count) (formula_rests f.count ((V e vars n).term) (value_rests e vars n d h))) (clauses_rest es vars f.count d (all_more n f.count vars (up e vars n) h))
