-- The term of a walk depends on names below its count alone.
use Rattle.std.proofs.Common.{◌≡◌, ℕ, zero, suc, ◌+◌, ◌≤◌, List, [], ◌∷◌, ◌++◌, length, ◌&&◌, Option, Some, None, refl, sym, subst, arith}
use Rattle.wy_core.specs.Types.{Ty}
use Rattle.wy_core.specs.CoreTree as tree
use Rattle.wy_core.specs.CoreTree.{Expr, NullExpr, BoolExpr, IntExpr, VarExpr, CallExpr, NegExpr, NotExpr, LenExpr, BinaryExpr, IsExpr, IndexExpr, FieldExpr, ListExpr, RepeatExpr, RecordExpr, QuantExpr, Exprs, NoExprs, MoreExprs, Fields, NoFields, MoreFields, Routine}
use Rattle.wy_term.specs.declared.cond.CondKind.TheVariants as kind
use Rattle.wy_term.specs.Term.{Term}
use Rattle.wy_term.specs.Sorts.{val_sort, formula_sort}
use Rattle.wy_sound_terms.specs.wy_sem.Expressions.{node}
use Rattle.wy_sound_terms.specs.wy_sem.Evaluation.{Callee, Declared, Print, PrintInt, Undeclared, callee}
use Rattle.wy_sound_terms.specs.wy_vc_spec.Making.{number_of, int_name, val_name, num, int, at_most, less_than}
use Rattle.wy_sound_terms.specs.wy_vc_spec.Variables.{Vars, put, put_if}
use Rattle.wy_sound_terms.specs.wy_vc_spec.Operations as op
use Rattle.wy_sound_terms.specs.wy_vc_spec.Values.{Setting, word_at, named_in, field_names}
use Rattle.wy_sound_terms.specs.wy_vc_spec.Owed.{assume}
use Rattle.wy_sound_terms.specs.wy_vc_spec.Clauses.{in_type, owe_clauses, assume_in_type}
use Rattle.wy_sound_terms.specs.wy_vc_spec.Calls.{Walked, owe_arguments, arguments, result_of, callee_walk, call_walk}
use Rattle.wy_sound_terms.specs.wy_vc_spec.Walks.{CallWalks, Program, WalkedAll, right_hyps, walk_all, walk_expr}
use Rattle.wy_sound_terms.proofs.formed_lemmas.MakingLemmas.{IsOf, AllOf, int_sorted, int_name_sorted}
use Rattle.wy_sound_terms.proofs.formed_lemmas.ValueLemmas.{AreData, put_data, holds_sorted, named_sorted}
use Rattle.wy_sound_walks.proofs.expressions_lemmas.ValueGrows.{named_grows}
use Rattle.wy_sound_walks.proofs.expressions_lemmas.GenericWalks.{Tests, walk_by, walk_all_by, walk_fields_by, walk_is, all_is}
use Rattle.wy_sound_walks.proofs.expressions_lemmas.GrowLemmas.{walk_grows, all_grow, fields_grow}
use Rattle.wy_sound_walks.proofs.expressions_lemmas.SortedWalks.{walk_sorted}
use Rattle.wy_sound_walks.proofs.expressions_lemmas.CallGrows.{in_type_grows, assumed_grow, call_grows, call_sorted}
use Rattle.wy_sound_walks.proofs.expressions_lemmas.LawLemmas.{are_data, expr_grows}
use Rattle.wy_sound_walks.specs.joins.Points.{Depends}
use Rattle.wy_sound_walks.specs.depends.Depends.{AllDepend, TermsDependOnNamesBelow}
use Rattle.wy_sound_walks.proofs.depends_lemmas.MadeLemmas.{Rests, depends_more, int_depends, value_depends, field_depends, negated_depends, denial_depends, length_depends, element_depends, repeated_depends, operated_depends, quantified_depends, list_depends, record_depends, EachDepends, none_depends, more_depends}
use Rattle.wy_sound_walks.proofs.depends_lemmas.TypeLemmas.{name_rests, holds_rests}
use Rattle.wy_sound_walks.proofs.depends_lemmas.ValueLemmas.{all_more, put_depends, variable_depends}
use Rattle.wy_sound_walks.proofs.depends_lemmas.NamedLemmas.{named_rests}

module _ {N : Type 0} (s : Setting N) (tests : Tests) (call : CallWalks) (words : List (List ℕ))
    (tests_grow : (t : Ty) (v : Term) (n : ℕ) → n ≤ (tests t v n).count)
    (formulas : (t : Ty) (n : ℕ) (v : Term) → IsOf val_sort v → IsOf formula_sort (tests t v n).term)
    (tests_rest : (t : Ty) (n : ℕ) (v : Term) → IsOf val_sort v → Depends n v → Rests (tests t v n).count (tests t v n).term)
    (calls_grow : (f at : ℕ) (ts hyps : List Term) (n : ℕ) → n ≤ (call f at ts hyps n).count)
    (calls_sorted : (f at n : ℕ) (ts hyps : List Term) → AllOf val_sort ts → IsOf val_sort (call f at ts hyps n).term)
    (calls_depend : (f at : ℕ) (ts hyps : List Term) (n : ℕ) → Depends (call f at ts hyps n).count (call f at ts hyps n).term) where
  abbrev W : Expr N → Vars → List Term → ℕ → Walked
  W e vars hyps n = walk_by s tests call words e vars hyps n

  up : (e : Expr N) (vars : Vars) (hyps : List Term) (n : ℕ) → n ≤ (W e vars hyps n).count
  up e vars hyps n = walk_grows s tests call words tests_grow calls_grow e vars hyps n

  is : (e : Expr N) (vars : Vars) (hyps : List Term) (n : ℕ) → AreData vars → IsOf val_sort (W e vars hyps n).term
  is e vars hyps n d = walk_sorted s tests call words formulas calls_sorted e vars hyps n d

  mutual
    pub walk_depends : (e : Expr N) (vars : Vars) (hyps : List Term) (n : ℕ) → AreData vars → AllDepend n vars → Depends (W e vars hyps n).count (W e vars hyps n).term
    walk_depends (NullExpr k) vars hyps n d h = λ x y a. refl
    walk_depends (BoolExpr k b) vars hyps n d h = λ x y a. refl
    walk_depends (IntExpr k z) vars hyps n d h = int_depends n (number_of z) (λ x y a. refl)
    walk_depends (VarExpr k x) vars hyps n d h = variable_depends n vars x h
    walk_depends (CallExpr k f args) vars hyps n d h = let u = walk_all_by s tests call words args vars hyps n in calls_depend f (s.place k) u.terms u.hyps u.count
    walk_depends (NegExpr k a) vars hyps n d h = let v = W a vars hyps n in negated_depends v.count (v.term) (walk_depends a vars hyps n d h)
    walk_depends (NotExpr k a) vars hyps n d h = let v = W a vars hyps n in denial_depends v.count (v.term) (walk_depends a vars hyps n d h)
    walk_depends (LenExpr k a) vars hyps n d h = let v = W a vars hyps n in length_depends v.count (v.term) (walk_depends a vars hyps n d h)
    walk_depends (BinaryExpr k o a b) vars hyps n d h =
        let v = W a vars hyps n in let hs = right_hyps o v.term v.hyps in let w = W b vars hs v.count in
        operated_depends w.count o (s.is_number (node a) && s.is_number (node b)) (v.term) (w.term) (depends_more v.count w.count (v.term) (up b vars hs v.count) (walk_depends a vars hyps n d h)) (walk_depends b vars hs v.count d (all_more n v.count vars (up a vars hyps n) h))
    walk_depends (IsExpr k a t) vars hyps n d h =
        let v = W a vars hyps n in let f = tests t v.term v.count in value_depends f.count (f.term) (tests_rest t v.count v.term (is a vars hyps n d) (walk_depends a vars hyps n d h))
    walk_depends (IndexExpr k a b) vars hyps n d h =
        let v = W a vars hyps n in let w = W b vars v.hyps v.count in
        element_depends w.count (v.term) (w.term) (depends_more v.count w.count (v.term) (up b vars v.hyps v.count) (walk_depends a vars hyps n d h)) (walk_depends b vars v.hyps v.count d (all_more n v.count vars (up a vars hyps n) h))
    walk_depends (FieldExpr k a name) vars hyps n d h = let v = W a vars hyps n in field_depends v.count name (v.term) (walk_depends a vars hyps n d h)
    walk_depends (ListExpr k items) vars hyps n d h = let u = walk_all_by s tests call words items vars hyps n in list_depends u.count (all_depend items vars hyps n d h)
    walk_depends (RepeatExpr k a b) vars hyps n d h =
        let v = W a vars hyps n in let w = W b vars v.hyps v.count in
        repeated_depends w.count (v.term) (w.term) (depends_more v.count w.count (v.term) (up b vars v.hyps v.count) (walk_depends a vars hyps n d h)) (walk_depends b vars v.hyps v.count d (all_more n v.count vars (up a vars hyps n) h))
    walk_depends (RecordExpr k fields) vars hyps n d h = let u = walk_fields_by s tests call words fields vars hyps n in record_depends u.count (field_names fields) (parts_depend fields vars hyps n d h)
    walk_depends (QuantExpr k all x a b body) vars hyps n d h =
        let v = W a vars hyps n in let w = W b vars v.hyps v.count in
        let word = word_at words x in
        let i = int_name word w.count in
        let vars2 = put vars x (int i) in
        let hyps2 = assume (assume w.hyps (at_most (num v.term) i)) (less_than i (num w.term)) in
        let u = W body vars2 hyps2 (suc w.count) in
        let g1 = up a vars hyps n in let g2 = up b vars v.hyps v.count in let g3 = up body vars2 hyps2 (suc w.count) in
        let inside = put_data x d (int_sorted (int_name_sorted word w.count)) in
        quantified_depends u.count all word w.count (v.term) (w.term) (u.term) (is a vars hyps n d) (is b vars v.hyps v.count d) (is body vars2 hyps2 (suc w.count) inside)
        (depends_more v.count u.count (v.term) (omega (arith, g2, g3)) (walk_depends a vars hyps n d h))
        (depends_more w.count u.count (w.term) (omega (arith, g3)) (walk_depends b vars v.hyps v.count d (all_more n v.count vars g1 h)))
        (walk_depends body vars2 hyps2 (suc w.count) inside (put_depends (suc w.count) vars x (int i) (all_more n (suc w.count) vars (omega (arith, g1, g2)) h) (int_depends (suc w.count) (i) (name_rests word w.count (suc w.count) (omega arith)))))

    pub all_depend : (es : Exprs N) (vars : Vars) (hyps : List Term) (n : ℕ) → AreData vars → AllDepend n vars → EachDepends (walk_all_by s tests call words es vars hyps n).count (walk_all_by s tests call words es vars hyps n).terms
    all_depend NoExprs vars hyps n d h = none_depends
    all_depend (MoreExprs e es) vars hyps n d h =
        let v = W e vars hyps n in let u = walk_all_by s tests call words es vars v.hyps v.count in
        more_depends (depends_more v.count u.count (v.term) (all_grow s tests call words tests_grow calls_grow es vars v.hyps v.count) (walk_depends e vars hyps n d h)) (all_depend es vars v.hyps v.count d (all_more n v.count vars (up e vars hyps n) h))

    pub parts_depend : (fs : Fields N) (vars : Vars) (hyps : List Term) (n : ℕ) → AreData vars → AllDepend n vars → EachDepends (walk_fields_by s tests call words fs vars hyps n).count (walk_fields_by s tests call words fs vars hyps n).terms
    parts_depend NoFields vars hyps n d h = none_depends
    parts_depend (MoreFields name e fs) vars hyps n d h =
        let v = W e vars hyps n in let u = walk_fields_by s tests call words fs vars v.hyps v.count in
        more_depends (depends_more v.count u.count (v.term) (fields_grow s tests call words tests_grow calls_grow fs vars v.hyps v.count) (walk_depends e vars hyps n d h)) (parts_depend fs vars v.hyps v.count d (all_more n v.count vars (up e vars hyps n) h))

-- ---- calls

module _ {N : Type 0} (s : Setting N) where
  result_depends : (r : Routine N) (o : Option tree.Output) (vars : Vars) (hyps : List Term) (n : ℕ) → Depends (result_of s r o vars hyps n).count (result_of s r o vars hyps n).term
  result_depends r None vars hyps n = λ x y a. refl
  result_depends r (Some out) vars hyps n =
      let name = val_name r.name n in
      let typed = assume_in_type s out.ty name hyps (suc n) in
      let g = in_type_grows s out.ty name (suc n) in
      let h = assumed_grow s r.variables r.postconditions (put_if vars out.variable name) typed.hyps typed.count in
      λ x y a. a.datum_of r.name n (omega (arith, g, h))

  callee_depends : (c : Callee N) (at : ℕ) (vs hyps : List Term) (n : ℕ) → Depends (callee_walk s c at vs hyps n).count (callee_walk s c at vs hyps n).term
  callee_depends (Declared r) at vs hyps n =
      let members = owe_arguments s at r.params vs hyps n in
      let clauses = owe_clauses s kind.Requires at r.variables r.preconditions (arguments r.params vs []) members.hyps members.count in
      result_depends r r.result (arguments r.params vs []) clauses.hyps clauses.count
  callee_depends Print at [] hyps n = λ x y a. refl
  callee_depends Print at (v ∷ vs) hyps n = λ x y a. refl
  callee_depends PrintInt at vs hyps n = λ x y a. refl
  callee_depends Undeclared at vs hyps n = λ x y a. refl

-- ---- code

module _ {N : Type 0} (p : Program N) (words : List (List ℕ)) where
  pub code_depends : (e : Expr N) (vars : Vars) (hyps : List Term) (n : ℕ) → AreData vars → AllDepend n vars → Depends (walk_expr p words e vars hyps n).count (walk_expr p words e vars hyps n).term
  code_depends e vars hyps n data' h =
      let s = p.setting in
      subst (λ (r : Walked). Depends r.count r.term) (sym (walk_is s (call_walk s p.routines) words e vars hyps n))
      (walk_depends s (in_type s) (call_walk s p.routines) words (λ t v i. in_type_grows s t v i) (λ t i v k. holds_sorted (named_sorted s) t i k)
      (λ t i v k g. holds_rests (named_in s) (named_sorted s) (λ number j u. named_grows s (length s.types) number j u) (λ number j u l m. named_rests s (length s.types) number j u l m) t i v k g)
      (λ f at ts hs i. call_grows s p.routines f at ts hs i) (λ f at i ts hs all. call_sorted s p.routines f at ts hs i) (λ f at ts hs i. callee_depends s (callee p.routines f) at ts hs i)
      e vars hyps n data' h)

  pub code_sorted : (e : Expr N) (vars : Vars) (hyps : List Term) (n : ℕ) → AreData vars → IsOf val_sort (walk_expr p words e vars hyps n).term
  code_sorted e vars hyps n data' =
      let s = p.setting in
      subst (λ (r : Walked). IsOf val_sort r.term) (sym (walk_is s (call_walk s p.routines) words e vars hyps n))
      (walk_sorted s (in_type s) (call_walk s p.routines) words (λ t i v k. holds_sorted (named_sorted s) t i k) (λ f at i ts hs all. call_sorted s p.routines f at ts hs i) e vars hyps n data')

  pub code_grows : (e : Expr N) (vars : Vars) (hyps : List Term) (n : ℕ) → n ≤ (walk_expr p words e vars hyps n).count
  code_grows e vars hyps n = expr_grows p.setting p.routines words e vars hyps n

  pub codes_grow : (es : Exprs N) (vars : Vars) (hyps : List Term) (n : ℕ) → n ≤ (walk_all p.setting (call_walk p.setting p.routines) words es vars hyps n).count
  codes_grow es vars hyps n =
      let s = p.setting in
      subst (λ (r : WalkedAll). n ≤ r.count) (sym (all_is s (call_walk s p.routines) words es vars hyps n))
      (all_grow s (in_type s) (call_walk s p.routines) words (λ t v i. in_type_grows s t v i) (λ f at ts hs i. call_grows s p.routines f at ts hs i) es vars hyps n)

pub terms_depend : TermsDependOnNamesBelow
terms_depend p words e vars hyps n are h = code_depends p words e vars hyps n (are_data vars are) h
