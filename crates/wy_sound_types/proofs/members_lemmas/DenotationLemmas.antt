-- The term of an expression of a contract means what the expression denotes, and the formula of a type what its definition and its clauses say.
use Rattle.std.proofs.Common.{◌≡◌, ℕ, zero, suc, ◌≤◌, List, [], ◌∷◌, Bool, true, false, cond, not, neg_ℤ, ◌&&◌, ◌==◌, Option, Some, None, ℤ, refl, sym, ap, ◌∙◌, subst, arith, eqb-true}
use mathlib.Core.Path.{fun_ext}
use Rattle.wy_lemmas.proofs.Choices.{apart_of as unlike}
use Rattle.wy_lemmas.proofs.Equations.{both_same}
use Rattle.wy_value.specs.Datum.{Datum, Truth, Whole, Array, Record}
use Rattle.wy_core.specs.CoreTree.{Expr, NullExpr, BoolExpr, IntExpr, VarExpr, CallExpr, NegExpr, NotExpr, LenExpr, BinaryExpr, IsExpr, IndexExpr, FieldExpr, ListExpr, RepeatExpr, RecordExpr, QuantExpr, Exprs, NoExprs, MoreExprs, Fields, NoFields, MoreFields, Alias}
use Rattle.wy_term.specs.Term.{Term}
use Rattle.wy_term.specs.Sorts.{val_sort}
use Rattle.wy_term.specs.Data.{number_in, length_in, element, repeated, field_in, fields_with, items_with}
use Rattle.wy_term.specs.Meaning.{Names, with_number}
use Rattle.wy_sem.specs.Expressions.{node}
use Rattle.wy_sound_statements.specs.wy_vc_spec.Making.{int_name, number_of, num, int, formula}
use Rattle.wy_sound_statements.specs.wy_vc_spec.Variables.{Vars, put, put_if}
use Rattle.wy_sound_statements.specs.wy_vc_spec.Values.{Naming, Setting, Valued, word_at, variable, holds, value, values, field_values, field_names, clause_formulas, defined}
use Rattle.wy_vc_laws.proofs.wy_sound_terms_proofs.formed_lemmas.MakingLemmas.{IsOf, int_sorted, int_name_sorted}
use Rattle.wy_vc_laws.proofs.wy_sound_terms_proofs.formed_lemmas.ValueLemmas.{SaysFormulas, AreData, no_data, put_data, put_if_data, term_sorted}
use Rattle.wy_vc_laws.proofs.wy_sound_terms_proofs.operations_lemmas.MadeLemmas.{number, datum, holds as true_at, all, each_datum, num_means, int_means, value_means, get_means, field_means, repeat_means, array_means, record_means, all_means}
use Rattle.wy_sound_statements.specs.wy_sound_walks.expressions.Names.{Agree, Means}
use Rattle.wy_sound_statements.specs.wy_sound_walks.expressions.Types.{is_in}
use Rattle.wy_sound_statements.specs.wy_sound_walks.expressions.Written.{IsWritten}
use Rattle.wy_sound_statements.specs.wy_sound_walks.expressions.Laws.{NamesTold}
use Rattle.wy_sound_statements.proofs.wy_sound_walks_proofs.expressions_lemmas.NameLemmas.{agree_refl, agree_less, agree_number, agree_both, means_later}
use Rattle.wy_sound_statements.proofs.wy_sound_walks_proofs.expressions_lemmas.ValueGrows.{holds_grows, value_grows, values_grow, parts_grow}
use Rattle.wy_sound_statements.proofs.wy_sound_walks_proofs.expressions_lemmas.QuantifierLemmas.{name_means}
use Rattle.wy_sound_statements.proofs.wy_sound_walks_proofs.expressions_lemmas.LawLemmas.{tells_by}
use Rattle.wy_sound_types.specs.members.Denotations.{is_true, operates, holds_between, with_value, nothing_had, value_if, denoted, all_denoted, parts_denoted, clauses_denote, alias_denotes, is_defined}
use Rattle.wy_sound_types.specs.members.Tests.{TestsWritten, AllTestsWritten, FieldTestsWritten, ClauseTestsWritten}
use Rattle.wy_sound_types.proofs.members_lemmas.OperationLemmas.{formula_is, operated_means, negated_means, denial_means, length_means, quantified_means}

-- ---- variables

put_here : (vars : Vars) (x : ℕ) (t : Term) → variable (put vars x t) x ≡ t
put_here [] zero t = refl
put_here [] (suc x) t = put_here [] x t
put_here (v ∷ vs) zero t = refl
put_here (v ∷ vs) (suc x) t = put_here vs x t

put_there : (vars : Vars) (x y : ℕ) (t : Term) → (x ≡ y → ⊥) → variable (put vars x t) y ≡ variable vars y
put_there [] zero zero t h = absurd (h refl)
put_there [] zero (suc y) t h = refl
put_there [] (suc x) zero t h = refl
put_there [] (suc x) (suc y) t h = put_there [] x y t (λ e. h (ap suc e))
put_there (v ∷ vs) zero zero t h = absurd (h refl)
put_there (v ∷ vs) zero (suc y) t h = refl
put_there (v ∷ vs) (suc x) zero t h = refl
put_there (v ∷ vs) (suc x) (suc y) t h = put_there vs x y t (λ e. h (ap suc e))

-- each variable's term means its datum
abbrev pub Have : ℕ → Names → Vars → (ℕ → Datum) → Type 0
Have n u vars has = (x : ℕ) → Means n u (variable vars x) (has x)

pub have_later : (n m : ℕ) (u w : Names) (vars : Vars) (has : ℕ → Datum) → n ≤ m → Agree n u w → Have n u vars has → Have m w vars has
have_later n m u w vars has le a h x = means_later n m u w (variable vars x) (has x) le a (h x)

pub put_have : (n : ℕ) (u : Names) (vars : Vars) (has : ℕ → Datum) (x : ℕ) (t : Term) (d : Datum) → Have n u vars has → Means n u t d → Have n u (put vars x t) (with_value x d has)
put_have n u vars has x t d h g y = by (x == y) refl where
  by : (b : Bool) → (x == y) ≡ b → Means n u (variable (put vars x t) y) (cond b d (has y))
  by true e = subst (λ (z : ℕ). Means n u (variable (put vars x t) z) d) (eqb-true x y e) (subst (λ (s : Term). Means n u s d) (sym (put_here vars x t)) g)
  by false e = subst (λ (s : Term). Means n u s (has y)) (sym (put_there vars x y t (unlike x y e))) (h y)

pub nothing_have : (n : ℕ) (u : Names) → Have n u [] nothing_had
nothing_have n u x w a = refl

pub if_have : (n : ℕ) (u : Names) (x : Option ℕ) (v : Term) (d : Datum) → Means n u v d → Have n u (put_if [] x v) (value_if x d)
if_have n u None v d h = nothing_have n u
if_have n u (Some x) v d h = put_have n u [] nothing_had x v d (nothing_have n u) h

-- the variable of a quantifier, at names where its number is bound
bound_have : (n key : ℕ) (u : Names) (vars : Vars) (has : ℕ → Datum) (x : ℕ) (word : List ℕ) (i : ℤ) → n ≤ key → Have n u vars has
    → Have (suc key) (with_number u word key i) (put vars x (int (int_name word key))) (with_value x (Whole i) has)
bound_have n key u vars has x word i le h =
    put_have (suc key) (with_number u word key i) vars has x (int (int_name word key)) (Whole i)
    (have_later n (suc key) u (with_number u word key i) vars has (omega (arith, le)) (agree_number n u word key i le) h)
    (name_means n key u u word i le (agree_refl n u))

-- ---- expressions

module _ (members : ℕ → Datum → Bool) (named : Naming) (formulas : SaysFormulas named) (grows : (number n : ℕ) (v : Term) → n ≤ (named number v n).count) (told : NamesTold members named) {N : Type 0} (s : Setting N) where
  module _ (words : List (List ℕ)) where
    abbrev V : Expr N → Vars → ℕ → Valued
    V e vars n = value s named words e vars n

    abbrev D : Expr N → (ℕ → Datum) → Datum
    D e has = denoted members s.is_number e has

    -- the operand before stays behind the one after it
    kept : (a b : Expr N) (vars : Vars) (n : ℕ) (u : Names) (d : Datum) → Means (V a vars n).count u (V a vars n).term d → Means (V b vars (V a vars n).count).count u (V a vars n).term d
    kept a b vars n u d h = let i = (V a vars n).count in means_later i (V b vars i).count u u (V a vars n).term d (value_grows s named grows words b vars i) (agree_refl i u) h

    behind : (a : Expr N) (vars : Vars) (n : ℕ) (u : Names) (has : ℕ → Datum) → Have n u vars has → Have (V a vars n).count u vars has
    behind a vars n u has h = have_later n (V a vars n).count u u vars has (value_grows s named grows words a vars n) (agree_refl n u) h

    body_grows : (body : Expr N) (vars : Vars) (m : ℕ) → m ≤ (V body vars (suc m)).count
    body_grows body vars m = let h = value_grows s named grows words body vars (suc m) in omega (arith, h)

    below_both : (a b : Expr N) (vars : Vars) (n : ℕ) → n ≤ (V b vars (V a vars n).count).count
    below_both a b vars n = let h = value_grows s named grows words a vars n in let g = value_grows s named grows words b vars (V a vars n).count in omega (arith, h, g)

    mutual
      pub value_told : (e : Expr N) → TestsWritten e → (vars : Vars) (n : ℕ) (u : Names) (has : ℕ → Datum) → u.is_member ≡ members → AreData vars → Have n u vars has → Means (V e vars n).count u (V e vars n).term (D e has)
      value_told (NullExpr k) wr vars n u has right da h w a = refl
      value_told (BoolExpr k b) wr vars n u has right da h w a = refl
      value_told (IntExpr k z) wr vars n u has right da h w a = int_means w (number_of z)
      value_told (VarExpr k x) wr vars n u has right da h w a = h x w a
      value_told (CallExpr k routine args) wr vars n u has right da h w a = refl
      value_told (NegExpr k e) wr vars n u has right da h w a = negated_means w (V e vars n).term ∙ ap (λ (d : Datum). Whole (neg_ℤ (number_in d))) (value_told e wr vars n u has right da h w a)
      value_told (NotExpr k e) wr vars n u has right da h w a = denial_means w (V e vars n).term ∙ ap (λ (d : Datum). Truth (not (is_true d))) (value_told e wr vars n u has right da h w a)
      value_told (LenExpr k e) wr vars n u has right da h w a = length_means w (V e vars n).term ∙ ap (λ (d : Datum). Whole (length_in d)) (value_told e wr vars n u has right da h w a)
      value_told (BinaryExpr k o e f) wr vars n u has right da h w a =
          let v = V e vars n in let x = V f vars v.count in let numbers = s.is_number (node e) && s.is_number (node f) in
          operated_means w o numbers v.term x.term
          ∙ both_same (operates o numbers) (datum w v.term) (D e has) (datum w x.term) (D f has) (kept e f vars n u (D e has) (value_told e wr.0 vars n u has right da h) w a) (value_told f wr.1 vars v.count u has right da (behind e vars n u has h) w a)
      value_told (IsExpr k e t) wr vars n u has right da h w a =
          let v = V e vars n in let f = holds named t v.term v.count in
          value_means w f.term
          ∙ ap Truth (tells_by members named formulas grows told t v.count v.term u (D e has) wr.1 right (term_sorted s named formulas words e n da) (value_told e wr.0 vars n u has right da h) w
          (agree_less v.count f.count u w (holds_grows named grows t v.term v.count) a))
      value_told (IndexExpr k e f) wr vars n u has right da h w a =
          let v = V e vars n in let x = V f vars v.count in
          get_means w v.term (num x.term)
          ∙ both_same element (datum w v.term) (D e has) (number w (num x.term)) (number_in (D f has)) (kept e f vars n u (D e has) (value_told e wr.0 vars n u has right da h) w a)
          (num_means w x.term ∙ ap number_in (value_told f wr.1 vars v.count u has right da (behind e vars n u has h) w a))
      value_told (FieldExpr k e name) wr vars n u has right da h w a = field_means w name (V e vars n).term ∙ ap (λ (d : Datum). field_in d name) (value_told e wr vars n u has right da h w a)
      value_told (ListExpr k items) wr vars n u has right da h w a = array_means w (values s named words items vars n).terms ∙ ap (λ (ds : List Datum). Array (items_with ds)) (values_told items wr vars n u has right da h w a)
      value_told (RepeatExpr k e f) wr vars n u has right da h w a =
          let v = V e vars n in let x = V f vars v.count in
          repeat_means w v.term (num x.term)
          ∙ both_same repeated (datum w v.term) (D e has) (number w (num x.term)) (number_in (D f has)) (kept e f vars n u (D e has) (value_told e wr.0 vars n u has right da h) w a)
          (num_means w x.term ∙ ap number_in (value_told f wr.1 vars v.count u has right da (behind e vars n u has h) w a))
      value_told (RecordExpr k fields) wr vars n u has right da h w a =
          record_means w (field_names fields) (field_values s named words fields vars n).terms ∙ ap (λ (ds : List Datum). Record (fields_with (field_names fields) ds)) (parts_told fields wr vars n u has right da h w a)
      value_told (QuantExpr k every x e f body) wr vars n u has right da h w a =
          let v = V e vars n in let y = V f vars v.count in
          let word = word_at words x in
          let inner = put vars x (int (int_name word y.count)) in
          let b = V body inner (suc y.count) in
          let da2 = put_data x da (int_sorted (int_name_sorted word y.count)) in
          let up : y.count ≤ b.count = body_grows body inner y.count in
          let first = means_later y.count b.count u u v.term (D e has) up (agree_refl y.count u) (kept e f vars n u (D e has) (value_told e wr.0 vars n u has right da h)) in
          let second = means_later y.count b.count u u y.term (D f has) up (agree_refl y.count u) (value_told f wr.1 vars v.count u has right da (behind e vars n u has h)) in
          quantified_means w every word y.count v.term y.term b.term (term_sorted s named formulas words e n da) (term_sorted s named formulas words f v.count da) (term_sorted s named formulas words body (suc y.count) da2)
          ∙ ap Truth (both_same (λ (c d : Datum). holds_between every c d (λ i. true_at (with_number w word y.count i) (formula b.term))) (datum w v.term) (D e has) (datum w y.term) (D f has) (first w a) (second w a)
          ∙ ap (holds_between every (D e has) (D f has)) (fun_ext (λ i. formula_is (with_number w word y.count i) b.term
          ∙ ap is_true (value_told body wr.2 inner (suc y.count) (with_number u word y.count i) (with_value x (Whole i) has) right da2
          (bound_have n y.count u vars has x word i (below_both e f vars n) h)
          (with_number w word y.count i) (agree_both b.count u w word y.count i a)))))

      pub values_told : (es : Exprs N) → AllTestsWritten es → (vars : Vars) (n : ℕ) (u : Names) (has : ℕ → Datum) → u.is_member ≡ members → AreData vars → Have n u vars has
          → (w : Names) → Agree (values s named words es vars n).count u w → each_datum w (values s named words es vars n).terms ≡ all_denoted members s.is_number es has
      values_told NoExprs wr vars n u has right da h w a = refl
      values_told (MoreExprs e es) wr vars n u has right da h w a =
          let v = V e vars n in let vs = values s named words es vars v.count in
          both_same (λ (d : Datum) (ds : List Datum). d ∷ ds) (datum w v.term) (D e has) (each_datum w vs.terms) (all_denoted members s.is_number es has)
          (value_told e wr.0 vars n u has right da h w (agree_less v.count vs.count u w (values_grow s named grows words es vars v.count) a))
          (values_told es wr.1 vars v.count u has right da (behind e vars n u has h) w a)

      pub parts_told : (fs : Fields N) → FieldTestsWritten fs → (vars : Vars) (n : ℕ) (u : Names) (has : ℕ → Datum) → u.is_member ≡ members → AreData vars → Have n u vars has
          → (w : Names) → Agree (field_values s named words fs vars n).count u w → each_datum w (field_values s named words fs vars n).terms ≡ parts_denoted members s.is_number fs has
      parts_told NoFields wr vars n u has right da h w a = refl
      parts_told (MoreFields name e fs) wr vars n u has right da h w a =
          let v = V e vars n in let vs = field_values s named words fs vars v.count in
          both_same (λ (d : Datum) (ds : List Datum). d ∷ ds) (datum w v.term) (D e has) (each_datum w vs.terms) (parts_denoted members s.is_number fs has)
          (value_told e wr.0 vars n u has right da h w (agree_less v.count vs.count u w (parts_grow s named grows words fs vars v.count) a))
          (parts_told fs wr.1 vars v.count u has right da (behind e vars n u has h) w a)

    clauses_told : (es : List (Expr N)) → ClauseTestsWritten es → (vars : Vars) (n : ℕ) (u : Names) (has : ℕ → Datum) → u.is_member ≡ members → AreData vars → Have n u vars has
        → all u (clause_formulas s named words es vars n).terms ≡ clauses_denote members s.is_number es has
    clauses_told [] wr vars n u has right da h = refl
    clauses_told (e ∷ es) wr vars n u has right da h =
        let v = V e vars n in let rest = clause_formulas s named words es vars v.count in
        both_same (λ (x y : Bool). x && y) (true_at u (formula v.term)) (is_true (D e has)) (all u rest.terms) (clauses_denote members s.is_number es has)
        (formula_is u v.term ∙ ap is_true (value_told e wr.0 vars n u has right da h u (agree_refl v.count u)))
        (clauses_told es wr.1 vars v.count u has right da (behind e vars n u has h))

  -- the definition and the clauses of a type
  pub defined_told : (a : Alias N) → IsWritten a.ty → ClauseTestsWritten a.clauses → (n : ℕ) (v : Term) (u : Names) (d : Datum) → u.is_member ≡ members → IsOf val_sort v → Means n u v d → true_at u (defined s named a v n).term ≡ is_defined members s.is_number a d
  defined_told a wr cw n v u d right is h =
      let f = holds named a.ty v n in let fs = clause_formulas s named a.variables a.clauses (put_if [] a.variable v) f.count in
      all_means u (f.term ∷ fs.terms)
      ∙ both_same (λ (x y : Bool). x && y) (true_at u f.term) (is_in members a.ty d) (all u fs.terms) (alias_denotes members s.is_number a d)
      (tells_by members named formulas grows told a.ty n v u d wr right is h u (agree_refl n u))
      (clauses_told a.variables a.clauses cw (put_if [] a.variable v) f.count u (value_if a.variable d) right (put_if_data a.variable no_data is)
      (if_have f.count u a.variable v d (means_later n f.count u u v d (holds_grows named grows a.ty v n) (agree_refl n u) h)))
