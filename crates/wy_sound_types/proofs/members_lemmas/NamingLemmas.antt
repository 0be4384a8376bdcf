-- What is said of a type rests on what is said of the names in it alone, and so the terms of expressions rest on what is said of the names that they test.
use Rattle.std.proofs.Common.{◌≡◌, ℕ, suc, List, [], ◌∷◌, refl}
use Rattle.wy_core.specs.Types.{Ty, NullTy, BoolTy, IntTy, AnyTy, VoidTy, RecordTy, ArrayTy, UnionTy, InterTy, NotTy, NamedTy, NormalTy, FieldTys, NoFieldTys, MoreFieldTys}
use Rattle.wy_core.specs.CoreTree.{Expr, NullExpr, BoolExpr, IntExpr, VarExpr, CallExpr, NegExpr, NotExpr, LenExpr, BinaryExpr, IsExpr, IndexExpr, FieldExpr, ListExpr, RepeatExpr, RecordExpr, QuantExpr, Exprs, NoExprs, MoreExprs, Fields, NoFields, MoreFields, Alias}
use Rattle.wy_term.specs.Term.{Term}
use Rattle.wy_sound_statements.specs.wy_vc_spec.Making.{int_name, get, field, int}
use Rattle.wy_sound_statements.specs.wy_vc_spec.Variables.{Vars, put, put_if}
use Rattle.wy_sound_statements.specs.wy_vc_spec.Values.{Naming, Setting, k_word, word_at, holds, fields_hold, value, values, field_values, clause_formulas, defined}
use Rattle.wy_vc_laws.specs.grounded.Uses.{NamesAll, AllNamesAll, TestsAll, AllTestAll, FieldsTestAll, ClausesTestAll}

module _ (f g : Naming) (P : ℕ → Type 0) (same : (c : ℕ) → P c → (v : Term) (n : ℕ) → f c v n ≡ g c v n) where
  mutual
    pub holds_same : (t : Ty) → NamesAll P t → (v : Term) (n : ℕ) → holds f t v n ≡ holds g t v n
    holds_same NullTy h v n = refl
    holds_same BoolTy h v n = refl
    holds_same IntTy h v n = refl
    holds_same AnyTy h v n = refl
    holds_same VoidTy h v n = refl
    holds_same (RecordTy fields) h v n = rw (fields_same fields h v n) refl
    holds_same (ArrayTy t) h v n = rw (holds_same t h (get v (int_name k_word n)) (suc n)) refl
    holds_same (UnionTy s t) h v n = rw (holds_same s h.0 v n) (rw (holds_same t h.1 v (holds g s v n).count) refl)
    holds_same (InterTy s t) h v n = rw (holds_same s h.0 v n) (rw (holds_same t h.1 v (holds g s v n).count) refl)
    holds_same (NotTy t) h v n = rw (holds_same t h v n) refl
    holds_same (NamedTy c) h v n = same c h v n
    holds_same (NormalTy union) h v n = refl

    pub fields_same : (fields : FieldTys) → AllNamesAll P fields → (v : Term) (n : ℕ) → fields_hold f fields v n ≡ fields_hold g fields v n
    fields_same NoFieldTys h v n = refl
    fields_same (MoreFieldTys name t fields) h v n = rw (holds_same t h.0 (field name v) n) (rw (fields_same fields h.1 v (holds g t (field name v) n).count) refl)

  module _ {N : Type 0} (s : Setting N) (words : List (List ℕ)) where
    mutual
      pub value_same : (e : Expr N) → TestsAll P e → (vars : Vars) (n : ℕ) → value s f words e vars n ≡ value s g words e vars n
      value_same (NullExpr k) h vars n = refl
      value_same (BoolExpr k b) h vars n = refl
      value_same (IntExpr k z) h vars n = refl
      value_same (VarExpr k x) h vars n = refl
      value_same (CallExpr k routine args) h vars n = refl
      value_same (NegExpr k a) h vars n = rw (value_same a h vars n) refl
      value_same (NotExpr k a) h vars n = rw (value_same a h vars n) refl
      value_same (LenExpr k a) h vars n = rw (value_same a h vars n) refl
      value_same (BinaryExpr k o a b) h vars n = rw (value_same a h.0 vars n) (rw (value_same b h.1 vars (value s g words a vars n).count) refl)
      value_same (IsExpr k a t) h vars n = let v = value s g words a vars n in rw (value_same a h.0 vars n) (rw (holds_same t h.1 v.term v.count) refl)
      value_same (IndexExpr k a b) h vars n = rw (value_same a h.0 vars n) (rw (value_same b h.1 vars (value s g words a vars n).count) refl)
      value_same (FieldExpr k a name) h vars n = rw (value_same a h vars n) refl
      value_same (ListExpr k items) h vars n = rw (values_same items h vars n) refl
      value_same (RepeatExpr k a b) h vars n = rw (value_same a h.0 vars n) (rw (value_same b h.1 vars (value s g words a vars n).count) refl)
      value_same (RecordExpr k fields) h vars n = rw (parts_same fields h vars n) refl
      value_same (QuantExpr k all x a b body) h vars n =
          let v = value s g words a vars n in let w = value s g words b vars v.count in
          rw (value_same a h.0 vars n) (rw (value_same b h.1 vars v.count) (rw (value_same body h.2 (put vars x (int (int_name (word_at words x) w.count))) (suc w.count)) refl))

      pub values_same : (es : Exprs N) → AllTestAll P es → (vars : Vars) (n : ℕ) → values s f words es vars n ≡ values s g words es vars n
      values_same NoExprs h vars n = refl
      values_same (MoreExprs e es) h vars n = rw (value_same e h.0 vars n) (rw (values_same es h.1 vars (value s g words e vars n).count) refl)

      pub parts_same : (fs : Fields N) → FieldsTestAll P fs → (vars : Vars) (n : ℕ) → field_values s f words fs vars n ≡ field_values s g words fs vars n
      parts_same NoFields h vars n = refl
      parts_same (MoreFields name e fs) h vars n = rw (value_same e h.0 vars n) (rw (parts_same fs h.1 vars (value s g words e vars n).count) refl)

    pub clauses_same : (es : List (Expr N)) → ClausesTestAll P es → (vars : Vars) (n : ℕ) → clause_formulas s f words es vars n ≡ clause_formulas s g words es vars n
    clauses_same [] h vars n = refl
    clauses_same (e ∷ es) h vars n = rw (value_same e h.0 vars n) (rw (clauses_same es h.1 vars (value s g words e vars n).count) refl)

  -- the definition and the clauses of a type
  pub defined_same : {N : Type 0} (s : Setting N) (a : Alias N) → NamesAll P a.ty → ClausesTestAll P a.clauses → (v : Term) (n : ℕ) → defined s f a v n ≡ defined s g a v n
  defined_same s a h k v n = rw (holds_same a.ty h v n) (rw (clauses_same s a.variables a.clauses k (put_if [] a.variable v) (holds g a.ty v n).count) refl)
