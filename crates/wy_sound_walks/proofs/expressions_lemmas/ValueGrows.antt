-- Formulas of types and terms of contracts make names from their count on.
use Rattle.std.proofs.Common.{ℕ, zero, suc, ◌+◌, ◌≤◌, List, [], ◌∷◌, length, Bool, true, false, if◌then◌else◌, arith}
use Rattle.wy_core.specs.Types.{Ty, NullTy, BoolTy, IntTy, AnyTy, VoidTy, RecordTy, ArrayTy, UnionTy, InterTy, NotTy, NamedTy, NormalTy, FieldTys, NoFieldTys, MoreFieldTys}
use Rattle.wy_core.specs.CoreTree.{Expr, NullExpr, BoolExpr, IntExpr, VarExpr, CallExpr, NegExpr, NotExpr, LenExpr, BinaryExpr, IsExpr, IndexExpr, FieldExpr, ListExpr, RepeatExpr, RecordExpr, QuantExpr, Exprs, NoExprs, MoreExprs, Fields, NoFields, MoreFields, Alias}
use Rattle.wy_term.specs.Term.{Term}
use Rattle.wy_sound_terms.specs.wy_sem.TypeTests.{alias_at}
use Rattle.wy_sound_terms.specs.wy_vc_spec.Named.{is_written}
use Rattle.wy_sound_terms.specs.wy_vc_spec.Making.{int_name, get, field, int, in_type}
use Rattle.wy_sound_terms.specs.wy_vc_spec.Variables.{Vars, put, put_if}
use Rattle.wy_sound_terms.specs.wy_vc_spec.Values.{Naming, Setting, Valued, valued, k_word, word_at, holds, fields_hold, value, values, field_values, clause_formula, clause_formulas, defined, named_to, named_in}

pub pick_grows : (n : ℕ) (b : Bool) (v w : Valued) → n ≤ v.count → n ≤ w.count → n ≤ (if b then v else w).count
pick_grows n true v w h g = h
pick_grows n false v w h g = g

module _ (named : Naming) (named_grows : (number n : ℕ) (v : Term) → n ≤ (named number v n).count) where
  mutual
    pub holds_grows : (t : Ty) (v : Term) (n : ℕ) → n ≤ (holds named t v n).count
    holds_grows NullTy v n = omega arith
    holds_grows BoolTy v n = omega arith
    holds_grows IntTy v n = omega arith
    holds_grows AnyTy v n = omega arith
    holds_grows VoidTy v n = omega arith
    holds_grows (RecordTy fields) v n = fields_grow fields v n
    holds_grows (ArrayTy t) v n = let h = holds_grows t (get v (int_name k_word n)) (suc n) in omega (arith, h)
    holds_grows (UnionTy s t) v n = let h = holds_grows s v n in let g = holds_grows t v (holds named s v n).count in omega (arith, h, g)
    holds_grows (InterTy s t) v n = let h = holds_grows s v n in let g = holds_grows t v (holds named s v n).count in omega (arith, h, g)
    holds_grows (NotTy t) v n = holds_grows t v n
    holds_grows (NamedTy number) v n = named_grows number n v
    holds_grows (NormalTy union) v n = omega arith

    pub fields_grow : (fields : FieldTys) (v : Term) (n : ℕ) → n ≤ (fields_hold named fields v n).count
    fields_grow NoFieldTys v n = omega arith
    fields_grow (MoreFieldTys f t fields) v n = let h = holds_grows t (field f v) n in let g = fields_grow fields v (holds named t (field f v) n).count in omega (arith, h, g)

module _ {N : Type 0} (s : Setting N) (named : Naming) (named_grows : (number n : ℕ) (v : Term) → n ≤ (named number v n).count) (words : List (List ℕ)) where
  abbrev V : Expr N → Vars → ℕ → Valued
  V e vars n = value s named words e vars n

  mutual
    pub value_grows : (e : Expr N) (vars : Vars) (n : ℕ) → n ≤ (value s named words e vars n).count
    value_grows (NullExpr k) vars n = omega arith
    value_grows (BoolExpr k b) vars n = omega arith
    value_grows (IntExpr k z) vars n = omega arith
    value_grows (VarExpr k x) vars n = omega arith
    value_grows (CallExpr k f args) vars n = omega arith
    value_grows (NegExpr k a) vars n = value_grows a vars n
    value_grows (NotExpr k a) vars n = value_grows a vars n
    value_grows (LenExpr k a) vars n = value_grows a vars n
    value_grows (BinaryExpr k o a b) vars n = let h = value_grows a vars n in let g = value_grows b vars (V a vars n).count in omega (arith, h, g)
    value_grows (IsExpr k a t) vars n = let h = value_grows a vars n in let g = holds_grows named named_grows t (V a vars n).term (V a vars n).count in omega (arith, h, g)
    value_grows (IndexExpr k a b) vars n = let h = value_grows a vars n in let g = value_grows b vars (V a vars n).count in omega (arith, h, g)
    value_grows (FieldExpr k a name) vars n = value_grows a vars n
    value_grows (ListExpr k items) vars n = values_grow items vars n
    value_grows (RepeatExpr k a b) vars n = let h = value_grows a vars n in let g = value_grows b vars (V a vars n).count in omega (arith, h, g)
    value_grows (RecordExpr k fields) vars n = parts_grow fields vars n
    value_grows (QuantExpr k all x a b body) vars n =
        let w = V b vars (V a vars n).count in
        let h = value_grows a vars n in let g = value_grows b vars (V a vars n).count in let f = value_grows body (put vars x (int (int_name (word_at words x) w.count))) (suc w.count) in omega (arith, h, g, f)

    pub values_grow : (es : Exprs N) (vars : Vars) (n : ℕ) → n ≤ (values s named words es vars n).count
    values_grow NoExprs vars n = omega arith
    values_grow (MoreExprs e es) vars n = let h = value_grows e vars n in let g = values_grow es vars (V e vars n).count in omega (arith, h, g)

    pub parts_grow : (fs : Fields N) (vars : Vars) (n : ℕ) → n ≤ (field_values s named words fs vars n).count
    parts_grow NoFields vars n = omega arith
    parts_grow (MoreFields name e fs) vars n = let h = value_grows e vars n in let g = parts_grow fs vars (V e vars n).count in omega (arith, h, g)

  pub clause_grows : (e : Expr N) (vars : Vars) (n : ℕ) → n ≤ (clause_formula s named words e vars n).count
  clause_grows e vars n = value_grows e vars n

  pub clauses_grow : (es : List (Expr N)) (vars : Vars) (n : ℕ) → n ≤ (clause_formulas s named words es vars n).count
  clauses_grow [] vars n = omega arith
  clauses_grow (e ∷ es) vars n = let h = value_grows e vars n in let g = clauses_grow es vars (V e vars n).count in omega (arith, h, g)

pub defined_grows : {N : Type 0} (s : Setting N) (named : Naming) → ((number n : ℕ) (v : Term) → n ≤ (named number v n).count) → (a : Alias N) (v : Term) (n : ℕ) → n ≤ (defined s named a v n).count
defined_grows s named grows a v n =
    let h = holds_grows named grows a.ty v n in let g = clauses_grow s named grows a.variables a.clauses (put_if [] a.variable v) (holds named a.ty v n).count in omega (arith, h, g)

pub named_grows : {N : Type 0} (s : Setting N) (depth number n : ℕ) (v : Term) → n ≤ (named_to s depth number v n).count
named_grows s zero number n v = omega arith
named_grows s (suc depth) number n v =
    pick_grows n (is_written s.types number) (defined s (named_to s depth) (alias_at s.types number) v n) (valued n (in_type number v)) (defined_grows s (named_to s depth) (λ i m u. named_grows s depth i m u) (alias_at s.types number) v n) (omega arith)
