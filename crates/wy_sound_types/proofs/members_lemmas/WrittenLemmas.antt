-- Types of a bound core are such as a source may write.
use Rattle.std.proofs.Common.{◌≡◌, ℕ, ◌+◌, List, [], ◌∷◌, refl, subst, ap}
use Rattle.wy_core.specs.Types.{Ty, NullTy, BoolTy, IntTy, AnyTy, VoidTy, RecordTy, ArrayTy, UnionTy, InterTy, NotTy, NamedTy, NormalTy, FieldTys, NoFieldTys, MoreFieldTys}
use Rattle.wy_core.specs.CoreTree.{Expr, NullExpr, BoolExpr, IntExpr, VarExpr, CallExpr, NegExpr, NotExpr, LenExpr, BinaryExpr, IsExpr, IndexExpr, FieldExpr, ListExpr, RepeatExpr, RecordExpr, QuantExpr, Exprs, NoExprs, MoreExprs, Fields, NoFields, MoreFields}
use Rattle.wy_core.specs.formed.Offers.{Offers}
use Rattle.wy_core.specs.formed.Bound.{names_of_tys, Scope, BoundTy, BoundFieldTys, BoundExpr, BoundExprs, BoundFields, BoundClauses}
use Rattle.wy_sound_statements.specs.wy_vc_spec.Sizes.{exprs_in}
use Rattle.wy_sound_statements.specs.wy_vc_spec.Numbered.{numbered, numbered_all, numbered_fields, numbered_list}
use Rattle.wy_sound_statements.specs.wy_vc_spec.Values.{names_of}
use Rattle.wy_sound_statements.specs.wy_sound_walks.expressions.Written.{AreApart, IsWritten, AreWritten}
use Rattle.wy_sound_types.specs.members.Tests.{TestsWritten, AllTestsWritten, FieldTestsWritten, ClauseTestsWritten}
use Rattle.wy_sound_types.proofs.members_lemmas.ApartLemmas.{rising_apart}

same_names : (fields : FieldTys) → names_of_tys fields ≡ names_of fields
same_names NoFieldTys = refl
same_names (MoreFieldTys name t fields) = ap (λ (ns : List (List ℕ)). name ∷ ns) (same_names fields)

mutual
  pub bound_written : (n : ℕ) (t : Ty) → BoundTy n t → IsWritten t
  bound_written n NullTy h = tt
  bound_written n BoolTy h = tt
  bound_written n IntTy h = tt
  bound_written n AnyTy h = tt
  bound_written n VoidTy h = tt
  bound_written n (RecordTy fields) h = (subst AreApart (same_names fields) (rising_apart (names_of_tys fields) h.0), fields_written n fields h.1)
  bound_written n (ArrayTy t) h = bound_written n t h
  bound_written n (UnionTy s t) h = (bound_written n s h.0, bound_written n t h.1)
  bound_written n (InterTy s t) h = (bound_written n s h.0, bound_written n t h.1)
  bound_written n (NotTy t) h = bound_written n t h
  bound_written n (NamedTy c) h = tt
  bound_written n (NormalTy union) h = absurd h

  fields_written : (n : ℕ) (fields : FieldTys) → BoundFieldTys n fields → AreWritten fields
  fields_written n NoFieldTys h = tt
  fields_written n (MoreFieldTys name t fields) h = (bound_written n t h.0, fields_written n fields h.1)

module _ (o : Offers) (n : ℕ) where
  mutual
    pub tests_written : (vs : Scope) (e : Expr ℕ) (k : ℕ) → BoundExpr o n vs e → TestsWritten (numbered e k)
    tests_written vs (NullExpr at) k h = tt
    tests_written vs (BoolExpr at b) k h = tt
    tests_written vs (IntExpr at z) k h = tt
    tests_written vs (VarExpr at x) k h = tt
    tests_written vs (CallExpr at f es) k h = all_written vs es k h.1
    tests_written vs (NegExpr at a) k h = tests_written vs a k h
    tests_written vs (NotExpr at a) k h = tests_written vs a k h
    tests_written vs (LenExpr at a) k h = tests_written vs a k h
    tests_written vs (BinaryExpr at op a b) k h = (tests_written vs a k h.0, tests_written vs b (k + exprs_in a) h.1)
    tests_written vs (IsExpr at a t) k h = (tests_written vs a k h.0, bound_written o.types t h.1)
    tests_written vs (IndexExpr at a b) k h = (tests_written vs a k h.0, tests_written vs b (k + exprs_in a) h.1)
    tests_written vs (FieldExpr at a name) k h = tests_written vs a k h
    tests_written vs (ListExpr at es) k h = all_written vs es k h
    tests_written vs (RepeatExpr at a b) k h = (tests_written vs a k h.0, tests_written vs b (k + exprs_in a) h.1)
    tests_written vs (RecordExpr at fs) k h = parts_written vs fs k h.1
    tests_written vs (QuantExpr at all x a b body) k h =
        (tests_written vs a k h.1, tests_written vs b (k + exprs_in a) h.2, tests_written (x ∷ vs) body (k + exprs_in a + exprs_in b) h.3)

    all_written : (vs : Scope) (es : Exprs ℕ) (k : ℕ) → BoundExprs o n vs es → AllTestsWritten (numbered_all es k)
    all_written vs NoExprs k h = tt
    all_written vs (MoreExprs e es) k h = (tests_written vs e k h.0, all_written vs es (k + exprs_in e) h.1)

    parts_written : (vs : Scope) (fs : Fields ℕ) (k : ℕ) → BoundFields o n vs fs → FieldTestsWritten (numbered_fields fs k)
    parts_written vs NoFields k h = tt
    parts_written vs (MoreFields name e fs) k h = (tests_written vs e k h.0, parts_written vs fs (k + exprs_in e) h.1)

  pub clauses_written : (vs : Scope) (es : List (Expr ℕ)) (k : ℕ) → BoundClauses o n vs es → ClauseTestsWritten (numbered_list es k)
  clauses_written vs [] k h = tt
  clauses_written vs (e ∷ es) k h = (tests_written vs e k h.0, clauses_written vs es (k + exprs_in e) h.1)
