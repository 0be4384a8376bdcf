-- Numbers in what is put together: instances of clauses, lists, blocks.
use Rattle.std.proofs.Common.{◌≡◌, ◌<◌, ℕ, zero, suc, pos, Bool, true, false, List, [], ◌∷◌, ◌++◌, Option, Some, None, refl, subst, arith}
use Rattle.std.specs.List.{slice_get}
use Rattle.wy_ast.specs.SurfaceTree as surface
use Rattle.wy_ast.specs.declared.expressions.Op as surface_op
use Rattle.wy_ast.specs.declared.expressions.Op.TheVariants as sop
use Rattle.wy_core.specs.CoreTree as core
use Rattle.wy_core.specs.CoreTree.{Expr, NullExpr, BoolExpr, IntExpr, VarExpr, CallExpr, NegExpr, NotExpr, LenExpr, BinaryExpr, IsExpr, IndexExpr, FieldExpr, ListExpr, RepeatExpr, RecordExpr, QuantExpr, Exprs, NoExprs, MoreExprs, Fields, NoFields, MoreFields, exprs_of, fields_of, stmts_of}
use Rattle.wy_core.specs.declared.expressions.Op.TheVariants as op
use Rattle.wy_names_lower.specs.wy_core_build.Instances.{renumbered, argument_or, variable, instance_of, instances, instance_fields, joined_behind}
use Rattle.wy_lemmas.proofs.Lists.{Each}
use Rattle.wy_names_lower.specs.Uses.{Template}
use Rattle.wy_names_lower.specs.ExprsLowered.{operator, text}
use Rattle.wy_names_lower.specs.StmtsLowered.{each_behind_first, equals, or_of, or_labels, Arm, chain}
use Rattle.wy_core.specs.formed.Literals.{IsInt, IntsExpr, IntsExprs, IntsFields, IntsClauses, IntsStmts}
use Rattle.wy_names.specs.resolved.SourceLiterals.{Bytes, SourceExprs, SourceClauses}

-- ---- numbers

pub byte_is_int : (b : ℕ) → b < 256 → IsInt (pos b)
byte_is_int b less = record { least = grind arith; greatest = grind (arith, less) }

-- ---- a property's clauses at a use of it

abbrev pub IntsTemplate : Option Template → Type 0
IntsTemplate None = Unit {0}
IntsTemplate (Some t) = IntsClauses t.clauses

abbrev pub IntsTemplates : List Template → Type 0
IntsTemplates ts = (i : ℕ) → IntsTemplate (slice_get ts i)

pub some_expr : (x y : Expr ℕ) → Some x ≡ Some y → x ≡ y
some_expr x y e = cc

pub argument_ints : (args : List (Expr ℕ)) (i : ℕ) (x : Expr ℕ) → IntsClauses args → slice_get args i ≡ Some x → IntsExpr x
argument_ints [] i x b h = absurd (cc)
argument_ints (a ∷ args) zero x b h = subst (λ (z : Expr ℕ). IntsExpr z) (some_expr a x h) b.0
argument_ints (a ∷ args) (suc i) x b h = argument_ints args i x b.1 h

module _ (at : ℕ) (args : List (Expr ℕ)) (base : ℕ) (b : IntsClauses args) where
  variable_ints : (v : ℕ) → IntsExpr (variable at args base v)
  variable_ints v = by (slice_get args v) refl
    where
      by : (x : Option (Expr ℕ)) → slice_get args v ≡ x → IntsExpr (argument_or (VarExpr at (renumbered args base v)) x)
      by None e = tt
      by (Some x) e = argument_ints args v x b e

  mutual
    instance_ints : (e : Expr ℕ) → IntsExpr e → IntsExpr (instance_of at args base e)
    instance_ints (NullExpr p) h = tt
    instance_ints (BoolExpr p truth) h = tt
    instance_ints (IntExpr p z) h = h
    instance_ints (VarExpr p v) h = variable_ints v
    instance_ints (CallExpr p routine es) h = instances_ints es h
    instance_ints (NegExpr p a) h = instance_ints a h
    instance_ints (NotExpr p a) h = instance_ints a h
    instance_ints (LenExpr p a) h = instance_ints a h
    instance_ints (BinaryExpr p op x y) h = (instance_ints x h.0, instance_ints y h.1)
    instance_ints (IsExpr p a t) h = instance_ints a h
    instance_ints (IndexExpr p x y) h = (instance_ints x h.0, instance_ints y h.1)
    instance_ints (FieldExpr p a name) h = instance_ints a h
    instance_ints (ListExpr p items) h = instances_ints items h
    instance_ints (RepeatExpr p x y) h = (instance_ints x h.0, instance_ints y h.1)
    instance_ints (RecordExpr p fs) h = instance_fields_ints fs h
    instance_ints (QuantExpr p all v from to body) h = (instance_ints from h.0, instance_ints to h.1, instance_ints body h.2)

    instances_ints : (es : Exprs ℕ) → IntsExprs es → IntsExprs (instances at args base es)
    instances_ints NoExprs h = tt
    instances_ints (MoreExprs e rest) h = (instance_ints e h.0, instances_ints rest h.1)

    instance_fields_ints : (fs : Fields ℕ) → IntsFields fs → IntsFields (instance_fields at args base fs)
    instance_fields_ints NoFields h = tt
    instance_fields_ints (MoreFields name e rest) h = (instance_ints e h.0, instance_fields_ints rest h.1)

  pub joined_ints : (first : Bool) (e : Expr ℕ) → IntsExpr e → (cs : List (Expr ℕ)) → IntsClauses cs → IntsExpr (joined_behind at args base first e cs)
  joined_ints first e h [] k = h
  joined_ints true e h (c ∷ cs) k = joined_ints false (instance_of at args base c) (instance_ints c k.0) cs k.1
  joined_ints false e h (c ∷ cs) k = joined_ints false (BinaryExpr at op.And e (instance_of at args base c)) (h, instance_ints c k.0) cs k.1

-- ---- lists

pub exprs_ints : (es : List (Expr ℕ)) → IntsClauses es → IntsExprs (exprs_of es)
exprs_ints [] b = tt
exprs_ints (e ∷ es) b = (b.0, exprs_ints es b.1)

pub fields_ints : (fs : List (List ℕ × Expr ℕ)) → Each IntsExpr fs → IntsFields (fields_of fs)
fields_ints [] h = tt
fields_ints (f ∷ fs) h = (h.0, fields_ints fs h.1)

pub text_ints : (at : ℕ) (bytes : List ℕ) → Bytes bytes → IntsExprs (exprs_of (text at bytes))
text_ints at [] h = tt
text_ints at (b ∷ bs) h = (byte_is_int b h.0, text_ints at bs h.1)

pub operator_ints : (at : ℕ) (op : surface_op.Op) (a b : Expr ℕ) → IntsExpr a → IntsExpr b → IntsExpr (operator at op a b)
operator_ints at sop.Add a b x y = (x, y)
operator_ints at sop.Sub a b x y = (x, y)
operator_ints at sop.Mul a b x y = (x, y)
operator_ints at sop.Div a b x y = (x, y)
operator_ints at sop.Mod a b x y = (x, y)
operator_ints at sop.Equal a b x y = (x, y)
operator_ints at sop.NotEqual a b x y = (x, y)
operator_ints at sop.Less a b x y = (x, y)
operator_ints at sop.LessEqual a b x y = (x, y)
operator_ints at sop.Greater a b x y = (x, y)
operator_ints at sop.GreaterEqual a b x y = (x, y)
operator_ints at sop.And a b x y = (x, y)
operator_ints at sop.Or a b x y = (x, y)
operator_ints at sop.Implies a b x y = (x, y)

pub source_exprs : (es : List surface.Expr) → SourceClauses es → SourceExprs (surface.exprs_of es)
source_exprs [] h = tt
source_exprs (e ∷ es) h = (h.0, source_exprs es h.1)

-- these statements, in order
abbrev pub IntsBlock : List (core.Stmt ℕ) → Type 0
IntsBlock xs = IntsStmts (stmts_of xs)

pub both_blocks : (xs ys : List (core.Stmt ℕ)) → IntsBlock xs → IntsBlock ys → IntsBlock (xs ++ ys)
both_blocks [] ys p q = q
both_blocks (x ∷ xs) ys p q = (p.0, both_blocks xs ys p.1 q)

pub both_clauses : (xs ys : List (Expr ℕ)) → IntsClauses xs → IntsClauses ys → IntsClauses (xs ++ ys)
both_clauses [] ys p q = q
both_clauses (x ∷ xs) ys p q = (p.0, both_clauses xs ys p.1 q)

pub each_first : (at first : ℕ) (es : List (Expr ℕ)) → IntsClauses es → IntsClauses (each_behind_first at first es)
each_first at first [] b = tt
each_first at first (e ∷ es) b = ((tt, b.0), each_first at first es b.1)

pub labels_ints : (at t : ℕ) (first : Bool) (e : Expr ℕ) (cs : List (Expr ℕ)) → IntsExpr e → IntsClauses cs → IntsExpr (or_labels at t first e cs)
labels_ints at t first e [] b k = b
labels_ints at t true e (c ∷ cs) b k = labels_ints at t false (equals at t c) cs (tt, k.0) k.1
labels_ints at t false e (c ∷ cs) b k = labels_ints at t false (or_of at e (equals at t c)) cs (b, (tt, k.0)) k.1

abbrev pub IntsArms : List Arm → Type 0
IntsArms [] = Unit {0}
IntsArms (x ∷ xs) = IntsExpr x.test × IntsBlock x.body × IntsArms xs

pub chain_ints : (at : ℕ) (arms : List Arm) (last : List (core.Stmt ℕ)) → IntsArms arms → IntsBlock last → IntsBlock (chain at arms last)
chain_ints at [] last h b = b
chain_ints at (x ∷ xs) last h b = ((h.0, h.1, chain_ints at xs last h.2 b), tt)
