-- Names of fields in what is put together: instances of clauses, lists, blocks.
use Rattle.std.proofs.Common.{◌≡◌, ℕ, zero, suc, Bool, true, false, List, [], ◌∷◌, ◌++◌, Option, Some, None, refl, ap, sym, subst}
use Rattle.std.specs.List.{slice_get}
use Rattle.std.specs.Prelude.{slice_set}
use Rattle.wy_ast.specs.SurfaceTree as surface
use Rattle.wy_ast.specs.declared.expressions.Op as surface_op
use Rattle.wy_ast.specs.declared.expressions.Op.TheVariants as sop
use Rattle.wy_core.specs.CoreTree as core
use Rattle.wy_core.specs.CoreTree.{Expr, NullExpr, BoolExpr, IntExpr, VarExpr, CallExpr, NegExpr, NotExpr, LenExpr, BinaryExpr, IsExpr, IndexExpr, FieldExpr, ListExpr, RepeatExpr, RecordExpr, QuantExpr, Exprs, NoExprs, MoreExprs, Fields, NoFields, MoreFields, exprs_of, stmts_of}
use Rattle.wy_core.specs.declared.expressions.Op.TheVariants as op
use Rattle.wy_names.specs.wy_core_build.Instances.{renumbered, argument_or, variable, instance_of, instances, instance_fields, joined_behind}
use Rattle.wy_names.specs.wy_names_lower.Uses.{Template}
use Rattle.wy_names.specs.wy_names_lower.ExprsLowered.{operator, text}
use Rattle.wy_names.specs.wy_names_lower.StmtsLowered.{equals, or_of, or_labels, Arm, chain}
use Rattle.wy_names.proofs.resolved_lemmas.NumberLemmas.{some_expr}
use Rattle.wy_gen_laws.specs.wy_code_spec.tables.Tables.{names_in}
use Rattle.wy_gen_laws.specs.wy_code_spec.compiled.Fields.{AreFields, NamesExpr, NameExprs, NameFields, NameStmts}
use Rattle.wy_gen_sources.specs.source_ints.SourceFields.{FieldsExprs, FieldsClauses}

-- each of these expressions
abbrev pub NamesClauses : List (Expr ℕ) → Type 0
NamesClauses [] = Unit {0}
NamesClauses (e ∷ es) = NamesExpr e × NamesClauses es

-- ---- a property's clauses at a use of it

abbrev pub NamesTemplate : Option Template → Type 0
NamesTemplate None = Unit {0}
NamesTemplate (Some t) = NamesClauses t.clauses

abbrev pub NamesTemplates : List Template → Type 0
NamesTemplates ts = (i : ℕ) → NamesTemplate (slice_get ts i)

-- one of them is put in place of another
pub set_holds : (P : Option Template → Type 0) (ts : List Template) (i j : ℕ) (t : Template) → P (Some t) → P (slice_get ts j) → P (slice_get (slice_set ts i t) j)
set_holds P [] i j t new old = old
set_holds P (x ∷ ts) zero zero t new old = new
set_holds P (x ∷ ts) zero (suc j) t new old = old
set_holds P (x ∷ ts) (suc i) zero t new old = old
set_holds P (x ∷ ts) (suc i) (suc j) t new old = set_holds P ts i j t new old

argument_names : (args : List (Expr ℕ)) (i : ℕ) (x : Expr ℕ) → NamesClauses args → slice_get args i ≡ Some x → NamesExpr x
argument_names [] i x b h = absurd (cc)
argument_names (a ∷ args) zero x b h = subst (λ (z : Expr ℕ). NamesExpr z) (some_expr a x h) b.0
argument_names (a ∷ args) (suc i) x b h = argument_names args i x b.1 h

module _ (at : ℕ) (args : List (Expr ℕ)) (base : ℕ) (b : NamesClauses args) where
  variable_names : (v : ℕ) → NamesExpr (variable at args base v)
  variable_names v = by (slice_get args v) refl
    where
      by : (x : Option (Expr ℕ)) → slice_get args v ≡ x → NamesExpr (argument_or (VarExpr at (renumbered args base v)) x)
      by None e = tt
      by (Some x) e = argument_names args v x b e

  -- an instance of a record has the same fields
  same_names : (fs : Fields ℕ) → names_in (instance_fields at args base fs) ≡ names_in fs
  same_names NoFields = refl
  same_names (MoreFields name e rest) = ap (λ (ns : List (List ℕ)). name ∷ ns) (same_names rest)

  mutual
    instance_names : (e : Expr ℕ) → NamesExpr e → NamesExpr (instance_of at args base e)
    instance_names (NullExpr p) h = tt
    instance_names (BoolExpr p truth) h = tt
    instance_names (IntExpr p z) h = tt
    instance_names (VarExpr p v) h = variable_names v
    instance_names (CallExpr p routine es) h = instances_names es h
    instance_names (NegExpr p a) h = instance_names a h
    instance_names (NotExpr p a) h = instance_names a h
    instance_names (LenExpr p a) h = instance_names a h
    instance_names (BinaryExpr p op x y) h = (instance_names x h.0, instance_names y h.1)
    instance_names (IsExpr p a t) h = (instance_names a h.0, h.1)
    instance_names (IndexExpr p x y) h = (instance_names x h.0, instance_names y h.1)
    instance_names (FieldExpr p a name) h = (instance_names a h.0, h.1)
    instance_names (ListExpr p items) h = instances_names items h
    instance_names (RepeatExpr p x y) h = (instance_names x h.0, instance_names y h.1)
    instance_names (RecordExpr p fs) h = (subst (λ (ns : List (List ℕ)). AreFields ns) (sym (same_names fs)) h.0, instance_fields_names fs h.1)
    instance_names (QuantExpr p all v from to body) h = (instance_names from h.0, (instance_names to h.1.0, instance_names body h.1.1))

    instances_names : (es : Exprs ℕ) → NameExprs es → NameExprs (instances at args base es)
    instances_names NoExprs h = tt
    instances_names (MoreExprs e rest) h = (instance_names e h.0, instances_names rest h.1)

    instance_fields_names : (fs : Fields ℕ) → NameFields fs → NameFields (instance_fields at args base fs)
    instance_fields_names NoFields h = tt
    instance_fields_names (MoreFields name e rest) h = (instance_names e h.0, instance_fields_names rest h.1)

  pub joined_names : (first : Bool) (e : Expr ℕ) → NamesExpr e → (cs : List (Expr ℕ)) → NamesClauses cs → NamesExpr (joined_behind at args base first e cs)
  joined_names first e h [] k = h
  joined_names true e h (c ∷ cs) k = joined_names false (instance_of at args base c) (instance_names c k.0) cs k.1
  joined_names false e h (c ∷ cs) k = joined_names false (BinaryExpr at op.And e (instance_of at args base c)) (h, instance_names c k.0) cs k.1

-- ---- lists

pub exprs_names : (es : List (Expr ℕ)) → NamesClauses es → NameExprs (exprs_of es)
exprs_names [] b = tt
exprs_names (e ∷ es) b = (b.0, exprs_names es b.1)

pub text_names : (at : ℕ) (bytes : List ℕ) → NameExprs (exprs_of (text at bytes))
text_names at [] = tt
text_names at (b ∷ bs) = (tt, text_names at bs)

pub operator_names : (at : ℕ) (op : surface_op.Op) (a b : Expr ℕ) → NamesExpr a → NamesExpr b → NamesExpr (operator at op a b)
operator_names at sop.Add a b x y = (x, y)
operator_names at sop.Sub a b x y = (x, y)
operator_names at sop.Mul a b x y = (x, y)
operator_names at sop.Div a b x y = (x, y)
operator_names at sop.Mod a b x y = (x, y)
operator_names at sop.Equal a b x y = (x, y)
operator_names at sop.NotEqual a b x y = (x, y)
operator_names at sop.Less a b x y = (x, y)
operator_names at sop.LessEqual a b x y = (x, y)
operator_names at sop.Greater a b x y = (x, y)
operator_names at sop.GreaterEqual a b x y = (x, y)
operator_names at sop.And a b x y = (x, y)
operator_names at sop.Or a b x y = (x, y)
operator_names at sop.Implies a b x y = (x, y)

pub source_exprs : (es : List surface.Expr) → FieldsClauses es → FieldsExprs (surface.exprs_of es)
source_exprs [] h = tt
source_exprs (e ∷ es) h = (h.0, source_exprs es h.1)

-- these statements, in order
abbrev pub NamesBlock : List (core.Stmt ℕ) → Type 0
NamesBlock xs = NameStmts (stmts_of xs)

pub both_blocks : (xs ys : List (core.Stmt ℕ)) → NamesBlock xs → NamesBlock ys → NamesBlock (xs ++ ys)
both_blocks [] ys p q = q
both_blocks (x ∷ xs) ys p q = (p.0, both_blocks xs ys p.1 q)

pub labels_names : (at t : ℕ) (first : Bool) (e : Expr ℕ) (cs : List (Expr ℕ)) → NamesExpr e → NamesClauses cs → NamesExpr (or_labels at t first e cs)
labels_names at t first e [] b k = b
labels_names at t true e (c ∷ cs) b k = labels_names at t false (equals at t c) cs (tt, k.0) k.1
labels_names at t false e (c ∷ cs) b k = labels_names at t false (or_of at e (equals at t c)) cs (b, (tt, k.0)) k.1

abbrev pub NamesArms : List Arm → Type 0
NamesArms [] = Unit {0}
NamesArms (x ∷ xs) = NamesExpr x.test × NamesBlock x.body × NamesArms xs

pub chain_names : (at : ℕ) (arms : List Arm) (last : List (core.Stmt ℕ)) → NamesArms arms → NamesBlock last → NamesBlock (chain at arms last)
chain_names at [] last h b = b
chain_names at (x ∷ xs) last h b = ((h.0, (h.1, chain_names at xs last h.2 b)), tt)
