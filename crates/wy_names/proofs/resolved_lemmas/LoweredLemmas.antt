-- An expression is lowered to the same where the properties that it uses have the same templates.
use Rattle.std.proofs.Common.{◌≡◌, ◌∙◌, ◌+◌, ℕ, Bool, List, [], length, drop, Option, Some, None, refl, ap, subst}
use Rattle.std.specs.List.{slice_get}
use Rattle.wy_ast.specs.SurfaceTree.{Expr, Exprs, Fields, Ranges, NullExpr, BoolExpr, IntExpr, TextExpr, VarExpr, CallExpr, NegExpr, NotExpr, LenExpr, BinaryExpr, IsExpr, IndexExpr, FieldExpr, ListExpr, RepeatExpr, RecordExpr, QuantExpr, NoExprs, MoreExprs, NoFields, MoreFields, NoRanges, MoreRanges}
use Rattle.wy_ast.specs.SurfaceTree.{Param, exprs_of}
use Rattle.wy_core.specs.CoreTree as core
use Rattle.wy_names_scope.specs.Scope.{Scope, entry_of}
use Rattle.wy_names_scope.specs.declared.table.Entry.{Entry}
use Rattle.wy_names_scope.specs.declared.table.Entry.TheVariants as entry
use Rattle.wy_names_recursion.specs.declared.edges.Edge.{Edge}
use Rattle.wy_names_recursion.specs.declared.edges.Way.TheVariants as way
use Rattle.wy_names_recursion.specs.Uses.{Edges, property_named}
use Rattle.wy_names_recursion.specs.ExprUses as exprs
use Rattle.wy_names.proofs.resolved_lemmas.UseLemmas.{Each, of_last, before_ty, before_expr, before_exprs, before_values, before_ranges}
use Rattle.wy_names.proofs.resolved_lemmas.SizeLemmas.{use_of}
use Rattle.wy_names_lower.specs.Variables.{Variables, declared, named}
use Rattle.wy_names_lower.specs.Uses.{With, Template, used_by, is_used, expansion, called}
use Rattle.wy_names_lower.specs.TypesLowered.{in_ty, placed}
use Rattle.wy_names_lower.specs.ExprsLowered.{operator, quantified, one, more, kept, Head, Ranged, more_heads}
use Rattle.wy_names_lower.specs.ExprsLowered as lowered
use Rattle.wy_names_lower.specs.Templates.{params_scope, params_named, template}
use Rattle.wy_names.proofs.resolved_lemmas.NestedLemmas.{Nested, nested_itself, nested_more, nested_params, nested_ranges}

-- the properties that the uses name have the same templates
abbrev pub Alike : (Edge → Type 0) → ℕ → List Template → List Template → Type 0
Alike G from ts us = (to at : ℕ) → G (use_of from to at) → slice_get ts to ≡ slice_get us to

-- the property that stands there, if one does, has the same template
abbrev SameAt : List Template → List Template → Option Entry → Type 0
SameAt ts us o = (decl arity : ℕ) → o ≡ Some (entry.Property decl arity) → slice_get ts decl ≡ slice_get us decl

same_called : (ts us : List Template) (o : Option Entry) → SameAt ts us o → (at : ℕ) (vs : Variables) (args : List (core.Expr ℕ)) → called ts at o vs args ≡ called us at o vs args
same_called ts us None h at vs args = refl
same_called ts us (Some (entry.Type n decl)) h at vs args = refl
same_called ts us (Some (entry.Routine r)) h at vs args = refl
same_called ts us (Some (entry.Property decl arity)) h at vs args = ap (λ (t : Option Template). expansion at t vs args) (h decl arity refl)
same_called ts us (Some (entry.Variable n)) h at vs args = refl

same_used : (ts us : List Template) (o : Option Entry) → SameAt ts us o → (i : ℕ) → is_used ts o i ≡ is_used us o i
same_used ts us None h i = refl
same_used ts us (Some (entry.Type n decl)) h i = refl
same_used ts us (Some (entry.Routine r)) h i = refl
same_used ts us (Some (entry.Property decl arity)) h i = ap (λ (t : Option Template). used_by t i) (h decl arity refl)
same_used ts us (Some (entry.Variable n)) h i = refl

same_at : (G : Edge → Type 0) (s c : Scope) (from : ℕ) (ts us : List Template) → Alike G from ts us → Nested s c → (at : ℕ) (name : List ℕ) (es : Edges) → Each G (property_named from at (entry_of s name) es) → SameAt ts us (entry_of c name)
same_at G s c from ts us g nested at name es each decl arity is =
    g decl at (of_last G es (use_of from decl at) (subst (λ (o : Option Entry). Each G (property_named from at o es)) (nested name decl arity is) each))

-- the range with its variable, and the ranges behind it
abbrev ranged : List Template → Scope → List ℕ → Ranges → With (core.Expr ℕ) → With (core.Expr ℕ) → Ranged
ranged ts c name rest a b = more_heads (record { variable = length b.0; from = a.1; to = b.1 }) (lowered.in_ranges ts (declared c b.0 name) (named b.0 name) rest)

mutual
  pub same_expr : (G : Edge → Type 0) (s c : Scope) (from : ℕ) (ts us : List Template) → Alike G from ts us → Nested s c → (e : Expr) (es : Edges) → Each G (exprs.in_expr s from e es)
      → (vs : Variables) → lowered.in_expr ts c vs e ≡ lowered.in_expr us c vs e
  same_expr G s c from ts us g n (NullExpr at) es each vs = refl
  same_expr G s c from ts us g n (BoolExpr at b) es each vs = refl
  same_expr G s c from ts us g n (IntExpr at z) es each vs = refl
  same_expr G s c from ts us g n (TextExpr at bytes) es each vs = refl
  same_expr G s c from ts us g n (VarExpr at name) es each vs = refl
  same_expr G s c from ts us g n (CallExpr at name args) es each vs =
      let o : Option Entry = entry_of c name in
      let h : SameAt ts us o = same_at G s c from ts us g n at name es (before_exprs G s from args (property_named from at (entry_of s name) es) each) in
      ap (λ (z : With (List (core.Expr ℕ))). called ts at o z.0 z.1)
      (same_args G s c from ts us g n args (property_named from at (entry_of s name) es) each o (same_used ts us o h) 0 vs)
      ∙ same_called ts us o h at (lowered.in_args us c vs o 0 args).0 (lowered.in_args us c vs o 0 args).1
  same_expr G s c from ts us g n (NegExpr at a) es each vs = ap (λ (z : With (core.Expr ℕ)). one (core.NegExpr at) z) (same_expr G s c from ts us g n a es each vs)
  same_expr G s c from ts us g n (NotExpr at a) es each vs = ap (λ (z : With (core.Expr ℕ)). one (core.NotExpr at) z) (same_expr G s c from ts us g n a es each vs)
  same_expr G s c from ts us g n (LenExpr at a) es each vs = ap (λ (z : With (core.Expr ℕ)). one (core.LenExpr at) z) (same_expr G s c from ts us g n a es each vs)
  same_expr G s c from ts us g n (BinaryExpr at o a b) es each vs =
      let y : With (core.Expr ℕ) = lowered.in_expr us c vs a in
      ap (λ (z : With (core.Expr ℕ)). one (operator at o z.1) (lowered.in_expr ts c z.0 b)) (same_expr G s c from ts us g n a es (before_expr G s from b (exprs.in_expr s from a es) each) vs)
      ∙ ap (λ (z : With (core.Expr ℕ)). one (operator at o y.1) z) (same_expr G s c from ts us g n b (exprs.in_expr s from a es) each y.0)
  same_expr G s c from ts us g n (IsExpr at a t) es each vs =
      ap (λ (z : With (core.Expr ℕ)). one (λ e. core.IsExpr at e (in_ty c t)) z) (same_expr G s c from ts us g n a es (before_ty G s from way.Mention t (exprs.in_expr s from a es) each) vs)
  same_expr G s c from ts us g n (IndexExpr at a b) es each vs =
      let y : With (core.Expr ℕ) = lowered.in_expr us c vs a in
      ap (λ (z : With (core.Expr ℕ)). one (core.IndexExpr at z.1) (lowered.in_expr ts c z.0 b)) (same_expr G s c from ts us g n a es (before_expr G s from b (exprs.in_expr s from a es) each) vs)
      ∙ ap (λ (z : With (core.Expr ℕ)). one (core.IndexExpr at y.1) z) (same_expr G s c from ts us g n b (exprs.in_expr s from a es) each y.0)
  same_expr G s c from ts us g n (FieldExpr at a name) es each vs = ap (λ (z : With (core.Expr ℕ)). one (λ e. core.FieldExpr at e name) z) (same_expr G s c from ts us g n a es each vs)
  same_expr G s c from ts us g n (ListExpr at items) es each vs =
      ap (λ (z : With (List (core.Expr ℕ))). one (λ xs. core.ListExpr at (core.exprs_of xs)) z) (same_exprs G s c from ts us g n items es each vs)
  same_expr G s c from ts us g n (RepeatExpr at a b) es each vs =
      let y : With (core.Expr ℕ) = lowered.in_expr us c vs a in
      ap (λ (z : With (core.Expr ℕ)). one (core.RepeatExpr at z.1) (lowered.in_expr ts c z.0 b)) (same_expr G s c from ts us g n a es (before_expr G s from b (exprs.in_expr s from a es) each) vs)
      ∙ ap (λ (z : With (core.Expr ℕ)). one (core.RepeatExpr at y.1) z) (same_expr G s c from ts us g n b (exprs.in_expr s from a es) each y.0)
  same_expr G s c from ts us g n (RecordExpr at fs) es each vs =
      ap (λ (z : With (List (List ℕ × core.Expr ℕ))). one (λ xs. core.RecordExpr at (core.fields_of xs)) z) (same_fields G s c from ts us g n fs es each vs [])
  same_expr G s c from ts us g n (QuantExpr at all rs body) es each vs =
      let y : Ranged = lowered.in_ranges us c vs rs in
      ap (λ (z : Ranged). one (quantified at all z.2) (lowered.in_expr ts z.0 z.1 body)) (same_ranges G s c from ts us g n rs es (before_expr G s from body (exprs.in_ranges s from rs es) each) vs)
      ∙ ap (λ (z : With (core.Expr ℕ)). one (quantified at all y.2) z) (same_expr G s y.0 from ts us g (nested_ranges s c us vs rs n) body (exprs.in_ranges s from rs es) each y.1)

  pub same_exprs : (G : Edge → Type 0) (s c : Scope) (from : ℕ) (ts us : List Template) → Alike G from ts us → Nested s c → (xs : Exprs) (es : Edges) → Each G (exprs.in_exprs s from xs es)
      → (vs : Variables) → lowered.in_exprs ts c vs xs ≡ lowered.in_exprs us c vs xs
  same_exprs G s c from ts us g n NoExprs es each vs = refl
  same_exprs G s c from ts us g n (MoreExprs e rest) es each vs =
      let y : With (core.Expr ℕ) = lowered.in_expr us c vs e in
      ap (λ (z : With (core.Expr ℕ)). more z.1 (lowered.in_exprs ts c z.0 rest)) (same_expr G s c from ts us g n e es (before_exprs G s from rest (exprs.in_expr s from e es) each) vs)
      ∙ ap (λ (z : With (List (core.Expr ℕ))). more y.1 z) (same_exprs G s c from ts us g n rest (exprs.in_expr s from e es) each y.0)

  pub same_args : (G : Edge → Type 0) (s c : Scope) (from : ℕ) (ts us : List Template) → Alike G from ts us → Nested s c → (xs : Exprs) (es : Edges) → Each G (exprs.in_exprs s from xs es)
      → (o : Option Entry) → ((i : ℕ) → is_used ts o i ≡ is_used us o i) → (i : ℕ) (vs : Variables) → lowered.in_args ts c vs o i xs ≡ lowered.in_args us c vs o i xs
  same_args G s c from ts us g n NoExprs es each o used i vs = refl
  same_args G s c from ts us g n (MoreExprs e rest) es each o used i vs =
      let y : With (core.Expr ℕ) = kept (is_used us o i) vs (lowered.in_expr us c vs e) in
      ap (λ (z : With (core.Expr ℕ)). more z.1 (lowered.in_args ts c z.0 o (i + 1) rest))
      (ap (λ (b : Bool). kept b vs (lowered.in_expr ts c vs e)) (used i)
      ∙ ap (λ (z : With (core.Expr ℕ)). kept (is_used us o i) vs z) (same_expr G s c from ts us g n e es (before_exprs G s from rest (exprs.in_expr s from e es) each) vs))
      ∙ ap (λ (z : With (List (core.Expr ℕ))). more y.1 z) (same_args G s c from ts us g n rest (exprs.in_expr s from e es) each o used (i + 1) y.0)

  pub same_fields : (G : Edge → Type 0) (s c : Scope) (from : ℕ) (ts us : List Template) → Alike G from ts us → Nested s c → (fs : Fields) (es : Edges) → Each G (exprs.in_values s from fs es)
      → (vs : Variables) (made : List (List ℕ × core.Expr ℕ)) → lowered.in_fields ts c vs made fs ≡ lowered.in_fields us c vs made fs
  same_fields G s c from ts us g n NoFields es each vs made = refl
  same_fields G s c from ts us g n (MoreFields name e rest) es each vs made =
      let y : With (core.Expr ℕ) = lowered.in_expr us c vs e in
      ap (λ (z : With (core.Expr ℕ)). lowered.in_fields ts c z.0 (placed made name z.1) rest) (same_expr G s c from ts us g n e es (before_values G s from rest (exprs.in_expr s from e es) each) vs)
      ∙ same_fields G s c from ts us g n rest (exprs.in_expr s from e es) each y.0 (placed made name y.1)

  pub same_ranges : (G : Edge → Type 0) (s c : Scope) (from : ℕ) (ts us : List Template) → Alike G from ts us → Nested s c → (rs : Ranges) (es : Edges) → Each G (exprs.in_ranges s from rs es)
      → (vs : Variables) → lowered.in_ranges ts c vs rs ≡ lowered.in_ranges us c vs rs
  same_ranges G s c from ts us g n NoRanges es each vs = refl
  same_ranges G s c from ts us g n (MoreRanges name a b rest) es each vs =
      let behind : Each G (exprs.in_expr s from b (exprs.in_expr s from a es)) = before_ranges G s from rest (exprs.in_expr s from b (exprs.in_expr s from a es)) each in
      let y : With (core.Expr ℕ) = lowered.in_expr us c vs a in
      let x : With (core.Expr ℕ) = lowered.in_expr us c y.0 b in
      ap (λ (z : With (core.Expr ℕ)). ranged ts c name rest z (lowered.in_expr ts c z.0 b)) (same_expr G s c from ts us g n a es (before_expr G s from b (exprs.in_expr s from a es) behind) vs)
      ∙ ap (λ (z : With (core.Expr ℕ)). ranged ts c name rest y z) (same_expr G s c from ts us g n b (exprs.in_expr s from a es) behind y.0)
      ∙ ap (λ (z : Ranged). more_heads (record { variable = length x.0; from = y.1; to = x.1 }) z)
      (same_ranges G s (declared c x.0 name) from ts us g (nested_more s c x.0 name n) rest (exprs.in_expr s from b (exprs.in_expr s from a es)) each (named x.0 name))

-- the template of clauses that are lowered
abbrev of_clauses : List Bool → List Param → With (List (core.Expr ℕ)) → Template
of_clauses used ps z = record { used = used; clauses = z.1; names = drop (length ps) z.0 }

-- a property's template is the same
pub same_template : (G : Edge → Type 0) (s : Scope) (from : ℕ) (ts us : List Template) → Alike G from ts us → (used : List Bool) (ps : List Param) (xs : List Expr) (es : Edges) → Each G (exprs.in_exprs s from (exprs_of xs) es)
    → template ts s used ps xs ≡ template us s used ps xs
same_template G s from ts us g used ps xs es each =
    ap (of_clauses used ps) (same_exprs G s (params_scope s [] ps) from ts us g (nested_params s s [] ps (nested_itself s)) (exprs_of xs) es each (params_named [] ps))
