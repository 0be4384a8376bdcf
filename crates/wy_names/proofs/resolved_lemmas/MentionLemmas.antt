-- Each type that a lowered expression mentions is mentioned in the source, there or in a property that is used there.
use Rattle.std.proofs.Common.{◌≡◌, ◌⊎◌, inl, inr, ℕ, zero, suc, ◌+◌, Bool, true, false, List, [], ◌∷◌, length, Option, Some, None, refl, sym, subst}
use Rattle.std.specs.List.{slice_get}
use Rattle.wy_ast.specs.SurfaceTree as surface
use Rattle.wy_ast.specs.declared.expressions.Op as surface_op
use Rattle.wy_ast.specs.declared.expressions.Op.TheVariants as sop
use Rattle.wy_core.specs.CoreTree.{Expr, NullExpr, BoolExpr, IntExpr, VarExpr, CallExpr, NegExpr, NotExpr, LenExpr, BinaryExpr, IsExpr, IndexExpr, FieldExpr, ListExpr, RepeatExpr, RecordExpr, QuantExpr, Exprs, NoExprs, MoreExprs, Fields, NoFields, MoreFields, exprs_of, fields_of}
use Rattle.wy_core.specs.declared.expressions.Op.TheVariants as op
use Rattle.wy_names_lower.specs.wy_core_build.Instances.{renumbered, argument_or, variable, instance_of, instances, instance_fields, joined_behind}
use Rattle.wy_lemmas.proofs.Choices.{either}
use Rattle.wy_names.proofs.resolved_lemmas.NumberLemmas.{some_expr}
use Rattle.wy_names_scope.specs.declared.fault.Cause.TheVariants as cause
use Rattle.wy_names_scope.specs.declared.table.Entry.{Entry}
use Rattle.wy_names_scope.specs.declared.table.Entry.TheVariants as entry
use Rattle.wy_names_scope.specs.Faults.{Found, noted_where}
use Rattle.wy_names_scope.specs.Places.{place_of_expr}
use Rattle.wy_names_scope.specs.Scope.{Scope, entry_of, has, with_name}
use Rattle.wy_names_recursion.specs.declared.context.Context.{Context}
use Rattle.wy_names_recursion.specs.Calls.{contract, call}
use Rattle.wy_names_recursion.specs.TypeNames.{just_a_name}
use Rattle.wy_names_recursion.specs.ExprNames as bind
use Rattle.wy_names_recursion.specs.ExprNames.{with_ranges}
use Rattle.wy_names_recursion.specs.declared.edges.Edge.{Edge}
use Rattle.wy_names_recursion.specs.declared.edges.Way.{Way}
use Rattle.wy_names_recursion.specs.declared.edges.Way.TheVariants as way
use Rattle.wy_names_recursion.specs.Uses.{Edges, property_named}
use Rattle.wy_names_recursion.specs.ExprUses as uses
use Rattle.wy_names.proofs.resolved_lemmas.UseLemmas.{Each, of_last, before_ty, before_expr, before_exprs, before_values, before_ranges}
use Rattle.wy_names_lower.specs.Variables.{Variables, declared, named}
use Rattle.wy_names_lower.specs.Uses.{With, Template, is_used, expansion, called}
use Rattle.wy_names_lower.specs.TypesLowered.{placed, in_ty}
use Rattle.wy_names_lower.specs.ExprsLowered.{operator, text, quantified, kept, in_expr, in_exprs, in_args, in_fields, in_ranges}
use Rattle.wy_core.specs.formed.Recursion.{NamesIn, Mentions, MentionsIn, MentionsInFields, ClausesMention}
use Rattle.wy_names.proofs.resolved_lemmas.BindLemmas as before
use Rattle.wy_names.proofs.resolved_lemmas.BindLemmas.{field_value, range_ends}
use Rattle.wy_names.proofs.resolved_lemmas.ScopeLemmas.{erased, erased_more}
use Rattle.wy_names.proofs.resolved_lemmas.FieldLemmas as fields
use Rattle.wy_names.proofs.resolved_lemmas.FieldLemmas.{each_placed}
use Rattle.wy_names.proofs.resolved_lemmas.TypeUseLemmas.{Nests, nests_more, edge_of, Ways, UsedBy, type_used}

-- ---- a property's clauses at a use of it

argument_mentions : (args : List (Expr ℕ)) (i : ℕ) (a : Expr ℕ) (x : ℕ) → slice_get args i ≡ Some a → Mentions a x → ClausesMention args x
argument_mentions [] i a x h m = absurd (cc)
argument_mentions (y ∷ args) zero a x h m = inl (subst (λ (z : Expr ℕ). Mentions z x) (sym (some_expr y a h)) m)
argument_mentions (y ∷ args) (suc i) a x h m = inr (argument_mentions args i a x h m)

module _ (C : Type 0) (at : ℕ) (args : List (Expr ℕ)) (base x : ℕ) (g : ClausesMention args x → C) where
  variable_mentions : (v : ℕ) → Mentions (variable at args base v) x → C
  variable_mentions v m = by (slice_get args v) refl m
    where
      by : (a : Option (Expr ℕ)) → slice_get args v ≡ a → Mentions (argument_or (VarExpr at (renumbered args base v)) a) x → C
      by None e k = absurd k
      by (Some a) e k = g (argument_mentions args v a x e k)

  mutual
    instance_mentions : (e : Expr ℕ) → (Mentions e x → C) → Mentions (instance_of at args base e) x → C
    instance_mentions (NullExpr p) f m = absurd m
    instance_mentions (BoolExpr p truth) f m = absurd m
    instance_mentions (IntExpr p z) f m = absurd m
    instance_mentions (VarExpr p v) f m = variable_mentions v m
    instance_mentions (CallExpr p routine es) f m = instances_mention es f m
    instance_mentions (NegExpr p a) f m = instance_mentions a f m
    instance_mentions (NotExpr p a) f m = instance_mentions a f m
    instance_mentions (LenExpr p a) f m = instance_mentions a f m
    instance_mentions (BinaryExpr p op y z) f (inl m) = instance_mentions y (λ k. f (inl k)) m
    instance_mentions (BinaryExpr p op y z) f (inr m) = instance_mentions z (λ k. f (inr k)) m
    instance_mentions (IsExpr p a t) f (inl m) = instance_mentions a (λ k. f (inl k)) m
    instance_mentions (IsExpr p a t) f (inr m) = f (inr m)
    instance_mentions (IndexExpr p y z) f (inl m) = instance_mentions y (λ k. f (inl k)) m
    instance_mentions (IndexExpr p y z) f (inr m) = instance_mentions z (λ k. f (inr k)) m
    instance_mentions (FieldExpr p a name) f m = instance_mentions a f m
    instance_mentions (ListExpr p items) f m = instances_mention items f m
    instance_mentions (RepeatExpr p y z) f (inl m) = instance_mentions y (λ k. f (inl k)) m
    instance_mentions (RepeatExpr p y z) f (inr m) = instance_mentions z (λ k. f (inr k)) m
    instance_mentions (RecordExpr p fs) f m = instance_fields_mention fs f m
    instance_mentions (QuantExpr p all v from to body) f (inl m) = instance_mentions from (λ k. f (inl k)) m
    instance_mentions (QuantExpr p all v from to body) f (inr (inl m)) = instance_mentions to (λ k. f (inr (inl k))) m
    instance_mentions (QuantExpr p all v from to body) f (inr (inr m)) = instance_mentions body (λ k. f (inr (inr k))) m

    instances_mention : (es : Exprs ℕ) → (MentionsIn es x → C) → MentionsIn (instances at args base es) x → C
    instances_mention NoExprs f m = absurd m
    instances_mention (MoreExprs e rest) f (inl m) = instance_mentions e (λ k. f (inl k)) m
    instances_mention (MoreExprs e rest) f (inr m) = instances_mention rest (λ k. f (inr k)) m

    instance_fields_mention : (fs : Fields ℕ) → (MentionsInFields fs x → C) → MentionsInFields (instance_fields at args base fs) x → C
    instance_fields_mention NoFields f m = absurd m
    instance_fields_mention (MoreFields name e rest) f (inl m) = instance_mentions e (λ k. f (inl k)) m
    instance_fields_mention (MoreFields name e rest) f (inr m) = instance_fields_mention rest (λ k. f (inr k)) m

  joined_mentions : (first : Bool) (e : Expr ℕ) → (Mentions e x → C) → (cs : List (Expr ℕ)) → (ClausesMention cs x → C) → Mentions (joined_behind at args base first e cs) x → C
  joined_mentions first e h [] f m = h m
  joined_mentions true e h (c ∷ cs) f m = joined_mentions false (instance_of at args base c) (instance_mentions c (λ k. f (inl k))) cs (λ k. f (inr k)) m
  joined_mentions false e h (c ∷ cs) f m =
      joined_mentions false (BinaryExpr at op.And e (instance_of at args base c)) (either h (instance_mentions c (λ k. f (inl k)))) cs (λ k. f (inr k)) m

three : {A B C D : Type 0} → (A → D) → (B → D) → (C → D) → A ⊎ B ⊎ C → D
three f g h (inl a) = f a
three f g h (inr (inl b)) = g b
three f g h (inr (inr c)) = h c

-- ---- lists

exprs_mention : (es : List (Expr ℕ)) (x : ℕ) → MentionsIn (exprs_of es) x → ClausesMention es x
exprs_mention [] x m = absurd m
exprs_mention (e ∷ es) x (inl m) = inl m
exprs_mention (e ∷ es) x (inr m) = inr (exprs_mention es x m)

text_mentions : (at : ℕ) (bytes : List ℕ) (x : ℕ) → MentionsIn (exprs_of (text at bytes)) x → ⊥
text_mentions at [] x m = m
text_mentions at (b ∷ bs) x (inl m) = m
text_mentions at (b ∷ bs) x (inr m) = text_mentions at bs x m

operator_mentions : (at : ℕ) (op : surface_op.Op) (a b : Expr ℕ) (x : ℕ) → Mentions (operator at op a b) x → Mentions a x ⊎ Mentions b x
operator_mentions at sop.Add a b x m = m
operator_mentions at sop.Sub a b x m = m
operator_mentions at sop.Mul a b x m = m
operator_mentions at sop.Div a b x m = m
operator_mentions at sop.Mod a b x m = m
operator_mentions at sop.Equal a b x m = m
operator_mentions at sop.NotEqual a b x m = m
operator_mentions at sop.Less a b x m = m
operator_mentions at sop.LessEqual a b x m = m
operator_mentions at sop.Greater a b x m = m
operator_mentions at sop.GreaterEqual a b x m = m
operator_mentions at sop.And a b x m = m
operator_mentions at sop.Or a b x m = m
operator_mentions at sop.Implies a b x m = m

-- ---- the walk

-- the type is mentioned here, or a property is used here whose clauses lead to it
abbrev pub Mentioned : (Edge → Type 0) → (ℕ → ℕ → Type 0) → (ℕ → ℕ) → ℕ → ℕ → Type 0
Mentioned G V index from x = ((at : ℕ) × G (edge_of from (index x) at way.Mention)) ⊎ ((q : ℕ) × (at : ℕ) × G (edge_of from q at way.Use) × V q (index x))

-- what the clauses of the property with this index mention, it leads to
abbrev pub TemplateMentions : (ℕ → ℕ → Type 0) → (ℕ → ℕ) → ℕ → Option Template → Type 0
TemplateMentions V index q None = Unit {0}
TemplateMentions V index q (Some t) = (x : ℕ) → ClausesMention t.clauses x → V q (index x)

mention_way : (v : Way) → Ways true way.Mention v → v ≡ way.Mention
mention_way v (inl e) = e
mention_way v (inr e) = e

module _ (G : Edge → Type 0) (V : ℕ → ℕ → Type 0) (s : Scope) (index : ℕ → ℕ) (from : ℕ) (indexed : (name : List ℕ) (n d : ℕ) → entry_of s name ≡ Some (entry.Type n d) → d ≡ index n) (ts : List Template)
    (own : (q : ℕ) → TemplateMentions V index q (slice_get ts q)) where
  -- what is mentioned is mentioned in the source
  abbrev Told : ℕ → Type 0
  Told x = Mentioned G V index from x

  type_told : (x : ℕ) → UsedBy G index true from way.Mention x → Told x
  type_told x u = inl (u.at, subst (λ (v : Way). G (edge_of from (index x) u.at v)) (mention_way u.by u.ways) u.used)

  nests_ranges : (c : Scope) → Nests s c → (names : Variables) (rs : surface.Ranges) → Nests s (in_ranges ts c names rs).0
  nests_ranges c n names surface.NoRanges = n
  nests_ranges c n names (surface.MoreRanges name a b rest) =
      let behind : Variables = (in_expr ts c (in_expr ts c names a).0 b).0 in
      nests_ranges (declared c behind name) (nests_more s c name (length behind) n) (named behind name) rest

  erased_ranges : (b c : Scope) → b ≡ erased c → (names : Variables) (rs : surface.Ranges) → with_ranges b rs ≡ erased (in_ranges ts c names rs).0
  erased_ranges b c h names surface.NoRanges = h
  erased_ranges b c h names (surface.MoreRanges name x y rest) =
      let behind : Variables = (in_expr ts c (in_expr ts c names x).0 y).0 in
      erased_ranges (with_name b name just_a_name) (declared c behind name) (erased_more b c name (length behind) h) (named behind name) rest

  expansion_told : (at p q : ℕ) (t : Option Template) → TemplateMentions V index q t → G (edge_of from q p way.Use) → (names : Variables) (xs : List (Expr ℕ)) (x : ℕ) → (ClausesMention xs x → Told x)
      → Mentions (expansion at t names xs).1 x → Told x
  expansion_told at p q None f e names xs x g m = absurd m
  expansion_told at p q (Some t) f e names xs x g m =
      joined_mentions (Told x) at xs (length names) x g true (BoolExpr at true) (λ (k : ⊥). absurd k) t.clauses (λ (k : ClausesMention t.clauses x). inr (q, p, e, f x k)) m

  called_told : (c : Scope) → Nests s c → (at : ℕ) (name : List ℕ) (es : Edges) → Each G (property_named from at (entry_of s name) es) → (names : Variables) (xs : List (Expr ℕ)) (x : ℕ) → (ClausesMention xs x → Told x)
      → Mentions (called ts at (entry_of c name) names xs).1 x → Told x
  called_told c n at name es each names xs x g m = by (entry_of c name) refl m
    where
      by : (e : Option Entry) → entry_of c name ≡ e → Mentions (called ts at e names xs).1 x → Told x
      by None there k = g (exprs_mention xs x k)
      by (Some (entry.Type m d)) there k = g (exprs_mention xs x k)
      by (Some (entry.Routine r)) there k = g (exprs_mention xs x k)
      by (Some (entry.Property d arity)) there k =
          let outer : entry_of s name ≡ Some (entry.Property d arity) = n.properties name d arity there in
          let edge : G (edge_of from d at way.Use) = of_last G es (edge_of from d at way.Use) (subst (λ (o : Option Entry). Each G (property_named from at o es)) outer each) in
          expansion_told at at d (slice_get ts d) (own d) edge names xs x g k
      by (Some (entry.Variable v)) there k = g (exprs_mention xs x k)

  kept_told : (used : Bool) (names : Variables) (y : With (Expr ℕ)) (x : ℕ) → (Mentions y.1 x → Told x) → Mentions (kept used names y).1 x → Told x
  kept_told true names y x f m = f m
  kept_told false names y x f m = absurd m

  -- what a field's value mentions
  abbrev Value : Expr ℕ → Type 0
  Value e = (x : ℕ) → Mentions e x → Told x

  values_told : (made : List (List ℕ × Expr ℕ)) → fields.Each Value made → (x : ℕ) → MentionsInFields (fields_of made) x → Told x
  values_told [] f x m = absurd m
  values_told (y ∷ ys) f x (inl m) = f.0 x m
  values_told (y ∷ ys) f x (inr m) = values_told ys f.1 x m

  mutual
    pub told_expr : (k : Context) (b c : Scope) → b ≡ erased c → Nests s c → (e : surface.Expr) (es : Edges) → Each G (uses.in_expr s from e es) → (found : Found) → bind.in_expr k b e found ≡ None → (names : Variables) (x : ℕ)
        → Mentions (in_expr ts c names e).1 x → Told x
    told_expr k b c h n (surface.NullExpr at) es each found q names x m = absurd m
    told_expr k b c h n (surface.BoolExpr at truth) es each found q names x m = absurd m
    told_expr k b c h n (surface.IntExpr at z) es each found q names x m = absurd m
    told_expr k b c h n (surface.TextExpr at bytes) es each found q names x m = absurd (text_mentions at bytes x m)
    told_expr k b c h n (surface.VarExpr at name) es each found q names x m = absurd m
    told_expr k b c h n (surface.CallExpr at name args) es each found q names x m =
        let callee : Option Entry = entry_of c name in
        let behind : Edges = property_named from at (entry_of s name) es in
        called_told c n at name es (before_exprs G s from args behind each) (in_args ts c names callee 0 args).0 (in_args ts c names callee 0 args).1 x
        (told_args k b c h n callee 0 args behind each (call k true (entry_of b name) (bind.count_of args) at found) q names x) m
    told_expr k b c h n (surface.NegExpr at y) es each found q names x m = told_expr k b c h n y es each found q names x m
    told_expr k b c h n (surface.NotExpr at y) es each found q names x m = told_expr k b c h n y es each found q names x m
    told_expr k b c h n (surface.LenExpr at y) es each found q names x m = told_expr k b c h n y es each found q names x m
    told_expr k b c h n (surface.BinaryExpr at op y z) es each found q names x m =
        let middle : Edges = uses.in_expr s from y es in
        let first : Found = bind.in_expr k b y found in
        let w : With (Expr ℕ) = in_expr ts c names y in
        either (told_expr k b c h n y es (before_expr G s from z middle each) found (before.before_expr k b z first q) names x) (told_expr k b c h n z middle each first q w.0 x)
        (operator_mentions at op w.1 (in_expr ts c w.0 z).1 x m)
    told_expr k b c h n (surface.IsExpr at y t) es each found q names x m =
        let middle : Edges = uses.in_expr s from y es in
        let first : Found = bind.in_expr k b y found in
        either (told_expr k b c h n y es (before_ty G s from way.Mention t middle each) found (before.before_ty b t first q) names x)
        (λ (i : NamesIn true (in_ty c t) x). type_told x (type_used G s index from indexed c b h n way.Mention t middle each first q true x i)) m
    told_expr k b c h n (surface.IndexExpr at y z) es each found q names x m =
        let middle : Edges = uses.in_expr s from y es in
        let first : Found = bind.in_expr k b y found in
        either (told_expr k b c h n y es (before_expr G s from z middle each) found (before.before_expr k b z first q) names x) (told_expr k b c h n z middle each first q (in_expr ts c names y).0 x) m
    told_expr k b c h n (surface.FieldExpr at y name) es each found q names x m = told_expr k b c h n y es each found q names x m
    told_expr k b c h n (surface.ListExpr at items) es each found q names x m = told_exprs k b c h n items es each found q names x (exprs_mention (in_exprs ts c names items).1 x m)
    told_expr k b c h n (surface.RepeatExpr at y z) es each found q names x m =
        let middle : Edges = uses.in_expr s from y es in
        let first : Found = bind.in_expr k b y found in
        either (told_expr k b c h n y es (before_expr G s from z middle each) found (before.before_expr k b z first q) names x) (told_expr k b c h n z middle each first q (in_expr ts c names y).0 x) m
    told_expr k b c h n (surface.RecordExpr at fs) es each found q names x m =
        values_told (in_fields ts c names [] fs).1 (told_fields k b c h n [] [] fs es each found q names tt) x m
    told_expr k b c h n (surface.QuantExpr at all rs body) es each found q names x m =
        let middle : Edges = uses.in_ranges s from rs es in
        let behind : Found = bind.in_ranges (contract k) b at rs found in
        let inner : Scope = (in_ranges ts c names rs).0 in
        let between : Variables = (in_ranges ts c names rs).1 in
        told_ranges (contract k) b c h n at rs es (before_expr G s from body middle each) found (before.before_expr (contract k) (with_ranges b rs) body behind q) names x at all (in_expr ts inner between body).1
        (told_expr (contract k) (with_ranges b rs) inner (erased_ranges b c h names rs) (nests_ranges c n names rs) body middle each behind q between x) m

    pub told_exprs : (k : Context) (b c : Scope) → b ≡ erased c → Nests s c → (xs : surface.Exprs) (es : Edges) → Each G (uses.in_exprs s from xs es) → (found : Found) → bind.in_exprs k b xs found ≡ None → (names : Variables)
        (x : ℕ) → ClausesMention (in_exprs ts c names xs).1 x → Told x
    told_exprs k b c h n surface.NoExprs es each found q names x m = absurd m
    told_exprs k b c h n (surface.MoreExprs e rest) es each found q names x m =
        let middle : Edges = uses.in_expr s from e es in
        let first : Found = bind.in_expr k b e found in
        either (told_expr k b c h n e es (before_exprs G s from rest middle each) found (before.before_exprs k b rest first q) names x) (told_exprs k b c h n rest middle each first q (in_expr ts c names e).0 x) m

    told_args : (k : Context) (b c : Scope) → b ≡ erased c → Nests s c → (callee : Option Entry) (i : ℕ) (xs : surface.Exprs) (es : Edges) → Each G (uses.in_exprs s from xs es) → (found : Found)
        → bind.in_exprs k b xs found ≡ None → (names : Variables) (x : ℕ) → ClausesMention (in_args ts c names callee i xs).1 x → Told x
    told_args k b c h n callee i surface.NoExprs es each found q names x m = absurd m
    told_args k b c h n callee i (surface.MoreExprs e rest) es each found q names x m =
        let middle : Edges = uses.in_expr s from e es in
        let first : Found = bind.in_expr k b e found in
        let y : With (Expr ℕ) = in_expr ts c names e in
        either (kept_told (is_used ts callee i) names y x (told_expr k b c h n e es (before_exprs G s from rest middle each) found (before.before_exprs k b rest first q) names x))
        (told_args k b c h n callee (i + 1) rest middle each first q (kept (is_used ts callee i) names y).0 x) m

    told_fields : (k : Context) (b c : Scope) → b ≡ erased c → Nests s c → (seen : Scope) (made : List (List ℕ × Expr ℕ)) (fs : surface.Fields) (es : Edges) → Each G (uses.in_values s from fs es) → (found : Found)
        → bind.in_fields k b seen fs found ≡ None → (names : Variables) → fields.Each Value made → fields.Each Value (in_fields ts c names made fs).1
    told_fields k b c h n seen made surface.NoFields es each found q names f = f
    told_fields k b c h n seen made (surface.MoreFields name e rest) es each found q names f =
        let middle : Edges = uses.in_expr s from e es in
        let z : With (Expr ℕ) = in_expr ts c names e in
        let here : Value z.1 = told_expr k b c h n e es (before_values G s from rest middle each) found (field_value k b seen name e rest found q) names in
        told_fields k b c h n (with_name seen name just_a_name) (placed made name z.1) rest middle each (noted_where (has seen name) (bind.in_expr k b e found) (place_of_expr e) cause.Twice) q z.0
        (each_placed Value made name z.1 here f)

    told_ranges : (k : Context) (b c : Scope) → b ≡ erased c → Nests s c → (at : ℕ) (rs : surface.Ranges) (es : Edges) → Each G (uses.in_ranges s from rs es) → (found : Found) → bind.in_ranges k b at rs found ≡ None
        → (names : Variables) (x p : ℕ) (all : Bool) (body : Expr ℕ) → (Mentions body x → Told x) → Mentions (quantified p all (in_ranges ts c names rs).2 body) x → Told x
    told_ranges k b c h n at surface.NoRanges es each found q names x p all body f m = f m
    told_ranges k b c h n at (surface.MoreRanges name y z rest) es each found q names x p all body f m =
        let first : Variables = (in_expr ts c names y).0 in
        let behind : Variables = (in_expr ts c first z).0 in
        let middle : Edges = uses.in_expr s from y es in
        let second : Edges = uses.in_expr s from z middle in
        let started : Found = bind.in_expr k b y found in
        let ends : Found = bind.in_expr k b z started in
        let ended : ends ≡ None = range_ends k b at name y z rest found q in
        let outer : Each G second = before_ranges G s from rest second each in
        three (told_expr k b c h n y es (before_expr G s from z middle outer) found (before.before_expr k b z started ended) names x) (told_expr k b c h n z middle outer started ended first x)
        (told_ranges k (with_name b name just_a_name) (declared c behind name) (erased_more b c name (length behind) h) (nests_more s c name (length behind) n) at rest second each
        (noted_where (has b name) ends at cause.Twice) q (named behind name) x p all body f) m
