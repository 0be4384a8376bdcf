-- What the crates above prove of these words, each once.
use Rattle.std.proofs.Common.{ℕ, true, false, inl, inr, ◌<◌, subst, List, [], ◌∷◌}
use Rattle.wy_core.specs.CoreTree.{Expr, NullExpr, BoolExpr, IntExpr, VarExpr, CallExpr, NegExpr, NotExpr, LenExpr, BinaryExpr, IsExpr, IndexExpr, FieldExpr, ListExpr, RepeatExpr, RecordExpr, QuantExpr, Exprs, NoExprs, MoreExprs, Fields, NoFields, MoreFields}
use Rattle.wy_core.specs.Types.{Ty, NullTy, BoolTy, IntTy, AnyTy, VoidTy, RecordTy, ArrayTy, UnionTy, InterTy, NotTy, NamedTy, NormalTy, FieldTys, NoFieldTys, MoreFieldTys}
use Rattle.wy_core.specs.formed.Bound.{BoundTy, BoundFieldTys, Scope, BoundExpr, BoundExprs, BoundFields, BoundClauses}
use Rattle.wy_core.specs.formed.Offers.{Offers}
use Rattle.wy_core.specs.formed.Recursion.{NamesIn, NamesInFields, Mentions, MentionsIn, MentionsInFields, ClausesMention}

-- a name outside of records and arrays is a name
pub bare_is_named : (t : Ty) (c : ℕ) → NamesIn false t c → NamesIn true t c
bare_is_named NullTy c h = absurd h
bare_is_named BoolTy c h = absurd h
bare_is_named IntTy c h = absurd h
bare_is_named AnyTy c h = absurd h
bare_is_named VoidTy c h = absurd h
bare_is_named (RecordTy fields) c h = absurd h
bare_is_named (ArrayTy item) c h = absurd h
bare_is_named (UnionTy s t) c (inl h) = inl (bare_is_named s c h)
bare_is_named (UnionTy s t) c (inr h) = inr (bare_is_named t c h)
bare_is_named (InterTy s t) c (inl h) = inl (bare_is_named s c h)
bare_is_named (InterTy s t) c (inr h) = inr (bare_is_named t c h)
bare_is_named (NotTy t) c h = bare_is_named t c h
bare_is_named (NamedTy n) c h = h
bare_is_named (NormalTy union) c h = absurd h

mutual
  pub named_below : (n : ℕ) (t : Ty) → BoundTy n t → (c : ℕ) → NamesIn true t c → c < n
  named_below n NullTy b c h = absurd h
  named_below n BoolTy b c h = absurd h
  named_below n IntTy b c h = absurd h
  named_below n AnyTy b c h = absurd h
  named_below n VoidTy b c h = absurd h
  named_below n (RecordTy fields) b c h = fields_below n fields b.1 c h
  named_below n (ArrayTy item) b c h = named_below n item b c h
  named_below n (UnionTy s t) b c (inl h) = named_below n s b.0 c h
  named_below n (UnionTy s t) b c (inr h) = named_below n t b.1 c h
  named_below n (InterTy s t) b c (inl h) = named_below n s b.0 c h
  named_below n (InterTy s t) b c (inr h) = named_below n t b.1 c h
  named_below n (NotTy t) b c h = named_below n t b c h
  named_below n (NamedTy m) b c h = subst (λ (x : ℕ). x < n) h b
  named_below n (NormalTy union) b c h = absurd h

  pub fields_below : (n : ℕ) (fields : FieldTys) → BoundFieldTys n fields → (c : ℕ) → NamesInFields fields c → c < n
  fields_below n NoFieldTys b c h = absurd h
  fields_below n (MoreFieldTys name t fields) b c (inl h) = named_below n t b.0 c h
  fields_below n (MoreFieldTys name t fields) b c (inr h) = fields_below n fields b.1 c h

module _ (o : Offers) (n : ℕ) where
  mutual
    pub mentioned_below : (vs : Scope) (e : Expr ℕ) → BoundExpr o n vs e → (c : ℕ) → Mentions e c → c < o.types
    mentioned_below vs (NullExpr at) b c h = absurd h
    mentioned_below vs (BoolExpr at truth) b c h = absurd h
    mentioned_below vs (IntExpr at number) b c h = absurd h
    mentioned_below vs (VarExpr at v) b c h = absurd h
    mentioned_below vs (CallExpr at routine args) b c h = all_below vs args b.1 c h
    mentioned_below vs (NegExpr at a) b c h = mentioned_below vs a b c h
    mentioned_below vs (NotExpr at a) b c h = mentioned_below vs a b c h
    mentioned_below vs (LenExpr at a) b c h = mentioned_below vs a b c h
    mentioned_below vs (BinaryExpr at op x y) b c (inl h) = mentioned_below vs x b.0 c h
    mentioned_below vs (BinaryExpr at op x y) b c (inr h) = mentioned_below vs y b.1 c h
    mentioned_below vs (IsExpr at a t) b c (inl h) = mentioned_below vs a b.0 c h
    mentioned_below vs (IsExpr at a t) b c (inr h) = named_below o.types t b.1 c h
    mentioned_below vs (IndexExpr at x y) b c (inl h) = mentioned_below vs x b.0 c h
    mentioned_below vs (IndexExpr at x y) b c (inr h) = mentioned_below vs y b.1 c h
    mentioned_below vs (FieldExpr at a name) b c h = mentioned_below vs a b c h
    mentioned_below vs (ListExpr at items) b c h = all_below vs items b c h
    mentioned_below vs (RepeatExpr at x y) b c (inl h) = mentioned_below vs x b.0 c h
    mentioned_below vs (RepeatExpr at x y) b c (inr h) = mentioned_below vs y b.1 c h
    mentioned_below vs (RecordExpr at fields) b c h = values_below vs fields b.1 c h
    mentioned_below vs (QuantExpr at all v x y body) b c (inl h) = mentioned_below vs x b.1 c h
    mentioned_below vs (QuantExpr at all v x y body) b c (inr (inl h)) = mentioned_below vs y b.2 c h
    mentioned_below vs (QuantExpr at all v x y body) b c (inr (inr h)) = mentioned_below (v ∷ vs) body b.3 c h

    pub all_below : (vs : Scope) (es : Exprs ℕ) → BoundExprs o n vs es → (c : ℕ) → MentionsIn es c → c < o.types
    all_below vs NoExprs b c h = absurd h
    all_below vs (MoreExprs e es) b c (inl h) = mentioned_below vs e b.0 c h
    all_below vs (MoreExprs e es) b c (inr h) = all_below vs es b.1 c h

    pub values_below : (vs : Scope) (fs : Fields ℕ) → BoundFields o n vs fs → (c : ℕ) → MentionsInFields fs c → c < o.types
    values_below vs NoFields b c h = absurd h
    values_below vs (MoreFields name e fs) b c (inl h) = mentioned_below vs e b.0 c h
    values_below vs (MoreFields name e fs) b c (inr h) = values_below vs fs b.1 c h

  pub clauses_below : (vs : Scope) (es : List (Expr ℕ)) → BoundClauses o n vs es → (c : ℕ) → ClausesMention es c → c < o.types
  clauses_below vs [] b c h = absurd h
  clauses_below vs (e ∷ es) b c (inl h) = mentioned_below vs e b.0 c h
  clauses_below vs (e ∷ es) b c (inr h) = clauses_below vs es b.1 c h
