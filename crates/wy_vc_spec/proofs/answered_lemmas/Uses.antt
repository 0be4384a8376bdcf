-- The names that a type names and that the tests of an expression mention.
use Rattle.std.proofs.Common.{◌≡◌, ℕ, Bool, true, false, ◌||◌, ◌⊎◌, inl, inr, List, [], ◌∷◌, refl, sym, subst}
use Rattle.std.proofs.lemmas.Bool.{or_cases, or_left, or_right}
use Rattle.wy_sem.specs.wy_core.Types.{Ty, NullTy, BoolTy, IntTy, AnyTy, VoidTy, RecordTy, ArrayTy, UnionTy, InterTy, NotTy, NamedTy, NormalTy, FieldTys, NoFieldTys, MoreFieldTys}
use Rattle.wy_sem.specs.wy_core.CoreTree.{Expr, NullExpr, BoolExpr, IntExpr, VarExpr, CallExpr, NegExpr, NotExpr, LenExpr, BinaryExpr, IsExpr, IndexExpr, FieldExpr, ListExpr, RepeatExpr, RecordExpr, QuantExpr, Exprs, NoExprs, MoreExprs, Fields, NoFields, MoreFields}
use Rattle.wy_sem.specs.wy_core.formed.Recursion.{NamesIn, NamesInFields, Mentions, MentionsIn, MentionsInFields, ClausesMention}
use Rattle.wy_sem.specs.TypeTests.{mentions, mentions_fields}
use Rattle.wy_vc_spec.specs.Named.{some_test, some_test_all, some_test_fields, some_test_in}

-- ---- names are those of types

-- ---- names with a property, as a test

module _ (p : ℕ → Bool) where
  -- some name has it
  abbrev pub Found : (ℕ → Type 0) → Type 0
  Found In = (c : ℕ) × In c × (p c ≡ true)

  mutual
    pub named_mentions : (t : Ty) (c : ℕ) → NamesIn true t c → p c ≡ true → mentions p t ≡ true
    named_mentions NullTy c h q = absurd h
    named_mentions BoolTy c h q = absurd h
    named_mentions IntTy c h q = absurd h
    named_mentions AnyTy c h q = absurd h
    named_mentions VoidTy c h q = absurd h
    named_mentions (RecordTy fields) c h q = fields_mention fields c h q
    named_mentions (ArrayTy item) c h q = named_mentions item c h q
    named_mentions (UnionTy s t) c (inl h) q = or_left (mentions p s) (mentions p t) (named_mentions s c h q)
    named_mentions (UnionTy s t) c (inr h) q = or_right (mentions p s) (mentions p t) (named_mentions t c h q)
    named_mentions (InterTy s t) c (inl h) q = or_left (mentions p s) (mentions p t) (named_mentions s c h q)
    named_mentions (InterTy s t) c (inr h) q = or_right (mentions p s) (mentions p t) (named_mentions t c h q)
    named_mentions (NotTy t) c h q = named_mentions t c h q
    named_mentions (NamedTy n) c h q = subst (λ (x : ℕ). p x ≡ true) (sym h) q
    named_mentions (NormalTy union) c h q = absurd h

    fields_mention : (fields : FieldTys) (c : ℕ) → NamesInFields fields c → p c ≡ true → mentions_fields p fields ≡ true
    fields_mention NoFieldTys c h q = absurd h
    fields_mention (MoreFieldTys name t fields) c (inl h) q = or_left (mentions p t) (mentions_fields p fields) (named_mentions t c h q)
    fields_mention (MoreFieldTys name t fields) c (inr h) q = or_right (mentions p t) (mentions_fields p fields) (fields_mention fields c h q)

  pub either_name : {A B : ℕ → Type 0} (a b : Bool) → (a || b) ≡ true → (a ≡ true → Found A) → (b ≡ true → Found B) → Found (λ c. A c ⊎ B c)
  either_name {A} {B} a b h f g = by (or_cases a b h)
    where
      by : (a ≡ true) ⊎ (b ≡ true) → Found (λ c. A c ⊎ B c)
      by (inl e) = let r = f e in (r.0, inl r.1, r.2)
      by (inr e) = let r = g e in (r.0, inr r.1, r.2)

  pub none_here : {A : Type 0} → false ≡ true → A
  none_here e = absurd cc

  mutual
    pub some_named : (t : Ty) → mentions p t ≡ true → Found (NamesIn true t)
    some_named NullTy h = none_here h
    some_named BoolTy h = none_here h
    some_named IntTy h = none_here h
    some_named AnyTy h = none_here h
    some_named VoidTy h = none_here h
    some_named (RecordTy fields) h = some_field fields h
    some_named (ArrayTy item) h = some_named item h
    some_named (UnionTy s t) h = either_name (mentions p s) (mentions p t) h (some_named s) (some_named t)
    some_named (InterTy s t) h = either_name (mentions p s) (mentions p t) h (some_named s) (some_named t)
    some_named (NotTy t) h = some_named t h
    some_named (NamedTy n) h = (n, refl, h)
    some_named (NormalTy union) h = none_here h

    some_field : (fields : FieldTys) → mentions_fields p fields ≡ true → Found (NamesInFields fields)
    some_field NoFieldTys h = none_here h
    some_field (MoreFieldTys name t fields) h = either_name (mentions p t) (mentions_fields p fields) h (some_named t) (some_field fields)

  mutual
    tested_mentions : (e : Expr ℕ) (c : ℕ) → Mentions e c → p c ≡ true → some_test (mentions p) e ≡ true
    tested_mentions (NullExpr at) c h q = absurd h
    tested_mentions (BoolExpr at truth) c h q = absurd h
    tested_mentions (IntExpr at number) c h q = absurd h
    tested_mentions (VarExpr at v) c h q = absurd h
    tested_mentions (CallExpr at routine args) c h q = all_mention args c h q
    tested_mentions (NegExpr at a) c h q = tested_mentions a c h q
    tested_mentions (NotExpr at a) c h q = tested_mentions a c h q
    tested_mentions (LenExpr at a) c h q = tested_mentions a c h q
    tested_mentions (BinaryExpr at op a b) c (inl h) q = or_left (some_test (mentions p) a) (some_test (mentions p) b) (tested_mentions a c h q)
    tested_mentions (BinaryExpr at op a b) c (inr h) q = or_right (some_test (mentions p) a) (some_test (mentions p) b) (tested_mentions b c h q)
    tested_mentions (IsExpr at a t) c (inl h) q = or_left (some_test (mentions p) a) (mentions p t) (tested_mentions a c h q)
    tested_mentions (IsExpr at a t) c (inr h) q = or_right (some_test (mentions p) a) (mentions p t) (named_mentions t c h q)
    tested_mentions (IndexExpr at a b) c (inl h) q = or_left (some_test (mentions p) a) (some_test (mentions p) b) (tested_mentions a c h q)
    tested_mentions (IndexExpr at a b) c (inr h) q = or_right (some_test (mentions p) a) (some_test (mentions p) b) (tested_mentions b c h q)
    tested_mentions (FieldExpr at a name) c h q = tested_mentions a c h q
    tested_mentions (ListExpr at items) c h q = all_mention items c h q
    tested_mentions (RepeatExpr at a b) c (inl h) q = or_left (some_test (mentions p) a) (some_test (mentions p) b) (tested_mentions a c h q)
    tested_mentions (RepeatExpr at a b) c (inr h) q = or_right (some_test (mentions p) a) (some_test (mentions p) b) (tested_mentions b c h q)
    tested_mentions (RecordExpr at fields) c h q = values_mention fields c h q
    tested_mentions (QuantExpr at all x a b body) c (inl h) q =
        or_left (some_test (mentions p) a) (some_test (mentions p) b || some_test (mentions p) body) (tested_mentions a c h q)
    tested_mentions (QuantExpr at all x a b body) c (inr (inl h)) q =
        or_right (some_test (mentions p) a) (some_test (mentions p) b || some_test (mentions p) body)
        (or_left (some_test (mentions p) b) (some_test (mentions p) body) (tested_mentions b c h q))
    tested_mentions (QuantExpr at all x a b body) c (inr (inr h)) q =
        or_right (some_test (mentions p) a) (some_test (mentions p) b || some_test (mentions p) body)
        (or_right (some_test (mentions p) b) (some_test (mentions p) body) (tested_mentions body c h q))

    all_mention : (es : Exprs ℕ) (c : ℕ) → MentionsIn es c → p c ≡ true → some_test_all (mentions p) es ≡ true
    all_mention NoExprs c h q = absurd h
    all_mention (MoreExprs e es) c (inl h) q = or_left (some_test (mentions p) e) (some_test_all (mentions p) es) (tested_mentions e c h q)
    all_mention (MoreExprs e es) c (inr h) q = or_right (some_test (mentions p) e) (some_test_all (mentions p) es) (all_mention es c h q)

    values_mention : (fs : Fields ℕ) (c : ℕ) → MentionsInFields fs c → p c ≡ true → some_test_fields (mentions p) fs ≡ true
    values_mention NoFields c h q = absurd h
    values_mention (MoreFields name e fs) c (inl h) q = or_left (some_test (mentions p) e) (some_test_fields (mentions p) fs) (tested_mentions e c h q)
    values_mention (MoreFields name e fs) c (inr h) q = or_right (some_test (mentions p) e) (some_test_fields (mentions p) fs) (values_mention fs c h q)

  pub clauses_mention : (es : List (Expr ℕ)) (c : ℕ) → ClausesMention es c → p c ≡ true → some_test_in (mentions p) es ≡ true
  clauses_mention [] c h q = absurd h
  clauses_mention (e ∷ es) c (inl h) q = or_left (some_test (mentions p) e) (some_test_in (mentions p) es) (tested_mentions e c h q)
  clauses_mention (e ∷ es) c (inr h) q = or_right (some_test (mentions p) e) (some_test_in (mentions p) es) (clauses_mention es c h q)

  mutual
    some_tested : (e : Expr ℕ) → some_test (mentions p) e ≡ true → Found (Mentions e)
    some_tested (NullExpr at) h = none_here h
    some_tested (BoolExpr at truth) h = none_here h
    some_tested (IntExpr at number) h = none_here h
    some_tested (VarExpr at v) h = none_here h
    some_tested (CallExpr at routine args) h = some_in_all args h
    some_tested (NegExpr at a) h = some_tested a h
    some_tested (NotExpr at a) h = some_tested a h
    some_tested (LenExpr at a) h = some_tested a h
    some_tested (BinaryExpr at op a b) h = either_name (some_test (mentions p) a) (some_test (mentions p) b) h (some_tested a) (some_tested b)
    some_tested (IsExpr at a t) h = either_name (some_test (mentions p) a) (mentions p t) h (some_tested a) (some_named t)
    some_tested (IndexExpr at a b) h = either_name (some_test (mentions p) a) (some_test (mentions p) b) h (some_tested a) (some_tested b)
    some_tested (FieldExpr at a name) h = some_tested a h
    some_tested (ListExpr at items) h = some_in_all items h
    some_tested (RepeatExpr at a b) h = either_name (some_test (mentions p) a) (some_test (mentions p) b) h (some_tested a) (some_tested b)
    some_tested (RecordExpr at fields) h = some_value fields h
    some_tested (QuantExpr at all x a b body) h =
        either_name {A = Mentions a} {B = λ c. Mentions b c ⊎ Mentions body c} (some_test (mentions p) a) (some_test (mentions p) b || some_test (mentions p) body) h (some_tested a)
        (λ g. either_name {A = Mentions b} {B = Mentions body} (some_test (mentions p) b) (some_test (mentions p) body) g (some_tested b) (some_tested body))

    some_in_all : (es : Exprs ℕ) → some_test_all (mentions p) es ≡ true → Found (MentionsIn es)
    some_in_all NoExprs h = none_here h
    some_in_all (MoreExprs e es) h = either_name (some_test (mentions p) e) (some_test_all (mentions p) es) h (some_tested e) (some_in_all es)

    some_value : (fs : Fields ℕ) → some_test_fields (mentions p) fs ≡ true → Found (MentionsInFields fs)
    some_value NoFields h = none_here h
    some_value (MoreFields name e fs) h = either_name (some_test (mentions p) e) (some_test_fields (mentions p) fs) h (some_tested e) (some_value fs)

  pub some_clause : (es : List (Expr ℕ)) → some_test_in (mentions p) es ≡ true → Found (ClausesMention es)
  some_clause [] h = none_here h
  some_clause (e ∷ es) h = either_name (some_test (mentions p) e) (some_test_in (mentions p) es) h (some_tested e) (some_clause es)
