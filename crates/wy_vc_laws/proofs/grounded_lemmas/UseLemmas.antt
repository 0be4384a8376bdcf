-- The names that a type names and that the tests of an expression mention.
use Rattle.std.proofs.Common.{◌≡◌, ℕ, ◌+◌, Bool, true, false, ◌||◌, ◌⊎◌, inl, inr, List, [], ◌∷◌, refl, sym, subst}
use Rattle.std.proofs.lemmas.Bool.{or_cases, or_left, or_right}
use Rattle.wy_sound_terms.specs.wy_core.Types.{Ty, NullTy, BoolTy, IntTy, AnyTy, VoidTy, RecordTy, ArrayTy, UnionTy, InterTy, NotTy, NamedTy, NormalTy, FieldTys, NoFieldTys, MoreFieldTys}
use Rattle.wy_sound_terms.specs.wy_core.CoreTree.{Expr, NullExpr, BoolExpr, IntExpr, VarExpr, CallExpr, NegExpr, NotExpr, LenExpr, BinaryExpr, IsExpr, IndexExpr, FieldExpr, ListExpr, RepeatExpr, RecordExpr, QuantExpr, Exprs, NoExprs, MoreExprs, Fields, NoFields, MoreFields}
use Rattle.wy_sound_terms.specs.wy_core.formed.Recursion.{NamesIn, NamesInFields, Mentions, MentionsIn, MentionsInFields, ClausesMention}
use Rattle.wy_sound_terms.specs.wy_sem.TypeTests.{mentions, mentions_fields}
use Rattle.wy_sound_terms.specs.wy_vc_spec.Named.{some_test, some_test_all, some_test_fields, some_test_in}
use Rattle.wy_sound_terms.specs.wy_vc_spec.Sizes.{exprs_in}
use Rattle.wy_sound_terms.specs.wy_vc_spec.Numbered.{numbered, numbered_all, numbered_fields, numbered_list}
use Rattle.wy_vc_laws.specs.grounded.Uses.{NamesAll, AllNamesAll, NamesBare, TestsAll, AllTestAll, FieldsTestAll, ClausesTestAll}
use Rattle.wy_sound_terms.proofs.wy_vc_spec_proofs.answered_lemmas.Uses.{Found, named_mentions, some_named, either_name, none_here}

-- ---- what all names have, each name has

module _ (P : ℕ → Type 0) where
  mutual
    pub all_named : (t : Ty) → ((c : ℕ) → NamesIn true t c → P c) → NamesAll P t
    all_named NullTy f = tt
    all_named BoolTy f = tt
    all_named IntTy f = tt
    all_named AnyTy f = tt
    all_named VoidTy f = tt
    all_named (RecordTy fields) f = all_in_fields fields f
    all_named (ArrayTy item) f = all_named item f
    all_named (UnionTy s t) f = (all_named s (λ c h. f c (inl h)), all_named t (λ c h. f c (inr h)))
    all_named (InterTy s t) f = (all_named s (λ c h. f c (inl h)), all_named t (λ c h. f c (inr h)))
    all_named (NotTy t) f = all_named t f
    all_named (NamedTy n) f = f n refl
    all_named (NormalTy union) f = tt

    all_in_fields : (fields : FieldTys) → ((c : ℕ) → NamesInFields fields c → P c) → AllNamesAll P fields
    all_in_fields NoFieldTys f = tt
    all_in_fields (MoreFieldTys name t fields) f = (all_named t (λ c h. f c (inl h)), all_in_fields fields (λ c h. f c (inr h)))

  mutual
    all_tested : (e : Expr ℕ) (k : ℕ) → ((c : ℕ) → Mentions e c → P c) → TestsAll P (numbered e k)
    all_tested (NullExpr at) k f = tt
    all_tested (BoolExpr at truth) k f = tt
    all_tested (IntExpr at number) k f = tt
    all_tested (VarExpr at x) k f = tt
    all_tested (CallExpr at routine args) k f = all_tested_in args k f
    all_tested (NegExpr at a) k f = all_tested a k f
    all_tested (NotExpr at a) k f = all_tested a k f
    all_tested (LenExpr at a) k f = all_tested a k f
    all_tested (BinaryExpr at op a b) k f = (all_tested a k (λ c h. f c (inl h)), all_tested b (k + exprs_in a) (λ c h. f c (inr h)))
    all_tested (IsExpr at a t) k f = (all_tested a k (λ c h. f c (inl h)), all_named t (λ c h. f c (inr h)))
    all_tested (IndexExpr at a b) k f = (all_tested a k (λ c h. f c (inl h)), all_tested b (k + exprs_in a) (λ c h. f c (inr h)))
    all_tested (FieldExpr at a name) k f = all_tested a k f
    all_tested (ListExpr at items) k f = all_tested_in items k f
    all_tested (RepeatExpr at a b) k f = (all_tested a k (λ c h. f c (inl h)), all_tested b (k + exprs_in a) (λ c h. f c (inr h)))
    all_tested (RecordExpr at fields) k f = all_tested_fields fields k f
    all_tested (QuantExpr at all x a b body) k f =
        (all_tested a k (λ c h. f c (inl h)), all_tested b (k + exprs_in a) (λ c h. f c (inr (inl h))), all_tested body (k + exprs_in a + exprs_in b) (λ c h. f c (inr (inr h))))

    all_tested_in : (es : Exprs ℕ) (k : ℕ) → ((c : ℕ) → MentionsIn es c → P c) → AllTestAll P (numbered_all es k)
    all_tested_in NoExprs k f = tt
    all_tested_in (MoreExprs e es) k f = (all_tested e k (λ c h. f c (inl h)), all_tested_in es (k + exprs_in e) (λ c h. f c (inr h)))

    all_tested_fields : (fs : Fields ℕ) (k : ℕ) → ((c : ℕ) → MentionsInFields fs c → P c) → FieldsTestAll P (numbered_fields fs k)
    all_tested_fields NoFields k f = tt
    all_tested_fields (MoreFields name e fs) k f = (all_tested e k (λ c h. f c (inl h)), all_tested_fields fs (k + exprs_in e) (λ c h. f c (inr h)))

  pub all_clauses_tested : (es : List (Expr ℕ)) (k : ℕ) → ((c : ℕ) → ClausesMention es c → P c) → ClausesTestAll P (numbered_list es k)
  all_clauses_tested [] k f = tt
  all_clauses_tested (e ∷ es) k f = (all_tested e k (λ c h. f c (inl h)), all_clauses_tested es (k + exprs_in e) (λ c h. f c (inr h)))

pub bare_named : (P Q : ℕ → Type 0) (t : Ty) → ((c : ℕ) → NamesIn false t c → P c) → ((c : ℕ) → NamesIn true t c → Q c) → NamesBare P Q t
bare_named P Q NullTy f g = tt
bare_named P Q BoolTy f g = tt
bare_named P Q IntTy f g = tt
bare_named P Q AnyTy f g = tt
bare_named P Q VoidTy f g = tt
bare_named P Q (RecordTy fields) f g = all_in_fields Q fields g
bare_named P Q (ArrayTy item) f g = all_named Q item g
bare_named P Q (UnionTy s t) f g = (bare_named P Q s (λ c h. f c (inl h)) (λ c h. g c (inl h)), bare_named P Q t (λ c h. f c (inr h)) (λ c h. g c (inr h)))
bare_named P Q (InterTy s t) f g = (bare_named P Q s (λ c h. f c (inl h)) (λ c h. g c (inl h)), bare_named P Q t (λ c h. f c (inr h)) (λ c h. g c (inr h)))
bare_named P Q (NotTy t) f g = bare_named P Q t f g
bare_named P Q (NamedTy n) f g = f n refl
bare_named P Q (NormalTy union) f g = tt

-- ---- names are those of types

-- ---- names with a property, as a test

module _ (p : ℕ → Bool) where
  mutual
    tested_mentions : (e : Expr ℕ) (k c : ℕ) → Mentions e c → p c ≡ true → some_test (mentions p) (numbered e k) ≡ true
    tested_mentions (NullExpr at) k c h q = absurd h
    tested_mentions (BoolExpr at truth) k c h q = absurd h
    tested_mentions (IntExpr at number) k c h q = absurd h
    tested_mentions (VarExpr at v) k c h q = absurd h
    tested_mentions (CallExpr at routine args) k c h q = all_mention args k c h q
    tested_mentions (NegExpr at a) k c h q = tested_mentions a k c h q
    tested_mentions (NotExpr at a) k c h q = tested_mentions a k c h q
    tested_mentions (LenExpr at a) k c h q = tested_mentions a k c h q
    tested_mentions (BinaryExpr at op a b) k c (inl h) q = or_left (some_test (mentions p) (numbered a k)) (some_test (mentions p) (numbered b (k + exprs_in a))) (tested_mentions a k c h q)
    tested_mentions (BinaryExpr at op a b) k c (inr h) q = or_right (some_test (mentions p) (numbered a k)) (some_test (mentions p) (numbered b (k + exprs_in a))) (tested_mentions b (k + exprs_in a) c h q)
    tested_mentions (IsExpr at a t) k c (inl h) q = or_left (some_test (mentions p) (numbered a k)) (mentions p t) (tested_mentions a k c h q)
    tested_mentions (IsExpr at a t) k c (inr h) q = or_right (some_test (mentions p) (numbered a k)) (mentions p t) (named_mentions p t c h q)
    tested_mentions (IndexExpr at a b) k c (inl h) q = or_left (some_test (mentions p) (numbered a k)) (some_test (mentions p) (numbered b (k + exprs_in a))) (tested_mentions a k c h q)
    tested_mentions (IndexExpr at a b) k c (inr h) q = or_right (some_test (mentions p) (numbered a k)) (some_test (mentions p) (numbered b (k + exprs_in a))) (tested_mentions b (k + exprs_in a) c h q)
    tested_mentions (FieldExpr at a name) k c h q = tested_mentions a k c h q
    tested_mentions (ListExpr at items) k c h q = all_mention items k c h q
    tested_mentions (RepeatExpr at a b) k c (inl h) q = or_left (some_test (mentions p) (numbered a k)) (some_test (mentions p) (numbered b (k + exprs_in a))) (tested_mentions a k c h q)
    tested_mentions (RepeatExpr at a b) k c (inr h) q = or_right (some_test (mentions p) (numbered a k)) (some_test (mentions p) (numbered b (k + exprs_in a))) (tested_mentions b (k + exprs_in a) c h q)
    tested_mentions (RecordExpr at fields) k c h q = values_mention fields k c h q
    tested_mentions (QuantExpr at all x a b body) k c (inl h) q =
        or_left (some_test (mentions p) (numbered a k)) (some_test (mentions p) (numbered b (k + exprs_in a)) || some_test (mentions p) (numbered body (k + exprs_in a + exprs_in b))) (tested_mentions a k c h q)
    tested_mentions (QuantExpr at all x a b body) k c (inr (inl h)) q =
        or_right (some_test (mentions p) (numbered a k)) (some_test (mentions p) (numbered b (k + exprs_in a)) || some_test (mentions p) (numbered body (k + exprs_in a + exprs_in b)))
        (or_left (some_test (mentions p) (numbered b (k + exprs_in a))) (some_test (mentions p) (numbered body (k + exprs_in a + exprs_in b))) (tested_mentions b (k + exprs_in a) c h q))
    tested_mentions (QuantExpr at all x a b body) k c (inr (inr h)) q =
        or_right (some_test (mentions p) (numbered a k)) (some_test (mentions p) (numbered b (k + exprs_in a)) || some_test (mentions p) (numbered body (k + exprs_in a + exprs_in b)))
        (or_right (some_test (mentions p) (numbered b (k + exprs_in a))) (some_test (mentions p) (numbered body (k + exprs_in a + exprs_in b))) (tested_mentions body (k + exprs_in a + exprs_in b) c h q))

    all_mention : (es : Exprs ℕ) (k c : ℕ) → MentionsIn es c → p c ≡ true → some_test_all (mentions p) (numbered_all es k) ≡ true
    all_mention NoExprs k c h q = absurd h
    all_mention (MoreExprs e es) k c (inl h) q = or_left (some_test (mentions p) (numbered e k)) (some_test_all (mentions p) (numbered_all es (k + exprs_in e))) (tested_mentions e k c h q)
    all_mention (MoreExprs e es) k c (inr h) q = or_right (some_test (mentions p) (numbered e k)) (some_test_all (mentions p) (numbered_all es (k + exprs_in e))) (all_mention es (k + exprs_in e) c h q)

    values_mention : (fs : Fields ℕ) (k c : ℕ) → MentionsInFields fs c → p c ≡ true → some_test_fields (mentions p) (numbered_fields fs k) ≡ true
    values_mention NoFields k c h q = absurd h
    values_mention (MoreFields name e fs) k c (inl h) q = or_left (some_test (mentions p) (numbered e k)) (some_test_fields (mentions p) (numbered_fields fs (k + exprs_in e))) (tested_mentions e k c h q)
    values_mention (MoreFields name e fs) k c (inr h) q = or_right (some_test (mentions p) (numbered e k)) (some_test_fields (mentions p) (numbered_fields fs (k + exprs_in e))) (values_mention fs (k + exprs_in e) c h q)

  pub clauses_mention : (es : List (Expr ℕ)) (k c : ℕ) → ClausesMention es c → p c ≡ true → some_test_in (mentions p) (numbered_list es k) ≡ true
  clauses_mention [] k c h q = absurd h
  clauses_mention (e ∷ es) k c (inl h) q = or_left (some_test (mentions p) (numbered e k)) (some_test_in (mentions p) (numbered_list es (k + exprs_in e))) (tested_mentions e k c h q)
  clauses_mention (e ∷ es) k c (inr h) q = or_right (some_test (mentions p) (numbered e k)) (some_test_in (mentions p) (numbered_list es (k + exprs_in e))) (clauses_mention es (k + exprs_in e) c h q)

  mutual
    some_tested : (e : Expr ℕ) (k : ℕ) → some_test (mentions p) (numbered e k) ≡ true → Found p (Mentions e)
    some_tested (NullExpr at) k h = none_here p h
    some_tested (BoolExpr at truth) k h = none_here p h
    some_tested (IntExpr at number) k h = none_here p h
    some_tested (VarExpr at v) k h = none_here p h
    some_tested (CallExpr at routine args) k h = some_in_all args k h
    some_tested (NegExpr at a) k h = some_tested a k h
    some_tested (NotExpr at a) k h = some_tested a k h
    some_tested (LenExpr at a) k h = some_tested a k h
    some_tested (BinaryExpr at op a b) k h = either_name p (some_test (mentions p) (numbered a k)) (some_test (mentions p) (numbered b (k + exprs_in a))) h (some_tested a k) (some_tested b (k + exprs_in a))
    some_tested (IsExpr at a t) k h = either_name p (some_test (mentions p) (numbered a k)) (mentions p t) h (some_tested a k) (some_named p t)
    some_tested (IndexExpr at a b) k h = either_name p (some_test (mentions p) (numbered a k)) (some_test (mentions p) (numbered b (k + exprs_in a))) h (some_tested a k) (some_tested b (k + exprs_in a))
    some_tested (FieldExpr at a name) k h = some_tested a k h
    some_tested (ListExpr at items) k h = some_in_all items k h
    some_tested (RepeatExpr at a b) k h = either_name p (some_test (mentions p) (numbered a k)) (some_test (mentions p) (numbered b (k + exprs_in a))) h (some_tested a k) (some_tested b (k + exprs_in a))
    some_tested (RecordExpr at fields) k h = some_value fields k h
    some_tested (QuantExpr at all x a b body) k h =
        either_name p {A = Mentions a} {B = λ c. Mentions b c ⊎ Mentions body c} (some_test (mentions p) (numbered a k)) (some_test (mentions p) (numbered b (k + exprs_in a)) || some_test (mentions p) (numbered body (k + exprs_in a + exprs_in b))) h (some_tested a k)
        (λ g. either_name p {A = Mentions b} {B = Mentions body} (some_test (mentions p) (numbered b (k + exprs_in a))) (some_test (mentions p) (numbered body (k + exprs_in a + exprs_in b))) g (some_tested b (k + exprs_in a)) (some_tested body (k + exprs_in a + exprs_in b)))

    some_in_all : (es : Exprs ℕ) (k : ℕ) → some_test_all (mentions p) (numbered_all es k) ≡ true → Found p (MentionsIn es)
    some_in_all NoExprs k h = none_here p h
    some_in_all (MoreExprs e es) k h = either_name p (some_test (mentions p) (numbered e k)) (some_test_all (mentions p) (numbered_all es (k + exprs_in e))) h (some_tested e k) (some_in_all es (k + exprs_in e))

    some_value : (fs : Fields ℕ) (k : ℕ) → some_test_fields (mentions p) (numbered_fields fs k) ≡ true → Found p (MentionsInFields fs)
    some_value NoFields k h = none_here p h
    some_value (MoreFields name e fs) k h = either_name p (some_test (mentions p) (numbered e k)) (some_test_fields (mentions p) (numbered_fields fs (k + exprs_in e))) h (some_tested e k) (some_value fs (k + exprs_in e))

  pub some_clause : (es : List (Expr ℕ)) (k : ℕ) → some_test_in (mentions p) (numbered_list es k) ≡ true → Found p (ClausesMention es)
  some_clause [] k h = none_here p h
  some_clause (e ∷ es) k h = either_name p (some_test (mentions p) (numbered e k)) (some_test_in (mentions p) (numbered_list es (k + exprs_in e))) h (some_tested e k) (some_clause es (k + exprs_in e))
